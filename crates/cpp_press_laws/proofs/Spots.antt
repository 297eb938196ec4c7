-- Where a tree may be: how it is spelled there, and whether it fits. The items from a function's first parameter on are of two
-- sorts (those of an encoding, and those of a function type).

pub data Spot : Type 0 where
  as_type : Spot
  as_prefix : Spot
  as_prefix_template : Spot
  between : Spot
  between_template : Spot
  as_entity : Spot
  as_entity_template : Spot
  as_piece : Spot
  as_encoding : Spot
  as_name : Spot
  as_argument : Spot
  as_items : Spot
  as_more_items : Spot
  as_parameters : Spot
  as_more_parameters : Spot
  as_elements : Spot
