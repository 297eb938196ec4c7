-- The ways in which a tree may fit: the fields of `Fits`.

pub data Fit : Type 0 where
  as_type : Fit
  as_prefix : Fit
  as_prefix_template : Fit
  between : Fit
  between_template : Fit
  as_entity : Fit
  as_entity_template : Fit
  as_piece : Fit
  as_encoding : Fit
  as_name : Fit
  as_argument : Fit
  as_parameters : Fit
  as_more_parameters : Fit
  as_elements : Fit
