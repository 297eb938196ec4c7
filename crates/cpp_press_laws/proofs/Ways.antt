-- The ways in which a tree is spelled, and those in which it fits.

pub data Way : Type 0 where
  as_type : Way
  under_qualifiers : Way
  as_prefix : Way
  between_N_and_E : Way
  as_piece : Way
  as_encoding : Way
  as_name : Way
  before : Way
  as_argument : Way
  as_parameters : Way
  as_more_parameters : Way
  as_elements : Way
