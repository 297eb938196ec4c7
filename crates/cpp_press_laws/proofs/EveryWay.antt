-- Each tree that fits is read back in each of the ways in which it may be spelled. `Every` has the ways and what several
-- sorts of trees share. Each of the other files has trees of one sort, by the lemmas of `ReadBack`. `Law` is the induction
-- over all trees: the pressed spelling of each tree or symbol that fits is read as that tree or symbol.
pub mod Every
pub mod Types
pub mod Names
pub mod Std
pub mod Within
pub mod Instances
pub mod Parts
pub mod Lists
pub mod Encodings
pub mod Law
