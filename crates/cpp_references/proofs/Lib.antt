pub mod Arguments
pub mod Basics
pub mod Functions
pub mod MeantHere
pub mod Named
pub mod Numbering
