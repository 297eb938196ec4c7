pub mod Holes
pub mod Marked
