pub mod Rows
pub mod Paths
pub mod Parts
pub mod Arguments
pub mod Spelling
