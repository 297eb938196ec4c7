pub mod Reader
pub mod Rows
