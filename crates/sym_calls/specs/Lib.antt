pub mod Calls
pub mod Counted
pub mod Texts
pub mod Parts
