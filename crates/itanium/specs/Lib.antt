pub mod Counting
pub mod Failing
pub mod Whole
