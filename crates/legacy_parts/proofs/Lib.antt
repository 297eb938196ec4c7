pub mod Basics
pub mod Texts
pub mod Marking
pub mod Sizes
pub mod Whole
pub mod Answering
pub mod Rows
mod Places
mod Standing
pub mod Within
