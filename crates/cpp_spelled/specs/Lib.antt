pub mod Sorts
pub mod Outline
pub mod Spelled
pub mod Within
