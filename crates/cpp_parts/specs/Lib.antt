pub mod Roles
pub mod Tasks
pub mod Sorts
pub mod Kinds
pub mod KindNumbers
