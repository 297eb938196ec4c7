pub mod Roles
pub mod Kinds
pub mod Sorts
pub mod Tasks
