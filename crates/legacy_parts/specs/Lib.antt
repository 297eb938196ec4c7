pub mod Roles
pub mod Kinds
pub mod Measures
pub mod Spelled
pub mod Parsed
