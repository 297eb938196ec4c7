pub mod Path
pub mod Tokens
pub mod Text
pub mod Writing
