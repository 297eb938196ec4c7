pub mod Bytes
pub mod Weight
pub mod Tasks
pub mod Spelled
pub mod Standings
