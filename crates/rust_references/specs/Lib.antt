pub mod Targets
pub mod Named
