pub mod Mangled
pub mod Standing
