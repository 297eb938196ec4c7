pub mod Around
pub mod References
