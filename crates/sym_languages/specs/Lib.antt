pub mod Languages
pub mod Pressed
pub mod WidePressed
