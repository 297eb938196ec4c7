pub mod Basics
pub mod Ending
pub mod Kept
pub mod Telling
pub mod Typed
mod Parting
