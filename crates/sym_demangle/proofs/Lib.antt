pub mod Basics
pub mod Standing
pub mod Answering
pub mod Reasons
pub mod Feeding
mod Continuation
mod Rows
