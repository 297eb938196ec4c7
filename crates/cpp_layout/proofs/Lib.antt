pub mod Basics
pub mod Growing
pub mod Others
pub mod Suffixes
pub mod Functions
pub mod CodeLetters
pub mod Coding
pub mod Operating
pub mod Naming
pub mod Declaring
pub mod Typing
pub mod Printing
mod Pointing
mod Heads
