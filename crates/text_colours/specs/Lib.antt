pub mod Styles
pub mod Colored
pub mod Shown
pub mod Answers
