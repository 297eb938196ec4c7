mod Ends
mod Listed
mod Outlining
mod Rows
pub mod Bounded
