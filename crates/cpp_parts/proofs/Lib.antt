pub mod Basics
mod Counts
mod Growing
mod Measuring
mod Standing
mod Sorting
mod Splitting
pub mod Texts
mod Walking
mod Kinding
mod Rows
