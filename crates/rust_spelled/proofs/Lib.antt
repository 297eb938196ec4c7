mod Walking
pub mod Within
mod Examples
