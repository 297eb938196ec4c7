pub mod Places
pub mod OfRead
pub mod Details
pub mod Numbers
pub mod Marks
