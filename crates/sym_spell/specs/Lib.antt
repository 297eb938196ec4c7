pub mod Pressing
pub mod Digits
pub mod Firsts
pub mod Numbers
