pub mod Meanings
pub mod Objects
pub mod Texts
pub mod Tokens
