pub mod Grammars
pub mod Reading
