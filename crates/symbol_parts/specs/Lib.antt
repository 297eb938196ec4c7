pub mod Parsed
pub mod ParsedLaws
pub mod Spellings
