pub mod Basics
pub mod LanguageLemmas
pub mod RustDetails
mod ShortAnswers
mod WideAnswers
