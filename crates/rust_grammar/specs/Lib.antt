pub mod Productions
pub mod BasicLetters
pub mod Rules
pub mod Listed
pub mod TableLaws
pub mod Value
pub mod Unfold
pub mod Mangled
