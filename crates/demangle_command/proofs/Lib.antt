pub mod ArgumentFileLemmas
pub mod Basics
pub mod CommandLemmas
pub mod OptionLemmas
pub mod StyleLemmas
pub mod TextLemmas
