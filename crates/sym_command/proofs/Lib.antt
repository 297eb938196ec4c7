pub mod Basics
pub mod CommandLemmas
pub mod LineLemmas
pub mod OptionLemmas
pub mod PageLemmas
