pub mod Basics
pub mod LineLemmas
pub mod MeaningLemmas
pub mod NameLemmas
pub mod StringLemmas
