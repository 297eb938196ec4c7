pub mod NameLemmas
pub mod StringLemmas
