mod SliceLemmas
mod MarkLemmas
mod SequenceLemmas
