-- What is read from a source and written to a sink.
use Rattle.std.specs.Prelude.{◌≡◌, ℕ, zero, suc, List, [], ◌∷◌, ◌++◌, Option, Some, None, Result, Ok, Err}
use Rattle.std.specs.Io.KnownBytes.{Appends, Consumes, IsAtEnd}
use Rattle.sym_filter.specs.declared.kinds.Letters.{Letters}
use Rattle.sym_filter.specs.declared.kinds.Letters.TheVariants.{Any}
use Rattle.sym_filter.specs.declared.words.Tally.{Tally}
use Rattle.sym_filter.specs.declared.streams.FilterFault.{FilterFault}
use Rattle.sym_filter.specs.declared.streams.FilterFault.TheVariants.{Read, Write, Memory}
use Rattle.sym_filter.specs.Entries.{Entry, entries_of}
use Rattle.sym_filter.specs.Runs.{Answering, filtered_at, tally_at}

-- the failures that a read counts
abbrev pub read_failures : Option ℕ → ℕ
read_failures None = 1
read_failures (Some n) = 0

-- the failures that a write counts: it failed, or took no byte of a piece that has some
abbrev pub write_failures : Option ℕ → List ℕ → ℕ
write_failures None bytes = 1
write_failures (Some zero) [] = 0
write_failures (Some zero) (byte ∷ bytes) = 1
write_failures (Some (suc n)) bytes = 0

-- the failures of the reader and of the writer that a fault means
abbrev pub reader_faults : {A : Type 0} → Result A FilterFault → ℕ
reader_faults (Ok x) = 0
reader_faults (Err Read) = 1
reader_faults (Err Write) = 0
reader_faults (Err Memory) = 0

abbrev pub writer_faults : {A : Type 0} → Result A FilterFault → ℕ
writer_faults (Ok x) = 0
writer_faults (Err Read) = 0
writer_faults (Err Write) = 1
writer_faults (Err Memory) = 0

-- a list begins with another one
abbrev pub BeginsWith : List ℕ → List ℕ → Type 0
BeginsWith whole front = (rest : List ℕ) × (whole ≡ front ++ rest)

-- Bytes are put after those that wait to be written. A front of all these bytes goes out, and the rest waits.
pub record Puts (taken taken' : Option (List ℕ)) (waiting waiting' bytes : List ℕ) : Type 0 where
  pub gone : List ℕ
  pub writes : Appends taken taken' gone
  pub keeps : waiting ++ bytes ≡ gone ++ waiting'

-- what went out is a beginning of the bytes that waited and of those after them
pub record PutsFront (taken taken' : Option (List ℕ)) (waiting bytes : List ℕ) : Type 0 where
  pub gone : List ℕ
  pub writes : Appends taken taken' gone
  pub begins : BeginsWith (waiting ++ bytes) gone

-- all that a source gave was filtered to a sink, where words have these letters
pub record FiltersAllAt (letters : Letters) (answers : Answering) (coming coming' taken taken' : Option (List ℕ)) (tally : Tally) : Type 0 where
  pub text : List ℕ
  pub reads : Consumes coming coming' text
  pub ends : IsAtEnd coming'
  pub writes : Appends taken taken' (filtered_at letters answers text)
  pub counts : tally ≡ tally_at letters answers text

-- what went out is a beginning of the filtered text of the bytes that were read
pub record FiltersFrontAt (letters : Letters) (answers : Answering) (coming coming' taken taken' : Option (List ℕ)) : Type 0 where
  pub text : List ℕ
  pub gone : List ℕ
  pub reads : Consumes coming coming' text
  pub writes : Appends taken taken' gone
  pub begins : BeginsWith (filtered_at letters answers text) gone

-- all that a source gave was filtered to a sink, where words have any letters
abbrev pub FiltersAll : Answering → (coming coming' taken taken' : Option (List ℕ)) → Tally → Type 0
FiltersAll answers coming coming' taken taken' tally = FiltersAllAt Any answers coming coming' taken taken' tally

abbrev pub FiltersFront : Answering → (coming coming' taken taken' : Option (List ℕ)) → Type 0
FiltersFront answers coming coming' taken taken' = FiltersFrontAt Any answers coming coming' taken taken'

-- ## With a report

-- all that a source gave was filtered, and the report took the text's entries
pub record TellsAllAt (letters : Letters) (answers : Answering) (coming coming' taken taken' : Option (List ℕ)) (tells : List Entry → Type 0) (tally : Tally) : Type 0 where
  pub text : List ℕ
  pub reads : Consumes coming coming' text
  pub ends : IsAtEnd coming'
  pub writes : Appends taken taken' (filtered_at letters answers text)
  pub counts : tally ≡ tally_at letters answers text
  pub gives : tells (entries_of letters answers text)

-- what went out is a beginning of the filtered text, and the report took a beginning of the text's entries
pub record TellsFrontAt (letters : Letters) (answers : Answering) (coming coming' taken taken' : Option (List ℕ)) (stops : List Entry → Type 0) : Type 0 where
  pub text : List ℕ
  pub gone : List ℕ
  pub reads : Consumes coming coming' text
  pub writes : Appends taken taken' gone
  pub begins : BeginsWith (filtered_at letters answers text) gone
  pub gives : stops (entries_of letters answers text)
