-- The entries that are still to come after a front of a text.
use Rattle.std.specs.Prelude.{◌≡◌, ℕ, List, ◌++◌, Bool, true, false}
use Rattle.std.specs.List.{flat_map}
use Rattle.sym_filter.specs.declared.kinds.Letters.{Letters}
use Rattle.sym_filter.specs.declared.escapes.Escape.{Escape}
use Rattle.sym_filter.specs.declared.places.Place.{Place}
use Rattle.sym_filter.specs.declared.words.Words.{Words}
use Rattle.sym_filter.specs.Carried.{segment_from, segments_after}
use Rattle.sym_filter.specs.Entries.{Entry, entries_in_segment, later_entries, left_of}
use Rattle.sym_filter.specs.Places.{from_word}
use Rattle.sym_filter.specs.Runs.{Answering, answers_at, first_run, named_in}
use Rattle.sym_filter.specs.Words.{held_of}

-- The entries that are still to come, where these bytes follow in a segment. No word of a run that is passed on to its
-- end is left.
abbrev pub entries_from : Letters → Answering → List ℕ → (past : Bool) → Place → List ℕ → List Entry
entries_from letters answers held true place more = later_entries letters answers more
entries_from letters answers held false place more =
    left_of (answers_at letters answers) (from_word letters (named_in letters) place (first_run letters (held ++ more))) ++ later_entries letters answers (held ++ more)

abbrev pub entries_after : Answering → Words → List ℕ → List Entry
entries_after answers words more = entries_from words.letters answers (held_of words) words.past words.place more

-- the entries that are still to come, where these bytes follow in a text
abbrev pub entries_in_rest : Answering → Words → Escape → List ℕ → List Entry
entries_in_rest answers words escape more =
    entries_after answers words (segment_from words.letters escape more)
    ++ flat_map (entries_in_segment words.letters answers) (segments_after words.letters escape more)

-- A filter takes a piece of a segment with these entries: whatever follows, these entries and those that are still to come
-- are all entries of the segment.
pub record TakesEntries (answers : Answering) (old new : Words) (piece : List ℕ) (entries : List Entry) : Type 0 where
  pub all : (more : List ℕ) → entries_after answers old (piece ++ more) ≡ entries ++ entries_after answers new more

-- a filter takes a piece of a text with these entries
pub record TakesTextEntries (answers : Answering) (old new : Words) (before after : Escape) (piece : List ℕ) (entries : List Entry) : Type 0 where
  pub all : (more : List ℕ) → entries_in_rest answers old before (piece ++ more) ≡ entries ++ entries_in_rest answers new after more
