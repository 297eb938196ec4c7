-- What is still to come of a filtered segment after a front of it.
use Rattle.std.specs.Prelude.{◌≡◌, ◌+◌, ◌≤◌, ℕ, List, [], ◌∷◌, ◌++◌, length, Bool, true, false, filter, map, replicate, if◌then◌else◌}
use Rattle.sym_filter.specs.declared.kinds.Letters.{Letters}
use Rattle.sym_filter.specs.declared.words.Taken.{Taken}
use Rattle.sym_filter.specs.declared.words.Tally.{Tally}
use Rattle.sym_filter.specs.declared.words.Words.{Words}
use Rattle.sym_filter.specs.declared.places.Place.{Place}
use Rattle.sym_filter.specs.Places.{from_word, with_word}
use Rattle.sym_filter.specs.Runs.{Answering, answers_at, changed, first_run, is_named, later_runs, named_in, replaced_at, tally_with, with_later_runs, word_in}

-- the front of a run that is held
abbrev pub held_of : Words → List ℕ
held_of words = words.held.items ++ replicate words.dots 46

-- What is to be written for the bytes that follow. A run that is passed on to its end continues unchanged. Otherwise
-- what is held of a run, at its place, comes before those bytes.
abbrev pub rest_of : Letters → Answering → List ℕ → (past : Bool) → Place → List ℕ → List ℕ
rest_of letters answers held true place more = first_run letters more ++ with_later_runs letters (replaced_at letters answers) more
rest_of letters answers held false place more =
    with_word letters (changed letters answers) place (first_run letters (held ++ more)) ++ with_later_runs letters (replaced_at letters answers) (held ++ more)

-- the words that are counted once these bytes follow
abbrev pub named_of : Letters → List ℕ → (past : Bool) → Place → List ℕ → List (List ℕ)
named_of letters held true place more = filter is_named (map (word_in letters) (later_runs letters more))
named_of letters held false place more =
    filter is_named (from_word letters (named_in letters) place (first_run letters (held ++ more)) ∷ map (word_in letters) (later_runs letters (held ++ more)))

-- what is to be written for the bytes that follow
abbrev pub rest_after : Answering → Words → List ℕ → List ℕ
rest_after answers words more = rest_of words.letters answers (held_of words) words.past words.place more

-- the final tally, where these bytes follow
abbrev pub tally_after : Answering → Words → List ℕ → Tally
tally_after answers words more =
    tally_with (answers_at words.letters answers) words.tally (named_of words.letters (held_of words) words.past words.place more)

-- the bytes after those that were appended: dots, and then the taken bytes themselves, if they stay
abbrev pub following : Taken → List ℕ → List ℕ
following taken bytes = replicate taken.dots 46 ++ (if taken.stay then bytes else [])

-- A filter takes a piece of a segment and gives bytes for it. Whatever follows, these bytes and what is still to come
-- are the whole filtered segment, and the final tally stays the same.
pub record Takes (answers : Answering) (old new : Words) (piece bytes : List ℕ) : Type 0 where
  pub text : (more : List ℕ) → rest_after answers old (piece ++ more) ≡ bytes ++ rest_after answers new more
  pub counts : (more : List ℕ) → tally_after answers old (piece ++ more) ≡ tally_after answers new more
  pub dots : new.dots ≤ old.dots + length piece
  pub letters : new.letters ≡ old.letters
