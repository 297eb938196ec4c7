-- Texts in which nothing becomes shorter, up to a place.
use Rattle.std.specs.Prelude.{◌≡◌, ◌<◌, ℕ, List, true, false, length, drop, Option, None, Some}
use Rattle.short_names.specs.declared.names.Change.TheVariants as changes
use Rattle.short_names.specs.declared.finding.Found.{Found}
use Rattle.short_names.specs.Changes.{IsChange, is_nothing}
use Rattle.short_names.specs.Runs.{run_of, is_std_at}

-- the rest of a text after the run with which it begins
abbrev pub behind_run : List ℕ → List ℕ
behind_run text = drop (length (run_of text)) text

-- no name of `std` that begins before a place becomes shorter
abbrev pub IsPlain : (text : List ℕ) → (to : ℕ) → Type 0
IsPlain text to = (k : ℕ) → k < to → is_std_at text k ≡ true → IsChange (run_of (drop k text)) (behind_run (drop k text)) changes.Nothing

-- the found name is the first of a text that becomes shorter or may do so
pub record IsFirst (text : List ℕ) (found : Found) : Type 0 where
  pub begins : is_std_at text found.at ≡ true
  pub within : found.at < length text
  pub plain : IsPlain text found.at
  pub size : found.size ≡ length (run_of (drop found.at text))
  pub change : IsChange (run_of (drop found.at text)) (behind_run (drop found.at text)) found.change
  pub some : is_nothing found.change ≡ false

abbrev pub IsFound : (text : List ℕ) → Option Found → Type 0
IsFound text None = IsPlain text (length text)
IsFound text (Some found) = IsFirst text found
