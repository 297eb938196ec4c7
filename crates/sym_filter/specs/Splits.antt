-- A text as its runs with one other byte between each two.
use Rattle.std.specs.Prelude.{◌≡◌, ℕ, List, [], ◌∷◌, ◌++◌, map, Bool, true, false, not, ◌==◌, ◌||◌, ◌&&◌}
use Rattle.std.specs.List.{list_all}
use Rattle.sym_filter.specs.declared.kinds.Letters.{Letters}
use Rattle.sym_filter.specs.declared.kinds.Letters.TheVariants.{Any, Ascii, Within}
use Rattle.sym_filter.specs.Bytes.{is_byte_of}
use Rattle.sym_filter.specs.Escapes.{is_letter, is_lead, is_parameter, later_segments}
use Rattle.sym_filter.specs.Runs.{Answering, replaced_at, filtered_at}

-- a run, and then bytes that belong to no run, each with the run after it; a run may have no byte
abbrev pub joined : List ℕ → List (ℕ × List ℕ) → List ℕ
joined run [] = run
joined run (next ∷ rest) = run ++ (next.0 ∷ joined next.1 rest)

-- the segments of a text after its first
abbrev pub cut_off : Letters → List ℕ → List (List ℕ)
cut_off Any text = []
cut_off Ascii text = []
cut_off Within text = later_segments [] text

-- whether a byte is one of those in escapes
abbrev pub is_in_escapes : Letters → ℕ → Bool
is_in_escapes Any byte = false
is_in_escapes Ascii byte = false
is_in_escapes Within byte = is_letter byte || is_parameter byte || is_lead byte || byte == 91

-- The text is split into longest stretches: the runs have only bytes of runs, and the bytes between them belong to no
-- run. Where words begin within runs, the text has no escape.
pub record IsSplitAt (letters : Letters) (text first : List ℕ) (rest : List (ℕ × List ℕ)) : Type 0 where
  pub whole : text ≡ joined first rest
  pub uncut : cut_off letters text ≡ []
  pub first_run : list_all (is_byte_of letters) first ≡ true
  pub later_runs : list_all (λ next. not (is_byte_of letters next.0) && list_all (is_byte_of letters) next.1) rest ≡ true

-- however a text is split into longest runs, its filtered text is the replaced runs with the same bytes between them
abbrev pub FilteredBySplitsAt : Letters → Type 0
FilteredBySplitsAt letters = (answers : Answering) (text first : List ℕ) (rest : List (ℕ × List ℕ)) → IsSplitAt letters text first rest →
    filtered_at letters answers text ≡ joined (replaced_at letters answers first) (map (λ next. (next.0, replaced_at letters answers next.1)) rest)

-- If two texts are joined by a byte that belongs to no run and to no escape, filtering the result gives their filtered
-- texts joined by that byte.
abbrev pub FilteredByJoinsAt : Letters → Type 0
FilteredByJoinsAt letters = (answers : Answering) (text more : List ℕ) (byte : ℕ) → is_byte_of letters byte ≡ false → is_in_escapes letters byte ≡ false →
    filtered_at letters answers (text ++ (byte ∷ more)) ≡ filtered_at letters answers text ++ (byte ∷ filtered_at letters answers more)

-- filtering by splits, where words have any letters
abbrev pub FilteredBySplits : Type 0
FilteredBySplits = FilteredBySplitsAt Any

abbrev pub FilteredByJoins : Type 0
FilteredByJoins = FilteredByJoinsAt Any
