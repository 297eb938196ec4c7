-- What two filters have in common: the one whose words begin within runs, and the one whose words are runs.
use Rattle.std.specs.Prelude.{◌≡◌, ℕ, List, true, false}
use Rattle.std.specs.List.{list_any}
use Rattle.sym_filter.specs.declared.kinds.Letters.TheVariants.{Any, Within}
use Rattle.sym_filter.specs.Bytes.{is_wide}
use Rattle.sym_filter.specs.Runs.{Answering, has_text, replaced_at}

-- If a text replaces the word of a run in ASCII where words are runs, it also replaces this word where words begin within runs.
abbrev pub ReplacedAlike : Type 0
ReplacedAlike = (answers : Answering) (run : List ℕ) → list_any is_wide run ≡ false → has_text answers run ≡ true →
    replaced_at Within answers run ≡ replaced_at Any answers run
