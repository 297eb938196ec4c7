-- What holds of short and full texts. `short_texts_are_no_longer` proves `IsNoLonger`, and `alike_texts_are_alike` proves that
-- `AreAlike` follows from `KeepsFull` and `KeepsShort`. `texts_without_rows_stay`, `texts_of_lists_keep` and
-- `texts_of_usual_names_keep` say for which texts `KeepsFull` and `KeepsShort` are proved.
use Rattle.std.specs.Prelude.{◌≡◌, ◌≤◌, ◌++◌, ℕ, Bool, true, false, List, length, drop, Option, None, Some}
use Rattle.short_names.specs.declared.table.TheConstants.{ALIASES}
use Rattle.short_names.specs.Full.{full, full_to, full_rules, pmr_in, usual_in}
use Rattle.short_names.specs.Names.{StdName, member_in, named_in, std_name}
use Rattle.short_names.specs.Plain.{behind_run}
use Rattle.short_names.specs.Runs.{is_std_at, run_of}
use Rattle.short_names.specs.Short.{short, shortened}
use Rattle.short_names.specs.Walk.{Pairs}

-- A short text isn't longer than the text that it is made from, with inline namespaces or without them.
abbrev pub IsNoLonger : (keeps_inline : Bool) → List ℕ → Type 0
IsNoLonger keeps_inline text = length (shortened keeps_inline text) ≤ length text

-- The short text of a text whose brackets pair has the same full text as the text.
abbrev pub KeepsFull : List ℕ → Type 0
KeepsFull text = Pairs (full_rules (full_to 3)) text → full (short text) ≡ full text

-- The full text of a text whose brackets pair has the same short text as the text.
abbrev pub KeepsShort : List ℕ → Type 0
KeepsShort text = Pairs (full_rules (full_to 3)) text → short (full text) ≡ short text

-- Two texts have equal short texts exactly if their full texts are equal.
abbrev pub AreAlike : List ℕ → List ℕ → Type 0
AreAlike text other = (short text ≡ short other → full text ≡ full other) × (full text ≡ full other → short text ≡ short other)

-- No name of a text begins with `std::`.
abbrev pub HasNoStd : List ℕ → Type 0
HasNoStd text = (k : ℕ) → is_std_at text k ≡ false

-- A name of `std` begins with no usual name, nor with one that was written already before a constructor or destructor.
abbrev pub HasNoUsual : (rest : List ℕ) → Option StdName → Type 0
HasNoUsual rest None = Unit {0}
HasNoUsual rest (Some std) = (usual_in ALIASES std.name (std.name ++ rest) ≡ None) × (member_in ALIASES std.name (std.name ++ rest) ≡ None)

-- A name of `std`, with the text after it, is none of the table: no template, no template of `std::pmr`, and no usual name.
pub record IsOther (run rest : List ℕ) : Type 0 where
  pub named : named_in run ≡ None
  pub pmr : pmr_in run ≡ None
  pub usual : HasNoUsual rest (std_name run)

-- No name of a text is one of the table.
abbrev pub HasNoRow : List ℕ → Type 0
HasNoRow text = (k : ℕ) → is_std_at text k ≡ true → IsOther (run_of (drop k text)) (behind_run (drop k text))
