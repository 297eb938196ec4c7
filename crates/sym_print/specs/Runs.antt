-- Items that lie within one another. The parts of each are one item and, after that, at most one text.
use Rattle.std.specs.Prelude.{◌≡◌, ℕ, ◌+◌, ◌-◌, ◌<◌, Option, Some, None, length, List, [], ◌∷◌, ◌++◌}
use Rattle.std.specs.List.{All}
use Rattle.sym_print.specs.declared.layout.Item.{Item}
use Rattle.sym_print.specs.declared.layout.Part.{Part}
use Rattle.sym_print.specs.declared.layout.Part.TheVariants.{Sub}
use Rattle.sym_print.specs.declared.layout.Run.{Run}
use Rattle.sym_print.specs.Unshared.{Unshared, done, bytes, item}
use Rattle.sym_print.specs.Joined.{IsText}

-- the parts of an item that has one item, and after it this text, unless the text is empty
abbrev pub with_text : (text : List ℕ) → Unshared → Unshared
with_text [] inner = item inner done
with_text (b ∷ bs) inner = item inner (bytes (b ∷ bs) done)

-- the parts of items within one another that have these texts, the outermost first; the innermost item has the given parts
abbrev pub nested : (texts : List (List ℕ)) → Unshared → Unshared
nested [] inner = inner
nested (t ∷ ts) inner = with_text t (nested ts inner)

-- the texts together, that of the innermost item first
abbrev pub texts_of : List (List ℕ) → List ℕ
texts_of [] = []
texts_of (t ∷ ts) = texts_of ts ++ t

module _ {C : Type 0} where
  -- either each item of the run has a text, and the run's text is all of them; or none has one, and the run has none
  abbrev pub IsTextOfRun : (bytes_of : Part C → List ℕ) (may_come : Part C → Type 0) (texts : List (List ℕ)) → Option (Part C) → Type 0
  IsTextOfRun bytes_of may_come texts None = All (λ t. t ≡ []) texts
  IsTextOfRun bytes_of may_come texts (Some part) = IsText part × may_come part × All (λ t. 0 < length t) texts × (bytes_of part ≡ texts_of texts)

  -- a run's end and the text after it, as entries of a stack
  abbrev pub entries_of_run : Item C → Option (Part C) → List (Part C)
  entries_of_run end None = Sub end ∷ []
  entries_of_run end (Some part) = part ∷ Sub end ∷ []

  -- how many steps the items of a run take, apart from those of its end and of the text after it
  abbrev pub steps_of_run : (levels : ℕ) → Option (Part C) → ℕ
  steps_of_run levels None = levels
  steps_of_run levels (Some part) = levels + (levels - 1)

-- An item begins a run: the items around the run's end have these texts.
pub record IsRun {C : Type 0} (unshared : Item C → Unshared) (bytes_of : Part C → List ℕ) (may_come : Part C → Type 0) (from : Item C) (run : Run C) : Type 0 where
  pub texts : List (List ℕ)
  pub is_nested : unshared from ≡ nested texts (unshared run.item)
  pub levels : run.levels ≡ length texts
  pub some : 0 < run.levels
  pub end : may_come (Sub run.item)
  pub text : IsTextOfRun bytes_of may_come texts run.text
