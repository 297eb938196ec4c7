-- Texts without the inline namespaces of `std`.
use Rattle.std.specs.Prelude.{ℕ, zero, suc, List, [], ◌∷◌, ◌++◌, ◌+◌, ◌-◌, Bool, true, false, not, ◌==◌, ◌&&◌, length, get_or, take, drop, codes, if◌then◌else◌}
use Rattle.short_names.specs.declared.table.Place.{Place}
use Rattle.short_names.specs.declared.table.TheConstants.{INLINES, INNERS, INNER_INLINES}
use Rattle.short_names.specs.Runs.{is_name_byte, begins_std}
use Rattle.short_names.specs.Names.{row_in, size_of}
use Rattle.short_names.specs.Texts.{text_of}

-- a text of the table begins with `_`
abbrev pub begins_low : Place → Bool
begins_low row = not (length (text_of row) == 0) && get_or (text_of row) 0 0 == 95

-- the size of the inline namespaces with which a name begins, where its first `skipped` bytes belong to one
unfoldable pub inlines_size : List Place → (skipped : ℕ) → List ℕ → ℕ
inlines_size rows skipped [] = 0
inlines_size rows (suc skipped) (byte ∷ name) = suc (inlines_size rows skipped name)
inlines_size rows zero (byte ∷ name) = elim (size_of (row_in rows (byte ∷ name))) [
  | zero ↦ 0
  | suc size ↦ suc (inlines_size rows size name)
]

-- for a name after `std::`, three sizes: that of the inline namespaces at its front; that of the namespace after them, if
-- this has inline namespaces of its own; and that of those inline namespaces
abbrev pub front : List ℕ → ℕ
front name = inlines_size INLINES 0 name

abbrev pub inner : List ℕ → ℕ
inner name = size_of (row_in INNERS (drop (front name) name))

abbrev pub nested : List ℕ → ℕ
nested name = if inner name == 0 then 0 else inlines_size INNER_INLINES 0 (drop (front name + inner name) name)

-- whether there are inline namespaces
abbrev pub has_inlines : List ℕ → Bool
has_inlines name = not (front name + nested name == 0)

-- what is written for `std::` and the namespaces at a name's front, and how many bytes of the text it replaces
abbrev pub std_front : List ℕ → List ℕ
std_front text = codes "std::" ++ take (inner (drop 5 text)) (drop (front (drop 5 text)) (drop 5 text))

abbrev pub std_size : List ℕ → ℕ
std_size text = 5 + (front (drop 5 text) + inner (drop 5 text) + nested (drop 5 text))

-- A text without the inline namespaces of `std`, after `skipped` bytes. `in_run` says whether the byte before the text
-- belongs to a name.
unfoldable pub without_inlines : (in_run : Bool) → (skipped : ℕ) → List ℕ → List ℕ
without_inlines in_run skipped [] = []
without_inlines in_run (suc skipped) (byte ∷ text) = without_inlines (is_name_byte byte) skipped text
without_inlines true zero (byte ∷ text) = byte ∷ without_inlines (is_name_byte byte) zero text
without_inlines false zero (byte ∷ text) =
    elim (begins_std (byte ∷ text)) [
      | true ↦ std_front (byte ∷ text) ++ without_inlines true (std_size (byte ∷ text) - 1) text
      | false ↦ byte ∷ without_inlines (is_name_byte byte) zero text
    ]
