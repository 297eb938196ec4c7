-- What the path of a legacy name is shown as, by items, and the answer to a legacy name.
use Rattle.std.specs.Prelude.{ℕ, List, [], ◌∷◌, codes, Option, Some, None, Result, nat_le, if◌then◌else◌}
use Rattle.sym_core.specs.declared.refusal.Refusal.{Refusal}
use Rattle.sym_print.specs.Unshared.{Unshared, done, bytes, item}
use Rattle.sym_print.specs.Building.{◌then◌}
use Rattle.sym_print.specs.Answer.{text_within}
use Rattle.rust_legacy.specs.Path.{Path, legacy_of}
use Rattle.rust_legacy.specs.Tokens.{texts_of, bare_name}

-- the parts of a name: the text of its first token and, if there are more tokens, an item of those
abbrev pub name_parts : (texts : List (List ℕ)) → Unshared
name_parts [] = done
name_parts (text ∷ []) = bytes text done
name_parts (text ∷ next ∷ rest) = bytes text (item (name_parts (next ∷ rest)) done)

abbrev pub shown_name : List ℕ → Unshared
shown_name name = name_parts (texts_of (bare_name name))

-- the parts of names: what precedes the first name, the item of that name and, if there are more names, an item that shows each
-- of them after ::
abbrev pub names_parts : (front : List ℕ) → List (List ℕ) → Unshared
names_parts front [] = done
names_parts front (name ∷ []) = front then item (shown_name name) done
names_parts front (name ∷ next ∷ rest) = front then item (shown_name name) (item (names_parts (codes "::") (next ∷ rest)) done)

-- what precedes the name at a place in a symbol: ::, except before the first name, which is at place 3
abbrev pub front_at : (at : ℕ) → List ℕ
front_at at = if nat_le at 3 then [] else codes "::"

-- the parts of a suffix: its bytes, in parentheses
abbrev pub suffix_parts : List ℕ → Unshared
suffix_parts [] = done
suffix_parts (byte ∷ rest) = bytes (codes " (") (bytes (byte ∷ rest) (bytes (codes ")") done))

-- the parts of a path: an item of its names, and its suffix
abbrev pub shown_path : Path → Unshared
shown_path path = item (names_parts [] path.names) (suffix_parts path.suffix)

-- the answer for a legacy name: the text of its path if that text costs at most the limit
abbrev pub legacy_text : (limit : ℕ) → List ℕ → Option (Result (List ℕ) Refusal)
legacy_text limit s = elim (legacy_of s) [ Some path ↦ Some (text_within limit (shown_path path)) | None ↦ None ]

-- the answer for a symbol: if the symbol is a legacy name, the answer for its path, and otherwise `other`
abbrev pub legacy_answer : (limit : ℕ) → List ℕ → (other : Result (List ℕ) Refusal) → Result (List ℕ) Refusal
legacy_answer limit s other = elim (legacy_text limit s) [ Some answer ↦ answer | None ↦ other ]
