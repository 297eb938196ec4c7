-- The fixed texts by their numbers.
use Rattle.std.specs.Prelude.{ℕ, List, [], ◌∷◌, codes, slice_get, Some, None}
use Rattle.rust_tree.specs.Shown.{basic_text}

abbrev pub texts : List (List ℕ)
texts =
    codes "::" ∷ codes "<" ∷ codes ">" ∷ codes " as " ∷ codes "::{" ∷ codes "closure" ∷ codes "shim" ∷ codes ":" ∷ codes "#" ∷ codes "}"
    ∷ codes "::<" ∷ codes ", " ∷ codes "[" ∷ codes "; " ∷ codes "]" ∷ codes "(" ∷ codes ")" ∷ codes ",)" ∷ codes "&" ∷ codes "&mut "
    ∷ codes " " ∷ codes " mut " ∷ codes "*const " ∷ codes "*mut " ∷ codes "for<" ∷ codes "> " ∷ codes "fn(" ∷ codes "unsafe fn("
    ∷ codes "extern \"" ∷ codes "unsafe extern \"" ∷ codes "C" ∷ codes "\" fn(" ∷ codes " -> " ∷ codes "dyn " ∷ codes " + "
    ∷ codes " = " ∷ codes "true" ∷ codes "false" ∷ codes "_" ∷ codes " (" ∷ []

-- the fixed text with a number; the number of a basic type's text is the type's letter
abbrev pub fixed_text : ℕ → List ℕ
fixed_text number = elim (slice_get texts number) [ Some text ↦ text | None ↦ basic_text number ]
