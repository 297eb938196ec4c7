-- A marked text as it is shown, and a text for a terminal without its escape sequences.
use Rattle.std.specs.Prelude.{◌≢◌, ℕ, ◌==◌, List, [], ◌∷◌, ◌++◌, Bool, true, false, not, if◌then◌else◌}
use Rattle.sym_parts.specs.Marked.{Marked, done, text, marked, text_of}
use Rattle.text_colours.specs.Styles.{plain, style_of}

-- how a marked stretch is shown: its text in the style, if there is a style and the text isn't empty; otherwise what is shown
-- without a style
abbrev pub shown_in : (style bytes without : List ℕ) → List ℕ
shown_in [] bytes without = without
shown_in (first ∷ style) [] without = without
shown_in (first ∷ style) (byte ∷ bytes) without = (first ∷ style) ++ ((byte ∷ bytes) ++ plain)

-- a marked text: each outermost mark that has a style puts its text in that style
unfoldable pub colored_marked : Marked → List ℕ
colored_marked done = []
colored_marked (text bytes rest) = bytes ++ colored_marked rest
colored_marked (marked role ordinal inside rest) = shown_in (style_of role) (text_of inside) (colored_marked inside) ++ colored_marked rest

-- ## Without the sequences

-- a byte that isn't ESC, with which a sequence begins
abbrev pub IsPrinted : ℕ → Type 0
IsPrinted byte = byte ≢ 27

-- bytes without their sequences; the first bytes may be in a sequence, which ends with an m
abbrev pub left_of : (in_sequence : Bool) → List ℕ → List ℕ
left_of in_sequence [] = []
left_of true (byte ∷ bytes) = left_of (not (byte == 109)) bytes
left_of false (byte ∷ bytes) = if byte == 27 then left_of true bytes else byte ∷ left_of false bytes

abbrev pub without_sequences : List ℕ → List ℕ
without_sequences bytes = left_of false bytes
