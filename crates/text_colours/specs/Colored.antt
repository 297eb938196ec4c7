-- A text with its parts in their styles.
use Rattle.std.specs.Prelude.{ℕ, ◌-◌, ◌==◌, List, [], ◌∷◌, ◌++◌, Bool, ◌&&◌, not, nat_le, nat_lt, length, take, drop, if◌then◌else◌}
use Rattle.sym_parts.specs.Placed.{end_of}
use Rattle.sym_parts.specs.declared.part.Part.{Part}
use Rattle.sym_parts.specs.declared.role.Role.{Role}
use Rattle.text_colours.specs.Styles.{plain, style_of}

-- whether parts of a role have a style of their own
abbrev pub has_style : Role → Bool
has_style role = not (length (style_of role) == 0)

-- A part is shown in its style if the part has a style, isn't empty, and none of it was written yet. So a part within a styled part is
-- shown in the outer part's style.
abbrev pub shows : (place : ℕ) → Part → Bool
shows place part = has_style part.role && (nat_lt 0 part.length && nat_le place part.start)

-- the bytes of a text from one place to another
abbrev pub slice : List ℕ → (from to : ℕ) → List ℕ
slice text from to = take (to - from) (drop from text)

-- What is written for a part after the text up to a place: the bytes before the part, and the part between the beginning and the end of its style.
abbrev pub written : List ℕ → (place : ℕ) → Part → List ℕ
written text place part =
    if shows place part then slice text place part.start ++ (style_of part.role ++ (slice text part.start (end_of part) ++ plain)) else []

-- the place up to which the text is written after a part
abbrev pub place_after : (place : ℕ) → Part → ℕ
place_after place part = if shows place part then end_of part else place

-- what is written of a text from a place on
unfoldable pub colored_from : List ℕ → (place : ℕ) → List Part → List ℕ
colored_from text place [] = drop place text
colored_from text place (part ∷ parts) = written text place part ++ colored_from text (place_after place part) parts

-- a text with its parts, which are in the order of their starts
abbrev pub colored : List ℕ → List Part → List ℕ
colored text parts = colored_from text 0 parts
