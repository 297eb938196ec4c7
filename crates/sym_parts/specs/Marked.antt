-- A text with marked stretches, each of them a part with a role and an ordinal, and the list of stretches that the
-- marks give.
use Rattle.std.specs.Prelude.{ℕ, ◌+◌, length, List, [], ◌∷◌, ◌++◌}
use Rattle.sym_parts.specs.declared.role.Role.{Role}
use Rattle.sym_parts.specs.declared.spelling.Ordinal.{Ordinal}
use Rattle.sym_parts.specs.declared.stretch.Stretch.{Stretch}

-- bytes without a mark, and marked stretches, in which there may be others
pub data Marked : Type 0 where
  done : Marked
  text : List ℕ → (rest : Marked) → Marked
  marked : Role → Ordinal → (inside rest : Marked) → Marked

-- the text without its marks
unfoldable pub text_of : Marked → List ℕ
text_of done = []
text_of (text bytes rest) = bytes ++ text_of rest
text_of (marked role ordinal inside rest) = text_of inside ++ text_of rest

-- how many marks the text has
unfoldable pub marks_in : Marked → ℕ
marks_in done = 0
marks_in (text bytes rest) = marks_in rest
marks_in (marked role ordinal inside rest) = 1 + (marks_in inside + marks_in rest)

infixr 5 ◌before◌
-- one marked text before another
unfoldable pub ◌before◌ : Marked → Marked → Marked
done before others = others
(text bytes rest) before others = text bytes (rest before others)
(marked role ordinal inside rest) before others = marked role ordinal inside (rest before others)

-- the stretches of a marked text that begins at a place: one for each mark, followed by the stretches within the mark
unfoldable pub stretches_from : (place : ℕ) → Marked → List Stretch
stretches_from place done = []
stretches_from place (text bytes rest) = stretches_from (place + length bytes) rest
stretches_from place (marked role ordinal inside rest) =
    record { role = role; ordinal = ordinal; start = place; length = length (text_of inside) } ∷ (stretches_from place inside ++ stretches_from (place + length (text_of inside)) rest)

-- the stretches of a marked text
abbrev pub stretches_of : Marked → List Stretch
stretches_of m = stretches_from 0 m
