-- The marks of a text one by one: bytes to advance by, and stretches that begin. They list the text's stretches in order.
use Rattle.std.specs.Prelude.{ℕ, ◌+◌, length, List, [], ◌∷◌, ◌++◌}
use Rattle.sym_parts.specs.declared.role.Role.{Role}
use Rattle.sym_parts.specs.declared.spelling.Ordinal.{Ordinal}
use Rattle.sym_parts.specs.declared.stretch.Stretch.{Stretch}
use Rattle.sym_parts.specs.Marked.{Marked, done, text, marked, text_of}

pub data Mark : Type 0 where
  -- to advance by this many bytes
  skip : ℕ → Mark
  -- to begin a stretch of this role, ordinal and length, before what is in it
  begin : Role → Ordinal → ℕ → Mark

-- the marks of a marked text
unfoldable pub marks_of : Marked → List Mark
marks_of done = []
marks_of (text bytes rest) = skip (length bytes) ∷ marks_of rest
marks_of (marked role ordinal inside rest) = begin role ordinal (length (text_of inside)) ∷ (marks_of inside ++ marks_of rest)

-- the stretches that begin from a place on
unfoldable pub stretches_at : (place : ℕ) → List Mark → List Stretch
stretches_at place [] = []
stretches_at place (skip n ∷ rest) = stretches_at (place + n) rest
stretches_at place (begin role ordinal n ∷ rest) = record { role = role; ordinal = ordinal; start = place; length = n } ∷ stretches_at place rest

-- how many bytes marks advance by
unfoldable pub skipped : List Mark → ℕ
skipped [] = 0
skipped (skip n ∷ rest) = n + skipped rest
skipped (begin role ordinal n ∷ rest) = skipped rest
