-- The rows of a symbol's shape by their numbers.
use Rattle.std.specs.Prelude.{ℕ, List, Option, slice_get, unwrap_or}
use Rattle.sym_shape.specs.declared.rule.Row.{Row}
use Rattle.sym_shape.specs.declared.rule.TheConstants.{TOKEN}
use Rattle.rust_grammar.specs.declared.production.Production.{Production}
use Rattle.rust_grammar.specs.Productions.{production_of}
use Rattle.sym_parts.specs.declared.spelling.Span.{Span}
use Rattle.sym_parts.specs.Spelling.{span}

-- a token without bytes
abbrev pub no_row : Row
no_row = record { rule = TOKEN; after = 0; from = 0; to = 0; end = 0 }

-- the row with a number; where there is none, a token without bytes
unfoldable pub row_at : List Row → (number : ℕ) → Row
row_at rows number = unwrap_or (slice_get rows number) no_row

-- the production of a row, unless it is a token
abbrev pub production_at : List Row → (number : ℕ) → Option Production
production_at rows number = production_of (row_at rows number).rule

-- the row after those of a row's subtree
abbrev pub behind : List Row → (number : ℕ) → ℕ
behind rows number = (row_at rows number).end

-- the bytes of a row
abbrev pub span_at : List Row → (number : ℕ) → Span
span_at rows number = span (row_at rows number).from (row_at rows number).to
