-- Which bytes of a v0 symbol spell which part of its text, by the rows of its shape.
use Rattle.std.specs.Prelude.{ℕ, List, [], ◌++◌, map, Option, Some}
use Rattle.std.specs.List.{flat_map}
use Rattle.sym_shape.specs.declared.rule.Row.{Row}
use Rattle.rust_grammar.specs.declared.production.Production.{Production}
use Rattle.rust_grammar.specs.declared.production.Production.TheVariants as rules
use Rattle.sym_parts.specs.declared.spelling.Span.{Span}
use Rattle.sym_parts.specs.declared.spelling.Spelled.{Spelled}
use Rattle.sym_parts.specs.Spelling.{Spelling}
use Rattle.rust_spelled.specs.Rows.{production_at, behind, span_at}
use Rattle.rust_spelled.specs.Paths.{paths_of, root_of, first_named}
use Rattle.rust_spelled.specs.Parts.{name_spelled, root_spelled, rest_spelled}
use Rattle.rust_spelled.specs.Arguments.{generics, list_of, arguments_of, items_of}

-- what spells the parts that are in none of the lists: the reference that the name begins with, or the symbol's path
unfoldable pub others_by : Option Production → List Row → (root : ℕ) → Span
others_by (Some rules.PathReference) rows root = span_at rows root
others_by _ rows root = span_at rows 1

-- the parts that come once in a name with these paths
unfoldable pub spans_of : (symbol : List ℕ) → List Row → (paths : List ℕ) → List Spelled
spans_of symbol rows paths =
    name_spelled rows (first_named symbol rows paths)
    ++ root_spelled (production_at rows (root_of paths)) rows (root_of paths)
    ++ rest_spelled rows (behind rows 1)

abbrev pub spelling_by : (symbol : List ℕ) → List Row → (paths : List ℕ) → Spelling
spelling_by symbol rows paths = record {
  others = others_by (production_at rows (root_of paths)) rows (root_of paths);
  spans = spans_of symbol rows paths;
  specials = [];
  tags = [];
  argument_lists = map (list_of rows) (generics rows paths);
  arguments = items_of rows 0 (generics rows paths);
  parameters = [];
  elements = flat_map (arguments_of rows) (generics rows paths);
}

-- the spelling of a symbol with these rows
unfoldable pub spelling_of : (symbol : List ℕ) → List Row → Spelling
spelling_of symbol rows = spelling_by symbol rows (paths_of rows)
