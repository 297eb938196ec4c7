-- The table of C++ symbols: the grammar in the form that the reader takes.
use Rattle.std.specs.Prelude.{ℕ, zero, suc, ◌+◌, ◌*◌, List, [], ◌∷◌, ◌++◌, length, get_or, take, drop, map, false, not, Option, Some, None}
use Rattle.sym_shape.specs.declared.rule.Rule.{Rule}
use Rattle.sym_core.specs.declared.NameClass.TheVariants.{Cpp}
use Rattle.sym_shape.specs.declared.rule.Sym.{Sym}
use Rattle.sym_shape.specs.declared.rule.Sym.TheVariants.{Byte}
use Rattle.sym_shape.specs.declared.sheet.ByteRange.{ByteRange}
use Rattle.sym_shape.specs.declared.sheet.Choice.{Choice}
use Rattle.sym_shape.specs.Listing.{listed_in}
use Rattle.sym_shape.specs.Table.{Table}
use Rattle.sym_shape.specs.Sheet.{KindSheet, range, table_of}
use Rattle.cpp_grammar.specs.declared.kind.Kind.{Kind}
use Rattle.cpp_grammar.specs.declared.table.Head.{Head}
use Rattle.cpp_grammar.specs.declared.table.TheConstants.{HEADS, SYMBOLS}
use Rattle.cpp_grammar.specs.declared.production.Production.{Production}
use Rattle.cpp_grammar.specs.Grammar.{Alternative, alternatives, parts_of, is_chain, number_of, may_be_empty, kinds}
use Rattle.cpp_grammar.specs.Follow.{after_ranges, rank, height}
use Rattle.cpp_grammar.specs.Before.{alternatives_before}
use Rattle.cpp_grammar.specs.Wide.{wide_alternatives}

-- symbols padded up to this length; the added ones don't count
unfoldable pub padded : ℕ → List Sym → List Sym
padded zero symbols = []
padded (suc n) [] = Byte 0 ∷ padded n []
padded (suc n) (s ∷ symbols) = s ∷ padded n symbols

-- the rule of a production
unfoldable pub rule_of : Production → Rule
rule_of p = record { number = number_of p; eats = not (is_chain p); count = length (parts_of p); symbols = padded 5 (parts_of p) }

unfoldable pub rule_taken : Option Production → Option Rule
rule_taken (Some p) = Some (rule_of p)
rule_taken None = None

-- ranges, each with a dash between its ends
unfoldable pub ranges_of : List ℕ → List ByteRange
ranges_of (low ∷ dash ∷ high ∷ rest) = range low high ∷ ranges_of rest
ranges_of _ = []

unfoldable pub class_of : Alternative → List ByteRange
class_of a = ranges_of a.ranges ++ map (λ byte. range byte byte) a.singles

unfoldable pub choice_of : Alternative → Choice
choice_of a = record { ranges = length (class_of a); bytes = class_of a; rule = rule_of a.production }

unfoldable pub sheet_with : (Kind → List Alternative) → Kind → KindSheet
sheet_with begins kind = record {
  choices = map choice_of (begins kind);
  may_be_empty = may_be_empty kind;
  after = ranges_of (after_ranges kind);
  rank = rank kind;
  height = height kind;
}

unfoldable pub blank : KindSheet
blank = record { choices = []; may_be_empty = false; after = []; rank = 0; height = 0 }

unfoldable pub sheet : List KindSheet
sheet = map (sheet_with alternatives) kinds

-- the table of C++ symbols
unfoldable pub abi : Table
abi = table_of blank sheet Cpp

-- the symbols of the table's rules, from a place in the code's list on
abbrev pub abi_listed : ℕ → List Sym
abi_listed place = listed_in SYMBOLS place

-- the rule with a number in the code's lists; `head` is the default
unfoldable pub listed_rule : Head → ℕ → Rule
listed_rule head number = record {
  number = number;
  eats = (get_or HEADS number head).eats;
  count = (get_or HEADS number head).count;
  symbols = take 5 (drop (number * 6 + 6) SYMBOLS);
}

unfoldable pub sheet_before : List KindSheet
sheet_before = map (sheet_with alternatives_before) kinds

-- the table before vector types, noexcept function types and complex types were added
unfoldable pub abi_before : Table
abi_before = table_of blank sheet_before Cpp

unfoldable pub wide_sheet : List KindSheet
wide_sheet = map (sheet_with wide_alternatives) kinds

-- the wide table: that of C++ symbols, with what compilers write in addition to them
unfoldable pub wide : Table
wide = table_of blank wide_sheet Cpp
