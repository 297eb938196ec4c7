-- The small grammar as a sheet.
use Rattle.std.specs.Prelude.{List, [], ◌∷◌, true, false}
use Rattle.std.specs.List.{flat_map}
use Rattle.sym_shape.specs.declared.rule.Sym.{Sym}
use Rattle.sym_shape.specs.declared.sheet.ByteRange.{ByteRange}
use Rattle.sym_shape.specs.Sheet.{KindSheet, range}
use Rattle.example_grammar.specs.declared.TheConstants.{SYMBOL_RULES, PATH_RULES, TYPE_RULES, TYPES_RULES, LIFE_RULES, SYMBOLS}

abbrev pub blank : KindSheet
blank = record { choices = []; may_be_empty = false; after = []; rank = 0; height = 0 }

-- what begins a type: B, C, I, R, h
abbrev pub types : List ByteRange
types = range 66 67 ∷ range 73 73 ∷ range 82 82 ∷ range 104 104 ∷ []

-- what follows a type in a list: another type, or E
abbrev pub listed : List ByteRange
listed = range 69 69 ∷ types

abbrev pub sheet : List KindSheet
sheet =
    record { choices = SYMBOL_RULES; may_be_empty = false; after = []; rank = 0; height = 2 }
    ∷ record { choices = PATH_RULES; may_be_empty = false; after = listed; rank = 0; height = 1 }
    ∷ record { choices = TYPE_RULES; may_be_empty = false; after = listed; rank = 1; height = 1 }
    ∷ record { choices = TYPES_RULES; may_be_empty = false; after = listed; rank = 2; height = 1 }
    ∷ record { choices = LIFE_RULES; may_be_empty = true; after = types; rank = 0; height = 1 }
    ∷ []

-- the symbols of all rules in one list
abbrev pub symbols : List Sym
symbols = flat_map (λ row. row) SYMBOLS
