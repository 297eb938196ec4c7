-- The two grammars: the table of each, and what is promised about its symbols.
use Rattle.std.specs.Prelude.{Bool, true, false}
use Rattle.sym_shape.specs.Table.{Table}
use Rattle.sym_demangle.specs.Mangled.{Mangled}
use Rattle.cpp_grammar.specs.Table.{abi, wide}
use Rattle.cpp_grammar.specs.Mangled.{cpp_mangled, wide_mangled}
use Rattle.cpp_grammar.specs.Term.{Term}

-- the table of the wide grammar, or of the ABI's
abbrev pub table_by : (is_wide : Bool) → Table
table_by true = wide
table_by false = abi

-- the promise about the symbols of the wide grammar, or of the ABI's
abbrev pub mangled_by : (is_wide : Bool) → Mangled Term
mangled_by true = wide_mangled
mangled_by false = cpp_mangled
