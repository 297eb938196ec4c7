-- C++'s mangling: what its symbols are read as, and the answers for them.
use Rattle.std.specs.Prelude.{ℕ, List, Result}
use Rattle.sym_core.specs.declared.refusal.Refusal.{Refusal}
use Rattle.sym_print.specs.declared.detail.Detail.{Detail}
use Rattle.sym_demangle.specs.Mangled as demangle
use Rattle.sym_demangle.specs.Mangled.{Mangled}
use Rattle.cpp_grammar.specs.Table.{abi, wide}
use Rattle.cpp_grammar.specs.TableLaws.{lawful, wide_lawful}
use Rattle.cpp_grammar.specs.Term.{Term}
use Rattle.cpp_grammar.specs.Rescoping.{unfold_wide}
use Rattle.cpp_grammar.specs.Unfolding.{unfold_cpp}
use Rattle.cpp_grammar.specs.Answer.{shown, root_item}

abbrev pub cpp_mangled : Mangled Term
cpp_mangled = record { table = abi; unfolded = unfold_cpp; shown = λ detail t. shown detail (root_item t); lawful = lawful }

-- likewise for the wide grammar and its reading; trees are shown in the same way
abbrev pub wide_mangled : Mangled Term
wide_mangled = record { table = wide; unfolded = unfold_wide; shown = λ detail t. shown detail (root_item t); lawful = wide_lawful }

-- what a symbol is read as, and the answer for the symbol
abbrev pub IsReading : List ℕ → Result Term Refusal → Type 0
IsReading s result = demangle.IsReading cpp_mangled s result

abbrev pub IsAnswer : Detail → List ℕ → ℕ → Result (List ℕ) Refusal → Type 0
IsAnswer detail s limit result = demangle.IsAnswer cpp_mangled detail s limit result
