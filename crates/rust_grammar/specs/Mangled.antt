-- Rust's mangling: what its symbols are read as, and their answers.
use Rattle.std.specs.Prelude.{ℕ, List, Result}
use Rattle.sym_core.specs.declared.refusal.Refusal.{Refusal}
use Rattle.sym_print.specs.declared.detail.Detail.{Detail}
use Rattle.sym_shape.specs.Tree.{Tree}
use Rattle.sym_demangle.specs.Mangled as demangle
use Rattle.sym_demangle.specs.Mangled.{Mangled}
use Rattle.rust_tree.specs.Symbol as tree
use Rattle.rust_tree.specs.Shown.{symbol_parts}
use Rattle.rust_grammar.specs.Rules.{v0_table}
use Rattle.rust_grammar.specs.TableLaws.{lawful}
use Rattle.rust_grammar.specs.Unfold.{unfolded}

abbrev pub v0_mangled : Mangled tree.Symbol
v0_mangled = record { table = v0_table; unfolded = unfolded; shown = symbol_parts; lawful = lawful }

-- what a symbol is read as, and the answer to the symbol
abbrev pub IsReading : List ℕ → Result tree.Symbol Refusal → Type 0
IsReading s result = demangle.IsReading v0_mangled s result

abbrev pub IsAnswer : Detail → List ℕ → ℕ → Result (List ℕ) Refusal → Type 0
IsAnswer detail s limit result = demangle.IsAnswer v0_mangled detail s limit result

abbrev pub answer_of_shape : Detail → ℕ → Tree → Result (List ℕ) Refusal
answer_of_shape detail limit shape = demangle.answer_of_shape v0_mangled detail limit shape
