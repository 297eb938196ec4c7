-- A fact about the trees of both grammars holds of the trees of the ABI's grammar.
use Rattle.cpp_press_laws.proofs.Basics.{◌≡◌, ℕ, suc, ◌+◌, ◌<◌, ◌≤◌, List, refl, arith, length, true, false, Ok, IsSymbol, Sym, Tree, IsTree, spell, Found, unfold_tree, KIND_COUNT, kinds, abi, sheet, wide, cpp, State, Around, Value, Bare, AllOld, GoodPrefix, abi_wide}
use Rattle.sym_shape.specs.declared.rule.Sym.TheVariants.{Kind as OfKind, Name, Number, Byte}
use Rattle.cpp_grammar.proofs.ClosedTrees as both_
use Rattle.cpp_grammar.proofs.ClosedTrees.{is_encoding, TreeComes}

kind_count : abi.kinds ≡ KIND_COUNT
unfolding abi sheet kinds
kind_count = refl

pub known : (k : ℕ) → suc k ≤ KIND_COUNT → k < abi.kinds
known k lt = omega (arith, lt, kind_count)

wide_symbol : (x : Sym) → IsSymbol abi x → IsSymbol wide x
wide_symbol (OfKind k) is = both_.known k (omega (arith, is, kind_count))
wide_symbol Name is = tt
wide_symbol (Number kind) is = tt
wide_symbol (Byte b) is = is

pub tree_good : (t : Tree) (x : Sym) (around : Around) (at : ℕ) (state : State) (r : Found (List Value) State) → IsSymbol abi x → IsTree abi x t → around.encoding ≤ at
    → (is_encoding x ≡ true → around.encoding < at) → GoodPrefix (Bare false around) around.prefix → AllOld false around at state.candidates → unfold_tree cpp around at t state ≡ Ok r
    → TreeComes false around (at + length (spell t)) state r
tree_good t x around at state r lt is = both_.tree_good t x around at state r (wide_symbol x lt) (abi_wide x t is)
