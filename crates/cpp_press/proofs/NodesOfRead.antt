-- A symbol that was read has at most as many components as nodes.
use Rattle.cpp_press.proofs.Basics.{◌≡◌, ℕ, ◌+◌, ◌≤◌, List, length, Ok, Err, sym, arith, Result, Term, spelled_components}
use Rattle.sym_core.specs.declared.refusal.Refusal.{Refusal}
use Rattle.sym_core.specs.declared.refusal.Refusal.TheVariants.{Malformed}
use Rattle.sym_shape.specs.declared.rule.Sym.TheVariants.{Kind}
use Rattle.sym_link.specs.Unfold.{unfold_tree}
use Rattle.sym_demangle.specs.Mangled.{misshapen, well_shaped}
use Rattle.sym_demangle.specs.Standing.{AreNodesOf}
use Rattle.cpp_grammar.specs.Mangled.{IsReading}
use Rattle.cpp_grammar.specs.Table.{abi}
use Rattle.cpp_grammar.specs.Unfolding.{cpp, first_around, first_state, first_tree, unfold_cpp}
use Rattle.cpp_grammar.proofs.Growing.{abi_wide}
use Rattle.cpp_grammar.proofs.ClosedStates.{behind_bind}
use Rattle.cpp_press_laws.proofs.Components.FewPressed.{components-few}
use Rattle.cpp_link.specs.NodeCount.{are_nodes}
use Rattle.cpp_link.proofs.CandidatesTrees.{candidates-few}

pub components-below : (s : List ℕ) (t : Term) (nodes : ℕ) → IsReading s (Ok t) → AreNodesOf abi are_nodes s nodes
    → 4 + length (spelled_components t) ≤ nodes
unfolding unfold_cpp
components-below s t nodes (misshapen at is e) are =
    let clash : ◌≡◌ {A = Result Term Refusal} (Ok t) (Err (Malformed at)) = e in absurd cc
components-below s t nodes (well_shaped (shape, is, spelled, e)) are =
    let whole = behind_bind (unfold_tree cpp first_around 0 shape first_state) (λ r. Ok (first_tree r.value)) t (sym e) in
    omega (
      arith,
      components-few shape t (is, sym e) whole.value whole.is,
      candidates-few shape (abi_wide (Kind 0) shape is) whole.value whole.is,
      are shape is spelled,
    )
