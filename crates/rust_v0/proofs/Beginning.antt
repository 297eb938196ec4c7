-- The table that a symbol begins with.
use Rattle.rust_v0.proofs.Basics.{◌≡◌, refl, sym, ap, subst, ◌∙◌, ℕ, ◌+◌, ◌≤◌, List, [], ◌∷◌, length, false, Some, arith, slice_get, digits, signed_text, Tree, of_arguments, of_bounds, of_bindings, Table, IsTable, Makes, trees, arguments_of, bounds_of, bindings_of, Node, got-within, length-trees, HasZero}
use Rattle.rust_tree.specs.Symbol as tree
use Rattle.rust_tree.specs.declared.node.Entry.{Entry}
use Rattle.rust_tree.specs.declared.node.Arguments.{Arguments}
use Rattle.rust_tree.specs.declared.node.Bounds.{Bounds}
use Rattle.rust_tree.specs.declared.node.Bindings.{Bindings}

zero_text : signed_text false 0 ≡ 48 ∷ []
unfolding digits
zero_text = refl

pub zero_alone : (text : List ℕ) → text ≡ signed_text false 0 → HasZero text × (length text ≤ 20)
zero_alone text is =
    let same : text ≡ 48 ∷ [] = is ∙ zero_text in
    (subst (λ l. HasZero l) (sym same) ((omega arith, omega arith), sym zero_text), omega (arith, ap (λ l. length l) same))

pub no_nodes : (s : List ℕ) (table : Table) → table.nodes ≡ [] → IsTable s table
no_nodes s table none number entry is =
    let past : slice_get {X = Entry} [] number ≡ Some entry = rw none at is in
    absurd (omega (arith, got-within [] number entry past))

pub no_arguments_made : (s : List ℕ) (table : Table) → Makes s table (Node.Arguments Arguments.None) (of_arguments tree.no_arguments)
unfolding arguments_of
no_arguments_made s table = record { parts = tt; tree = refl }

pub no_bounds_made : (s : List ℕ) (table : Table) → Makes s table (Node.Bounds Bounds.None) (of_bounds tree.no_bounds)
unfolding bounds_of
no_bounds_made s table = record { parts = tt; tree = refl }

pub no_bindings_made : (s : List ℕ) (table : Table) → Makes s table (Node.Bindings Bindings.None) (of_bindings tree.no_bindings)
unfolding bindings_of
no_bindings_made s table = record { parts = tt; tree = refl }

-- if a new number denotes a tree, and at most one node was added, then one node was added
pub one_added : (s : List ℕ) (old new : Table) (number : ℕ) (t : Tree) → number ≡ length old.nodes → slice_get (trees s new.nodes) number ≡ Some t
    → length new.nodes ≤ length old.nodes + 1 → length new.nodes ≡ length old.nodes + 1
one_added s old new number t is there one =
    omega (arith, is, one, got-within (trees s new.nodes) number t there, length-trees s new.nodes)
