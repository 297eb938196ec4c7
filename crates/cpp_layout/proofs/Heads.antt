-- The head of a type, from what is noted of the type.
use Rattle.cpp_layout.proofs.Basics.{◌≡◌, ℕ, ◌<◌, length, Option, None, sym, ap, ◌∙◌, reargued, reargued_none, Table, IsTable, class_is, entry_at, head_of, tree_at, tree_if_there, trees}
use Rattle.cpp_term.specs.Items as items
use Rattle.cpp_tree.specs.declared.node.Head.{Head}
use Rattle.cpp_tree.specs.declared.node.HeadClass.{HeadClass}

-- without an argument, the head that is noted of a node is the head of its tree
pub noted-head : (y : Table) → IsTable y → (node : ℕ) → node < length y.nodes → (index given : Option ℕ) → given ≡ None → (h : Head) → (entry_at y.nodes node).class ≡ HeadClass.Known h
    → head_of h ≡ items.head (record { index = index }) (reargued (tree_if_there (trees y) given) (tree_at (trees y) node))
unfolding class_is items.head items.head_of_class tree_if_there
noted-head y table node less index given none h noted =
    ap (items.head_of_class index) (ap (class_is (trees y)) (sym noted) ∙ (table.each node less).class)
    ∙ ap (λ t. items.head (record { index = index }) t) (sym (reargued_none (tree_at (trees y) node)))
    ∙ ap (λ g. items.head (record { index = index }) (reargued (tree_if_there (trees y) g) (tree_at (trees y) node))) (sym none)
