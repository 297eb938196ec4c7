-- What is read from a symbol's nodes.
use Rattle.rust_tree.proofs.Basics.{◌≡◌, ℕ, ◌<◌, inl, inr, List, length, take, Some, slice_get, get_or, sym, ap, ◌∙◌, arith, slice_get-get_or, Tree, of_path, of_type, tree_of, HasParts, IsType, ReadSymbol, trees_of, IsRead, Node, Entry}
use Rattle.rust_tree.specs.Symbol as tree
use Rattle.rust_tree.proofs.Trees.{got-within, length-trees}

-- an entry that is read with a number has the node with this number
pub read_entry : (entries now : List Entry) (k : ℕ) (e : Entry) → entries ≡ now → k < length now → e ≡ get_or entries k e
    → (need : ℕ) × (slice_get now k ≡ Some (record { node = e.node; need = need }))
read_entry entries now k e same within read = (e.need, slice_get-get_or now k e within ∙ ap Some (sym (read ∙ ap (λ es. get_or es k e) same)))

-- the number of each tree is that of a node
pub is_within : (y : ReadSymbol) (k : ℕ) (t : Tree) → slice_get (trees_of y) k ≡ Some t → k < length y.table.nodes
is_within y k t h = omega (arith, got-within (trees_of y) k t h, length-trees y.bytes y.table.nodes)

pub type_within : (y : ReadSymbol) (k : ℕ) (t : tree.Ty) → IsType (trees_of y) k t → k < length y.table.nodes
type_within y k t (inl h) = is_within y k (of_type t) h
type_within y k t (inr h) = is_within y k (of_path h.0) h.1

pub root_within : (inside now : ReadSymbol) → inside ≡ now → IsRead inside → inside.root < length now.table.nodes
root_within inside now same is = rw (← same) (is_within inside inside.root _ is.root.1)

pub read_tree : (inside now : ReadSymbol) → inside ≡ now → IsRead inside → (k : ℕ) (node : Node)
    → ((need : ℕ) × (slice_get inside.table.nodes k ≡ Some (record { node = node; need = need })))
    → slice_get (trees_of now) k ≡ Some (tree_of now.bytes (trees_of now) node)
read_tree inside now same is k node found =
    let n = is.table k (record { node = node; need = found.0 }) found.1 in
    rw (← same) n.tree

pub read_parts : (inside now : ReadSymbol) → inside ≡ now → IsRead inside → (k : ℕ) (node : Node)
    → ((need : ℕ) × (slice_get inside.table.nodes k ≡ Some (record { node = node; need = need })))
    → HasParts now.bytes now.table.text (take k (trees_of now)) node
read_parts inside now same is k node found =
    let n = is.table k (record { node = node; need = found.0 }) found.1 in
    rw (← same) n.parts
