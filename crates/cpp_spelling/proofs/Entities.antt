-- The entity of a local name.
use Rattle.cpp_spelling.proofs.Basics.{◌≡◌, ℕ, refl, ap, ◌∙◌, false, true≢false, Term, within, instance, tagged, without_tags, erase, tree_of, is_again, Node, ReadSymbol, is_behind_encoding, is_one_piece, node_tree, is_piece_behind}

pub instance-piece : (t u a : Term) → t ≡ instance u a → is_one_piece t ≡ is_piece_behind u
unfolding is_one_piece is_piece_behind is_behind_encoding without_tags
instance-piece t u a is = ap is_one_piece is ∙ go u
  where
    go : (u : Term) → is_one_piece (instance u a) ≡ is_piece_behind u
    go (within prefix p) = refl
    go (tagged of_structor name tag) = refl
    go _ = refl

pub other-piece : (y : ReadSymbol) (node : Node) → is_again node ≡ false → ((template arguments : ℕ) → node ≡ Node.Instance template arguments → ⊥) → is_one_piece (node_tree y node) ≡ is_piece_behind (node_tree y node)
unfolding is_one_piece is_piece_behind is_behind_encoding without_tags erase tree_of is_again
other-piece y (Node.Instance template arguments) own never = absurd (never template arguments refl)
other-piece y (Node.Reargued t a) own never = absurd (true≢false own)
other-piece y _ own never = refl
