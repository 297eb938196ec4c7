use Rattle.cpp_spelling.proofs.Basics.{false, true≢false, ◌≡◌, refl, ◌∙◌, ℕ, List, erase, Node, tree_of, trees, is_again, table_of, is_encoding}
use Rattle.cpp_term.specs.Term.{Term}
use Rattle.cpp_tree.specs.declared.node.Thunk.{Thunk}
use Rattle.cpp_tree.specs.Nodes as nodes
use Rattle.cpp_spelling.proofs.names.is_encoding.Goals as goal

-- a node is an encoding exactly if its tree is one
kept : (s : List ℕ) (us : List Thunk) (ts : List Term) (n : Node) → is_again n ≡ false → nodes.is_encoding n ≡ is_encoding (erase (tree_of s us ts n))
unfolding nodes.is_encoding is_encoding erase tree_of is_again
kept s us ts (Node.Reargued t a) own = absurd (true≢false own)
kept s us ts _ own = refl

pub returns : goal.returns
returns c y = c.is_encoding.ensures ∙ kept y.bytes y.table.thunks (trees (table_of y)) c.args.node c.requires.own
