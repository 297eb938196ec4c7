-- What is read from operations.
use Rattle.cpp_link.proofs.Basics.{◌≡◌, refl, ℕ, List, true, false, Option, true≢false, Term, operation, address_of, operation_or_address, is_comma, ends_arguments, reargued, Node, Thunk, tree_at, is_again, comma_node, ending_node}
use Rattle.cpp_tree.specs.Nodes as nodes

pub comma_is : (s : List ℕ) (us : List Thunk) (ts : List Term) (given : Option Term) (node : Node) → is_again node ≡ false → is_comma (reargued given (nodes.tree_of s us ts node)) ≡ comma_node node
unfolding is_comma nodes.tree_of comma_node reargued is_again
comma_is s us ts given (Node.Reargued t a) own = absurd (true≢false own)
comma_is s us ts given Node.Absent own = refl
comma_is s us ts given _ own = refl

pub ending_is : (s : List ℕ) (us : List Thunk) (ts : List Term) (given : Option Term) (node : Node) → is_again node ≡ false → ends_arguments (reargued given (nodes.tree_of s us ts node)) ≡ ending_node node
unfolding ends_arguments nodes.tree_of ending_node reargued is_again
ending_is s us ts given (Node.Reargued t a) own = absurd (true≢false own)
ending_is s us ts given Node.Absent own = refl
ending_is s us ts given _ own = refl

-- the operation that takes the address of a node's tree, whichever argument the node's parts are under
pub address_is : (s : List ℕ) (us : List Thunk) (ts : List Term) (given : Option Term) (encoding first second : ℕ) (t right : Term) → t ≡ reargued given (nodes.tree_of s us ts (Node.EncodingLiteral encoding))
    → operation_or_address true first second t right ≡ address_of (tree_at ts encoding)
unfolding operation_or_address nodes.tree_of reargued
address_is s us ts given encoding first second t right is = rw is refl

pub no_address : (s : List ℕ) (us : List Thunk) (ts : List Term) (given : Option Term) (node : Node) (first second : ℕ) (t right : Term) → is_again node ≡ false → ((encoding : ℕ) → node ≡ Node.EncodingLiteral encoding → ⊥)
    → t ≡ reargued given (nodes.tree_of s us ts node) → operation_or_address true first second t right ≡ operation first second t right
unfolding operation_or_address nodes.tree_of reargued is_again
no_address s us ts given (Node.Reargued x a) first second t right own other is = absurd (true≢false own)
no_address s us ts given (Node.EncodingLiteral encoding) first second t right own other is = absurd (other encoding refl)
no_address s us ts given Node.Absent first second t right own other is = rw is refl
no_address s us ts given _ first second t right own other is = rw is refl
