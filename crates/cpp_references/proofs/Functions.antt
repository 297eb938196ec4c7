-- Which nodes are the types of functions, and which are names of modules.
use Rattle.cpp_references.proofs.Basics.{◌≡◌, refl, ℕ, List, false, Option, true≢false, Term, is_function_type, is_module, reargued, is_again, function_node, module_node}
use Rattle.cpp_tree.specs.Nodes as nodes
use Rattle.cpp_tree.specs.declared.node.Node.{Node}
use Rattle.cpp_tree.specs.declared.node.Thunk.{Thunk}

pub function_is : (s : List ℕ) (us : List Thunk) (ts : List Term) (given : Option Term) (node : Node) → is_again node ≡ false → is_function_type (reargued given (nodes.tree_of s us ts node)) ≡ function_node node
unfolding is_function_type nodes.tree_of function_node reargued is_again
function_is s us ts given (Node.Reargued t a) own = absurd (true≢false own)
function_is s us ts given Node.Absent own = refl
function_is s us ts given _ own = refl

pub module_is : (s : List ℕ) (us : List Thunk) (ts : List Term) (given : Option Term) (node : Node) → is_again node ≡ false → is_module (reargued given (nodes.tree_of s us ts node)) ≡ module_node node
unfolding is_module nodes.tree_of module_node reargued is_again
module_is s us ts given (Node.Reargued t a) own = absurd (true≢false own)
module_is s us ts given Node.Absent own = refl
module_is s us ts given _ own = refl
