use Rattle.cpp_link.proofs.Basics.{refl, sym, ◌∙◌, ap, subst, length, operation_or_address, reargued, trees_in, tree_of_node}
use Rattle.cpp_tree.specs.Nodes.{tree_at, tree_of, tree_if_there, IsBelow}
use Rattle.cpp_link.proofs.Operations.{address_is, no_address}
use Rattle.cpp_link.proofs.linked.Linked.operation.Goals as goal

pub returns-then-not-is_code-clause-is : goal.returns-then-not-is_code-clause-is
unfolding operation_or_address tree_of
returns-then-not-is_code-clause-is c = rw (sym c.is_code.ensures ∙ c.if-not-is_code.true) refl

pub returns-in-EncodingLiteral-clause-is : goal.returns-in-EncodingLiteral-clause-is
unfolding tree_of
returns-in-EncodingLiteral-clause-is c =
    let s = c.args.symbol.now in
    let y = c.args.self.now.nodes in
    let ts = trees_in s y in
    rw (sym c.is_code.ensures ∙ c.if-not-is_code.false)
    (sym (address_is s y.thunks ts (tree_if_there ts c.opened.result.under) c.in-EncodingLiteral.encoding _ _ _ (tree_at ts c.args.right)
    (c.opened.ensures.tree ∙ ap (λ n. reargued (tree_if_there ts c.opened.result.under) (tree_of_node s y n)) c.in-EncodingLiteral.is)))

pub returns-in-EncodingLiteral-clause-there : goal.returns-in-EncodingLiteral-clause-there
returns-in-EncodingLiteral-clause-there c = subst (λ n. IsBelow c.args.symbol.now (length c.args.self.now.nodes.thunks) (length c.args.self.now.nodes.nodes) n) c.in-EncodingLiteral.is c.opened.ensures.below

pub returns-in_default-clause-is : goal.returns-in_default-clause-is
unfolding tree_of
returns-in_default-clause-is c =
    let ts = trees_in c.args.symbol.now c.args.self.now.nodes in
    rw (sym c.is_code.ensures ∙ c.if-not-is_code.false)
    (sym (no_address c.args.symbol.now c.args.self.now.nodes.thunks ts (tree_if_there ts c.opened.result.under) c.opened.result.node _ _ _ (tree_at ts c.args.right) c.opened.ensures.own c.in_default.not-EncodingLiteral c.opened.ensures.tree))
