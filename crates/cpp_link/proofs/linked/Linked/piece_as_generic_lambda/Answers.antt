use Rattle.cpp_link.proofs.Basics.{◌≡◌, sym, ◌∙◌, ap, lambda, as_generic_lambda, tree_at, piece_of, trees_in}
use Rattle.cpp_term.specs.Values as values
use Rattle.cpp_link.proofs.Rescoped.{own_lambda, plain_lambda, no_own}
use Rattle.cpp_link.proofs.linked.Linked.piece_as_generic_lambda.Goals as goal

pub returns-then-has_own-clause-is : goal.returns-then-has_own-clause-is
unfolding piece_of
returns-then-has_own-clause-is c =
    let ts = trees_in c.args.symbol.now c.args.self.now.nodes in
    sym (ap (λ p. as_generic_lambda (values.piece (piece_of c.args.symbol.now ts p))) c.in-Lambda.is ∙ own_lambda (tree_at ts c.in-Lambda.parameters) c.in-Lambda.number (sym c.has_own.ensures ∙ c.if-has_own.true))

pub returns-else-has_own-clause-is : goal.returns-else-has_own-clause-is
unfolding piece_of
returns-else-has_own-clause-is c =
    let ts = trees_in c.args.symbol.now c.args.self.now.nodes in
    let t = tree_at ts c.in-Lambda.parameters in
    let same : values.piece (piece_of c.args.symbol.now ts c.args.piece) ≡ values.piece (lambda t c.in-Lambda.number) = ap (λ p. values.piece (piece_of c.args.symbol.now ts p)) c.in-Lambda.is in
    sym (ap as_generic_lambda same ∙ plain_lambda t c.in-Lambda.number (sym c.has_own.ensures ∙ c.if-has_own.false))

pub returns-in_default-clause-is : goal.returns-in_default-clause-is
returns-in_default-clause-is c = sym (no_own c.args.symbol.now (trees_in c.args.symbol.now c.args.self.now.nodes) c.args.piece c.in_default.not-Lambda)
