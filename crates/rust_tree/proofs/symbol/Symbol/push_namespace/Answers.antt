use Rattle.std.proofs.Common.{arith}
use Rattle.rust_tree.proofs.Showing.{text-changed, closure-namespace, shim-namespace, other-namespace}
use Rattle.rust_tree.proofs.symbol.Symbol.push_namespace.Goals as goal

pub returns-in-67-clause-shows : goal.returns-in-67-clause-shows
returns-in-67-clause-shows g c below so_far shows =
    text-changed c.args.self.now _ so_far _ _ (closure-namespace c.args.namespace c.in-67.is) (c.push_text.ensures.shows _ _ shows)

pub returns-in-83-clause-shows : goal.returns-in-83-clause-shows
returns-in-83-clause-shows g c below so_far shows =
    text-changed c.args.self.now _ so_far _ _ (shim-namespace c.args.namespace c.in-83.is) (c.push_text-in-83.ensures.shows _ _ shows)

pub returns-in_default-clause-shows : goal.returns-in_default-clause-shows
returns-in_default-clause-shows g c below so_far shows =
    text-changed c.args.self.now _ so_far _ _ (other-namespace c.args.namespace (λ e. omega (arith, e, c.in_default)) (λ e. omega (arith, e, c.in_default))) (c.push_own.ensures.shows _ _ shows)
