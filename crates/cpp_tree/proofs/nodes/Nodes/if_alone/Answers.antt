use Rattle.cpp_tree.proofs.Basics.{arith, sym, ap, ◌∙◌, over, entry_at, is_argument_node}
use Rattle.cpp_tree.proofs.Trees.{given_open, given_pack, given_alone_node}
use Rattle.cpp_tree.proofs.nodes.Nodes.if_alone.Goals as goal

pub returns-then-is_open : goal.returns-then-is_open
returns-then-is_open c = record {
  tree = given_open (over c.args.symbol.now c.args.self.now) c.args.element c.requires.table c.requires.element.0 (sym c.is_open.ensures ∙ c.if-is_open.true);
  below = omega (arith, c.requires.table.fixed);
}

pub returns-then-is_argument : goal.returns-then-is_argument
returns-then-is_argument c =
    let es = c.args.self.now.nodes in
    let shape = c.node.ensures.is ∙ ap (λ p. (entry_at es p.node).node) c.resolved-place.ensures.is in
    record {
      tree = given_alone_node (over c.args.symbol.now c.args.self.now) c.args.element c.requires.table c.requires.element.0 (ap is_argument_node (sym shape) ∙ sym c.is_argument.ensures ∙ c.if-is_argument.true) (sym c.is_open.ensures ∙ c.if-is_open.false);
      below = c.requires.element.0;
    }

pub returns : goal.returns
returns c =
    let es = c.args.self.now.nodes in
    let shape = c.node.ensures.is ∙ ap (λ p. (entry_at es p.node).node) c.resolved-place.ensures.is in
    record {
      tree = given_pack (over c.args.symbol.now c.args.self.now) c.args.element c.requires.table c.requires.element.0 (ap is_argument_node (sym shape) ∙ sym c.is_argument.ensures ∙ c.if-is_argument.false);
      below = omega (arith, c.requires.table.fixed);
    }
