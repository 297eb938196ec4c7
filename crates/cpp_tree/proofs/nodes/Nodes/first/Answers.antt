use Rattle.cpp_tree.proofs.Basics.{arith, sym, ap, ◌∙◌, element, over, trees}
use Rattle.cpp_tree.proofs.Trees.{cell_is, cell_first, cell_none, placed-alone}
use Rattle.cpp_tree.proofs.nodes.Nodes.first.Goals as goal

pub returns-in-Cell : goal.returns-in-Cell
returns-in-Cell c =
    let y = over c.args.symbol.now c.args.self.now in
    let inside = c.settled-settled.ensures.below.0 in
    let is = sym c.node.ensures.is ∙ c.in-Cell.is in
    record {
      tree = cell_first y c.settled-settled.result c.in-Cell.first c.in-Cell.rest c.requires.table inside is ∙ ap (λ t. element t 0) c.settled-settled.ensures.tree;
      below = (omega (arith, (cell_is y c.settled-settled.result.node c.in-Cell.first c.in-Cell.rest c.requires.table inside is).1, inside), c.settled-settled.ensures.below.1);
    }

pub returns-in_default : goal.returns-in_default
returns-in_default c =
    let y = over c.args.symbol.now c.args.self.now in
    record {
      tree = placed-alone (trees y) 0 ∙ c.requires.table.no_tree
          ∙ sym (cell_none y c.settled-settled.result 0 c.requires.table c.settled-settled.ensures.below.0 c.settled-settled.ensures.flat (λ first rest is. c.in_default.not-Cell first rest (c.node.ensures.is ∙ is)))
          ∙ ap (λ t. element t 0) c.settled-settled.ensures.tree;
      below = (omega (arith, c.requires.table.fixed), tt);
    }
