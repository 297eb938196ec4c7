use Rattle.cpp_tree.proofs.Basics.{arith, sym, ◌∙◌, ap, over, trees}
use Rattle.cpp_tree.proofs.Trees.{cell_is, placed_run, run_next, run_ends, placed-alone}
use Rattle.cpp_tree.proofs.nodes.Nodes.element.Goals as goal

pub entry-run-requires : goal.entry-run-requires
entry-run-requires c = c.runs.invariant.0

pub first-requires-clause-list : goal.first-requires-clause-list
first-requires-clause-list c = (omega (arith, c.runs.invariant.0), c.runs.invariant.1)

pub settled-settled-requires-clause-tree : goal.settled-settled-requires-clause-tree
settled-settled-requires-clause-tree c = (omega (arith, c.runs.invariant.0), c.runs.invariant.1)

pub returns-then-left-run-clause-tree : goal.returns-then-left-run-clause-tree
returns-then-left-run-clause-tree c =
    let y = over c.args.symbol.now c.args.self.now in
    c.first.ensures.tree ∙ placed_run y c.runs.cell c.runs.left c.entry-run.result.run c.runs.under c.requires.table c.runs.invariant.0 (ap (λ e. e.run) (sym c.entry-run.ensures)) c.if-left-run.true
    ∙ c.runs.invariant.2

pub runs-preserved : goal.runs-preserved
runs-preserved c =
    let y = over c.args.symbol.now c.args.self.now in
    let run = ap (λ e. e.run) (sym c.entry-run.ensures) in
    let s = c.settled-settled.result in
    let cell = sym c.node.ensures.is ∙ c.in-Cell.is in (
      omega (arith, c.settled-settled.ensures.below.0, (cell_is y s.node c.in-Cell.first c.in-Cell.rest c.requires.table c.settled-settled.ensures.below.0 cell).2),
      c.settled-settled.ensures.below.1,
      run_next y c.runs.cell c.runs.left c.entry-run.result.run c.in-Cell.first c.in-Cell.rest c.runs.under s c.requires.table c.runs.invariant.0 run c.if-left-run.false c.settled-settled.ensures.tree c.settled-settled.ensures.below.0 cell ∙ c.runs.invariant.2,
    )

pub returns-in_default : goal.returns-in_default
returns-in_default c =
    let y = over c.args.symbol.now c.args.self.now in
    record {
      tree = placed-alone (trees y) 0 ∙ c.requires.table.no_tree
          ∙ sym (run_ends y c.runs.cell c.runs.left c.entry-run.result.run c.runs.under c.settled-settled.result c.requires.table c.runs.invariant.0 (ap (λ e. e.run) (sym c.entry-run.ensures)) c.if-left-run.false
          c.settled-settled.ensures.tree c.settled-settled.ensures.below.0 c.settled-settled.ensures.flat (λ first rest is. c.in_default.not-Cell first rest (c.node.ensures.is ∙ is)))
          ∙ c.runs.invariant.2;
      below = (omega (arith, c.requires.table.fixed), tt);
    }
