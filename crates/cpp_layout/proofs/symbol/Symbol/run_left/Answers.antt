use Rattle.cpp_layout.proofs.Basics.{◌<◌, sym, ap, ◌∙◌, arith, tree_under, trees, table_of}
use Rattle.cpp_layout.proofs.Pointing.{run-left}
use Rattle.cpp_layout.proofs.symbol.Symbol.run_left.Goals as goal

pub returns : goal.returns
returns c =
    let some : 0 < c.pointers-run.result.levels = omega (arith, c.if-run-eq0.false) in
    record {
      run = rw c.item_at.ensures (run-left c.args.self.now c.args.item c.pointers-run.result.inner c.pointers-run.result.levels c.requires.may_come.0
          (sym (ap (tree_under (trees (table_of c.args.self.now))) c.type_in.ensures) ∙ c.pointers-run.ensures.tree) c.pointers-run.ensures.below (c.pointers-run.ensures.pointer some) some
          c.pointers-run.ensures.few c.requires.form);
    }
