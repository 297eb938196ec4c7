use Rattle.cpp_layout.proofs.Basics.{◌<◌, refl, sym, ap, ◌∙◌, arith, tree_under, trees, table_of}
use Rattle.cpp_layout.proofs.Pointing.{run-constant-right}
use Rattle.cpp_layout.proofs.symbol.Symbol.run_constant_right.Goals as goal

pub returns : goal.returns
returns c =
    let some : 0 < c.constant_pointers-run.result.levels = omega (arith, c.if-run-eq0.false) in
    record {
      run = rw c.item_at.ensures (run-constant-right c.args.self.now c.args.item c.constant_pointers-run.result.inner c.constant_pointers-run.result.levels c.requires.may_come.0
          (sym (ap (tree_under (trees (table_of c.args.self.now))) c.type_in.ensures) ∙ c.constant_pointers-run.ensures.tree) c.constant_pointers-run.ensures.below (c.constant_pointers-run.ensures.pointer some) some
          _ refl c.requires.form);
    }
