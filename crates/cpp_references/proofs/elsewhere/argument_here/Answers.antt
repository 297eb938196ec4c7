use Rattle.cpp_references.proofs.Basics.{◌∙◌, sym, ap, Some, Ok, true, none_free, one_free, several_free, reargued, with_free, found, tree, tree_at, argument_read, trees_in, around_of}
use Rattle.cpp_references.proofs.MeantHere.{none_is, one_is, several_is, restated_own, restated_by}
use Rattle.cpp_references.proofs.elsewhere.argument_here.Goals as goal

pub returns-then-in_lambda-clause-is : goal.returns-then-in_lambda-clause-is
unfolding around_of argument_read
returns-then-in_lambda-clause-is c state =
    let ts = trees_in c.args.symbol.now c.args.nodes.now in
    let t = tree_at ts c.args.node in
    restated_own (around_of ts c.args.kept) c.args.place t _ (sym c.in_lambda.ensures ∙ c.if-in_lambda.true)
    ∙ ap (λ a. Ok (found (tree (reargued (Some a) t) true) (record state { packs = c.args.packs }))) (sym c.requires.table.auto)

pub returns-in-One-clause-is : goal.returns-in-One-clause-is
unfolding around_of with_free
returns-in-One-clause-is c state =
    let ts = trees_in c.args.symbol.now c.args.nodes.now in
    restated_by (around_of ts c.args.kept) c.args.place (tree_at ts c.args.node) _ (sym c.in_lambda.ensures ∙ c.if-in_lambda.false) (one_free c.in-One.number) (one_is c.free.result c.in-One.number c.in-One.is c.free.ensures)
    ∙ c.argument_by.ensures.is state

pub returns-in-Several-clause-is : goal.returns-in-Several-clause-is
unfolding around_of with_free
returns-in-Several-clause-is c state =
    let ts = trees_in c.args.symbol.now c.args.nodes.now in
    let t = tree_at ts c.args.node in
    restated_by (around_of ts c.args.kept) c.args.place t _ (sym c.in_lambda.ensures ∙ c.if-in_lambda.false) (several_free c.in-Several.greatest) (several_is c.free.result c.in-Several.greatest c.in-Several.is c.free.ensures)
    ∙ c.scope_by.ensures.is t state

pub returns-in-None : goal.returns-in-None
unfolding around_of with_free argument_read
returns-in-None c = record {
  is = λ state. (let ts = trees_in c.args.symbol.now c.args.nodes.now in
      restated_by (around_of ts c.args.kept) c.args.place (tree_at ts c.args.node) _ (sym c.in_lambda.ensures ∙ c.if-in_lambda.false) none_free (none_is c.free.result c.in-None.is c.free.ensures));
  there = tt;
  bad = λ e. absurd cc;
}
