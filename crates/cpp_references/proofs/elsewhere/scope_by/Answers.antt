use Rattle.cpp_references.proofs.Basics.{◌∙◌, sym, ap, arith, le-ltb, lt-ltb, Term, count, tree_at, tree_if_there, argument_read, trees_in, around_of}
use Rattle.cpp_references.proofs.MeantHere.{under_none, under_past, under_packed, under_here}
use Rattle.cpp_references.proofs.elsewhere.scope_by.Goals as goal

pub returns-in_default-clause-is : goal.returns-in_default-clause-is
unfolding argument_read around_of tree_if_there
returns-in_default-clause-is c t state =
    let ts = trees_in c.args.symbol.now c.args.nodes.now in
    under_none (around_of ts c.args.kept) c.args.place t _ c.args.greatest (ap (λ o. tree_if_there ts o) (sym c.in_scope.ensures ∙ c.in_default.is))

pub returns-then-greatest-count-clause-is : goal.returns-then-greatest-count-clause-is
unfolding argument_read around_of tree_if_there
returns-then-greatest-count-clause-is c t state =
    let ts = trees_in c.args.symbol.now c.args.nodes.now in
    under_past (around_of ts c.args.kept) c.args.place t _ c.args.greatest (tree_at ts c.in-Some.scope) (ap (λ o. tree_if_there ts o) (sym c.in_scope.ensures ∙ c.in-Some.is))
    (le-ltb c.args.greatest (count (tree_at ts c.in-Some.scope)) (omega (arith, c.if-greatest-count.true, c.count.ensures)))

pub returns-then-has_pack-clause-is : goal.returns-then-has_pack-clause-is
unfolding argument_read around_of tree_if_there
returns-then-has_pack-clause-is c t state =
    let ts = trees_in c.args.symbol.now c.args.nodes.now in
    let a : Term = tree_at ts c.in-Some.scope in
    under_packed (around_of ts c.args.kept) c.args.place t _ c.args.greatest a (ap (λ o. tree_if_there ts o) (sym c.in_scope.ensures ∙ c.in-Some.is))
    (lt-ltb c.args.greatest (count a) (omega (arith, c.if-greatest-count.false, c.count.ensures))) (sym c.has_pack.ensures ∙ c.if-has_pack.true)

pub returns-clause-is : goal.returns-clause-is
unfolding argument_read around_of tree_if_there
returns-clause-is c t state =
    let ts = trees_in c.args.symbol.now c.args.nodes.now in
    let a : Term = tree_at ts c.in-Some.scope in
    under_here (around_of ts c.args.kept) c.args.place t _ c.args.greatest a (ap (λ o. tree_if_there ts o) (sym c.in_scope.ensures ∙ c.in-Some.is))
    (lt-ltb c.args.greatest (count a) (omega (arith, c.if-greatest-count.false, c.count.ensures))) (sym c.has_pack.ensures ∙ c.if-has_pack.false)
