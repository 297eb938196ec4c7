use Rattle.cpp_references.proofs.Basics.{◌≡◌, ◌∙◌, sym, ap, arith, Ok, Err, Some, true, le-ltb, lt-ltb, Term, reargued, count, element, is_list, pack_length, found, Around, State, tree, with_packs, tree_at, tree_if_there, argument_read, trees_in, around_of, packs_read}
use Rattle.cpp_references.proofs.Named.{scope_closed}
use Rattle.cpp_references.proofs.MeantHere.{scope_none, scope_past, scope_listed, scope_here}
use Rattle.cpp_references.proofs.elsewhere.argument_by.Goals as goal

pub returns-in_default-clause-is : goal.returns-in_default-clause-is
unfolding argument_read around_of tree_if_there
returns-in_default-clause-is c state =
    let ts = trees_in c.args.symbol.now c.args.nodes.now in
    scope_none (around_of ts c.args.kept) c.args.place (tree_at ts c.args.node) _ c.args.number (ap (λ o. tree_if_there ts o) (sym c.in_scope.ensures ∙ c.in_default.is))

pub returns-then-number-count-clause-is : goal.returns-then-number-count-clause-is
unfolding argument_read around_of tree_if_there
returns-then-number-count-clause-is c state =
    let ts = trees_in c.args.symbol.now c.args.nodes.now in
    scope_past (around_of ts c.args.kept) c.args.place (tree_at ts c.args.node) _ c.args.number (tree_at ts c.in-Some.scope) (ap (λ o. tree_if_there ts o) (sym c.in_scope.ensures ∙ c.in-Some.is))
    (le-ltb c.args.number (count (tree_at ts c.in-Some.scope)) (omega (arith, c.if-number-count.true, c.count.ensures)))

pub argument-argument-requires-clause-closed : goal.argument-argument-requires-clause-closed
unfolding around_of tree_if_there
argument-argument-requires-clause-closed c =
    let ts = trees_in c.args.symbol.now c.args.nodes.now in
    scope_closed ts _ c.in-Some.scope (sym c.in_scope.ensures ∙ c.in-Some.is) c.requires.closed

pub returns-then-is_list-clause-is : goal.returns-then-is_list-clause-is
unfolding argument_read around_of tree_if_there
returns-then-is_list-clause-is c state =
    let ts = trees_in c.args.symbol.now c.args.nodes.now in
    let a : Term = tree_at ts c.in-Some.scope in
    scope_listed (around_of ts c.args.kept) c.args.place (tree_at ts c.args.node) _ c.args.number a (ap (λ o. tree_if_there ts o) (sym c.in_scope.ensures ∙ c.in-Some.is))
    (lt-ltb c.args.number (count a) (omega (arith, c.if-number-count.false, c.count.ensures)))
    (ap is_list (sym c.argument-argument.ensures.tree) ∙ sym c.is_list.ensures ∙ c.if-is_list.true)

pub returns-in-Ok-clause-is : goal.returns-in-Ok-clause-is
unfolding argument_read around_of tree_if_there packs_read
returns-in-Ok-clause-is c state =
    let ts = trees_in c.args.symbol.now c.args.nodes.now in
    let a : Term = tree_at ts c.in-Some.scope in
    let t : Term = tree_at ts c.args.node in
    let k = c.args.number in
    let around : Around = around_of ts c.args.kept in
    let own : c.packs_with-own.result ≡ pack_length (reargued (Some (element a k)) t) = c.packs_with-own.ensures ∙ ap (λ x. pack_length (reargued (Some x) t)) c.argument-argument.ensures.tree in
    let before : State = record state { packs = c.args.packs } in
    let then : State = record state { packs = c.in-Ok.packs } in
    scope_here around c.args.place t before k a (Ok then) (ap (λ o. tree_if_there ts o) (sym c.in_scope.ensures ∙ c.in-Some.is))
    (lt-ltb k (count a) (omega (arith, c.if-number-count.false, c.count.ensures)))
    (ap is_list (sym c.argument-argument.ensures.tree) ∙ sym c.is_list.ensures ∙ c.if-is_list.false)
    (ap (λ o. with_packs c.args.place around.in_expansion o before) (sym own) ∙ c.in-Ok.ensures.is state)
    ∙ ap (λ u. Ok (found (tree (reargued (Some u) t) true) then)) (sym c.argument-argument.ensures.tree)

pub returns-in-Err-clause-is : goal.returns-in-Err-clause-is
unfolding argument_read around_of tree_if_there packs_read
returns-in-Err-clause-is c state =
    let ts = trees_in c.args.symbol.now c.args.nodes.now in
    let a : Term = tree_at ts c.in-Some.scope in
    let t : Term = tree_at ts c.args.node in
    let k = c.args.number in
    let around : Around = around_of ts c.args.kept in
    let own : c.packs_with-own.result ≡ pack_length (reargued (Some (element a k)) t) = c.packs_with-own.ensures ∙ ap (λ x. pack_length (reargued (Some x) t)) c.argument-argument.ensures.tree in
    let before : State = record state { packs = c.args.packs } in
    scope_here around c.args.place t before k a (Err c.in-Err.e) (ap (λ o. tree_if_there ts o) (sym c.in_scope.ensures ∙ c.in-Some.is))
    (lt-ltb k (count a) (omega (arith, c.if-number-count.false, c.count.ensures)))
    (ap is_list (sym c.argument-argument.ensures.tree) ∙ sym c.is_list.ensures ∙ c.if-is_list.false)
    (ap (λ o. with_packs c.args.place around.in_expansion o before) (sym own) ∙ c.in-Err.ensures.is state)
