use Rattle.cpp_references.proofs.Basics.{◌≡◌, ◌∙◌, sym, ap, subst, ℕ, ◌<◌, ◌≤◌, [], refl, arith, Ok, Err, MatchOption, le-ltb, lt-ltb, counted_value, Decimal, Term, parameter, count, element, length_if_pack, Around, State, appended, with_packs, tree_at, bytes_at, tree_if_there, tree_of, trees_in, around_of, packs_read, parameter_read}
use Rattle.cpp_grammar.specs.Values.{nothing_counted}
use Rattle.cpp_references.proofs.Named.{scope_closed}
use Rattle.cpp_references.proofs.Named.{no_scope, past_scope, in_scope, argument_in_scope}
use Rattle.cpp_references.proofs.parameters.named_parameter.Goals as goal

pub returns-in_default-clause-is : goal.returns-in_default-clause-is
unfolding around_of tree_if_there parameter_read
returns-in_default-clause-is c state =
    no_scope (around_of (trees_in c.args.symbol.now c.args.nodes.now) c.args.kept) c.args.place _ _
    (ap (λ o. tree_if_there (trees_in c.args.symbol.now c.args.nodes.now) o) (sym c.in_scope.ensures ∙ c.in_default.is))

pub returns-in_default-below-clause-is : goal.returns-in_default-below-clause-is
unfolding around_of tree_if_there parameter_read
returns-in_default-below-clause-is c state =
    let ts = trees_in c.args.symbol.now c.args.nodes.now in
    let k : ℕ = counted_value Decimal (bytes_at c.args.symbol.now c.args.digits) in
    let past : c.count-count.result ≤ k = subst (λ o. MatchOption o (c.count-count.result ≤ k) (λ n. (n ≡ k) × (n < c.count-count.result))) c.in_default-below.is (c.below.ensures k c.value10-counted.ensures) in
    past_scope (around_of ts c.args.kept) c.args.place k _ (tree_at ts c.in-Some.scope) (ap (λ o. tree_if_there ts o) (sym c.in_scope.ensures ∙ c.in-Some.is))
    (le-ltb k (count (tree_at ts c.in-Some.scope)) (omega (arith, past, c.count-count.ensures)))

pub returns-in-Ok-clause-is : goal.returns-in-Ok-clause-is
unfolding around_of tree_if_there packs_read parameter_read tree_of
returns-in-Ok-clause-is c state =
    let ts = trees_in c.args.symbol.now c.args.nodes.now in
    let a : Term = tree_at ts c.in-Some.scope in
    let k : ℕ = counted_value Decimal (bytes_at c.args.symbol.now c.args.digits) in
    let around : Around = around_of ts c.args.kept in
    let found : (c.in-Some-below.number ≡ k) × (c.in-Some-below.number < c.count-count.result) =
    subst (λ o. MatchOption o (c.count-count.result ≤ k) (λ n. (n ≡ k) × (n < c.count-count.result))) c.in-Some-below.is (c.below.ensures k c.value10-counted.ensures) in
    let argument : tree_at ts c.argument-argument.result ≡ element a k = c.argument-argument.ensures.tree ∙ ap (λ n. element a n) found.0 in
    let own : c.length_if_pack-own.result ≡ length_if_pack (element a k) = c.length_if_pack-own.ensures ∙ ap length_if_pack argument in
    let before : State = record state { packs = c.args.packs } in
    let then : State = record state { packs = c.in-Ok.packs } in
    let same : parameter k (element a k) ≡ parameter c.in-Some-below.number (tree_at ts c.argument-argument.result) = rw (argument, found.0) refl in
    in_scope around c.args.place k before a (Ok then) (ap (λ o. tree_if_there ts o) (sym c.in_scope.ensures ∙ c.in-Some.is))
    (lt-ltb k (count a) (omega (arith, found.0, found.1, c.count-count.ensures)))
    (ap (λ o. with_packs c.args.place around.in_expansion o before) (sym own) ∙ c.in-Ok.ensures.is state)
    ∙ ap (λ t. Ok (appended around t then)) same

pub returns-in-Ok-clause-tree : goal.returns-in-Ok-clause-tree
unfolding around_of tree_if_there tree_of
returns-in-Ok-clause-tree c =
    let ts = trees_in c.args.symbol.now c.args.nodes.now in
    let a : Term = tree_at ts c.in-Some.scope in
    let k : ℕ = counted_value Decimal (bytes_at c.args.symbol.now c.args.digits) in
    let around : Around = around_of ts c.args.kept in
    let found : (c.in-Some-below.number ≡ k) × (c.in-Some-below.number < c.count-count.result) =
    subst (λ o. MatchOption o (c.count-count.result ≤ k) (λ n. (n ≡ k) × (n < c.count-count.result))) c.in-Some-below.is (c.below.ensures k c.value10-counted.ensures) in
    let argument : tree_at ts c.argument-argument.result ≡ element a k = c.argument-argument.ensures.tree ∙ ap (λ n. element a n) found.0 in
    let same : parameter c.in-Some-below.number (tree_at ts c.argument-argument.result) ≡ parameter k (element a k) = rw (argument, found.0) refl in
    same ∙ ap (parameter k) (sym (argument_in_scope around c.args.place k (record { candidates = []; packs = c.args.packs; counting = nothing_counted }) a (ap (λ o. tree_if_there ts o) (sym c.in_scope.ensures ∙ c.in-Some.is))))

pub returns-in-Err-clause-is : goal.returns-in-Err-clause-is
unfolding around_of tree_if_there packs_read parameter_read
returns-in-Err-clause-is c state =
    let ts = trees_in c.args.symbol.now c.args.nodes.now in
    let a : Term = tree_at ts c.in-Some.scope in
    let k : ℕ = counted_value Decimal (bytes_at c.args.symbol.now c.args.digits) in
    let around : Around = around_of ts c.args.kept in
    let found : (c.in-Some-below.number ≡ k) × (c.in-Some-below.number < c.count-count.result) =
    subst (λ o. MatchOption o (c.count-count.result ≤ k) (λ n. (n ≡ k) × (n < c.count-count.result))) c.in-Some-below.is (c.below.ensures k c.value10-counted.ensures) in
    let argument : tree_at ts c.argument-argument.result ≡ element a k = c.argument-argument.ensures.tree ∙ ap (λ n. element a n) found.0 in
    let own : c.length_if_pack-own.result ≡ length_if_pack (element a k) = c.length_if_pack-own.ensures ∙ ap length_if_pack argument in
    let before : State = record state { packs = c.args.packs } in
    in_scope around c.args.place k before a (Err c.in-Err.e) (ap (λ o. tree_if_there ts o) (sym c.in_scope.ensures ∙ c.in-Some.is))
    (lt-ltb k (count a) (omega (arith, found.0, found.1, c.count-count.ensures)))
    (ap (λ o. with_packs c.args.place around.in_expansion o before) (sym own) ∙ c.in-Err.ensures.is state)

pub argument-argument-requires-clause-closed : goal.argument-argument-requires-clause-closed
unfolding around_of tree_if_there
argument-argument-requires-clause-closed c = scope_closed (trees_in c.args.symbol.now c.args.nodes.now) _ c.in-Some.scope (sym c.in_scope.ensures ∙ c.in-Some.is) c.requires.closed
