use Rattle.std.proofs.Common.{◌+◌, drop, get_or, sym, ◌∙◌}
use Rattle.std.proofs.lemmas.List.{at_drop_all, at_drop_more}
use Rattle.rust_spelled.specs.Paths.{first_named}
use Rattle.rust_spelled.proofs.Walking.{named-here, named-later, named-none}
use Rattle.rust_spelled.proofs.paths.first_named.Goals as goal

pub returns-then-is_named-clause-named : goal.returns-then-is_named-clause-named
returns-then-is_named-clause-named c =
    let symbol = c.args.symbol.now in
    let rows = c.args.rows.now in
    let paths = c.args.paths.now in
    let index = c.loop-path.path-index in
    sym (named-here symbol rows (get_or paths index 0) (drop (index + 1) paths) (sym c.is_named.ensures ∙ c.if-is_named.true))
    ∙ (sym (at_drop_more (first_named symbol rows) paths index 0 c.loop-path-test.true) ∙ c.loop-path.invariant)

pub loop-path-preserved : goal.loop-path-preserved
loop-path-preserved c =
    let symbol = c.args.symbol.now in
    let rows = c.args.rows.now in
    let paths = c.args.paths.now in
    let index = c.loop-path.path-index in
    sym (named-later symbol rows (get_or paths index 0) (drop (index + 1) paths) (sym c.is_named.ensures ∙ c.if-is_named.false))
    ∙ (sym (at_drop_more (first_named symbol rows) paths index 0 c.loop-path-test.true) ∙ c.loop-path.invariant)

pub returns-clause-named : goal.returns-clause-named
returns-clause-named c =
    let symbol = c.args.symbol.now in
    let rows = c.args.rows.now in
    sym (named-none symbol rows)
    ∙ (sym (at_drop_all (first_named symbol rows) c.args.paths.now c.loop-path.path-index c.loop-path-test.false) ∙ c.loop-path.invariant)
