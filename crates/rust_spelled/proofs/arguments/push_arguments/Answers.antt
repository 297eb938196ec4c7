use Rattle.std.proofs.Common.{◌≡◌, ◌∷◌, ◌++◌, ◌+◌, ◌-◌, [], sym, ap, ◌∙◌, rules}
use Rattle.sym_parts.specs.Spelling.{span}
use Rattle.rust_spelled.specs.Rows.{row_at}
use Rattle.rust_spelled.specs.Arguments.{arguments_from, arguments_of}
use Rattle.rust_spelled.proofs.Walking.{found-all, found-more, arguments_from-past, arguments_from-more, arguments_from-end}
use Rattle.rust_spelled.proofs.arguments.push_arguments.Goals as goal

pub arguments-init : goal.arguments-init
unfolding arguments_of
arguments-init c = search rules

pub returns-then-argument-end-clause-elements : goal.returns-then-argument-end-clause-elements
returns-then-argument-end-clause-elements c =
    found-all _ _ _ (arguments_from-past c.arguments.left c.args.rows.now c.arguments.argument c.behind-end.result c.if-argument-end.true) c.arguments.invariant

pub arguments-preserved : goal.arguments-preserved
arguments-preserved c =
    let rows = c.args.rows.now in
    let argument = c.arguments.argument in
    let end = c.behind-end.result in
    let old = c.arguments.elements.items in
    let new = c.push_within.new.list.items in
    let here = span (row_at rows argument).from (row_at rows (argument + 1)).to in
    let pushed : new ≡ old ++ here ∷ [] = search rules in
    let more = arguments_from-more c.arguments.left rows argument end c.arguments-test.true c.if-argument-end.false in
    found-more old new (here ∷ []) _ _ pushed (ap (λ row. old ++ here ∷ arguments_from (c.arguments.left - 1) rows row.end end) c.row_at-own.ensures ∙ (sym (ap (λ left. old ++ left) more) ∙ c.arguments.invariant))

pub returns-clause-elements : goal.returns-clause-elements
returns-clause-elements c =
    found-all _ _ _ (arguments_from-end c.arguments.left c.args.rows.now c.arguments.argument c.behind-end.result c.arguments-test.false) c.arguments.invariant
