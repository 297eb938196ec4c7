use Rattle.std.proofs.Common.{◌≡◌, refl, ◌+◌, subst, sym, ◌++◌, drop}
use Rattle.cpp_spelled.specs.Outline.{nowhere, outline_from, outline_of}
use Rattle.cpp_spelled.proofs.Outlining.{keeps, next_open, next_closed, ended}
use Rattle.cpp_spelled.proofs.outline.outline_of.Goals as goal

pub returns-in_default-clause-outline : goal.returns-in_default-clause-outline
returns-in_default-clause-outline c = ended c.args.rows.now c.rows.outline.items c.rows.number c.rows.invariant c.in_default.ensures.lookup.3

pub rows-preserved-then-is : goal.rows-preserved-then-is
rows-preserved-then-is c =
    subst (λ xs. xs ++ outline_from c.args.rows.now c.max-number.result c.max-number.result (drop c.max-number.result c.args.rows.now) ≡ outline_of c.args.rows.now)
    (sym c.in_ok-push_within.ensures.items)
    (keeps c.args.rows.now c.rows.outline.items c.rows.number c.max-number.result c.in-Some.row.now c.outlined-row.result c.rows.invariant
    c.in-Some.ensures.lookup.3.0 (c.in-Some.ensures.lookup.3.1 nowhere) c.outlined-row.ensures
    (next_closed c.rows.number c.max-number.result c.in-Some.row.now c.outlined-row.result c.args.rows.now c.is.result c.outlined-row.ensures c.is.ensures c.if-is.true c.max-number.ensures))

pub rows-preserved : goal.rows-preserved
rows-preserved c =
    subst (λ xs. xs ++ outline_from c.args.rows.now (c.rows.number + 1) (c.rows.number + 1) (drop (c.rows.number + 1) c.args.rows.now) ≡ outline_of c.args.rows.now)
    (sym c.in_ok-push_within.ensures.items)
    (keeps c.args.rows.now c.rows.outline.items c.rows.number (c.rows.number + 1) c.in-Some.row.now c.outlined-row.result c.rows.invariant
    c.in-Some.ensures.lookup.3.0 (c.in-Some.ensures.lookup.3.1 nowhere) c.outlined-row.ensures
    (next_open c.rows.number (c.rows.number + 1) c.in-Some.row.now c.outlined-row.result c.args.rows.now c.is.result c.outlined-row.ensures c.is.ensures c.if-is.false refl))
