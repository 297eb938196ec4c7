use Rattle.legacy_parts.proofs.Basics.{◌≡◌, ◌+◌, subst, sym, ap, ◌∙◌, arith, AreNames, AreNames-low, AreNames-none}
use Rattle.legacy_parts.proofs.Places.{last_after, last-begins, last-ends, one-on}
use Rattle.legacy_parts.proofs.spelled.last_at.Goals as goal

pub names-init : goal.names-init
names-init c =
    let names = c.requires.names in
    let low = AreNames-low c.args.symbol.now 3 c.args.hash names.0 names.1 in
    record { high = omega (arith, low); last = omega (arith, low); goes = λ others are. (others, are, last-begins c.args.symbol.now 3 others) }

pub names-preserved : goal.names-preserved
names-preserved c =
    let s = c.args.symbol.now in
    let names = c.requires.names in
    let at = c.names.at in
    let one = c.names.invariant.goes names.0 names.1 in
    let on = one-on s c.names.last at c.args.hash one.0 c.names-test.true one.1 in
    record {
      high = omega (arith, c.size_at-at.ensures.size, on.4);
      last = omega (arith, c.names-test.true);
      goes = λ others are. (
          let goes = c.names.invariant.goes others are in
          let next = one-on s c.names.last at c.args.hash goes.0 c.names-test.true goes.1 in
          (next.0, subst (λ n. AreNames s (at + n) c.args.hash next.0) (sym c.size_at-at.ensures.size) next.1, ap (λ n. last_after s at (at + n) next.0) c.size_at-at.ensures.size ∙ (next.2 ∙ goes.2)));
    }

pub names-smaller : goal.names-smaller
names-smaller c =
    let names = c.requires.names in
    let one = c.names.invariant.goes names.0 names.1 in
    let on = one-on c.args.symbol.now c.names.last c.names.at c.args.hash one.0 c.names-test.true one.1 in
    omega (arith, c.size_at-at.ensures.size, on.3, on.4, c.names-test.true)

pub returns-clause-last : goal.returns-clause-last
returns-clause-last c = λ names are. (
    let s = c.args.symbol.now in
    let goes = c.names.invariant.goes names are in
    let to : c.names.at ≡ c.args.hash = omega (arith, c.names.invariant.high, c.names-test.false) in
    let none = AreNames-none s c.args.hash goes.0 (subst (λ n. AreNames s n c.args.hash goes.0) to goes.1) in
    sym (last-ends s c.names.last c.names.at goes.0 none) ∙ goes.2)
