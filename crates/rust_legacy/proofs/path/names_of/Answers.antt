use Rattle.rust_legacy.proofs.Basics.{◌+◌, ◌-◌, take, drop, arith, subst, sym, AreRead}
use Rattle.rust_legacy.proofs.Legacy.{not_begun}
use Rattle.rust_legacy.proofs.Names.{ended_within}
use Rattle.rust_legacy.proofs.Reading.{are_read, begun, both, match_on, next, none_there, not_nested, not_read, not_read_on, short_symbol}
use Rattle.rust_legacy.proofs.path.names_of.Goals as goal

pub returns-then-symbol-clause-place : goal.returns-then-symbol-clause-place
returns-then-symbol-clause-place c = short_symbol c.args.symbol.now (omega (arith, c.if-symbol.true))

pub returns-then-symbol-ne78-clause-place : goal.returns-then-symbol-ne78-clause-place
returns-then-symbol-ne78-clause-place c = not_begun c.args.symbol.now (not_nested c.args.symbol.now (omega (arith, c.if-symbol.false)) c.if-symbol-ne78.true)

pub names-init : goal.names-init
names-init c =
    record {
      low = omega arith;
      near = omega arith;
      reads = λ _. begun c.args.symbol.now (omega (arith, c.if-symbol.false));
      past = λ far. absurd (omega (arith, far, c.if-symbol.false));
      paid = omega arith;
      turns = omega arith;
    }

pub returns-in_default-clause-place : goal.returns-in_default-clause-place
returns-in_default-clause-place c =
    let s = c.args.symbol.now in
    let hash = c.names.hash in
    let at = c.names.at in
    let r = c.names.invariant.reads (omega (arith, c.names-test.true)) in
    match_on c.ended.result _ _ _ _ c.ended.ensures
    (λ few. not_read s hash at r (λ more. none_there s hash at r more c.in_default.ensures.name) few)
    (λ place h. subst (AreRead s) (sym h.0) (are_read s hash at r h.2 h.1))

pub names-preserved : goal.names-preserved
names-preserved c =
    let s = c.args.symbol.now in
    let i = c.names.invariant in
    let hash = c.names.hash in
    let at = c.names.at in
    let to = c.in-Some.length.to in
    let value = c.in-Some.length.value in
    let r = i.reads (omega (arith, c.names-test.true)) in
    let h = c.in-Some.ensures.name in
    record {
      low = omega (arith, i.low, h.0);
      near = omega (arith, h.1, c.in-Some.ensures.below);
      reads = λ within. next s hash at (to + value) (to - at + value) (take value (drop to s)) r (h.4 within) (omega (arith, h.0)) (omega (arith, h.0, h.2)) within;
      past = λ far. none_there s hash at r h.3 (h.5 far);
      paid = omega (arith, i.paid, h.0, h.2);
      turns = omega (arith, i.paid, h.0, h.1);
    }

pub returns-clause-place : goal.returns-clause-place
returns-clause-place c =
    let s = c.args.symbol.now in
    let i = c.names.invariant in
    let hash = c.names.hash in
    let at = c.names.at in
    match_on c.ended-2.result _ _ _ _ c.ended-2.ensures
    (λ few. not_read_on s hash at i.reads i.past (omega (arith, c.names-test.false)) few)
    (λ place h.
    let within = ended_within s at (both _ _ h.2).0 in
    subst (AreRead s) (sym h.0) (are_read s hash at (i.reads (omega (arith, within))) h.2 h.1))
