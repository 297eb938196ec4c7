use Rattle.sym_calls.proofs.Basics.{◌≤◌, sym, subst, arith, ◌∙◌, ◌-◌, length, take, drop, get_or, length-take-le, IsTold}
use Rattle.sym_calls.proofs.Ending.{rest-of}
use Rattle.sym_calls.proofs.Telling.{ends-at, buffer-after, buffer-within, told-more, told-all}
use Rattle.sym_calls.proofs.texts.tell_each.Goals as goal

pub slice_bounds-name-count : goal.slice_bounds-name-count
slice_bounds-name-count g c = (ends-at c.each.from (length c.args.names.now) c.args.ends.now c.each.i c.each-test.true c.each.invariant.ends).0

pub slice_bounds-name-start : goal.slice_bounds-name-start
slice_bounds-name-start g c = (ends-at c.each.from (length c.args.names.now) c.args.ends.now c.each.i c.each-test.true c.each.invariant.ends).0

pub slice_bounds-name-end : goal.slice_bounds-name-end
slice_bounds-name-end g c = (ends-at c.each.from (length c.args.names.now) c.args.ends.now c.each.i c.each-test.true c.each.invariant.ends).1

-- one more name gets its outcome
pub each-preserved : goal.each-preserved
each-preserved g c =
    let answers = g.D.Demangler.answer c.args.demangler.now in
    let after = buffer-after c.each.at c.each.buffer c.told_of-outcome.new.buffer c.each.invariant.within in
    let is = subst (λ l. IsTold answers c.args.asked (take (get_or c.args.ends.now c.each.i 0 - c.each.from) (drop c.each.from c.args.names.now)) l c.told_of-outcome.result c.told_of-outcome.new.buffer)
    (rest-of c.each.at c.each.buffer) c.told_of-outcome.ensures.told in
    record {
      within = buffer-within c.each.at c.placed-at.result c.each.buffer c.told_of-outcome.new.buffer _ c.each.invariant.within after (subst (λ n. n ≤ length c.told_of-outcome.new.buffer) (sym c.placed-at.ensures) c.told_of-outcome.ensures.within);
      ends = (ends-at c.each.from (length c.args.names.now) c.args.ends.now c.each.i c.each-test.true c.each.invariant.ends).2;
      told = rw (c.placed-at.ensures) (told-more answers c.args.asked c.args.names.now c.args.ends.now c.args.buffer.now (drop c.each.at c.each.buffer) (take c.each.at c.each.buffer) c.told_of-outcome.new.buffer _ c.each.from c.each.at c.each.i c.told_of-outcome.result c.each.outcomes
          c.each-test.true (omega (arith, c.each-test.true, c.requires.outcomes, c.each.auto.outcomes)) (length-take-le c.each.at c.each.buffer c.each.invariant.within) after is c.each.invariant.told);
    }

pub returns-clause-told : goal.returns-clause-told
returns-clause-told g c =
    told-all (g.D.Demangler.answer c.args.demangler.now) c.args.asked c.args.names.now c.args.ends.now c.args.buffer.now c.each.buffer c.each.from c.each.at c.each.i c.each.outcomes
    (omega (arith, c.each-test.false)) (c.each.auto.outcomes ∙ c.requires.outcomes) c.each.invariant.told
