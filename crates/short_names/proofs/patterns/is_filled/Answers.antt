use Rattle.short_names.proofs.Basics.{refl, ◌∙◌, arith, filled}
use Rattle.short_names.proofs.PatternLemmas.{filled-more, filled-stops, filled-ends}
use Rattle.short_names.proofs.patterns.is_filled.Goals as goal

pub pattern-init : goal.pattern-init
unfolding filled
pattern-init c = record { within = omega arith; so_far = refl }

pub returns-in-None : goal.returns-in-None
returns-in-None c =
    let holes = c.args.holes in
    filled-stops holes.first.now holes.second.now holes.whole.now c.args.text.now c.args.pattern.now c.pattern.at c.pattern.rest.now c.pattern.invariant.so_far
    c.pattern-test.true c.in-None.ensures

pub pattern-preserved : goal.pattern-preserved
pattern-preserved c =
    let holes = c.args.holes in
    record {
      within = omega (arith, c.pattern-test.true);
      so_far =
          filled-more holes.first.now holes.second.now holes.whole.now c.args.text.now c.args.pattern.now c.pattern.at c.pattern.rest.now c.pattern.invariant.so_far
          c.pattern-test.true c.in-Some.others.now c.in-Some.ensures;
    }

pub returns : goal.returns
returns c =
    let holes = c.args.holes in
    c.is_empty.ensures
    ∙ filled-ends holes.first.now holes.second.now holes.whole.now c.args.text.now c.args.pattern.now c.pattern.at c.pattern.rest.now c.pattern.invariant.so_far
    c.pattern-test.false
