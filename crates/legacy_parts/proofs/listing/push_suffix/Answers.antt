use Rattle.legacy_parts.proofs.Basics.{◌++◌, ap, sym, ◌∙◌, append-nil, on_ok_weaker}
use Rattle.legacy_parts.proofs.Marking.{listed-suffix, no-suffix_part}
use Rattle.legacy_parts.proofs.listing.push_suffix.Goals as goal

pub returns-then-count-eq0-clause-parts : goal.returns-then-count-eq0-clause-parts
returns-then-count-eq0-clause-parts c =
    sym (ap (λ ps. c.args.found.now.stretches ++ ps) (no-suffix_part c.args.found.now.place c.args.count c.if-count-eq0.true) ∙ append-nil c.args.found.now.stretches)

pub returns-clause-parts : goal.returns-clause-parts
returns-clause-parts c =
    on_ok_weaker c.begin.result (λ is. is ∙ listed-suffix c.args.found.now c.skip.new.self c.args.count c.if-count-eq0.false c.skip.ensures.stretches c.skip.ensures.place) c.begin.ensures.stretches
