use Rattle.std.proofs.Common.{◌++◌, ◌∙◌, ap, arith}
use Rattle.legacy_parts.proofs.Answering.{short-written}
use Rattle.legacy_parts.proofs.parsing.parse.Goals as goal

pub stretches_in-requires-clause-fits : goal.stretches_in-requires-clause-fits
stretches_in-requires-clause-fits c =
    let wrote = c.in_ok-push_text.ensures.text in
    let shows = c.deref.ensures.value ∙ wrote.2 ∙ ap (λ old. old ++ wrote.0) c.new-text.ensures.items in
    omega (arith, short-written c.args.limit c.args.symbol.now wrote.0 _ c.requires.placed.0 c.requires.placed.1 wrote.1 shows, c.ranges.limit.fits)

pub kind_of-kind-requires-clause-fits : goal.kind_of-kind-requires-clause-fits
kind_of-kind-requires-clause-fits c =
    let wrote = c.in_ok-push_text.ensures.text in
    let shows = c.deref-3.ensures.value ∙ wrote.2 ∙ ap (λ old. old ++ wrote.0) c.new-text.ensures.items in
    omega (arith, short-written c.args.limit c.args.symbol.now wrote.0 _ c.requires.placed.0 c.requires.placed.1 wrote.1 shows, c.ranges.limit.fits)
