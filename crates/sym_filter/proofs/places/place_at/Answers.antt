use Rattle.std.proofs.Common.{arith, sym, ◌∙◌}
use Rattle.sym_filter.proofs.PlainLemmas.{place_of-none, place_of-start}
use Rattle.sym_filter.proofs.places.place_at.Goals as goal

pub returns-then-at-eq0 : goal.returns-then-at-eq0
returns-then-at-eq0 c = place_of-none c.args.letters c.args.place c.args.text.now c.args.at c.if-at-eq0.true

pub returns-then-not-in_stretch : goal.returns-then-not-in_stretch
returns-then-not-in_stretch c =
    place_of-start c.args.letters c.args.place c.args.text.now c.args.at 0 (omega (arith, c.if-at-eq0.false)) c.requires (sym c.in_stretch.ensures ∙ c.if-not-in_stretch.true)
