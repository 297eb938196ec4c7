use Rattle.std.proofs.Common.{arith, refl}
use Rattle.text_colours.specs.Colored.{colored}
use Rattle.text_colours.proofs.SliceLemmas.{ended, part-more}
use Rattle.text_colours.proofs.coloring.colored.Goals as goal

pub parts-preserved : goal.parts-preserved
parts-preserved c = record {
  same = part-more c.args.text.now c.args.parts.now c.parts.part-index _ c.parts.place c.in_ok-place.place c.parts.out.items c.push_part.new.out.items (colored c.args.text.now c.args.parts.now)
      c.parts-test.true c.parts.invariant.same c.in_ok-place.ensures.text c.in_ok-place.ensures.place;
}

pub returns : goal.returns
returns c =
    ended c.args.text.now c.args.parts.now c.parts.part-index c.parts.place _ c.parts.out.items c.slice.result.now c.extend_from_slice.new.self.items (colored c.args.text.now c.args.parts.now)
    (omega (arith, c.parts-test.false)) c.parts.invariant.same c.slice.ensures refl c.in_ok-extend_from_slice.ensures.items
