use Rattle.sym_parts.proofs.Splitting.{adds-item}
use Rattle.std.proofs.Common.{arith}
use Rattle.sym_parts.proofs.lengths.length_of_all.Goals as goal

pub overflow_add-length-in-Item : goal.overflow_add-length-in-Item
overflow_add-length-in-Item g c =
    let sums = adds-item _ _ _ _ _ _ _ c.in-Item.ensures.0 c.parts.invariant.0 c.parts.invariant.2 c.in_ok-length-in-Item.ensures.length in
    omega (arith, sums.1, c.ranges.most.fits)

pub parts-preserved : goal.parts-preserved
parts-preserved g c =
    let sums = adds-item _ _ _ _ _ _ _ c.in-Item.ensures.0 c.parts.invariant.0 c.parts.invariant.2 c.in_ok-length-in-Item.ensures.length in
    (sums.0, c.in-Item.ensures.3, sums.1)
