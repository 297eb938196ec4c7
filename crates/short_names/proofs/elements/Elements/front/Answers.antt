use Rattle.std.proofs.Common.{arith}
use Rattle.short_names.proofs.ElementLemmas.{starts-length, first-bounds, first-are}
use Rattle.short_names.proofs.elements.Elements.front.Goals as goal

pub bounds-self-0 : goal.bounds-self-0
bounds-self-0 c = omega (arith, c.requires.1.some, starts-length _ _ c.requires.0 c.requires.1)

pub slice_bounds-result-count : goal.slice_bounds-result-count
slice_bounds-result-count c = omega (arith, (first-bounds _ _ c.requires.0 c.requires.1 c.args.count).0, c.end.ensures c.requires.0 c.requires.1)

pub slice_bounds-result-start : goal.slice_bounds-result-start
slice_bounds-result-start c = omega (arith, (first-bounds _ _ c.requires.0 c.requires.1 c.args.count).0, c.end.ensures c.requires.0 c.requires.1)

pub slice_bounds-result-end : goal.slice_bounds-result-end
slice_bounds-result-end c = omega (arith, (first-bounds _ _ c.requires.0 c.requires.1 c.args.count).1, c.end.ensures c.requires.0 c.requires.1)

pub returns : goal.returns
returns c = λ elements e. first-are _ _ elements e c.args.count c.end.result (c.end.ensures elements e)
