use Rattle.short_names.proofs.Basics.{[], sym, arith, get_or_past}
use Rattle.short_names.proofs.ElementLemmas.{starts-length, element-bounds, element-is}
use Rattle.short_names.proofs.elements.Elements.at.Goals as goal

pub returns-then-place-self : goal.returns-then-place-self
returns-then-place-self c = λ elements e. sym (get_or_past elements c.args.place [] (omega (arith, c.if-place-self.true, starts-length _ _ elements e)))

pub slice_bounds-result-count : goal.slice_bounds-result-count
slice_bounds-result-count c =
    omega (arith, (element-bounds _ _ c.requires.0 c.requires.1 c.args.place c.if-place-self.false).0, c.end.ensures c.requires.0 c.requires.1)

pub slice_bounds-result-start : goal.slice_bounds-result-start
slice_bounds-result-start c =
    omega (arith, (element-bounds _ _ c.requires.0 c.requires.1 c.args.place c.if-place-self.false).0, c.end.ensures c.requires.0 c.requires.1)

pub slice_bounds-result-end-2 : goal.slice_bounds-result-end-2
slice_bounds-result-end-2 c =
    omega (arith, (element-bounds _ _ c.requires.0 c.requires.1 c.args.place c.if-place-self.false).1, c.end.ensures c.requires.0 c.requires.1)

pub returns : goal.returns
returns c = λ elements e. element-is _ _ elements e c.args.place c.if-place-self.false c.end.result (c.end.ensures elements e)
