use Rattle.std.proofs.Common.{◌+◌, ap, sym, ◌∙◌, length, arith, length-drop}
use Rattle.short_names.proofs.FrontLemmas.{rest-all}
use Rattle.short_names.proofs.InlineLemmas.{inlines-low, inner-inlines-low, inner-same, nested-same, nested-none}
use Rattle.short_names.proofs.inlines.Inlines.read.Goals as goal

pub inlines_size-front-requires : goal.inlines_size-front-requires
inlines_size-front-requires c = inlines-low

pub inlines_size-nested-requires : goal.inlines_size-nested-requires
inlines_size-nested-requires c = inner-inlines-low

pub returns-then-inner-eq0-clause-inner : goal.returns-then-inner-eq0-clause-inner
returns-then-inner-eq0-clause-inner c = inner-same c.args.name.now _ _ c.inlines_size-front.ensures.size c.row_size-inner.ensures.size

pub returns-then-inner-eq0-clause-nested : goal.returns-then-inner-eq0-clause-nested
returns-then-inner-eq0-clause-nested c =
    sym (nested-none c.args.name.now (sym (inner-same c.args.name.now _ _ c.inlines_size-front.ensures.size c.row_size-inner.ensures.size) ∙ c.if-inner-eq0.true))

pub returns-else-inner-eq0-clause-within : goal.returns-else-inner-eq0-clause-within
returns-else-inner-eq0-clause-within c =
    let name = c.args.name.now in
    let front = c.inlines_size-front.result in
    let inner = c.row_size-inner.result in
    omega (
      arith,
      c.inlines_size-front.ensures.within,
      c.row_size-inner.ensures.within,
      ap length (rest-all name front),
      length-drop front name,
      c.inlines_size-nested.ensures.within,
      ap length (rest-all name (front + inner)),
      length-drop (front + inner) name,
    )

pub returns-else-inner-eq0-clause-inner : goal.returns-else-inner-eq0-clause-inner
returns-else-inner-eq0-clause-inner c = inner-same c.args.name.now _ _ c.inlines_size-front.ensures.size c.row_size-inner.ensures.size

pub returns-else-inner-eq0-clause-nested : goal.returns-else-inner-eq0-clause-nested
returns-else-inner-eq0-clause-nested c =
    nested-same c.args.name.now _ _ _ c.inlines_size-front.ensures.size
    (inner-same c.args.name.now _ _ c.inlines_size-front.ensures.size c.row_size-inner.ensures.size) c.if-inner-eq0.false c.inlines_size-nested.ensures.size
