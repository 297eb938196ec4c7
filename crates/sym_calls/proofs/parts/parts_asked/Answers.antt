use Rattle.sym_calls.proofs.Basics.{◌∙◌, Some, true, false, ap, refl, sym, ending_of}
use Rattle.sym_calls.proofs.Parting.{asked-parts-end, no-parts-end}
use Rattle.sym_calls.proofs.parts.parts_asked.Goals as goal

pub returns-then-not-have_parts : goal.returns-then-not-have_parts
returns-then-not-have_parts c =
    no-parts-end (Some c.args.asked) c.args.asked c.args.limit c.args.name.now c.args.buffer.now c.args.parts.now _ _ refl (sym c.have_parts.ensures ∙ c.if-not-have_parts.true)
    c.requires (ap (λ o. ending_of o c.args.buffer.now) c.alone.ensures)

pub returns-then-asked : goal.returns-then-asked
returns-then-asked c =
    asked-parts-end (Some c.args.asked) c.args.asked true c.args.limit c.args.name.now c.args.buffer.now c.args.parts.now _ refl (sym c.have_parts.ensures ∙ c.if-not-have_parts.false) c.if-asked.true c.parts_in.ensures

pub returns : goal.returns
returns c =
    asked-parts-end (Some c.args.asked) c.args.asked false c.args.limit c.args.name.now c.args.buffer.now c.args.parts.now _ refl (sym c.have_parts.ensures ∙ c.if-not-have_parts.false) c.if-asked.false c.parts_in-2.ensures
