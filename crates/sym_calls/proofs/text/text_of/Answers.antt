use Rattle.sym_calls.proofs.Basics.{true, false, sym, ◌∙◌, EndsAs, name_or_type_told}
use Rattle.sym_calls.proofs.Ending.{by-width, text-ends}
use Rattle.sym_calls.proofs.text.text_of.Goals as goal

pub returns-then-asked : goal.returns-then-asked
returns-then-asked c =
    text-ends _ c.in-Some.asked c.args.limit c.args.name.now c.args.buffer.now _ (sym c.asked_of.ensures ∙ c.in-Some.is)
    (by-width (λ answers found. EndsAs (name_or_type_told answers c.in-Some.asked c.args.name.now c.args.buffer.now) c.args.buffer.now found) c.in-Some.asked true c.args.limit _ c.if-asked.true c.text_in.ensures)

pub returns : goal.returns
returns c =
    text-ends _ c.in-Some.asked c.args.limit c.args.name.now c.args.buffer.now _ (sym c.asked_of.ensures ∙ c.in-Some.is)
    (by-width (λ answers found. EndsAs (name_or_type_told answers c.in-Some.asked c.args.name.now c.args.buffer.now) c.args.buffer.now found) c.in-Some.asked false c.args.limit _ c.if-asked.false c.text_in-2.ensures)
