use Rattle.sym_calls.proofs.Basics.{◌∙◌, ap, sym, subst, EndsAs, answered, ending_of}
use Rattle.sym_calls.proofs.Ending.{name-ends, no-lists-end, no-name-ends, rest-of}
use Rattle.sym_calls.proofs.text.name_by.Goals as goal

pub returns-in-Err : goal.returns-in-Err
returns-in-Err g c =
    no-name-ends (g.D.Demangler.answer c.args.demangler.now) c.args.asked c.args.name.now c.args.buffer.now c.in-Err.status _ (sym c.named.ensures.is ∙ c.in-Err.is)
    (ap (λ o. ending_of o c.args.buffer.now) c.alone.ensures)

-- there is no memory for lists
pub returns-in-Err-lists : goal.returns-in-Err-lists
returns-in-Err-lists g c =
    no-lists-end (g.D.Demangler.answer c.args.demangler.now) c.args.asked c.args.name.now c.args.buffer.now c.in-Ok.kind _ (sym c.named.ensures.is ∙ c.in-Ok.is)
    (ap (λ o. ending_of o c.args.buffer.now) c.no_memory.ensures)

pub returns : goal.returns
returns g c =
    let answers = g.D.Demangler.answer c.args.demangler.now in
    name-ends answers c.args.asked c.args.name.now c.args.buffer.now c.in-Ok.kind _ (sym c.named.ensures.is ∙ c.in-Ok.is)
    (subst (λ s. EndsAs (answered (answers c.in-Ok.kind s) c.in-Ok.kind.skip c.args.buffer.now) c.args.buffer.now (ending_of c.symbol_with.result c.symbol_with.new.buffer))
    (rest-of c.in-Ok.kind.skip c.args.name.now) c.symbol_with.ensures)
