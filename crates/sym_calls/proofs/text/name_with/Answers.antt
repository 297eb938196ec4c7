use Rattle.sym_calls.proofs.Basics.{◌∙◌, ap, sym, subst, EndsAs, answered, ending_of}
use Rattle.sym_calls.proofs.Ending.{name-ends, no-name-ends, rest-of}
use Rattle.sym_calls.proofs.text.name_with.Goals as goal

pub returns-in-Ok : goal.returns-in-Ok
returns-in-Ok g c =
    let answers = g.D.Demangler.answer c.args.demangler.now in
    name-ends answers c.args.asked c.args.name.now c.args.buffer.now c.in-Ok.kind _ (sym c.named.ensures.is ∙ c.in-Ok.is)
    (subst (λ s. EndsAs (answered (answers c.in-Ok.kind s) c.in-Ok.kind.skip c.args.buffer.now) c.args.buffer.now (ending_of c.symbol_with.result c.symbol_with.new.buffer))
    (rest-of c.in-Ok.kind.skip c.args.name.now) c.symbol_with.ensures)

pub returns-in-Err : goal.returns-in-Err
returns-in-Err g c =
    no-name-ends (g.D.Demangler.answer c.args.demangler.now) c.args.asked c.args.name.now c.args.buffer.now c.in-Err.status _ (sym c.named.ensures.is ∙ c.in-Err.is)
    (ap (λ o. ending_of o c.args.buffer.now) c.alone.ensures)
