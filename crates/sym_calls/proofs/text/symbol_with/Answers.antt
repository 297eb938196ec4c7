use Rattle.sym_calls.proofs.Basics.{◌∙◌, ap, written}
use Rattle.sym_calls.proofs.Ending.{appended-ends, not-appended-ends}
use Rattle.sym_calls.proofs.text.symbol_with.Goals as goal

-- the text was appended
pub returns-in-Ok : goal.returns-in-Ok
returns-in-Ok g c =
    appended-ends (g.D.Demangler.answer c.args.demangler.now c.args.kind c.args.symbol.now) c.args.kind.skip c.args.buffer.now c.clear.new.self.items c.append.new.out.items c.append.result c.in-Ok.field-0 _
    c.clear.ensures.items c.in-Ok.is c.append.ensures (c.write.ensures ∙ ap (λ b. written b c.args.buffer.now) c.deref.ensures.value)

-- the text was refused
pub returns-in-Err : goal.returns-in-Err
returns-in-Err g c =
    not-appended-ends (g.D.Demangler.answer c.args.demangler.now c.args.kind c.args.symbol.now) c.args.kind.skip c.args.buffer.now c.clear.new.self.items c.append.new.out.items c.append.result c.in-Err.refusal _
    c.in-Err.is c.append.ensures c.of_refusal.ensures
