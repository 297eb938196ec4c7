use Rattle.sym_calls.proofs.Basics.{◌∙◌, ap, type_answer, ending_of, written}
use Rattle.sym_calls.proofs.Ending.{appended-ends, no-symbol-lists, not-appended-ends}
use Rattle.sym_calls.proofs.text.type_by.Goals as goal

-- there is no memory for lists
pub returns-in-Err : goal.returns-in-Err
returns-in-Err g c = no-symbol-lists (type_answer (g.D.Demangler.answer c.args.demangler.now) c.args.name.now) 0 c.args.buffer.now _ (ap (λ o. ending_of o c.args.buffer.now) c.no_memory.ensures)

pub returns-in-Ok-append_type : goal.returns-in-Ok-append_type
returns-in-Ok-append_type g c =
    appended-ends (type_answer (g.D.Demangler.answer c.args.demangler.now) c.args.name.now) 0 c.args.buffer.now c.new-text.result.items c.append_type.new.out.items c.append_type.result c.in-Ok-append_type.field-0 _
    c.new-text.ensures.items c.in-Ok-append_type.is c.append_type.ensures (c.write.ensures ∙ ap (λ b. written b c.args.buffer.now) c.deref.ensures.value)

-- the type has no text
pub returns : goal.returns
returns g c =
    not-appended-ends (type_answer (g.D.Demangler.answer c.args.demangler.now) c.args.name.now) 0 c.args.buffer.now c.new-text.result.items c.append_type.new.out.items c.append_type.result c.in-Err-append_type.refusal _
    c.in-Err-append_type.is c.append_type.ensures c.of_refusal.ensures
