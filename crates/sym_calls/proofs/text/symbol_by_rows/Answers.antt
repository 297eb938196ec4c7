use Rattle.sym_calls.proofs.Basics.{ap, ◌∙◌, TooLong, ending_of, written}
use Rattle.sym_calls.proofs.Ending.{no-symbol-lists, read-ends, refusal-ends}
use Rattle.sym_calls.proofs.text.symbol_by_rows.Goals as goal

-- there is no memory for lists
pub returns-in-Err : goal.returns-in-Err
returns-in-Err g c = no-symbol-lists (g.D.Demangler.answer c.args.demangler.now c.args.kind c.args.symbol.now) c.args.kind.skip c.args.buffer.now _ (ap (λ o. ending_of o c.args.buffer.now) c.no_memory.ensures)

pub returns-in-Text : goal.returns-in-Text
returns-in-Text g c =
    read-ends (g.D.Demangler.answer c.args.demangler.now c.args.kind c.args.symbol.now) c.args.kind.skip c.args.buffer.now
    c.new-text.result.items c.demangle.new.out.items _ c.new-text.ensures.items c.in-Text.ensures.1 (c.write.ensures ∙ ap (λ b. written b c.args.buffer.now) c.deref.ensures.value)

pub returns-in-TooLong : goal.returns-in-TooLong
returns-in-TooLong g c =
    refusal-ends TooLong (g.D.Demangler.answer c.args.demangler.now c.args.kind c.args.symbol.now) c.args.kind.skip c.args.buffer.now _
    (λ e. c.in-TooLong.ensures.1) c.of_refusal.ensures

pub returns : goal.returns
returns g c =
    refusal-ends c.in-Refused.refusal (g.D.Demangler.answer c.args.demangler.now c.args.kind c.args.symbol.now) c.args.kind.skip c.args.buffer.now _
    (λ other. (c.in-Refused.ensures.0 other).0) c.of_refusal-in-Refused.ensures
