use Rattle.sym_calls.proofs.Basics.{◌∙◌, ap, subst, found, mangling_number, PartsEndAs, both_written, parts_ending}
use Rattle.sym_calls.proofs.Parting.{parsed-ends, parsed-refused}
use Rattle.sym_calls.proofs.parts.parts_of_symbol.Goals as goal

pub returns-in-Ok : goal.returns-in-Ok
returns-in-Ok g c =
    parsed-ends _ (found c.in-Ok.parsed) _ c.args.kind.skip c.args.buffer.now c.args.parts.now _ c.in-Ok.ensures.ok
    (subst (λ n. PartsEndAs (both_written (found c.in-Ok.parsed) n c.args.buffer.now c.args.parts.now) c.args.buffer.now c.args.parts.now (parts_ending c.write_both.result c.write_both.new.buffer c.write_both.new.parts c.write_both.new.found)) (c.number-mangling.ensures ∙ ap mangling_number c.mangling_of.ensures) c.write_both.ensures)

pub returns-in-Err : goal.returns-in-Err
returns-in-Err g c = parsed-refused _ c.in-Err.refusal _ c.args.kind.skip c.args.buffer.now c.args.parts.now c.args.found.now _ c.in-Err.ensures.err c.requires.none c.of_refusal.ensures
