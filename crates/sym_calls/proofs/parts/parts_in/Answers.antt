use Rattle.sym_calls.proofs.Basics.{true, false, PartsEndAs, name_parts_told, parts_ending}
use Rattle.sym_calls.proofs.Parting.{parses-as-legacy}
use Rattle.sym_calls.proofs.parts.parts_in.Goals as goal

pub returns-then-asked : goal.returns-then-asked
returns-then-asked g c =
    parses-as-legacy (λ parses. PartsEndAs (name_parts_told parses c.args.asked c.args.name.now c.args.buffer.now c.args.parts.now) c.args.buffer.now c.args.parts.now (parts_ending c.parts_by.result c.parts_by.new.buffer c.parts_by.new.parts c.parts_by.new.found)) g.C.Marked.over g.C.Marked.marking c.args.asked true
    c.args.limit _ _ c.if-asked.true c.with_legacy-legacy.ensures.limit c.with_legacy-legacy.ensures.detail c.parts_by.ensures

pub returns : goal.returns
returns g c =
    parses-as-legacy (λ parses. PartsEndAs (name_parts_told parses c.args.asked c.args.name.now c.args.buffer.now c.args.parts.now) c.args.buffer.now c.args.parts.now (parts_ending c.parts_by-2.result c.parts_by-2.new.buffer c.parts_by-2.new.parts c.parts_by-2.new.found)) g.C.Marked.over g.C.Marked.marking c.args.asked false
    c.args.limit _ _ c.if-asked.false c.languages-languages.ensures.limit c.languages-languages.ensures.detail c.parts_by-2.ensures
