use Rattle.sym_calls.proofs.Basics.{◌∙◌, ap, sym, subst, ending_of, mangling_number, mangling_of, PartsEndAs, parsed_told, parts_ending}
use Rattle.sym_calls.proofs.Ending.{rest-of}
use Rattle.sym_calls.proofs.Parting.{name-parts-end, no-name-parts-end}
use Rattle.sym_calls.proofs.parts.parts_by.Goals as goal

pub returns-in-Ok : goal.returns-in-Ok
returns-in-Ok g c =
    let parses = g.P.Parser.parsed c.args.parser.now in
    let kind = c.in-Ok.kind in
    name-parts-end parses c.args.asked c.args.name.now c.args.buffer.now c.args.parts.now kind _ (sym c.named.ensures.is ∙ c.in-Ok.is)
    (subst (λ s. PartsEndAs (parsed_told (parses kind s) (mangling_number (mangling_of c.args.asked.legacy kind.lang s)) kind.skip c.args.buffer.now c.args.parts.now) c.args.buffer.now c.args.parts.now
    (parts_ending c.parts_of_symbol.result c.parts_of_symbol.new.buffer c.parts_of_symbol.new.parts c.parts_of_symbol.new.found))
    (rest-of kind.skip c.args.name.now) c.parts_of_symbol.ensures)

pub returns-in-Err : goal.returns-in-Err
returns-in-Err g c =
    no-name-parts-end (g.P.Parser.parsed c.args.parser.now) c.args.asked c.args.name.now c.args.buffer.now c.args.parts.now c.in-Err.status c.args.found.now _ (sym c.named.ensures.is ∙ c.in-Err.is) c.requires
    (ap (λ o. ending_of o c.args.buffer.now) c.alone.ensures)
