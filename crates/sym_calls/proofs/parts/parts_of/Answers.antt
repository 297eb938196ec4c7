use Rattle.sym_calls.proofs.Basics.{◌∙◌, ap, subst, sym, ending_of, PartsEndAs, parts_ending, parts_told}
use Rattle.sym_calls.proofs.Parting.{no-flag-ends}
use Rattle.sym_calls.proofs.parts.parts_of.Goals as goal

pub returns-in-None : goal.returns-in-None
returns-in-None c =
    no-flag-ends _ c.args.limit c.args.name.now c.args.buffer.now c.args.parts.now _ _ (sym c.asked_of.ensures ∙ c.in-None.is) c.none_found.ensures (ap (λ o. ending_of o c.args.buffer.now) c.alone.ensures)

pub returns-in-Some : goal.returns-in-Some
returns-in-Some c =
    subst (λ a. PartsEndAs (parts_told a c.args.limit c.args.name.now c.args.buffer.now c.args.parts.now) c.args.buffer.now c.args.parts.now (parts_ending c.parts_asked.result c.parts_asked.new.buffer c.parts_asked.new.parts c.parts_asked.new.found))
    (sym (sym c.asked_of.ensures ∙ c.in-Some.is)) c.parts_asked.ensures
