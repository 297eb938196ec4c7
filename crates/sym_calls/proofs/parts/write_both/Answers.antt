use Rattle.sym_calls.proofs.Basics.{◌∙◌, ap, map, sym, found, ending_of, numbered}
use Rattle.sym_calls.proofs.Parting.{both-full-end, both-memory, both-small-ends, put-numbered, put-text}
use Rattle.sym_calls.proofs.parts.write_both.Goals as goal

pub returns-then-not-have_room : goal.returns-then-not-have_room
returns-then-not-have_room c =
    both-small-ends (found c.args.parsed.now) c.args.mangling c.args.buffer.now c.args.parts.now _ _ (sym c.have_room.ensures ∙ c.if-not-have_room.true) c.length_of-length.ensures c.reported-told.ensures

pub returns-in_default : goal.returns-in_default
returns-in_default c =
    both-memory (found c.args.parsed.now) c.args.mangling c.args.buffer.now c.args.parts.now _ _ c.requires (ap (λ o. ending_of o c.args.buffer.now) c.no_memory.ensures)

pub returns : goal.returns
returns c =
    both-full-end (found c.args.parsed.now) c.args.mangling c.args.buffer.now _ c.args.parts.now _ _ _ (sym c.have_room.ensures ∙ c.if-not-have_room.false) c.length_of-length.ensures
    (put-text _ (found c.args.parsed.now).text _ _ c.deref-2.ensures.value c.put_text.ensures)
    (put-numbered _ c.in-Ok.list.items _ _ (found c.args.parsed.now).parts c.deref-3.ensures.value (c.in-Ok.ensures ∙ ap (map numbered) c.deref.ensures.value) c.put_parts.ensures) c.reported-told.ensures
