use Rattle.cpp_direct.proofs.ForAnswers.{refl, nowhere, nil, last-found, waits-last, list-ends, no-pack, nothing-known, pack-ends, popped, Open}
use Rattle.cpp_direct.proofs.direct.Direct.list_ended.Goals as goal

pub close_list-requires-clause-ended : goal.close_list-requires-clause-ended
close_list-requires-clause-ended g c =
    let w = c.args.self.now in
    rw c.in_ok-self.ensures.1
    (list-ends _ w c.args.is_first nowhere c.requires.writing c.requires.letter
    (no-pack w c.in_ok-last.field-0.now (waits-last _ _ _ _ c.as_slice.ensures c.in_ok-last.ensures.value refl) c.in_default.not-Pack)
    (nothing-known w.text.list.items c.requires.writing.is_before.1 nil))

pub returns-else-is_first : goal.returns-else-is_first
returns-else-is_first g c =
    let old = c.args.self.now in
    let w = record old { waiting = c.pop-open.new.self; at = c.in_ok-self.field-0 } in
    let last = last-found old.waiting.list.items Open.Pack (waits-last _ _ _ _ c.as_slice.ensures c.in_ok-last.ensures.value c.in-Pack.is) in
    pack-ends _ old w (rw c.if-is_first.false at c.requires.writing) c.requires.letter last.0 last.1 refl refl refl c.in_ok-self.ensures.1
    (popped old.waiting.list.items c.pop-open.new.self.list.items last.0 Open.Pack _ refl last.1 c.pop-open.ensures.rest)
