use Rattle.cpp_direct.proofs.ForAnswers.{◌≡◌, ◌+◌, ◌∷◌, [], arith, refl, nowhere, waits-last, empty-pack-ends, no-pack, none-packed, then-there}
use Rattle.cpp_direct.proofs.direct.Direct.empty_pack.Goals as goal

pub close_list-requires-clause-ended : goal.close_list-requires-clause-ended
close_list-requires-clause-ended g c =
    let w = c.args.self.now in
    let known = record nowhere { has_pack = c.args.is_first } in
    let end : c.in_ok-self-2.field-0 ≡ w.at + 3 = omega (arith, c.in_ok-self.ensures, c.in_ok-self-2.ensures) in
    rw end
    (empty-pack-ends _ w c.args.is_first known c.requires.writing
    (then-there c.args.s.now (74 ∷ 69 ∷ []) w.at c.in_ok-self.field-0 c.byte_at.result 69 c.requires.letters c.in_ok-self.ensures.1 c.if-byte_at-ne69.false (omega arith) c.byte_at.ensures)
    (no-pack w c.in_ok-last.field-0.now (waits-last _ _ _ _ c.as_slice.ensures c.in_ok-last.ensures.value refl) c.in_default.not-Pack)
    (none-packed w.text.list.items c.args.is_first c.requires.writing.is_before.1 c.requires.writing.is_before.5))
