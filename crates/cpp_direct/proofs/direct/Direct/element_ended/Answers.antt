use Rattle.cpp_direct.proofs.ForAnswers.{arith, ap, refl, true, [], ◌∷◌, ◌∙◌, ◌+◌, ◌-◌, stands-moved, known-passes, pack-closes, popped, there}
use Rattle.cpp_direct.proofs.direct.Direct.element_ended.Goals as goal

pub returns-then-byte-eq76 : goal.returns-then-byte-eq76
returns-then-byte-eq76 g c = known-passes _ c.note_argument-more.new.self true c.args.number c.note_argument-more.result c.note_argument-more.ensures

pub returns-then-byte_at-ne69 : goal.returns-then-byte_at-ne69
returns-then-byte_at-ne69 g c = known-passes _ c.note_argument-more.new.self true c.args.number c.note_argument-more.result c.note_argument-more.ensures

pub close_list-requires-clause-ended : goal.close_list-requires-clause-ended
close_list-requires-clause-ended g c =
    let w = c.note_argument-more.new.self in
    let p = c.note_argument-more.ensures in
    pack-closes _ w _ c.args.number c.in_ok-elements.elements c.note_argument-more.result p
    (there c.args.s.now w.at c.byte_at-byte.result 69 c.if-byte-ne69.false (omega arith) c.byte_at-byte.ensures)
    (stands-moved c.args.s.now c.in_ok-behind.behind (w.at + 1) (69 ∷ []) c.in_ok-behind.ensures.1
    (there c.args.s.now c.in_ok-behind.behind c.byte_at.result 69 c.if-byte_at-ne69.false (omega arith) c.byte_at.ensures))
    (popped w.waiting.list.items c.pop-pack.new.self.list.items (p.owner ∷ p.rest) _ _ refl p.open_is c.pop-pack.ensures.rest)
    refl refl refl (c.in_ok-self.ensures.1 ∙ ap (λ n. n + 1) c.in_ok-behind.ensures.1)
    (c.in_ok-elements.ensures.1 ∙ ap (λ n. n - c.note_argument-more.result.before) c.in_ok-checked_add.ensures.1)
