use Rattle.cpp_direct.proofs.ForAnswers.{◌∷◌, [], ◌∙◌, ap, refl, reverse, subst, sym, false, StandsAt, known-next, literal-read}
use Rattle.cpp_direct.proofs.direct.Direct.next_literal.Goals as goal

pub plain_literal-requires-clause-letter : goal.plain_literal-requires-clause-letter
plain_literal-requires-clause-letter g c = subst (λ n. StandsAt c.args.s.now n (76 ∷ [])) (sym c.in_ok-push_pair.ensures.at) c.requires.letter

pub note_argument-requires : goal.note_argument-requires
note_argument-requires g c =
    let old = c.args.self.now in
    let mid = c.push_pair.new.self in
    let p = c.requires.awaits in
    record {
      read = literal-read _ mid _ c.plain_literal.new.self c.end-from.result c.in_ok-number.number old.at c.args.known
          (known-next _ old mid false c.args.last c.in_ok-number.number c.args.known p c.in_ok-push_pair.ensures c.in_ok-number.ensures.1)
          (ap (λ v. reverse v.list.items) c.in_ok-push_pair.ensures.waiting ∙ p.open_is) c.end-from.ensures c.in_ok-push.ensures.items refl refl refl
          c.in_ok-push_pair.ensures.at c.in_ok-plain_literal.ensures;
    }
