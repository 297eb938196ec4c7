use Rattle.cpp_direct.proofs.ForAnswers.{◌∷◌, [], arith, refl, sym, ◌∙◌, inl, inr, clone-begins, stands-join, then-there}
use Rattle.cpp_direct.proofs.direct.Direct.begin_clone.Goals as goal

pub begin_encoding-requires-clause-awaits : goal.begin_encoding-requires-clause-awaits
begin_encoding-requires-clause-awaits g c =
    let letter = c.byte_at-2.result in
    let is = c.in_ok-text.ensures in
    let last = c.byte_at-2.ensures (λ e. elim is.0 [ inl f ↦ omega (arith, e, f) | inr f ↦ omega (arith, e, f) ]) in
    clone-begins _ c.args.self.now c.push.new.self letter c.requires.fresh c.requires.apart c.requires.other
    (sym c.IS_WIDE.ensures ∙ c.if-not-IS_WIDE.false) is.0 c.requires.starts
    (stands-join c.args.s.now 2 (71 ∷ 84 ∷ []) (letter ∷ [])
    (then-there c.args.s.now (71 ∷ []) 2 3 c.byte_at.result 84 c.requires.first refl c.if-byte_at-ne84.false (omega arith) c.byte_at.ensures) last)
    (rw is.1 at c.in_ok-push.ensures)
