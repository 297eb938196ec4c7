use Rattle.sym_filter.proofs.Basics.{◌++◌, ◌-◌, ◌∙◌, List, ℕ, length, replicate, sym, ap, subst, refl, arith, IsHeld}
use Rattle.sym_filter.proofs.WordLemmas.{IsHeld-dots, IsHeld-part, held_of-part, held_of-dots, long-part}
use Rattle.sym_filter.proofs.words.Words.hold.Goals as goal

pub returns-then-end-eq0-clause-held : goal.returns-then-end-eq0-clause-held
returns-then-end-eq0-clause-held c = λ _.
    let self = c.args.self.now in
    (c.requires.holds.0, refl, held_of-dots self.held.items c.args.part.now self.dots c.word_end-end.result c.word_end-end.ensures.word c.if-end-eq0.true, refl)

pub returns-then-dots-end-clause-passes : goal.returns-then-dots-end-clause-passes
returns-then-dots-end-clause-passes c = λ _.
    let self = c.args.self.now in
    let end = c.word_end-end.result in
    let long = long-part self.held.items c.args.part.now self.dots end c.word_end-end.ensures.word c.if-end-eq0.false c.word_end-end.ensures.within (omega (arith, self.held.ok.0, c.if-dots-end.true)) in
    (refl, refl, c.in_ok-extend_from_slice.ensures.items ∙ ap (λ (t : List ℕ). c.args.out.now.items ++ t) c.deref.ensures.value, long)

pub invariant_of-self : goal.invariant_of-self
invariant_of-self c =
    let self = c.args.self.now in record {
      is_held = IsHeld-dots self.letters self.held.items self.dots _ c.args.part.now c.word_end-end.result self.past self.place self.is_held c.word_end-end.ensures.word c.if-end-eq0.true c.requires.holds.0 c.requires.holds.1 refl c.requires.begins;
      is_counted = self.is_counted;
    }

pub invariant_of-self-2 : goal.invariant_of-self-2
invariant_of-self-2 c =
    let self = c.args.self.now in
    let end = c.word_end-end.result in
    let held = IsHeld-part self.letters self.held.items self.dots (length c.args.part.now - end) c.args.part.now end self.past self.place self.is_held c.requires.in_run c.word_end-end.ensures.word c.if-end-eq0.false c.word_end-end.ensures.within (omega (arith, self.held.ok.0, c.if-dots-end.false)) c.requires.holds.0 c.requires.holds.1 refl c.requires.begins in record {
      is_held = subst (λ (t : List ℕ). IsHeld self.letters t (length c.args.part.now - end) self.past self.place) (sym c.in_ok-push_word.ensures.ok) held;
      is_counted = self.is_counted;
    }

pub returns-clause-held : goal.returns-clause-held
returns-clause-held c = λ _.
    let self = c.args.self.now in
    let end = c.word_end-end.result in
    (c.requires.holds.0, refl, ap (λ (t : List ℕ). t ++ replicate (length c.args.part.now - end) 46) c.in_ok-push_word.ensures.ok ∙ held_of-part self.held.items c.args.part.now self.dots end c.word_end-end.ensures.word c.word_end-end.ensures.within, refl)
