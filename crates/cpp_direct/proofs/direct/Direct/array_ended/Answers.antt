use Rattle.cpp_direct.proofs.ForAnswers.{ap, ◌∙◌, refl, subst, sym, IsElementPassed, symbol_by, Writes, with_hidden, array-written, popped, Open}
use Rattle.cpp_direct.proofs.direct.Direct.array_ended.Goals as goal

pub pass_element-requires-clause-passed : goal.pass_element-requires-clause-passed
pass_element-requires-clause-passed g c =
    let w = c.args.self.now in
    let begun = record w { waiting = c.pop-open.new.self } in
    let p = c.requires.read in
    let s = symbol_by g.G.Grammar.IS_WIDE g.G.Grammar.IS_BARE g.G.Grammar.IS_BRIEF c.args.s.now in
    subst (λ b. IsElementPassed s c.add_hidden.new.self b) (sym c.is_lvalue.ensures)
    (array-written s c.requires.fits w begun c.push.new.self c.push-2.new.self c.push_byte.new.self c.add_hidden.new.self c.args.access c.args.from
    c.args.to p c.normal.result.now refl refl refl refl
    (popped w.waiting.list.items c.pop-open.new.self.list.items p.taker.rest (Open.Array c.args.access c.args.from c.args.to) _ refl p.open_is c.pop-open.ensures.rest)
    (subst (λ l. Writes begun c.push.new.self l) c.array_opening.ensures c.in_ok-push.ensures) c.normal.ensures c.in_ok-push-2.ensures c.in_ok-push_byte.ensures
    (c.in_ok-add_hidden.ensures.candidates ∙ ap (λ b. with_hidden c.push_byte.new.self b) c.is_marked.ensures)
    c.add_hidden.ensures.text c.add_hidden.ensures.open c.add_hidden.ensures.scope c.add_hidden.ensures.at)
