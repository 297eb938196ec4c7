use Rattle.sym_filter.proofs.Basics.{◌++◌, ◌∙◌, List, ℕ, sym, ap, is_some, text_of_tries}
use Rattle.sym_filter.proofs.TryLemmas.{nothing-appended, text_for-within, tries-read, tries-unread}
use Rattle.sym_filter.proofs.tries.push_tries.Goals as goal

pub returns-then-has_text-clause-text : goal.returns-then-has_text-clause-text
returns-then-has_text-clause-text g c =
    let answers = g.D.Demangler.answer c.args.demangler.now in
    let tries = c.in_ok-has_text.ensures in
    tries.text ∙ ap (λ (t : List ℕ). c.args.out.now.items ++ t) (sym (tries-read answers c.args.word.now c.args.kind c.requires (sym tries.has_text ∙ c.if-has_text.true)))

pub returns-then-has_text-clause-has_text : goal.returns-then-has_text-clause-has_text
returns-then-has_text-clause-has_text g c =
    let answers = g.D.Demangler.answer c.args.demangler.now in
    let tries = c.in_ok-has_text.ensures in
    sym (ap is_some (text_for-within answers c.args.word.now c.args.kind c.requires) ∙ sym tries.has_text ∙ c.if-has_text.true)

pub returns-clause-text : goal.returns-clause-text
returns-clause-text g c =
    let answers = g.D.Demangler.answer c.args.demangler.now in
    let tries = c.in_ok-has_text.ensures in
    let none = sym tries.has_text ∙ c.if-has_text.false in
    c.in_ok-extend_from_slice.ensures.items
    ∙ ap (λ (t : List ℕ). t ++ c.args.word.now) (nothing-appended c.args.out.now.items _ (text_of_tries answers c.args.word.now) tries.text none)
    ∙ ap (λ (t : List ℕ). c.args.out.now.items ++ t) (sym (tries-unread answers c.args.word.now c.args.kind c.requires none))

pub returns-clause-has_text : goal.returns-clause-has_text
returns-clause-has_text g c =
    let answers = g.D.Demangler.answer c.args.demangler.now in
    let tries = c.in_ok-has_text.ensures in
    sym (ap is_some (text_for-within answers c.args.word.now c.args.kind c.requires) ∙ sym tries.has_text ∙ c.if-has_text.false)
