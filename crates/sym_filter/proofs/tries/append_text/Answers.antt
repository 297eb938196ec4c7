use Rattle.sym_filter.proofs.Basics.{◌≡◌, ◌++◌, ◌∙◌, [], sym, ap, None, is_some, unwrap_or, append-nil, kind_of}
use Rattle.sym_filter.proofs.RunLemmas.{text_for-unnamed}
use Rattle.sym_filter.proofs.tries.append_text.Goals as goal

pub returns-in_default-clause-text : goal.returns-in_default-clause-text
returns-in_default-clause-text g c =
    let answers = g.D.Demangler.answer c.args.demangler.now in
    let none : kind_of c.args.word.now ≡ None = sym c.kind_of.ensures ∙ c.in_default.is in
    sym (ap (λ o. c.args.out.now.items ++ unwrap_or o []) (text_for-unnamed answers c.args.word.now none) ∙ append-nil c.args.out.now.items)

pub returns-in_default-clause-has_text : goal.returns-in_default-clause-has_text
returns-in_default-clause-has_text g c =
    let answers = g.D.Demangler.answer c.args.demangler.now in
    let none : kind_of c.args.word.now ≡ None = sym c.kind_of.ensures ∙ c.in_default.is in
    sym (ap is_some (text_for-unnamed answers c.args.word.now none))
