use Rattle.sym_command.proofs.Basics.{◌≡◌, ◌++◌, ◌∙◌, [], sym, ap, refl, None, is_some, append-nil, kind_of, text_for-unnamed, line_of}
use Rattle.sym_command.proofs.LineLemmas.{answer_for-unnamed, complaint-line, word-line, nothing-behind}
use Rattle.sym_command.proofs.lines.push_lines.Goals as goal

pub returns-in_default-clause-line : goal.returns-in_default-clause-line
returns-in_default-clause-line g c =
    let answers = g.D.Demangler.answer c.args.demangler.now in
    let word = c.args.word.now in
    let out = c.args.out.now.items in
    let none : kind_of word ≡ None = sym (ap kind_of c.as_bytes.ensures.value) ∙ sym c.kind_of.ensures ∙ c.in_default.is in
    ([], word-line answers word word out out c.push_unnamed.new.out.items (text_for-unnamed answers word none) refl refl c.in_ok-push_unnamed.ensures.line ∙ sym (append-nil (out ++ line_of answers word)), nothing-behind answers (g.D.Demangler.are_counts c.args.demangler.now) c.args.options.stats word none)

pub returns-in_default-clause-complaint : goal.returns-in_default-clause-complaint
returns-in_default-clause-complaint g c =
    let answers = g.D.Demangler.answer c.args.demangler.now in
    let word = c.args.word.now in
    let err = c.args.err.now.items in
    let none : kind_of word ≡ None = sym (ap kind_of c.as_bytes.ensures.value) ∙ sym c.kind_of.ensures ∙ c.in_default.is in
    complaint-line c.args.options.asked answers word err c.push_unnamed.new.err.items None (answer_for-unnamed answers word none) c.in_ok-push_unnamed.ensures.complaint

pub returns-in_default-clause-has_text : goal.returns-in_default-clause-has_text
returns-in_default-clause-has_text g c =
    let none : kind_of c.args.word.now ≡ None = sym (ap kind_of c.as_bytes.ensures.value) ∙ sym c.kind_of.ensures ∙ c.in_default.is in
    sym (ap is_some (text_for-unnamed (g.D.Demangler.answer c.args.demangler.now) c.args.word.now none))
