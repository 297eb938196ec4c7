use Rattle.sym_command.proofs.Basics.{◌≡◌, subst, ◌++◌, ◌∷◌, ◌∙◌, [], List, ℕ, sym, ap, refl, Ok, Err, Some, true, is_some, append-nil, symbol_of, BeginsWith, text_of-symbol, line_of, counts_text}
use Rattle.sym_core.specs.declared.refusal.Refusal.TheVariants as refusals
use Rattle.sym_command.proofs.LineLemmas.{answer_of-symbol, begins-then, complaint-line, text-line, word-line, counts-behind, refused-behind}
use Rattle.sym_command.proofs.lines.push_counted.Goals as goal

pub returns-in_ok-push_counts-in-Text-clause-line : goal.returns-in_ok-push_counts-in-Text-clause-line
returns-in_ok-push_counts-in-Text-clause-line g c =
    let answers = g.D.Demangler.answer c.args.demangler.now in
    let word = c.args.word.now in
    let symbol = c.symbol_of.result.now in
    let kind = c.args.kind in
    let same : symbol ≡ symbol_of kind word = c.symbol_of.ensures.symbol ∙ ap (symbol_of kind) c.as_bytes.ensures.value in
    let counting = g.D.Demangler.are_counts c.args.demangler.now in
    let counts = c.in-Text.counts in
    let behind : List ℕ = counts_text counts.rows counts.nodes counts.steps ++ 10 ∷ [] in
    let given = c.in-Text.ensures.1 in
    let line = text-line answers word c.args.out.now.items c.demangle.new.out.items c.push.new.self.items given.0 (text_of-symbol answers word symbol kind (Ok given.0) c.requires.kind same given.1) given.2 c.in_ok-push-in-Text.ensures.items in (
      behind,
      c.in_ok-push_counts-in-Text.ensures.line ∙ ap (λ (t : List ℕ). t ++ behind) line,
      counts-behind answers counting true word symbol kind (Ok given.0) counts refl c.requires.kind same (answer_of-symbol answers word symbol kind (Ok given.0) c.requires.kind same given.1) refl c.in-Text.ensures.0,
    )

pub returns-in_ok-push_counts-in-Text-clause-complaint : goal.returns-in_ok-push_counts-in-Text-clause-complaint
returns-in_ok-push_counts-in-Text-clause-complaint g c =
    let answers = g.D.Demangler.answer c.args.demangler.now in
    let word = c.args.word.now in
    let symbol = c.symbol_of.result.now in
    let kind = c.args.kind in
    let same : symbol ≡ symbol_of kind word = c.symbol_of.ensures.symbol ∙ ap (symbol_of kind) c.as_bytes.ensures.value in
    let given = c.in-Text.ensures.1 in
    complaint-line c.args.asked answers word c.args.err.now.items c.args.err.now.items (Some (Ok given.0)) (answer_of-symbol answers word symbol kind (Ok given.0) c.requires.kind same given.1) (sym (append-nil c.args.err.now.items))

pub returns-in_ok-push_counts-in-Text-clause-has_text : goal.returns-in_ok-push_counts-in-Text-clause-has_text
returns-in_ok-push_counts-in-Text-clause-has_text g c =
    let answers = g.D.Demangler.answer c.args.demangler.now in
    let word = c.args.word.now in
    let symbol = c.symbol_of.result.now in
    let kind = c.args.kind in
    let same : symbol ≡ symbol_of kind word = c.symbol_of.ensures.symbol ∙ ap (symbol_of kind) c.as_bytes.ensures.value in
    let given = c.in-Text.ensures.1 in
    sym (ap is_some (text_of-symbol answers word symbol kind (Ok given.0) c.requires.kind same given.1))

pub returns-in_ok-push_counts-in-TooLong-clause-line : goal.returns-in_ok-push_counts-in-TooLong-clause-line
returns-in_ok-push_counts-in-TooLong-clause-line g c =
    let answers = g.D.Demangler.answer c.args.demangler.now in
    let word = c.args.word.now in
    let symbol = c.symbol_of.result.now in
    let kind = c.args.kind in
    let same : symbol ≡ symbol_of kind word = c.symbol_of.ensures.symbol ∙ ap (symbol_of kind) c.as_bytes.ensures.value in
    let counting = g.D.Demangler.are_counts c.args.demangler.now in
    let counts = c.in-TooLong.counts in
    let behind : List ℕ = counts_text counts.rows counts.nodes counts.steps ++ 10 ∷ [] in
    let answered = answer_of-symbol answers word symbol kind (Err refusals.TooLong) c.requires.kind same c.in-TooLong.ensures.1 in
    let line = word-line answers word word c.args.out.now.items c.demangle.new.out.items c.push_refused.new.out.items (text_of-symbol answers word symbol kind (Err refusals.TooLong) c.requires.kind same c.in-TooLong.ensures.1) refl c.in-TooLong.ensures.2 c.in_ok-push_refused-in-TooLong.ensures.line in (
      behind,
      c.in_ok-push_counts-in-TooLong.ensures.line ∙ ap (λ (t : List ℕ). t ++ behind) line,
      counts-behind answers counting true word symbol kind (Err refusals.TooLong) counts refl c.requires.kind same answered refl c.in-TooLong.ensures.0,
    )

pub returns-in_ok-push_counts-in-TooLong-clause-complaint : goal.returns-in_ok-push_counts-in-TooLong-clause-complaint
returns-in_ok-push_counts-in-TooLong-clause-complaint g c =
    let answers = g.D.Demangler.answer c.args.demangler.now in
    let word = c.args.word.now in
    let symbol = c.symbol_of.result.now in
    let kind = c.args.kind in
    let same : symbol ≡ symbol_of kind word = c.symbol_of.ensures.symbol ∙ ap (symbol_of kind) c.as_bytes.ensures.value in
    let answered = answer_of-symbol answers word symbol kind (Err refusals.TooLong) c.requires.kind same c.in-TooLong.ensures.1 in
    complaint-line c.args.asked answers word c.args.err.now.items c.push_refused.new.err.items (Some (Err refusals.TooLong)) answered c.in_ok-push_refused-in-TooLong.ensures.complaint

pub returns-in_ok-push_counts-in-TooLong-clause-has_text : goal.returns-in_ok-push_counts-in-TooLong-clause-has_text
returns-in_ok-push_counts-in-TooLong-clause-has_text g c =
    let answers = g.D.Demangler.answer c.args.demangler.now in
    let word = c.args.word.now in
    let symbol = c.symbol_of.result.now in
    let kind = c.args.kind in
    let same : symbol ≡ symbol_of kind word = c.symbol_of.ensures.symbol ∙ ap (symbol_of kind) c.as_bytes.ensures.value in
    sym (ap is_some (text_of-symbol answers word symbol kind (Err refusals.TooLong) c.requires.kind same c.in-TooLong.ensures.1))

pub returns-in_ok-push_refused-in-Refused-clause-line : goal.returns-in_ok-push_refused-in-Refused-clause-line
returns-in_ok-push_refused-in-Refused-clause-line g c =
    let answers = g.D.Demangler.answer c.args.demangler.now in
    let word = c.args.word.now in
    let symbol = c.symbol_of.result.now in
    let kind = c.args.kind in
    let same : symbol ≡ symbol_of kind word = c.symbol_of.ensures.symbol ∙ ap (symbol_of kind) c.as_bytes.ensures.value in
    let refusal = c.in-Refused.refusal in
    let refused = c.in-Refused.ensures.0 c.in_ok-push_refused-in-Refused.ensures.memory in
    let answered = answer_of-symbol answers word symbol kind (Err refusal) c.requires.kind same refused.0 in
    let line = word-line answers word word c.args.out.now.items c.demangle.new.out.items c.push_refused-in-Refused.new.out.items (text_of-symbol answers word symbol kind (Err refusal) c.requires.kind same refused.0) refl c.in-Refused.ensures.1 c.in_ok-push_refused-in-Refused.ensures.line in
    ([], line ∙ sym (append-nil (c.args.out.now.items ++ line_of answers word)), refused-behind answers (g.D.Demangler.are_counts c.args.demangler.now) true word refusal answered refused.1)

pub returns-in_ok-push_refused-in-Refused-clause-complaint : goal.returns-in_ok-push_refused-in-Refused-clause-complaint
returns-in_ok-push_refused-in-Refused-clause-complaint g c =
    let answers = g.D.Demangler.answer c.args.demangler.now in
    let word = c.args.word.now in
    let symbol = c.symbol_of.result.now in
    let kind = c.args.kind in
    let same : symbol ≡ symbol_of kind word = c.symbol_of.ensures.symbol ∙ ap (symbol_of kind) c.as_bytes.ensures.value in
    let refusal = c.in-Refused.refusal in
    let refused = c.in-Refused.ensures.0 c.in_ok-push_refused-in-Refused.ensures.memory in
    let answered = answer_of-symbol answers word symbol kind (Err refusal) c.requires.kind same refused.0 in
    complaint-line c.args.asked answers word c.args.err.now.items c.push_refused-in-Refused.new.err.items (Some (Err refusal)) answered c.in_ok-push_refused-in-Refused.ensures.complaint

pub returns-in_ok-push_refused-in-Refused-clause-has_text : goal.returns-in_ok-push_refused-in-Refused-clause-has_text
returns-in_ok-push_refused-in-Refused-clause-has_text g c =
    let answers = g.D.Demangler.answer c.args.demangler.now in
    let word = c.args.word.now in
    let symbol = c.symbol_of.result.now in
    let kind = c.args.kind in
    let same : symbol ≡ symbol_of kind word = c.symbol_of.ensures.symbol ∙ ap (symbol_of kind) c.as_bytes.ensures.value in
    let refusal = c.in-Refused.refusal in
    let refused = c.in-Refused.ensures.0 c.in_ok-push_refused-in-Refused.ensures.memory in
    sym (ap is_some (text_of-symbol answers word symbol kind (Err refusal) c.requires.kind same refused.0))

pub returns-in_err-push_counts-in-Text-clause-out : goal.returns-in_err-push_counts-in-Text-clause-out
returns-in_err-push_counts-in-Text-clause-out g c =
    let given = c.in-Text.ensures.1 in
    begins-then c.args.out.now.items c.push.new.self.items c.push_counts.new.out.items
    (begins-then c.args.out.now.items c.demangle.new.out.items c.push.new.self.items (given.0, given.2) (10 ∷ [], c.in_ok-push-in-Text.ensures.items)) c.push_counts.ensures.out

pub returns-in_ok-push_counts-in-Text-clause-out : goal.returns-in_ok-push_counts-in-Text-clause-out
returns-in_ok-push_counts-in-Text-clause-out g c =
    let given = c.in-Text.ensures.1 in
    begins-then c.args.out.now.items c.push.new.self.items c.push_counts.new.out.items
    (begins-then c.args.out.now.items c.demangle.new.out.items c.push.new.self.items (given.0, given.2) (10 ∷ [], c.in_ok-push-in-Text.ensures.items)) c.push_counts.ensures.out

pub returns-in_err-push_counts-in-TooLong-clause-out : goal.returns-in_err-push_counts-in-TooLong-clause-out
returns-in_err-push_counts-in-TooLong-clause-out g c =
    begins-then c.args.out.now.items c.push_refused.new.out.items c.push_counts-in-TooLong.new.out.items
    (subst (λ (t : List ℕ). BeginsWith c.push_refused.new.out.items t) c.in-TooLong.ensures.2 c.push_refused.ensures.out) c.push_counts-in-TooLong.ensures.out

pub returns-in_ok-push_counts-in-TooLong-clause-out : goal.returns-in_ok-push_counts-in-TooLong-clause-out
returns-in_ok-push_counts-in-TooLong-clause-out g c =
    begins-then c.args.out.now.items c.push_refused.new.out.items c.push_counts-in-TooLong.new.out.items
    (subst (λ (t : List ℕ). BeginsWith c.push_refused.new.out.items t) c.in-TooLong.ensures.2 c.push_refused.ensures.out) c.push_counts-in-TooLong.ensures.out

pub returns-in_err-push_refused-in-TooLong-clause-out : goal.returns-in_err-push_refused-in-TooLong-clause-out
returns-in_err-push_refused-in-TooLong-clause-out g c = subst (λ (t : List ℕ). BeginsWith c.push_refused.new.out.items t) c.in-TooLong.ensures.2 c.push_refused.ensures.out

pub returns-in_err-push_refused-in-Refused-clause-out : goal.returns-in_err-push_refused-in-Refused-clause-out
returns-in_err-push_refused-in-Refused-clause-out g c = subst (λ (t : List ℕ). BeginsWith c.push_refused-in-Refused.new.out.items t) c.in-Refused.ensures.1 c.push_refused-in-Refused.ensures.out

pub returns-in_ok-push_refused-in-Refused-clause-out : goal.returns-in_ok-push_refused-in-Refused-clause-out
returns-in_ok-push_refused-in-Refused-clause-out g c = subst (λ (t : List ℕ). BeginsWith c.push_refused-in-Refused.new.out.items t) c.in-Refused.ensures.1 c.push_refused-in-Refused.ensures.out
