use Rattle.sym_command.proofs.Basics.{◌≡◌, ◌∙◌, sym, ap, refl, Ok, Err, Some, is_some, append-nil, symbol_of, text_of-symbol}
use Rattle.sym_command.proofs.LineLemmas.{answer_of-symbol, complaint-line, text-line, word-line}
use Rattle.sym_command.proofs.lines.push_answer.Goals as goal

pub returns-in_ok-push-in-Ok-clause-line : goal.returns-in_ok-push-in-Ok-clause-line
returns-in_ok-push-in-Ok-clause-line g c =
    let answers = g.D.Demangler.answer c.args.demangler.now in
    let word = c.args.word.now in
    let kind = c.args.kind in
    let symbol = c.symbol_of.result.now in
    let same : symbol ≡ symbol_of kind word = c.symbol_of.ensures.symbol ∙ ap (symbol_of kind) c.as_bytes.ensures.value in
    let given = c.in-Ok.ensures in
    text-line answers word c.args.out.now.items c.append.new.out.items c.push.new.self.items given.0 (text_of-symbol answers word symbol kind (Ok given.0) c.requires.kind same given.1) given.2 c.in_ok-push-in-Ok.ensures.items

pub returns-in_ok-push-in-Ok-clause-complaint : goal.returns-in_ok-push-in-Ok-clause-complaint
returns-in_ok-push-in-Ok-clause-complaint g c =
    let answers = g.D.Demangler.answer c.args.demangler.now in
    let word = c.args.word.now in
    let kind = c.args.kind in
    let symbol = c.symbol_of.result.now in
    let same : symbol ≡ symbol_of kind word = c.symbol_of.ensures.symbol ∙ ap (symbol_of kind) c.as_bytes.ensures.value in
    let given = c.in-Ok.ensures in
    complaint-line c.args.asked answers word c.args.err.now.items c.args.err.now.items (Some (Ok given.0)) (answer_of-symbol answers word symbol kind (Ok given.0) c.requires.kind same given.1) (sym (append-nil c.args.err.now.items))

pub returns-in_ok-push-in-Ok-clause-has_text : goal.returns-in_ok-push-in-Ok-clause-has_text
returns-in_ok-push-in-Ok-clause-has_text g c =
    let answers = g.D.Demangler.answer c.args.demangler.now in
    let word = c.args.word.now in
    let kind = c.args.kind in
    let symbol = c.symbol_of.result.now in
    let same : symbol ≡ symbol_of kind word = c.symbol_of.ensures.symbol ∙ ap (symbol_of kind) c.as_bytes.ensures.value in
    let given = c.in-Ok.ensures in
    sym (ap is_some (text_of-symbol answers word symbol kind (Ok given.0) c.requires.kind same given.1))

pub returns-in_ok-push_refused-in-Err-clause-line : goal.returns-in_ok-push_refused-in-Err-clause-line
returns-in_ok-push_refused-in-Err-clause-line g c =
    let answers = g.D.Demangler.answer c.args.demangler.now in
    let word = c.args.word.now in
    let kind = c.args.kind in
    let symbol = c.symbol_of.result.now in
    let same : symbol ≡ symbol_of kind word = c.symbol_of.ensures.symbol ∙ ap (symbol_of kind) c.as_bytes.ensures.value in
    let refusal = c.in-Err.refusal in
    let refused = c.in-Err.ensures.0 c.in_ok-push_refused-in-Err.ensures.memory in
    word-line answers word word c.args.out.now.items c.append.new.out.items c.push_refused.new.out.items (text_of-symbol answers word symbol kind (Err refusal) c.requires.kind same refused) refl c.in-Err.ensures.1 c.in_ok-push_refused-in-Err.ensures.line

pub returns-in_ok-push_refused-in-Err-clause-complaint : goal.returns-in_ok-push_refused-in-Err-clause-complaint
returns-in_ok-push_refused-in-Err-clause-complaint g c =
    let answers = g.D.Demangler.answer c.args.demangler.now in
    let word = c.args.word.now in
    let kind = c.args.kind in
    let symbol = c.symbol_of.result.now in
    let same : symbol ≡ symbol_of kind word = c.symbol_of.ensures.symbol ∙ ap (symbol_of kind) c.as_bytes.ensures.value in
    let refusal = c.in-Err.refusal in
    let refused = c.in-Err.ensures.0 c.in_ok-push_refused-in-Err.ensures.memory in
    complaint-line c.args.asked answers word c.args.err.now.items c.push_refused.new.err.items (Some (Err refusal)) (answer_of-symbol answers word symbol kind (Err refusal) c.requires.kind same refused) c.in_ok-push_refused-in-Err.ensures.complaint

pub returns-in_ok-push_refused-in-Err-clause-has_text : goal.returns-in_ok-push_refused-in-Err-clause-has_text
returns-in_ok-push_refused-in-Err-clause-has_text g c =
    let answers = g.D.Demangler.answer c.args.demangler.now in
    let word = c.args.word.now in
    let kind = c.args.kind in
    let symbol = c.symbol_of.result.now in
    let same : symbol ≡ symbol_of kind word = c.symbol_of.ensures.symbol ∙ ap (symbol_of kind) c.as_bytes.ensures.value in
    let refusal = c.in-Err.refusal in
    let refused = c.in-Err.ensures.0 c.in_ok-push_refused-in-Err.ensures.memory in
    sym (ap is_some (text_of-symbol answers word symbol kind (Err refusal) c.requires.kind same refused))
