use Rattle.sym_filter.proofs.Basics.{◌≡◌, ◌++◌, ◌∙◌, [], sym, ap, None, Ok, Err, is_some, unwrap_or, append-nil, text_for}
use Rattle.sym_filter.proofs.RunLemmas.{text_of-symbol}
use Rattle.sym_filter.proofs.tries.append_symbol.Goals as goal

pub returns-in-Ok-clause-text : goal.returns-in-Ok-clause-text
returns-in-Ok-clause-text g c =
    let answers = g.D.Demangler.answer c.args.demangler.now in
    let named = c.requires in
    let given = c.in-Ok.ensures in
    let text = text_of-symbol answers c.args.word.now c.symbol_of.result.now c.args.kind (Ok given.0) named c.symbol_of.ensures.symbol given.1 in
    given.2 ∙ ap (λ o. c.args.out.now.items ++ unwrap_or o []) (sym text)

pub returns-in-Ok-clause-has_text : goal.returns-in-Ok-clause-has_text
returns-in-Ok-clause-has_text g c =
    let answers = g.D.Demangler.answer c.args.demangler.now in
    let named = c.requires in
    let given = c.in-Ok.ensures in
    sym (ap is_some (text_of-symbol answers c.args.word.now c.symbol_of.result.now c.args.kind (Ok given.0) named c.symbol_of.ensures.symbol given.1))

pub returns-in_default : goal.returns-in_default
returns-in_default g c =
    let answers = g.D.Demangler.answer c.args.demangler.now in
    let named = c.requires in
    let nothing : text_for answers c.args.word.now ≡ None = text_of-symbol answers c.args.word.now c.symbol_of.result.now c.args.kind
    (Err c.in-Err.refusal) named c.symbol_of.ensures.symbol (c.in-Err.ensures.0 c.in_default.not-Memory) in record {
      text = c.in-Err.ensures.1 ∙ sym (ap (λ o. c.args.out.now.items ++ unwrap_or o []) nothing ∙ append-nil c.args.out.now.items);
      has_text = sym (ap is_some nothing);
    }
