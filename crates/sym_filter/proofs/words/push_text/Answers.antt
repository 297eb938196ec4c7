use Rattle.sym_filter.proofs.Basics.{◌≡◌, ◌∙◌, ◌++◌, sym, ap, List, ℕ, Ok, Err, None, is_some, unwrap_or, text_for}
use Rattle.sym_filter.proofs.RunLemmas.{text_of-symbol}
use Rattle.sym_filter.proofs.words.push_text.Goals as goal

pub returns-in-Ok-clause-text : goal.returns-in-Ok-clause-text
returns-in-Ok-clause-text g c =
    let answers = g.D.Demangler.answer c.args.demangler.now in
    let given = c.in-Ok.ensures in
    let text = text_of-symbol answers c.args.word.now c.symbol_of.result.now c.args.kind (Ok given.0) c.requires c.symbol_of.ensures.symbol given.1 in
    given.2 ∙ ap (λ o. c.args.out.now.items ++ unwrap_or o c.args.word.now) (sym text)

pub returns-in-Ok-clause-has_text : goal.returns-in-Ok-clause-has_text
returns-in-Ok-clause-has_text g c =
    let answers = g.D.Demangler.answer c.args.demangler.now in
    let given = c.in-Ok.ensures in
    sym (ap is_some (text_of-symbol answers c.args.word.now c.symbol_of.result.now c.args.kind (Ok given.0) c.requires c.symbol_of.ensures.symbol given.1))

pub returns : goal.returns
returns g c =
    let answers = g.D.Demangler.answer c.args.demangler.now in
    let nothing : text_for answers c.args.word.now ≡ None = text_of-symbol answers c.args.word.now c.symbol_of.result.now c.args.kind
    (Err c.in-Err.refusal) c.requires c.symbol_of.ensures.symbol (c.in-Err.ensures.0 c.in_default.not-Memory) in record {
      text = c.in_ok-extend_from_slice.ensures.items ∙ ap (λ (t : List ℕ). t ++ c.args.word.now) c.in-Err.ensures.1
          ∙ ap (λ o. c.args.out.now.items ++ unwrap_or o c.args.word.now) (sym nothing);
      has_text = sym (ap is_some nothing);
    }
