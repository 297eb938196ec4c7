use Rattle.sym_filter.proofs.Basics.{◌≡◌, ◌-◌, ◌++◌, ◌∙◌, List, ℕ, [], length, drop, take, sym, ap, ap₂, arith, is_some, unwrap_or, append-nil, length-drop}
use Rattle.sym_filter.proofs.TryLemmas.{cut-back, more-pushed, parts-end, parts-more, parts-some, parts-unread, texts-end, texts-more}
use Rattle.sym_filter.proofs.WordLemmas.{slice_from}
use Rattle.sym_filter.proofs.tries.append_parts.Goals as goal

pub parts-preserved : goal.parts-preserved
parts-preserved g c =
    let answers = g.D.Demangler.answer c.args.demangler.now in
    let so_far = c.parts.invariant in
    let part = c.in_ok-part.ensures in
    let word = c.args.word.now in
    let at = c.parts.at in
    let rest = take (length word - at) (drop at word) in record {
      bytes = so_far.bytes ++ part.text.0;
      within = omega (arith, so_far.within, part.within.1, ap length (slice_from word at), length-drop at word);
      pushed = more-pushed c.args.out.now.items c.parts.out.items c.push_part.new.out.items so_far.bytes part.text.0 part.text.1 so_far.pushed;
      text = parts-more answers word rest at c.in_ok-part.part.length so_far.bytes part.text.0 so_far.text (slice_from word at) part.text.2;
      texts = texts-more answers word rest at c.in_ok-part.part.length c.parts.some c.in_ok-part.part.has_text so_far.texts (slice_from word at) part.has_text;
    }

pub returns-then-some-clause-text : goal.returns-then-some-clause-text
returns-then-some-clause-text g c =
    let answers = g.D.Demangler.answer c.args.demangler.now in
    let so_far = c.parts.invariant in
    let word = c.args.word.now in
    let ends : c.parts.at ≡ length word = omega (arith, so_far.within, c.parts-test.false) in
    let parts = parts-some answers word c.parts.some so_far.bytes (sym c.has_wide.ensures ∙ c.if-not-has_wide.false) (texts-end answers word c.parts.at c.parts.some ends so_far.texts) c.if-some.true (parts-end answers word c.parts.at so_far.bytes ends so_far.text) in
    so_far.pushed ∙ ap (λ (t : List ℕ). c.args.out.now.items ++ t) parts.0

pub returns-clause-text : goal.returns-clause-text
returns-clause-text g c =
    let answers = g.D.Demangler.answer c.args.demangler.now in
    let so_far = c.parts.invariant in
    let word = c.args.word.now in
    let ends : c.parts.at ≡ length word = omega (arith, so_far.within, c.parts-test.false) in
    let none = parts-unread answers word c.parts.some (sym c.has_wide.ensures ∙ c.if-not-has_wide.false) (texts-end answers word c.parts.at c.parts.some ends so_far.texts) c.if-some.false in
    let len : c.len-len.result ≡ length c.args.out.now.items = omega (arith, c.len-len.ensures, c.args.out.now.ok.0) in
    c.truncate.ensures.items ∙ ap₂ (λ (n : ℕ) (t : List ℕ). take n t) len so_far.pushed ∙ cut-back c.args.out.now.items so_far.bytes
    ∙ sym (ap (λ o. c.args.out.now.items ++ unwrap_or o []) none ∙ append-nil c.args.out.now.items)

pub returns-clause-has_text : goal.returns-clause-has_text
returns-clause-has_text g c =
    let answers = g.D.Demangler.answer c.args.demangler.now in
    let so_far = c.parts.invariant in
    let word = c.args.word.now in
    let ends : c.parts.at ≡ length word = omega (arith, so_far.within, c.parts-test.false) in
    sym (ap is_some (parts-unread answers word c.parts.some (sym c.has_wide.ensures ∙ c.if-not-has_wide.false) (texts-end answers word c.parts.at c.parts.some ends so_far.texts) c.if-some.false))
