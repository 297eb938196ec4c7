use Rattle.sym_filter.proofs.Basics.{◌++◌, ◌∙◌, [], sym, ap, is_some, unwrap_or, text_for, text_of_parts}
use Rattle.sym_filter.proofs.TryLemmas.{then-pushed, whole-first, whole-read, whole-unread}
use Rattle.sym_filter.proofs.tries.append_whole.Goals as goal

pub returns-then-word_read : goal.returns-then-word_read
returns-then-word_read g c =
    let answers = g.D.Demangler.answer c.args.demangler.now in
    let word = c.args.word.now in
    let own = c.in_ok-word_read.ensures in
    let some = sym own.has_text ∙ c.if-word_read.true in
    let tries = whole-first answers word c.requires.untrimmed ∙ whole-read answers word some in record {
      text = own.text ∙ ap (λ o. c.args.out.now.items ++ unwrap_or o []) (sym tries);
      has_text = sym (ap is_some tries ∙ some);
    }

pub returns : goal.returns
returns g c =
    let answers = g.D.Demangler.answer c.args.demangler.now in
    let word = c.args.word.now in
    let own = c.in_ok-word_read.ensures in
    let none = sym own.has_text ∙ c.if-word_read.false in
    let tries = whole-first answers word c.requires.untrimmed ∙ whole-unread answers word none in
    let parts = c.in_ok-part_read.ensures in record {
      text = then-pushed c.args.out.now.items c.append_symbol.new.out.items _ (text_for answers word) (text_of_parts answers word) parts.text own.text none ∙ ap (λ o. c.args.out.now.items ++ unwrap_or o []) (sym tries);
      has_text = parts.has_text ∙ ap is_some (sym tries);
    }
