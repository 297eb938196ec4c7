use Rattle.sym_filter.proofs.Basics.{◌-◌, ◌++◌, ◌∙◌, [], length, drop, take, sym, ap, arith, is_some, unwrap_or, take_all, text_for, text_of_parts, text_of_tries}
use Rattle.sym_filter.proofs.TryLemmas.{front-read, front-unread, then-pushed, two-parts, whole-read, whole-unread}
use Rattle.sym_filter.proofs.WordLemmas.{slice_from}
use Rattle.sym_filter.proofs.tries.append_tries.Goals as goal

pub returns-then-front_read-clause-text : goal.returns-then-front_read-clause-text
returns-then-front_read-clause-text g c =
    let answers = g.D.Demangler.answer c.args.demangler.now in
    let word = c.args.word.now in
    let end = c.trimmed_end-end.result in
    let front = c.in_ok-front_read.ensures in
    let read = front-read answers word (take end word) end c.trimmed_end-end.ensures.trimmed c.trimmed_end-end.ensures.trimmed c.trimmed_end-end.ensures.within (sym front.has_text ∙ c.if-front_read.true) in
    two-parts c.args.out.now.items c.append_text.new.out.items _ (unwrap_or (text_for answers (take end word)) []) (take (length word - end) (drop end word)) (drop end word) (unwrap_or (text_of_tries answers word) []) c.in_ok-extend_from_slice.ensures.items front.text (slice_from word end) read.0

pub returns-then-front_read-clause-has_text : goal.returns-then-front_read-clause-has_text
returns-then-front_read-clause-has_text g c =
    let answers = g.D.Demangler.answer c.args.demangler.now in
    let word = c.args.word.now in
    let end = c.trimmed_end-end.result in
    let front = c.in_ok-front_read.ensures in
    sym (front-read answers word (take end word) end c.trimmed_end-end.ensures.trimmed c.trimmed_end-end.ensures.trimmed c.trimmed_end-end.ensures.within (sym front.has_text ∙ c.if-front_read.true)).1

pub append_whole-requires-clause-untrimmed : goal.append_whole-requires-clause-untrimmed
append_whole-requires-clause-untrimmed g c = sym c.trimmed_end-end.ensures.trimmed ∙ take_all c.trimmed_end-end.result c.args.word.now (omega (arith, c.if-end-word.true))

pub returns-then-word_read : goal.returns-then-word_read
returns-then-word_read g c =
    let answers = g.D.Demangler.answer c.args.demangler.now in
    let word = c.args.word.now in
    let end = c.trimmed_end-end.result in
    let front = c.in_ok-front_read.ensures in
    let own = c.in_ok-word_read.ensures in
    let front_none = sym front.has_text ∙ c.if-front_read.false in
    let some = sym own.has_text ∙ c.if-word_read.true in
    let tries = front-unread answers word (take end word) c.trimmed_end-end.ensures.trimmed front_none ∙ whole-read answers word some in record {
      text = then-pushed c.args.out.now.items c.append_text.new.out.items _ (text_for answers (take end word)) (text_for answers word) own.text front.text front_none ∙ ap (λ o. c.args.out.now.items ++ unwrap_or o []) (sym tries);
      has_text = sym (ap is_some tries ∙ some);
    }

pub returns : goal.returns
returns g c =
    let answers = g.D.Demangler.answer c.args.demangler.now in
    let word = c.args.word.now in
    let end = c.trimmed_end-end.result in
    let front = c.in_ok-front_read.ensures in
    let own = c.in_ok-word_read.ensures in
    let front_none = sym front.has_text ∙ c.if-front_read.false in
    let none = sym own.has_text ∙ c.if-word_read.false in
    let tries = front-unread answers word (take end word) c.trimmed_end-end.ensures.trimmed front_none ∙ whole-unread answers word none in
    let parts = c.in_ok-part_read.ensures in
    let own_out = then-pushed c.args.out.now.items c.append_text.new.out.items c.append_text-2.new.out.items (text_for answers (take end word)) (text_for answers word) own.text front.text front_none in record {
      text = then-pushed c.args.out.now.items c.append_text-2.new.out.items _ (text_for answers word) (text_of_parts answers word) parts.text own_out none ∙ ap (λ o. c.args.out.now.items ++ unwrap_or o []) (sym tries);
      has_text = parts.has_text ∙ ap is_some (sym tries);
    }
