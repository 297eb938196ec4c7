use Rattle.cpp_direct.proofs.ForAnswers.{◌≢◌, ◌∷◌, ◌++◌, [], length, ◌==◌, ap, ◌∙◌, refl, look_up, special_texts, symbol_by, special-begins, special-stands, Open}
use Rattle.cpp_direct.proofs.direct.Direct.begin_special.Goals as goal

pub returns : goal.returns
returns g c =
    let s = symbol_by g.G.Grammar.IS_WIDE g.G.Grammar.IS_BARE g.G.Grammar.IS_BRIEF c.args.s.now in
    let letter = c.byte_at-letter.result in
    let text_is = c.special_text-text.ensures in
    let fresh = c.requires.fresh in
    let wrote = c.in_ok-push.ensures in
    let filled : look_up (letter ∷ []) special_texts ≢ [] = λ e. cc (c.if-is_empty.ensures ∙ ap (λ l. length l == 0) (text_is ∙ e)) in
    special-begins s (record c.push.new.self { waiting = c.push-2.new.self; at = 4 }) letter c.requires.apart c.requires.other c.requires.starts
    (special-stands s.bytes letter filled c.requires.letter c.byte_at-letter.ensures) c.if-letter-eq65.false c.if-letter-eq77.false refl
    (wrote.text ∙ ap (λ l. l ++ c.special_text-text.result.now) fresh.no_text ∙ text_is) filled (ap (λ v. v.list.items) wrote.candidates ∙ fresh.no_candidate)
    (c.in_ok-push-2.ensures.items ∙ ap (λ v. v.list.items ++ Open.Special ∷ []) wrote.waiting ∙ ap (λ l. l ++ Open.Special ∷ []) fresh.none_open)
