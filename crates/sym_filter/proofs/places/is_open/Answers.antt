use Rattle.sym_filter.proofs.Basics.{◌+◌, ◌-◌, ◌≡◌, ◌∙◌, ap, not, sym, arith, take, get_or, may_begin, place_of}
use Rattle.sym_filter.proofs.PlainLemmas.{may_begin-after, place_of-take}
use Rattle.sym_filter.proofs.places.is_open.Goals as goal

pub returns : goal.returns
returns c =
    let letters = c.args.letters in
    let place = c.args.place in
    let text = c.args.text.now in
    let at = c.args.at in
    let next : at - 1 + 1 ≡ at = omega arith in
    ap not c.closes.ensures ∙ sym (may_begin-after letters (place_of letters place (take (at - 1) text)) (get_or text (at - 1) 0))
    ∙ ap (may_begin letters) (sym (place_of-take letters place text (at - 1) 0 (omega (arith, c.requires))) ∙ ap (λ n. place_of letters place (take n text)) next)
