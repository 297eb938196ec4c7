use Rattle.sym_filter.proofs.Basics.{◌≡◌, ◌+◌, ◌&&◌, ◌∙◌, ap, arith, sym, subst, true, not, eqb, length, take, get_or, List, ℕ, length-drop, list_all, is_no_mark, may_begin, place_of}
use Rattle.sym_filter.proofs.WordLemmas.{slice_from}
use Rattle.sym_filter.proofs.PlainLemmas.{is_plain-longer, is_plain-take, goes_on, is_other}
use Rattle.sym_filter.proofs.places.plain_front.Goals as goal
use Rattle.sym_filter.proofs.places.plain_front.Goals.{else-text-length-eq95-via-then-text-length-eq95+else-is_open, else-text-length-eq95-via-else-text-length-eq95}

pub bytes-preserved : goal.bytes-preserved
bytes-preserved c =
    let i = c.bytes.length in
    let text = c.args.text.now in
    let letters = c.args.letters in
    let begins = may_begin letters (place_of letters c.args.place (take i text)) in
    let next : not (begins && eqb (get_or text i 0) 95) ≡ true = elim c.else-text-length-eq95.branch [
      | else-text-length-eq95-via-then-text-length-eq95+else-is_open w ↦ goes_on begins (eqb (get_or text i 0) 95) (sym w.is_open.ensures ∙ w.if-is_open.false)
      | else-text-length-eq95-via-else-text-length-eq95 w ↦ is_other begins (get_or text i 0) w.if-text-length-eq95.false
    ] in
    let found = c.before_mark-length in
    let rest = slice_from text (i + 1) in record {
      within = omega (arith, found.ensures.within, c.bytes-test.true, ap length rest, length-drop (i + 1) text);
      plain = is_plain-longer letters c.args.place text (i + 1) found.result
          (is_plain-take letters c.args.place text i 0 c.bytes-test.true c.bytes.invariant.plain next)
          (subst (λ (bytes : List ℕ). list_all is_no_mark (take found.result bytes) ≡ true) rest found.ensures.no_mark);
    }
