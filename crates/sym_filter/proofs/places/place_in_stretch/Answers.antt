use Rattle.sym_filter.proofs.Basics.{◌≡◌, ◌∙◌, ap, sym, arith, take, get_or, place_after, place_of}
use Rattle.sym_filter.proofs.PlainLemmas.{place_of-none, place_of-start, place_of-take}
use Rattle.sym_filter.proofs.places.place_in_stretch.Goals as goal
use Rattle.sym_filter.proofs.places.place_in_stretch.Goals.{then-next-eq0, else-next-eq0}

pub bytes-init : goal.bytes-init
bytes-init c =
    let letters = c.args.letters in
    let text = c.args.text.now in
    let start = c.stretch_start-next.result in
    let here : c.if-next-eq0.here ≡ place_of letters c.args.place (take start text) = elim c.if-next-eq0.branch [
      | then-next-eq0 w ↦ w.here-is ∙ place_of-none letters c.args.place text start w.if-next-eq0.true
      | else-next-eq0 w ↦ w.here-is ∙ place_of-start letters c.args.place text start 0 (omega (arith, w.if-next-eq0.false)) (omega (arith, c.stretch_start-next.ensures.within, c.requires)) (c.stretch_start-next.ensures.before (omega (arith, w.if-next-eq0.false)))
    ] in record {
      within = c.stretch_start-next.ensures.within;
      here = here;
    }

pub bytes-preserved : goal.bytes-preserved
bytes-preserved c = record {
  within = omega (arith, c.bytes-test.true);
  here = c.after-here.ensures ∙ ap (λ p. place_after c.args.letters p (get_or c.args.text.now c.bytes.next 0)) c.bytes.invariant.here
      ∙ sym (place_of-take c.args.letters c.args.place c.args.text.now c.bytes.next 0 (omega (arith, c.bytes-test.true, c.requires)));
}

pub returns : goal.returns
returns c =
    let ends : c.bytes.next ≡ c.args.at = omega (arith, c.bytes-test.false, c.bytes.invariant.within) in
    c.bytes.invariant.here ∙ ap (λ n. place_of c.args.letters c.args.place (take n c.args.text.now)) ends
