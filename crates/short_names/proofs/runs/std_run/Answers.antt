use Rattle.std.proofs.Common.{sym, ◌∙◌, inl, inr, arith}
use Rattle.short_names.proofs.RunLemmas.{lt-or-le, std-beyond, std-room, no-std-more, no-std-between}
use Rattle.short_names.proofs.runs.std_run.Goals as goal

pub places-preserved : goal.places-preserved
places-preserved c = record {
  from = omega (arith, c.next_place-at.ensures.within, c.places.invariant.from);
  within = omega (arith, c.next_place-at.ensures.within);
  none = no-std-more c.args.text.now c.args.from c.places.at c.next_place-at.result c.places.invariant.none c.next_place-at.ensures.none
      (sym c.is_std_run.ensures ∙ c.if-is_std_run.false);
}

pub returns : goal.returns
returns c =
    λ k low.
    elim (lt-or-le k c.places.at) [
      | inl before ↦ c.places.invariant.none k low before
      | inr behind ↦ std-beyond c.args.text.now k (omega (arith, behind, c.places-test.false, c.places.invariant.within))
    ]

pub returns-then-is_std_run : goal.returns-then-is_std_run
returns-then-is_std_run c =
    let is = sym c.is_std_run.ensures ∙ c.if-is_std_run.true in (
      omega (arith, c.places.invariant.from, c.next_place-at.ensures.within),
      is,
      no-std-between c.args.text.now c.args.from c.places.at c.next_place-at.result c.places.invariant.none c.next_place-at.ensures.none,
      std-room c.args.text.now c.next_place-at.result is,
    )
