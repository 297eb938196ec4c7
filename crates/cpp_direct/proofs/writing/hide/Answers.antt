use Rattle.cpp_direct.proofs.ForAnswers.{suc, ◌≡◌, ◌+◌, ◌∙◌, inl, inr, refl, ap, sym, arith, false, get_or, subst, set-get_or, slice_set, Candidate, IsLeft, Stays, hidden, AreGoneOver, all-gone, one-gone}
use Rattle.cpp_direct.proofs.writing.hide.Goals as goal

pub candidates-init : goal.candidates-init
candidates-init c = record { gone = refl }

pub candidates-preserved : goal.candidates-preserved
candidates-preserved c =
    let hiding = c.args.hiding in
    let at = c.candidates.at in
    let old = c.args.candidates.now.list.items in
    let now = c.candidates.candidates.list.items in
    let other : Candidate = record { from = 0; to = 0; is_reference = false; is_dependent = false } in
    let next : suc at ≡ at + 1 = omega arith in
    let gone : (n : Candidate) → IsLeft hiding (get_or now at other) n → AreGoneOver hiding (at + 1) old (slice_set now at n) = λ n is.
    subst (λ k. AreGoneOver hiding k old (slice_set now at n)) next
    (one-gone hiding at old now n other c.candidates.invariant.gone (omega (arith, c.candidates-test.true, c.len.ensures)) is) in
    elim c.if-not-stays.branch [
      | goal.then-not-stays w ↦ record {
        gone = subst (λ l. AreGoneOver hiding (at + 1) old l) (sym (ap (λ v. v.list.items) w.candidates-is ∙ w.put.ensures.items)) (gone hidden (inr refl));
      }
      | goal.else-not-stays w ↦ record {
        gone = subst (λ l. AreGoneOver hiding (at + 1) old l) (set-get_or now at other ∙ sym (ap (λ v. v.list.items) w.candidates-is))
            (gone (get_or now at other) (inl (refl, subst (λ l. Stays hiding (get_or l at other)) c.as_slice.ensures (c.stays.ensures w.if-not-stays.false))));
      }
    ]

pub returns : goal.returns
returns c =
    all-gone c.args.hiding c.candidates.at c.args.candidates.now.list.items c.candidates.candidates.list.items c.candidates.invariant.gone
    (omega (arith, c.candidates-test.false, c.len.ensures))
