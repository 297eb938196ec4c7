use Rattle.short_names.proofs.Basics.{◌≡◌, ◌≤◌, ◌+◌, ◌++◌, false, length, drop, sym, ap, ◌∙◌, arith, length-drop, eqb-true, not-false, front, inner, nested, without_inlines}
use Rattle.short_names.proofs.FrontLemmas.{rest-all}
use Rattle.short_names.proofs.InlineLemmas.{from_on, piece, some-left-out, none-left-out, all-copied}
use Rattle.short_names.proofs.inlines.append_without.Goals as goal

pub runs-preserved-then-are_some : goal.runs-preserved-then-are_some
runs-preserved-then-are_some c =
    let text = c.args.text.now in
    let run = c.in-Some.place in
    let found = c.in-Some.ensures in
    let it = c.of-inlines.result in
    let rest = rest-all text (run + 5) in
    let room : run + 5 + (it.front + it.inner + it.nested) ≤ length text = omega (arith, c.of-inlines.ensures.within, ap length rest, length-drop (run + 5) text, found.3) in
    let next = run + 5 + it.front + it.inner + it.nested in
    record {
      copied = omega arith;
      within = omega (arith, room);
      so_far =
          ap (λ o. o ++ (piece text next next ++ from_on text next))
          (c.in_ok-extend_from_slice-2.ensures.items ∙ ap (λ o. o ++ piece text (run + 5 + it.front) (run + 5 + it.front + it.inner)) c.in_ok-extend_from_slice.ensures.items)
          ∙ some-left-out text run it.front it.inner it.nested found.1 (c.of-inlines.ensures.front ∙ ap front rest) (c.of-inlines.ensures.inner ∙ ap inner rest) (c.of-inlines.ensures.nested ∙ ap nested rest)
          room c.runs.copied c.runs.at c.runs.invariant.copied found.0 found.2 c.runs.out.items _ c.runs.invariant.so_far;
    }

pub runs-preserved : goal.runs-preserved
runs-preserved c =
    let text = c.args.text.now in
    let run = c.in-Some.place in
    let found = c.in-Some.ensures in
    let it = c.of-inlines.result in
    let rest = rest-all text (run + 5) in
    let room : run + 5 + (it.front + it.inner + it.nested) ≤ length text = omega (arith, c.of-inlines.ensures.within, ap length rest, length-drop (run + 5) text, found.3) in
    let nothing = eqb-true (it.front + it.nested) 0 (not-false _ (sym c.are_some.ensures ∙ c.if-are_some.false)) in
    record {
      copied = omega (arith, c.runs.invariant.copied, found.0);
      within = omega (arith, room);
      so_far =
          none-left-out text run it.front it.inner it.nested found.1 (c.of-inlines.ensures.front ∙ ap front rest) (c.of-inlines.ensures.inner ∙ ap inner rest) (c.of-inlines.ensures.nested ∙ ap nested rest)
          room c.runs.copied c.runs.at c.runs.invariant.copied found.0 found.2 nothing c.runs.out.items _ c.runs.invariant.so_far;
    }

pub returns : goal.returns
returns c =
    let text = c.args.text.now in
    let copied = c.runs.copied in
    let rest = rest-all text copied in
    let all : c.runs.out.items ++ drop copied text ≡ c.args.out.now.items ++ without_inlines false 0 text =
    all-copied text copied c.runs.at c.runs.invariant.copied c.runs.invariant.within (λ k h. c.in_default.ensures k h) c.runs.out.items _ c.runs.invariant.so_far in
    c.in_ok-extend_from_slice-3.ensures.items ∙ ap (λ t. c.runs.out.items ++ t) rest ∙ all
