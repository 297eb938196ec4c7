use Rattle.sym_filter.proofs.Basics.{◌+◌, ◌∙◌, sym, subst, take, true, false, length, arith, Escape, IsRead}
use Rattle.sym_filter.proofs.CarryLemmas.{IsRead-whole, IsRead-next, IsRead-longer}
use Rattle.sym_filter.proofs.escapes.first_segment.Goals as goal

pub returns-then-not-begins_within-clause-read : goal.returns-then-not-begins_within-clause-read
returns-then-not-begins_within-clause-read c =
    IsRead-whole c.args.letters c.args.escape (take (length c.args.text.now) c.args.text.now) (sym c.begins_within.ensures ∙ c.if-not-begins_within.true)

pub bytes-preserved : goal.bytes-preserved
bytes-preserved c =
    let letters = c.args.letters in
    let text = c.args.text.now in
    let i = c.bytes.length in
    let next = IsRead-next false letters c.args.escape c.bytes.here text i c.bytes-test.true (sym c.begins_within.ensures ∙ c.if-not-begins_within.false) c.bytes.invariant.read (sym c.ends_with-ends.ensures ∙ c.if-ends.false) in
    let here = subst (λ (e : Escape). IsRead false letters c.args.escape e (take (i + 1) text)) (sym c.after-here.ensures) next in record {
      within = omega (arith, c.bytes-test.true, c.passes-length.ensures.within);
      read = IsRead-longer letters c.args.escape c.after-here.result text (i + 1) c.passes-length.result here (c.passes-length.ensures.read letters);
    }

pub returns-then-ends-clause-read : goal.returns-then-ends-clause-read
returns-then-ends-clause-read c =
    let letters = c.args.letters in
    let text = c.args.text.now in
    let i = c.bytes.length in
    let next = IsRead-next true letters c.args.escape c.bytes.here text i c.bytes-test.true (sym c.begins_within.ensures ∙ c.if-not-begins_within.false) c.bytes.invariant.read (sym c.ends_with-ends.ensures ∙ c.if-ends.true) in
    subst (λ (e : Escape). IsRead true letters c.args.escape e (take (i + 1) text)) (sym c.after-here.ensures) next
