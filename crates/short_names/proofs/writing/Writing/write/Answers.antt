use Rattle.short_names.proofs.Basics.{◌∙◌, ◌==◌, ℕ, ap, arith, length, subst, start, Steps}
use Rattle.short_names.proofs.EndLemmas.{begins, not_paired, ends}
use Rattle.short_names.proofs.writing.Writing.write.Goals as goal

pub pieces-init : goal.pieces-init
pieces-init c = let e = c.clear.ensures in (start, begins c.args.text.now c.clear.new.self e.at e.copied e.out e.brackets e.starts)

pub step-requires : goal.step-requires
step-requires c = (c.pieces.invariant.0, c.pieces.invariant.1, c.pieces-test.true)

pub returns-then-not-branch : goal.returns-then-not-branch
returns-then-not-branch c =
    not_paired c.args.text.now (subst (λ b. Steps c.args.text.now c.pieces.self.at c.step.new.self b) c.if-not-branch.true (c.in_ok-step.ensures c.pieces.invariant.0 c.pieces.invariant.1))

pub pieces-smaller : goal.pieces-smaller
pieces-smaller c =
    let more = subst (λ b. Steps c.args.text.now c.pieces.self.at c.step.new.self b) c.if-not-branch.false (c.in_ok-step.ensures c.pieces.invariant.0 c.pieces.invariant.1) in
    omega (arith, more.further, c.pieces-test.true)

pub pieces-preserved : goal.pieces-preserved
pieces-preserved c =
    let more = subst (λ b. Steps c.args.text.now c.pieces.self.at c.step.new.self b) c.if-not-branch.false (c.in_ok-step.ensures c.pieces.invariant.0 c.pieces.invariant.1) in
    (more.written, more.is)

pub copy-requires : goal.copy-requires
copy-requires c = (c.pieces.invariant.1.copied, c.pieces.invariant.1.within)

pub returns : goal.returns
returns c =
    ends c.args.text.now c.pieces.self c.pieces.invariant.0 c.copy.new.self.out.items c.is_empty.result c.pieces.invariant.1 c.pieces-test.false c.in_ok-copy.ensures.out
    (c.is_empty.ensures ∙ ap (λ (n : ℕ). n == 0) (c.copy.new.self.brackets.ok.0 ∙ ap length c.copy.ensures.brackets))
