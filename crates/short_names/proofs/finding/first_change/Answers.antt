use Rattle.short_names.proofs.Basics.{◌∙◌, sym, ap, length, arith, take_rest, run_of, begins_std}
use Rattle.short_names.proofs.OutsideLemmas.{begins-at}
use Rattle.short_names.proofs.FindingLemmas.{begins-run, plain_more, plain_to}
use Rattle.short_names.proofs.NameSteps.{change_here}
use Rattle.short_names.proofs.finding.first_change.Goals as goal

pub names-init : goal.names-init
names-init c = record { within = omega arith; plain = λ k less e. absurd (omega (arith, less)) }

pub change_at-change-requires : goal.change_at-change-requires
change_at-change-requires c =
    (ap begins_std (c.run_at-run.ensures.run ∙ ap run_of (take_rest c.args.text.now c.in-Some.name)) ∙ begins-run _ (begins-at c.args.text.now c.in-Some.name c.in-Some.ensures.1), c.run_at-run.ensures.run)

pub returns-then-not-is_nothing : goal.returns-then-not-is_nothing
returns-then-not-is_nothing c =
    let rest = take_rest c.args.text.now c.in-Some.name in
    record {
      begins = c.in-Some.ensures.1;
      within = omega (arith, c.in-Some.ensures.3);
      plain = plain_to c.args.text.now c.names.at c.in-Some.name c.names.invariant.plain c.in-Some.ensures.2;
      size = ap length (c.run_at-run.ensures.run ∙ ap run_of rest);
      change = change_here _ _ _ _ rest c.run_at-run.ensures.run c.change_at-change.ensures;
      some = sym c.is_nothing.ensures ∙ c.if-not-is_nothing.true;
    }

pub names-preserved : goal.names-preserved
names-preserved c =
    let rest = take_rest c.args.text.now c.in-Some.name in
    record {
      within = omega (arith, c.in-Some.ensures.3);
      plain = plain_more c.args.text.now c.names.at c.in-Some.name c.change_at-change.result c.names.invariant.plain c.in-Some.ensures.2
          (change_here _ _ _ _ rest c.run_at-run.ensures.run c.change_at-change.ensures) (sym c.is_nothing.ensures ∙ c.if-not-is_nothing.false);
    }

pub returns : goal.returns
returns c = plain_to c.args.text.now c.names.at (length c.args.text.now) c.names.invariant.plain (λ k h less. c.in_default.ensures k h)
