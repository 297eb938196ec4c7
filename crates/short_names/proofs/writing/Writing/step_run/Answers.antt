use Rattle.short_names.proofs.Basics.{◌∙◌, sym, ap, refl, length, take, drop, ◌+◌, ◌-◌, arith, length-drop, take_rest, run_of, begins_std}
use Rattle.short_names.proofs.NameSteps.{change_here, operator_here, other_run}
use Rattle.short_names.proofs.writing.Writing.step_run.Goals as goal

pub change_at-change-requires : goal.change_at-change-requires
change_at-change-requires c = (sym c.starts_with.ensures.value ∙ c.if-starts_with.true, c.run_at-run.ensures.run)

pub change-requires : goal.change-requires
change-requires c =
    let rest = take_rest c.args.text.now c.args.self.now.at in
    (c.requires.0, c.requires.1, ap length (c.run_at-run.ensures.run ∙ ap run_of rest), change_here _ _ _ _ rest c.run_at-run.ensures.run c.change_at-change.ensures, omega (arith, c.run_at-run.ensures.within, ap length rest, length-drop c.args.self.now.at c.args.text.now, c.requires.0.2), λ _. c.requires.2)

pub returns : goal.returns
returns c = λ written is.
    let rest = take_rest c.args.text.now c.args.self.now.at in
    other_run c.args.text.now c.args.self.now written _ is c.requires.0.2 c.requires.1
    (ap begins_std (sym (c.run_at-run.ensures.run ∙ ap run_of rest)) ∙ sym c.starts_with.ensures.value ∙ c.if-starts_with.false) c.requires.2
    (ap (λ n. c.args.self.now.at + n) (operator_here _ _ _ _ _ _ rest c.run_at-run.ensures.run refl (take_rest (take (length c.args.text.now - c.args.self.now.at) (drop c.args.self.now.at c.args.text.now)) (length c.run_at-run.result.now)) c.operator_size.ensures.size))
