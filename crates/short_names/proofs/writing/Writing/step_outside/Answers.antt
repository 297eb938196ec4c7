use Rattle.short_names.proofs.Basics.{subst, None, take_rest, IsFirst, IsFound}
use Rattle.short_names.proofs.OutsideLemmas.{skips_to, skips_all, found_changes, farther}
use Rattle.short_names.proofs.writing.Writing.step_outside.Goals as goal

pub change-requires : goal.change-requires
change-requires c =
    found_changes c.args.text.now c.args.self.now c.requires.0.0 _ c.requires.0.1 c.requires.1 (subst (λ t. IsFirst t c.in-Some.found) (take_rest c.args.text.now c.args.self.now.at) c.in-Some.ensures)

pub returns : goal.returns
returns c = λ written is.
    farther c.args.text.now c.args.self.now.at c.in-Some.found.at c.change.new.self
    (c.in_ok-change.ensures _ (skips_to c.args.text.now c.args.self.now written c.in-Some.found is c.requires.1 (subst (λ t. IsFirst t c.in-Some.found) (take_rest c.args.text.now c.args.self.now.at) c.in-Some.ensures)))

pub returns-in_default : goal.returns-in_default
returns-in_default c = λ written is.
    skips_all c.args.text.now c.args.self.now written is c.requires.0.2 c.requires.1 (subst (λ t. IsFound t None) (take_rest c.args.text.now c.args.self.now.at) c.in_default.ensures)
