use Rattle.short_names.proofs.Basics.{◌∙◌, sym, ap, nat_eq, codes, refl, take_rest, starts_with}
use Rattle.short_names.proofs.BracketLemmas.{arrow, minus}
use Rattle.short_names.proofs.writing.Writing.step_minus.Goals as goal

pub returns-then-starts_with : goal.returns-then-starts_with
returns-then-starts_with c = λ written is.
    arrow c.args.text.now c.args.self.now written _ is c.requires.0.2 c.requires.1
    (ap (λ t. starts_with nat_eq t (codes "->")) (sym (take_rest c.args.text.now c.args.self.now.at)) ∙ sym c.starts_with.ensures.value ∙ c.if-starts_with.true) c.requires.2 refl

pub returns-else-starts_with : goal.returns-else-starts_with
returns-else-starts_with c = λ written is.
    minus c.args.text.now c.args.self.now written _ is c.requires.0.2 c.requires.1
    (ap (λ t. starts_with nat_eq t (codes "->")) (sym (take_rest c.args.text.now c.args.self.now.at)) ∙ sym c.starts_with.ensures.value ∙ c.if-starts_with.false) c.requires.2 refl
