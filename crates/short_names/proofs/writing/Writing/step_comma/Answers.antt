use Rattle.short_names.proofs.Basics.{◌∙◌, ◌∷◌, [], ◌++◌, ◌+◌, ◌-◌, sym, ap, nat_eq, codes, refl, inl, inr, take_rest, starts_with}
use Rattle.short_names.proofs.BracketLemmas.{element_ends, comma_goes_on}
use Rattle.short_names.proofs.writing.Writing.step_comma.Goals as goal
use Rattle.short_names.proofs.writing.Writing.step_comma.Goals.{else-is_in_list-via-then-is_in_list+else-starts_with, else-is_in_list-via-else-is_in_list}

pub returns-then-starts_with : goal.returns-then-starts_with
returns-then-starts_with c = λ written is.
    element_ends c.args.text.now c.args.self.now written _ is c.requires.0.2 c.requires.1
    (ap (λ t. starts_with nat_eq t (codes ", ")) (sym (take_rest c.args.text.now c.args.self.now.at)) ∙ sym c.starts_with.ensures.value ∙ c.if-starts_with.true)
    (λ around bracket e. sym c.if-is_in_list.true ∙ c.is_in_list.ensures around bracket e) c.requires.2 refl refl refl refl
    (c.in_ok-push.ensures.items ∙ ap (λ n. c.args.self.now.starts.items ++ (n + (c.args.self.now.at + 2 - c.args.self.now.copied)) ∷ []) (c.len.ensures ∙ c.args.self.now.out.ok.0))

pub returns : goal.returns
returns c = λ written is.
    comma_goes_on c.args.text.now c.args.self.now written _ is c.requires.0.2 c.requires.1
    (elim c.else-is_in_list.branch [
      | else-is_in_list-via-then-is_in_list+else-starts_with w ↦ inr (ap (λ t. starts_with nat_eq t (codes ", ")) (sym (take_rest c.args.text.now c.args.self.now.at)) ∙ sym w.starts_with.ensures.value ∙ w.if-starts_with.false)
      | else-is_in_list-via-else-is_in_list w ↦ inl (λ others bracket e. sym w.if-is_in_list.false ∙ c.is_in_list.ensures others bracket e)
    ])
    c.requires.2 refl
