use Rattle.short_names.proofs.Basics.{◌&&◌, length, drop, nat_eq, codes, is_some, sym, ap, ◌∙◌, starts_with, TEMPLATES, template_in, with_template}
use Rattle.short_names.proofs.FrontLemmas.{rest-all}
use Rattle.short_names.proofs.ChangeLemmas.{named-is, list-is, run-within}
use Rattle.short_names.proofs.names.std_change.Goals as goal

pub slice_bounds-list_row-count : goal.slice_bounds-list_row-count
slice_bounds-list_row-count c = run-within c.args.run.now c.args.std.whole c.args.std.name.now c.requires.std c.args.text.now c.requires.run

pub slice_bounds-list_row-start : goal.slice_bounds-list_row-start
slice_bounds-list_row-start c = run-within c.args.run.now c.args.std.whole c.args.std.name.now c.requires.std c.args.text.now c.requires.run

pub member_change-requires-clause-std : goal.member_change-requires-clause-std
member_change-requires-clause-std c = (c.args.std.whole, c.requires.std)

pub member_change-requires-clause-no_list : goal.member_change-requires-clause-no_list
member_change-requires-clause-no_list c =
    let text = c.args.text.now in
    let run = c.args.run.now in
    sym (list-is run c.args.std.whole c.args.std.name.now c.requires.std (drop (length run) text))
    ∙ ap (λ t. starts_with nat_eq t (codes "<") && is_some (template_in TEMPLATES c.args.std.name.now)) (sym (rest-all text (length run))) ∙ c.in-None.ensures

pub returns-in-None : goal.returns-in-None
returns-in-None c = c.member_change.ensures

pub returns-in-Some : goal.returns-in-Some
returns-in-Some c =
    let text = c.args.text.now in
    let run = c.args.run.now in (
      ap (λ t. starts_with nat_eq t (codes "<")) (sym (rest-all text (length run))) ∙ c.in-Some.ensures.0,
      c.in-Some.ensures.1,
      named-is run c.args.std.whole c.args.std.name.now c.requires.std ∙ ap (with_template c.args.std.whole) c.in-Some.ensures.2,
    )
