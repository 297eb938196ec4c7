use Rattle.short_names.proofs.Basics.{◌≤◌, ◌+◌, ◌-◌, length, sym, ap, ◌∙◌, arith, rules, Alias, ALIASES, member_in, run_of}
use Rattle.short_names.proofs.FrontLemmas.{rest-all}
use Rattle.short_names.proofs.ChangeLemmas.{name-within, run-within, name-run, no-member-change, member-change, member-within}
use Rattle.short_names.proofs.names.member_change.Goals as goal

abbrev none : Alias
none = record { template = record { from = 0; to = 0 }; arguments = record { from = 0; to = 0 }; name = record { from = 0; to = 0 } }

pub overflow_sub-from : goal.overflow_sub-from
overflow_sub-from c = name-within c.args.run.now c.requires.std.0 c.args.name.now c.requires.std.1 c.args.text.now c.requires.run

pub slice_bounds-member_row-count : goal.slice_bounds-member_row-count
slice_bounds-member_row-count c = omega (arith, run-within c.args.run.now c.requires.std.0 c.args.name.now c.requires.std.1 c.args.text.now c.requires.run)

pub slice_bounds-member_row-start : goal.slice_bounds-member_row-start
slice_bounds-member_row-start c = omega (arith, run-within c.args.run.now c.requires.std.0 c.args.name.now c.requires.std.1 c.args.text.now c.requires.run)

pub member_row-requires : goal.member_row-requires
member_row-requires c =
    name-run c.args.run.now c.requires.std.0 c.args.name.now c.requires.std.1 c.args.text.now c.requires.run
    ∙ ap run_of (sym (rest-all c.args.text.now (length c.args.run.now - length c.args.name.now)))

pub returns-in-None : goal.returns-in-None
returns-in-None c =
    let from = length c.args.run.now - length c.args.name.now in (
      c.requires.no_list,
      no-member-change c.args.run.now c.requires.std.0 c.args.name.now c.requires.std.1 c.args.text.now c.requires.run
          (ap (member_in ALIASES c.args.name.now) (sym (rest-all c.args.text.now from)) ∙ c.in-None.ensures),
    )

pub overflow_add-size : goal.overflow_add-size
overflow_add-size c =
    let from = length c.args.run.now - length c.args.name.now in
    let bound : from + length c.text_at.result.now ≤ length c.args.run.now =
    member-within c.args.run.now c.requires.std.0 c.args.name.now c.requires.std.1 c.args.text.now c.requires.run c.in-Some.row _ none c.in-Some.ensures.0
    (ap (member_in ALIASES c.args.name.now) (sym (rest-all c.args.text.now from)) ∙ c.in-Some.ensures.1) (ap (λ t. from + length t) c.text_at.ensures) in
    search (rules, bound)

pub returns-in-Some : goal.returns-in-Some
returns-in-Some c =
    let from = length c.args.run.now - length c.args.name.now in (
      c.requires.no_list,
      c.in-Some.ensures.0,
      member-change c.args.run.now c.requires.std.0 c.args.name.now c.requires.std.1 c.args.text.now c.requires.run c.in-Some.row _ none c.in-Some.ensures.0
          (ap (member_in ALIASES c.args.name.now) (sym (rest-all c.args.text.now from)) ∙ c.in-Some.ensures.1) (ap (λ t. from + length t) c.text_at.ensures),
    )
