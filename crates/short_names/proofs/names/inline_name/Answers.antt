use Rattle.short_names.proofs.Basics.{length, drop, Some, sym, ap, ◌∙◌, arith, WHOLES, behind_part, size_of}
use Rattle.short_names.proofs.FrontLemmas.{rest-all}
use Rattle.short_names.proofs.NameLemmas.{std-none, std-found}
use Rattle.short_names.proofs.RowLemmas.{row-length}
use Rattle.short_names.proofs.names.inline_name.Goals as goal

pub returns-in-None : goal.returns-in-None
returns-in-None c = std-none c.args.run.now c.in-None.ensures

pub slice_bounds-behind_part-count : goal.slice_bounds-behind_part-count
slice_bounds-behind_part-count c = omega (arith, row-length WHOLES c.args.run.now, ap size_of c.in-Some.ensures, ap length c.text_at-size.ensures)

pub slice_bounds-behind_part-start : goal.slice_bounds-behind_part-start
slice_bounds-behind_part-start c = omega (arith, row-length WHOLES c.args.run.now, ap size_of c.in-Some.ensures, ap length c.text_at-size.ensures)

pub returns-in-Some : goal.returns-in-Some
returns-in-Some c =
    let run = c.args.run.now in
    std-found run c.in-Some.whole c.in-Some.ensures
    ∙ ap (λ n. Some (record { whole = c.in-Some.whole; name = n }))
    (sym (c.behind_part-name.ensures ∙ ap behind_part (rest-all run (length c.text_at-size.result.now)) ∙ ap (λ t. behind_part (drop (length t) run)) c.text_at-size.ensures))
