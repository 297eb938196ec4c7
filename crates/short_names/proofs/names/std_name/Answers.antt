use Rattle.short_names.proofs.Basics.{◌≡◌, ◌-◌, length, take, drop, get_or, Some, sym, ap, ◌∙◌, STD}
use Rattle.short_names.proofs.FrontLemmas.{rest-all, first-dropped}
use Rattle.short_names.proofs.NameLemmas.{std-plain, std-room, no-low}
use Rattle.short_names.proofs.names.std_name.Goals as goal

pub slice_bounds-name-count : goal.slice_bounds-name-count
slice_bounds-name-count c = std-room c.args.run.now c.requires

pub slice_bounds-name-start : goal.slice_bounds-name-start
slice_bounds-name-start c = std-room c.args.run.now c.requires

pub returns : goal.returns
returns c =
    let run = c.args.run.now in
    let rest = rest-all run 5 in
    let other : get_or run 5 0 ≡ 95 → ⊥ = λ low. no-low (take (length run - 5) (drop 5 run)) (sym c.starts_with.ensures.value ∙ c.if-starts_with.false) (ap (λ t. get_or t 0 0) rest ∙ first-dropped run 5 ∙ low) in
    std-plain run c.requires other ∙ ap (λ n. Some (record { whole = STD; name = n })) (sym rest)
