use Rattle.std.proofs.Common.{◌≡◌, ◌++◌, drop}
use Rattle.text_colours.specs.Colored.{colored, colored_from}
use Rattle.text_colours.proofs.coloring.colored.Given as goal

abbrev pub invariant-parts : goal.invariant-parts
invariant-parts l = record { same : l.out.items ++ colored_from l.text l.place (drop l.part-index l.parts) ≡ colored l.text l.parts }
