use Rattle.json_lines.proofs.Basics.{◌≡◌, ◌++◌, take, flat_map, later_part}
use Rattle.json_lines.proofs.parts.push_later.Given as goal

abbrev pub invariant-parts : goal.invariant-parts
invariant-parts l = record { so_far : l.out.items ≡ l.fn.out.items ++ flat_map later_part (take l.part-index l.parts) }
