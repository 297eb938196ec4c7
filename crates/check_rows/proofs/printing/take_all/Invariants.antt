use Rattle.std.specs.List.{All}
use Rattle.check_rows.proofs.printing.take_all.Given as goal

abbrev pub invariant-parts : goal.invariant-parts
invariant-parts g l = All (g.Y.Layout.may_come l.y) l.waiting.items
