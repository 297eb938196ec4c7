-- The parse fits the bytes up to its place, each step has made at most one row, and the lists have no less room.
use Rattle.sym_shape.proofs.Basics.{◌+◌, ◌-◌, ◌*◌, ◌≤◌, length, IsParse, to_do, KeepsRoom, StaysWithin, room_of}
use Rattle.sym_shape.proofs.parse.Parse.run_batch.Given as goal

abbrev pub invariant-moves : goal.invariant-moves
invariant-moves g l = record {
  parsing : IsParse g.G.Grammar.table l.ended l.bytes l.progress.steps l.progress.at (to_do g.G.Grammar.listed l.self) l.self.rows.items;
  steps : l.fn.self.steps ≤ l.progress.steps;
  rows : length l.self.rows.items + l.fn.self.steps ≤ length l.fn.self.rows.items + l.progress.steps;
  keeps : KeepsRoom (room_of l.fn.self) (room_of l.self);
  bounded : StaysWithin (length l.bytes) (room_of l.fn.self) (room_of l.self);
}

abbrev pub decreases-moves : goal.decreases-moves
decreases-moves g l = 18 * length l.bytes + 14 - l.progress.steps
