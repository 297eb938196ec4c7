-- The parse fits the bytes, each step has made at most one row, and the lists have no less room than before.
use Rattle.sym_shape.proofs.Basics.{◌+◌, ◌-◌, ◌*◌, length, IsParsing, MakeRows, KeepsRoom, StaysWithin, room_of}
use Rattle.sym_shape.proofs.parse.Parse.run.Given as goal

abbrev pub invariant-steps : goal.invariant-steps
invariant-steps g l = IsParsing g.G.Grammar.listed g.G.Grammar.table l.ended l.bytes l.self × MakeRows l.fn.self l.self × KeepsRoom (room_of l.fn.self) (room_of l.self) × StaysWithin (length l.bytes) (room_of l.fn.self) (room_of l.self)

abbrev pub decreases-steps : goal.decreases-steps
decreases-steps g l = 18 * length l.bytes + 14 - l.self.steps
