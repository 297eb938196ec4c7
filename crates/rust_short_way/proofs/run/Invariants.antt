-- The writer has reached the next step, and no more steps were counted than there were rounds.
use Rattle.std.specs.Prelude.{◌≤◌, ◌+◌}
use Rattle.rust_direct.specs.WriterInvariant.{IsWriting}
use Rattle.rust_short_way.proofs.run.Given as goal

abbrev pub invariant-steps : goal.invariant-steps
invariant-steps g l = IsWriting g.S.Showing.IS_BRIEF l.s l.writer.lists l.step × (l.writer.rounds ≤ l.fn.writer.rounds + l.counter)
