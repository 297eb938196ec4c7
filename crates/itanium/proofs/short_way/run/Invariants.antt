-- The writer has reached the next step, and no more steps were counted than there were rounds.
use Rattle.std.specs.Prelude.{◌≤◌, ◌+◌}
use Rattle.cpp_direct.specs.WriterInvariant.{IsWriting}
use Rattle.cpp_direct.specs.Symbol.{symbol_by}
use Rattle.itanium.proofs.short_way.run.Given as goal

abbrev pub invariant-steps : goal.invariant-steps
invariant-steps g l =
    IsWriting (symbol_by g.G.Grammar.IS_WIDE g.G.Grammar.IS_BARE g.G.Grammar.IS_BRIEF l.s) l.writer.lists l.step
    × (l.writer.rounds ≤ l.fn.writer.rounds + l.counter)
