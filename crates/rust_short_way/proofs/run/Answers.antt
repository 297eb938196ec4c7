use Rattle.std.proofs.Common.{◌+◌, ◌^◌, length, subst, arith}
use Rattle.std.proofs.Math.Nat.{mod-le}
use Rattle.rust_direct.specs.WriterInvariant.{IsWriting}
use Rattle.rust_direct.proofs.SymbolsRead.{shown-answer}
use Rattle.rust_short_way.proofs.run.Goals as goal

pub steps-init : goal.steps-init
steps-init g c = (c.in-Some.ensures.writing, omega (arith, c.in-Some.ensures.rounds))

pub end-requires : goal.end-requires
end-requires g c = subst (λ k. IsWriting g.S.Showing.IS_BRIEF c.args.s.now c.steps.writer.lists k) c.in-Ended.is c.steps.invariant.0

pub returns-in-Ended-clause-answer : goal.returns-in-Ended-clause-answer
returns-in-Ended-clause-answer g c within =
    shown-answer g.S.Showing.IS_BRIEF c.args.s.now c.end.new.writer.lists.text.list.items c.args.limit (length c.steps.writer.lists.text.list.items)
    (c.end.ensures.shown within) (c.end.ensures.within within)

pub take-requires : goal.take-requires
take-requires g c = record { fits = c.requires.fits; writing = c.steps.invariant.0 }

pub steps-preserved : goal.steps-preserved
steps-preserved g c = (
  c.in-Some-take.ensures.writing,
  omega (arith, c.steps.invariant.1, c.in-Some-take.ensures.rounds, mod-le (c.steps.writer.rounds + 1) (2 ^ 64)),
)
