use Rattle.std.proofs.Common.{◌+◌, ◌^◌, subst, arith}
use Rattle.std.proofs.Math.Nat.{mod-le}
use Rattle.cpp_direct.specs.WriterInvariant.{IsBefore}
use Rattle.cpp_direct.specs.Symbol.{symbol_by}
use Rattle.itanium.proofs.short_way.run.Goals as goal

pub steps-init : goal.steps-init
steps-init g c = (c.in-Some.ensures.writing, omega (arith, c.in-Some.ensures.rounds))

pub end-requires : goal.end-requires
end-requires g c =
    subst (λ k. IsBefore (symbol_by g.G.Grammar.IS_WIDE g.G.Grammar.IS_BARE g.G.Grammar.IS_BRIEF c.args.s.now) c.steps.invariant.0.scope c.steps.writer.lists c.steps.invariant.0.state k) c.in-Ended.is
    c.steps.invariant.0.is_before

pub begin-requires-clause-fits : goal.begin-requires-clause-fits
begin-requires-clause-fits g c = record { fits = c.requires.fits; plain = c.are_name_bytes.ensures c.if-not-are_name_bytes.false }

pub take-requires : goal.take-requires
take-requires g c = record {
  fits = record { fits = c.requires.fits; plain = c.are_name_bytes.ensures c.if-not-are_name_bytes.false };
  writing = c.steps.invariant.0;
}

pub steps-preserved : goal.steps-preserved
steps-preserved g c = (
  c.in-Some-take.ensures.writing,
  omega (arith, c.steps.invariant.1, c.in-Some-take.ensures.rounds, mod-le (c.steps.writer.rounds + 1) (2 ^ 64)),
)
