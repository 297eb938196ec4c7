use Rattle.std.proofs.Common.{◌≡◌, ◌+◌, ap, arith}
use Rattle.rust_grammar.specs.Unfold.{ended_at}
use Rattle.rust_references.proofs.targets.number_of.Goals as goal

pub returns-clause-names : goal.returns-clause-names
returns-clause-names c behind at =
    let same : c.saturating_sub.result + 2 ≡ c.args.place = omega (arith, behind, c.saturating_sub.ensures) in
    ap (ended_at at.ended) same
