use Rattle.cpp_references.proofs.Basics.{sym, ◌∙◌, ap, subst, ℕ, ◌<◌, ◌-◌, length, IfSome, counted_value, Seq36, State, Around, substituted, bytes_at, trees_in, around_of, maybe_candidate}
use Rattle.cpp_references.proofs.Numbering.{candidate_at, candidate_there}
use Rattle.cpp_references.proofs.candidates.substitution.Goals as goal

pub substituted-requires-clause-there : goal.substituted-requires-clause-there
substituted-requires-clause-there c =
    let k : ℕ = counted_value Seq36 (bytes_at c.args.symbol.now c.args.digits) in
    subst (λ o. IfSome o (λ d. d.node < length c.args.nodes.now.nodes)) (sym c.named-candidate.ensures) (candidate_there _ c.args.candidates.now k c.requires.there)

pub returns-clause-is : goal.returns-clause-is
returns-clause-is c state =
    let ts = trees_in c.args.symbol.now c.args.nodes.now in
    let around : Around = around_of ts c.args.kept in
    let before : State = record state { packs = c.args.packs } in
    let k : ℕ = counted_value Seq36 (bytes_at c.args.symbol.now c.args.digits) in
    ap (λ o. substituted around (c.args.place - 1) o before) (sym (ap (λ o. maybe_candidate ts o) c.named-candidate.ensures ∙ candidate_at ts c.args.candidates.now k))
    ∙ ap (λ n. substituted around n (maybe_candidate ts c.named-candidate.result) before) (sym c.saturating_sub.ensures)
    ∙ c.substituted.ensures.is state
