use Rattle.cpp_link.proofs.Basics.{sym, ◌∙◌, ap, true, false, Counting, awaited_of, counting_of}
use Rattle.cpp_link.proofs.linked.Linked.await_types.Goals as goal

pub returns-then-is_one_list-clause-counting : goal.returns-then-is_one_list-clause-counting
returns-then-is_one_list-clause-counting c =
    let old = counting_of c.args.self.now.counting in
    sym (ap (λ b. elim b as (λ _. Counting) [ true ↦ old | false ↦ record old { awaited = awaited_of c.args.awaited } ]) (sym c.is_one_list.ensures ∙ c.if-is_one_list.true))

pub returns-clause-counting : goal.returns-clause-counting
returns-clause-counting c =
    let old = counting_of c.args.self.now.counting in
    sym (ap (λ b. elim b as (λ _. Counting) [ true ↦ old | false ↦ record old { awaited = awaited_of c.args.awaited } ]) (sym c.is_one_list.ensures ∙ c.if-is_one_list.false))
