use Rattle.cpp_link.proofs.Basics.{sym, ◌∙◌, ap, ◌||◌, nat_eq, eq-eqb, ne_eqb, LAMBDA, UNNAMED}
use Rattle.cpp_link.proofs.ByNumber.{numbered_told}
use Rattle.cpp_link.proofs.begin.is_numbered.Goals as goal

pub returns-then-number-eq-LAMBDA : goal.returns-then-number-eq-LAMBDA
returns-then-number-eq-LAMBDA c =
    let n = c.args.number in
    let first = eq-eqb n LAMBDA c.if-number-eq-LAMBDA.true in
    first ∙ sym (numbered_told n ∙ ap (λ b. b || nat_eq n UNNAMED) first)

pub returns-else-number-eq-LAMBDA : goal.returns-else-number-eq-LAMBDA
returns-else-number-eq-LAMBDA c =
    let n = c.args.number in
    sym (numbered_told n ∙ ap (λ b. b || nat_eq n UNNAMED) (ne_eqb n LAMBDA c.if-number-eq-LAMBDA.false))
