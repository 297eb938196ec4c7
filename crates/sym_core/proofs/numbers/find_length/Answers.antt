use Rattle.sym_core.proofs.Basics.{refl, Length}
use Rattle.sym_core.proofs.Runs.{found_bare, broken_bare}
use Rattle.sym_core.proofs.numbers.find_length.Goals as goal

pub returns-then-at-found-clause-number : goal.returns-then-at-found-clause-number
returns-then-at-found-clause-number c =
    let run = c.count_length-found.ensures in
    (refl, run.low, found_bare Length c.args.s.now c.args.at c.count_length-found.result.to _ refl c.if-at-found.true run.run c.most_digits-most.ensures)

pub returns-else-at-found-clause-number : goal.returns-else-at-found-clause-number
returns-else-at-found-clause-number c =
    let run = c.count_length-found.ensures in
    (run.low, broken_bare Length c.args.s.now c.args.at c.count_length-found.result.to _ refl c.if-at-found.false run.run c.most_digits-most.ensures)
