use Rattle.rust_press.proofs.Basics.{length, slice_get, subst, trees_of, number_at, AreNumbered}
use Rattle.sym_spell.proofs.Counting.{through}
use Rattle.rust_press.proofs.numbering.numbers.Goals as goal

pub returns-clause-numbers : goal.returns-clause-numbers
returns-clause-numbers c =
    let y = c.args.symbol.now in
    let firsts = c.in_ok-firsts.firsts.items in
    let are = c.in_ok-firsts.ensures.firsts in
    through (slice_get (trees_of y)) (length (trees_of y)) firsts c.in_ok-numbers.numbers are.long (record { same = are.same; equal = are.equal })
    (subst (λ l. AreNumbered (number_at l) (length l) c.in_ok-numbers.numbers) c.deref.ensures.value c.in_ok-numbers.ensures.numbers)
