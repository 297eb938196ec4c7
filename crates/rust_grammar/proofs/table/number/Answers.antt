use Rattle.std.proofs.Common.{ap, sym, ◌∙◌, arith}
use Rattle.rust_grammar.proofs.Letters.{letter, rule_of, choice, rule_at, letter_range}
use Rattle.rust_grammar.proofs.table.number.Goals as goal

pub overflow_sub-result : goal.overflow_sub-result
unfolding letter
overflow_sub-result c = (letter_range _ c.args.kind c.args.byte c.in-Some.letter c.requires (omega (arith, c.ranges.byte.fits)) (sym c.in-Some.ensures)).0

pub returns-in-Some-clause-few : goal.returns-in-Some-clause-few
unfolding letter
returns-in-Some-clause-few c =
    let within = letter_range _ c.args.kind c.args.byte c.in-Some.letter c.requires (omega (arith, c.ranges.byte.fits)) (sym c.in-Some.ensures) in
    omega (arith, within.0, within.1)

pub returns-in-Some-clause-rule : goal.returns-in-Some-clause-rule
unfolding letter rule_of choice
returns-in-Some-clause-rule c = λ head.
    sym (rule_at head _ c.args.kind c.args.byte c.requires (omega (arith, c.ranges.byte.fits))) ∙ ap (rule_of head) (sym c.in-Some.ensures)

pub returns-in-None-clause-rule : goal.returns-in-None-clause-rule
unfolding letter rule_of choice
returns-in-None-clause-rule c = λ head.
    sym (rule_at head _ c.args.kind c.args.byte c.requires (omega (arith, c.ranges.byte.fits))) ∙ ap (rule_of head) (sym c.in-None.ensures)
