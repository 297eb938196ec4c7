use Rattle.cpp_grammar.proofs.Basics.{ap, sym, ◌∙◌, arith, rule_taken}
use Rattle.cpp_grammar.proofs.Letters.{letter, numbered, rule_at, rule_listed, letter_range, below}
use Rattle.cpp_grammar.proofs.table.number.Goals as goal

pub bounds-row-kind : goal.bounds-row-kind
bounds-row-kind c = below c.args.kind c.requires

pub returns-in-Some-clause-few : goal.returns-in-Some-clause-few
unfolding letter
returns-in-Some-clause-few c = letter_range _ c.args.kind c.args.byte c.in-Some.letter (below c.args.kind c.requires) (omega (arith, c.ranges.byte.fits)) (sym c.in-Some.ensures)

pub returns-in-Some-clause-rule : goal.returns-in-Some-clause-rule
unfolding letter numbered
returns-in-Some-clause-rule c = λ head.
    rule_at _ c.args.kind c.args.byte c.requires (omega (arith, c.ranges.byte.fits))
    ∙ ap (λ found. rule_taken (numbered found)) (sym c.in-Some.ensures)
    ∙ sym (rule_listed head _ (letter_range _ c.args.kind c.args.byte c.in-Some.letter (below c.args.kind c.requires) (omega (arith, c.ranges.byte.fits)) (sym c.in-Some.ensures)))

pub returns-in-None-clause-rule : goal.returns-in-None-clause-rule
unfolding letter numbered rule_taken
returns-in-None-clause-rule c = λ head.
    rule_at _ c.args.kind c.args.byte c.requires (omega (arith, c.ranges.byte.fits)) ∙ ap (λ found. rule_taken (numbered found)) (sym c.in-None.ensures)
