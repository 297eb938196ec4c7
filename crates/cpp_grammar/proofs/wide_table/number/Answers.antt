use Rattle.cpp_grammar.proofs.Basics.{ap, sym, ◌∙◌, ◌+◌, arith, get_or, WIDE_ROWS, rule_taken}
use Rattle.cpp_grammar.proofs.Letters.{numbered, rule_listed}
use Rattle.cpp_grammar.proofs.WideLetters.{from_base, wide_number, rule_at, letter_range, below, no_row}
use Rattle.cpp_grammar.proofs.wide_table.number.Goals as goal

pub bounds-row-kind : goal.bounds-row-kind
bounds-row-kind c = below c.args.kind c.requires

pub returns-in-Some-clause-few : goal.returns-in-Some-clause-few
unfolding from_base wide_number
returns-in-Some-clause-few c =
    letter_range no_row c.args.kind c.args.byte _ (below c.args.kind c.requires) (omega (arith, c.ranges.byte.fits)) (ap (from_base (get_or WIDE_ROWS c.args.kind no_row).base) (sym c.in-Some.ensures))

pub returns-in-Some-clause-rule : goal.returns-in-Some-clause-rule
unfolding from_base wide_number numbered
returns-in-Some-clause-rule c = λ head.
    rule_at no_row c.args.kind c.args.byte c.requires (omega (arith, c.ranges.byte.fits))
    ∙ ap (λ found. rule_taken (numbered (from_base (get_or WIDE_ROWS c.args.kind no_row).base found))) (sym c.in-Some.ensures)
    ∙ sym (rule_listed head ((get_or WIDE_ROWS c.args.kind no_row).base + c.in-Some.letter) (letter_range no_row c.args.kind c.args.byte _ (below c.args.kind c.requires) (omega (arith, c.ranges.byte.fits))
    (ap (from_base (get_or WIDE_ROWS c.args.kind no_row).base) (sym c.in-Some.ensures))))

pub returns-in-None-clause-rule : goal.returns-in-None-clause-rule
unfolding from_base wide_number numbered rule_taken
returns-in-None-clause-rule c = λ head.
    rule_at no_row c.args.kind c.args.byte c.requires (omega (arith, c.ranges.byte.fits))
    ∙ ap (λ found. rule_taken (numbered (from_base (get_or WIDE_ROWS c.args.kind no_row).base found))) (sym c.in-None.ensures)
