use Rattle.std.proofs.Common.{sym, ◌∙◌, arith}
use Rattle.cpp_layout.proofs.Coding.{no_operator, operator_found}
use Rattle.cpp_layout.proofs.codes.operator.Goals as goal

pub returns-then-number-ge-OPERATORS-clause-text : goal.returns-then-number-ge-OPERATORS-clause-text
returns-then-number-ge-OPERATORS-clause-text c = no_operator c.args.first c.args.second (omega (arith, c.ranges.first.fits)) (omega (arith, c.ranges.second.fits)) (λ k less e. c.codes.invariant.2 k (omega (arith, less, c.if-number-ge-OPERATORS.true)) (e ∙ sym c.codes.invariant.1))

pub returns-then-operator_code-code-clause-text : goal.returns-then-operator_code-code-clause-text
returns-then-operator_code-code-clause-text c = operator_found c.args.first c.args.second c.codes.number (omega (arith, c.if-number-ge-OPERATORS.false)) (omega (arith, c.ranges.first.fits)) (omega (arith, c.ranges.second.fits)) (sym c.operator_code.ensures ∙ c.if-operator_code-code.true ∙ c.codes.invariant.1)
