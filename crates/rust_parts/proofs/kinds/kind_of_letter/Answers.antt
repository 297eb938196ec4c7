use Rattle.std.proofs.Common.{arith}
use Rattle.rust_parts.proofs.Sorting.{closure-letter, shim-letter, value-letter, type-letter, other-letter}
use Rattle.rust_parts.proofs.kinds.kind_of_letter.Goals as goal

pub returns-in-67 : goal.returns-in-67
returns-in-67 c =
    closure-letter c.args.letter c.in-67.is

pub returns-in-83 : goal.returns-in-83
returns-in-83 c =
    shim-letter c.args.letter c.in-83.is

pub returns-in-118 : goal.returns-in-118
returns-in-118 c =
    value-letter c.args.letter c.in-118.is

pub returns-in-116 : goal.returns-in-116
returns-in-116 c =
    type-letter c.args.letter c.in-116.is

pub returns-in_default : goal.returns-in_default
returns-in_default c =
    other-letter c.args.letter (λ e. omega (arith, e, c.in_default)) (λ e. omega (arith, e, c.in_default)) (λ e. omega (arith, e, c.in_default)) (λ e. omega (arith, e, c.in_default))
