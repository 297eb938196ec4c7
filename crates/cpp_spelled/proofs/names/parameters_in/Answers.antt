use Rattle.std.proofs.Common.{◌∙◌, arith}
use Rattle.cpp_spelled.specs.Outline.{from_first}
use Rattle.cpp_spelled.specs.declared.sought.TheConstants.{ENCODING}
use Rattle.cpp_spelled.proofs.Ends.{first_to_last}
use Rattle.cpp_spelled.proofs.names.parameters_in.Goals as goal

pub returns-in-len2-up : goal.returns-in-len2-up
returns-in-len2-up c =
    c.span-in-len2-up.ensures
    ∙ first_to_last record { from = 0; to = 0 } c.args.types.now (from_first ENCODING c.args.outline.now) c.args.base (omega (arith, c.in-len2-up.len_at_least))
