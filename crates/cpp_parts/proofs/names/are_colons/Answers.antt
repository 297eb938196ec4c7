use Rattle.cpp_parts.proofs.Basics.{◌∙◌, sym, ap, are_colons}
use Rattle.cpp_parts.proofs.names.are_colons.Goals as goal

pub returns-in-Some : goal.returns-in-Some
unfolding are_colons
returns-in-Some c =
    sym (ap are_colons (sym c.bytes.ensures.bytes ∙ c.in-Some.ensures.cases.0))
