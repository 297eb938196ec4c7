use Rattle.std.proofs.Common.{◌∙◌, sym}
use Rattle.cpp_grammar.proofs.Choosing.{empty_at_kind, is_kind}
use Rattle.cpp_grammar.proofs.abi.is_optional.Goals as goal

pub returns-in-Some : goal.returns-in-Some
returns-in-Some c = c.may_be_empty.ensures ∙ sym (empty_at_kind c.args.kind c.in-Some.kind (sym c.kind_of.ensures ∙ c.in-Some.is))

pub returns-in-None : goal.returns-in-None
returns-in-None c = absurd (is_kind c.args.kind c.requires (sym c.kind_of.ensures ∙ c.in-None.is))
