use Rattle.std.proofs.Common.{◌∙◌, sym}
use Rattle.cpp_grammar.proofs.Choosing.{wide_empty_at, is_wide_kind}
use Rattle.cpp_grammar.proofs.wide.is_optional.Goals as goal

pub returns-in-Some : goal.returns-in-Some
returns-in-Some c = c.may_be_empty.ensures ∙ sym (wide_empty_at c.args.kind c.in-Some.kind (sym c.kind_of.ensures ∙ c.in-Some.is))

pub returns-in-None : goal.returns-in-None
returns-in-None c = absurd (is_wide_kind c.args.kind c.requires (sym c.kind_of.ensures ∙ c.in-None.is))
