use Rattle.cpp_link.proofs.Basics.{sym, ◌∙◌, arguments_in}
use Rattle.cpp_link.proofs.PassedOver.{literal_as_before, literal_in_constraint}
use Rattle.cpp_link.proofs.linked.Linked.in_literal.Goals as goal

pub returns-then-not-is_unseen-clause-around : goal.returns-then-not-is_unseen-clause-around
returns-then-not-is_unseen-clause-around c ts = literal_as_before ts c.args.kept (sym c.is_unseen.ensures ∙ c.if-not-is_unseen.true)

pub returns-clause-around : goal.returns-clause-around
returns-clause-around c ts = literal_in_constraint ts c.args.kept (sym c.is_unseen.ensures ∙ c.if-not-is_unseen.false)

pub returns-clause-there : goal.returns-clause-there
unfolding arguments_in
returns-clause-there c = (tt, c.requires.kept.1)
