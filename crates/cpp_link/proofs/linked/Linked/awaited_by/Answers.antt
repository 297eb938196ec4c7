use Rattle.std.proofs.Common.{◌∙◌}
use Rattle.cpp_link.proofs.Awaited.{awaited_within, nothing_awaited_by}
use Rattle.cpp_link.proofs.linked.Linked.awaited_by.Goals as goal

pub returns-in-Within : goal.returns-in-Within
returns-in-Within c = c.awaited_by_piece.ensures ∙ awaited_within c.args.encoding _ _ _ _ c.opened.result.node _ _ c.in-Within.piece c.opened.ensures.tree c.in-Within.is

pub returns-in_default : goal.returns-in_default
returns-in_default c = nothing_awaited_by c.args.encoding _ _ _ _ c.opened.result.node _ c.opened.ensures.tree c.opened.ensures.own c.in_default.not-Within
