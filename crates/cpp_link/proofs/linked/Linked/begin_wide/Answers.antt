use Rattle.std.proofs.Common.{sym, ◌∙◌}
use Rattle.cpp_link.proofs.Beginning.{alike_begins}
use Rattle.cpp_link.proofs.linked.Linked.begin_wide.Goals as goal

pub returns-then-is_one_list : goal.returns-then-is_one_list
returns-then-is_one_list c =
    alike_begins c.args.symbol.now c.args.rows.now c.args.self.now c.args.context c.args.row c.begin_rule.result (sym c.is_one_list.ensures ∙ c.if-is_one_list.true) c.begin_rule.ensures.begins c.begin_rule.ensures.refused
