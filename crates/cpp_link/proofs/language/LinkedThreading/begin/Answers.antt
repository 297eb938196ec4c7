use Rattle.cpp_link.proofs.Basics.{room_same, lists_of, Surrounds, cpp_view, cpp_makes, begin_tallied}
use Rattle.cpp_link.proofs.NodeCount.{none_begun}
use Rattle.cpp_link.proofs.language.LinkedThreading.begin.Goals as goal

pub returns-clause-begins : goal.returns-clause-begins
returns-clause-begins c =
    begin_tallied (cpp_view c.args.symbol.now) cpp_makes c.args.symbol.now (Surrounds c.args.symbol.now) c.args.rows.now c.args.self.now c.args.self.now c.args.context c.args.row c.begin_rule.result
    (none_begun c.args.self.now c.begin_rule.result) c.begin_rule.ensures.begins

pub returns-clause-keeps : goal.returns-clause-keeps
returns-clause-keeps c = room_same (lists_of c.args.self.now)
