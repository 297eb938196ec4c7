use Rattle.cpp_link.proofs.Basics.{begin_tallied, Surrounds, wide_view, wide_makes}
use Rattle.cpp_link.proofs.Beginning.{none_more, begun_adds, begun_few, begun_pays, begun_keeps}
use Rattle.cpp_link.proofs.wide_language.RescopingThreading.begin.Goals as goal

pub returns-clause-begins : goal.returns-clause-begins
returns-clause-begins c =
    begin_tallied (wide_view c.args.symbol.now) wide_makes c.args.symbol.now (Surrounds c.args.symbol.now) c.args.rows.now c.args.self.now.linked c.begin_wide.new.self c.args.context c.args.row c.begin_wide.result
    (none_more c.args.self.now c.begin_wide.new.self c.begin_wide.result c.begin_wide.ensures.nodes) c.begin_wide.ensures.begins

pub returns-clause-adds : goal.returns-clause-adds
returns-clause-adds c = begun_adds c.args.self.now c.begin_wide.new.self c.begin_wide.result c.begin_wide.ensures.nodes c.args.symbol.now

pub returns-clause-few : goal.returns-clause-few
returns-clause-few c = begun_few c.args.self.now c.begin_wide.new.self c.begin_wide.result c.begin_wide.ensures.nodes

pub returns-clause-pays : goal.returns-clause-pays
returns-clause-pays c = begun_pays c.args.self.now c.begin_wide.new.self c.begin_wide.result c.begin_wide.ensures.nodes c.args.symbol.now

pub returns-clause-keeps : goal.returns-clause-keeps
returns-clause-keeps c = begun_keeps c.args.self.now c.begin_wide.new.self c.begin_wide.result c.begin_wide.ensures.nodes c.begin_wide.ensures.candidates
