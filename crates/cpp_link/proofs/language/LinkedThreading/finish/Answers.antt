use Rattle.cpp_link.proofs.Basics.{cpp_view, cpp_makes, room_untallied, open_at_untallied, finish_tallied}
use Rattle.cpp_link.proofs.Rooms.{roomy_keeps, roomy_full}
use Rattle.cpp_link.proofs.NodeCount.{end_read}
use Rattle.cpp_link.proofs.language.LinkedThreading.finish.Goals as goal

pub finish_rule-requires-clause-room : goal.finish_rule-requires-clause-room
finish_rule-requires-clause-room c = room_untallied (cpp_view c.args.symbol.now) cpp_makes c.args.symbol.now c.args.self.now _ c.requires.room

pub finish_rule-requires-clause-open : goal.finish_rule-requires-clause-open
finish_rule-requires-clause-open c = open_at_untallied (cpp_view c.args.symbol.now) cpp_makes c.args.symbol.now c.args.self.now c.args.frame.now c.args.parts.now.items c.requires.open

pub returns-clause-closes : goal.returns-clause-closes
returns-clause-closes c =
    finish_tallied (cpp_view c.args.symbol.now) cpp_makes c.args.symbol.now c.args.self.now c.finish_rule.new.self c.args.frame.now c.args.parts.now.items c.finish_rule.new.parts.items c.finish_rule.result
    (end_read c.args.symbol.now c.args.self.now c.finish_rule.new.self c.args.frame.now c.args.parts.now.items c.finish_rule.result c.requires.room.paid.begun c.finish_rule.ensures.makes) c.finish_rule.ensures.closes

pub returns-clause-keeps : goal.returns-clause-keeps
returns-clause-keeps c = roomy_keeps _ _ _ _ _ c.finish_rule.ensures.roomy

pub returns-clause-full : goal.returns-clause-full
returns-clause-full c = roomy_full _ _ _ _ _ c.finish_rule.ensures.roomy
