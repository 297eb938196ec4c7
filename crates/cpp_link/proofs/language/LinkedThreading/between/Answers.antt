use Rattle.cpp_link.proofs.Basics.{Surrounds, cpp_view, cpp_makes, room_untallied, open_at_untallied, between_tallied}
use Rattle.cpp_link.proofs.Rooms.{roomy_keeps, roomy_full}
use Rattle.cpp_link.proofs.NodeCount.{before_read}
use Rattle.cpp_link.proofs.language.LinkedThreading.between.Goals as goal

pub before_part-requires-clause-room : goal.before_part-requires-clause-room
before_part-requires-clause-room c = room_untallied (cpp_view c.args.symbol.now) cpp_makes c.args.symbol.now c.args.self.now _ c.requires.room

pub before_part-requires-clause-open : goal.before_part-requires-clause-open
before_part-requires-clause-open c = open_at_untallied (cpp_view c.args.symbol.now) cpp_makes c.args.symbol.now c.args.self.now c.args.frame.now c.args.parts.now.items c.requires.open

pub returns-clause-goes : goal.returns-clause-goes
returns-clause-goes c =
    between_tallied (cpp_view c.args.symbol.now) cpp_makes c.args.symbol.now (Surrounds c.args.symbol.now) c.args.self.now c.before_part.new.self c.args.frame.now c.args.parts.now.items c.before_part.new.parts.items
    c.before_part.result (before_read c.args.symbol.now c.args.self.now c.before_part.new.self c.args.frame.now c.args.parts.now.items c.before_part.result c.requires.room.paid.begun c.before_part.ensures.makes) c.before_part.ensures.goes

pub returns-clause-keeps : goal.returns-clause-keeps
returns-clause-keeps c = roomy_keeps _ _ _ _ _ c.before_part.ensures.roomy

pub returns-clause-full : goal.returns-clause-full
returns-clause-full c = roomy_full _ _ _ _ _ c.before_part.ensures.roomy
