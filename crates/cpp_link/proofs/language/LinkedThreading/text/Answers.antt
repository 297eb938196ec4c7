use Rattle.cpp_link.proofs.Basics.{refl, Ok, lists_of, cpp_view, cpp_makes, room_same, text_tallied}
use Rattle.cpp_link.proofs.language.LinkedThreading.text.Goals as goal

pub returns-clause-taken : goal.returns-clause-taken
returns-clause-taken c = text_tallied (cpp_view c.args.symbol.now) cpp_makes c.args.symbol.now c.args.self.now c.args.self.now c.args.row (Ok c.text_at.result) refl c.text_at.ensures

pub returns-clause-keeps : goal.returns-clause-keeps
returns-clause-keeps c = room_same (lists_of c.args.self.now)
