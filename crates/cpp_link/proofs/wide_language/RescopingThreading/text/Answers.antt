use Rattle.cpp_link.proofs.Basics.{refl, Ok, cpp_wide, cpp, lists_of, wide_view, wide_makes, room_same, text_tallied}
use Rattle.cpp_link.proofs.wide_language.RescopingThreading.text.Goals as goal

pub returns-clause-taken : goal.returns-clause-taken
unfolding cpp cpp_wide
returns-clause-taken c = text_tallied (wide_view c.args.symbol.now) wide_makes c.args.symbol.now c.args.self.now.linked c.args.self.now.linked c.args.row (Ok c.text_at.result) refl c.text_at.ensures

pub returns-clause-keeps : goal.returns-clause-keeps
returns-clause-keeps c = room_same (lists_of c.args.self.now.linked)
