use Rattle.cpp_grammar.proofs.Basics.{place_within, SYMBOLS}
use Rattle.cpp_grammar.proofs.Letters.{after_place}
use Rattle.cpp_grammar.proofs.table.after.Goals as goal

pub bounds-place : goal.bounds-place
bounds-place c = place_within SYMBOLS c.args.place c.requires.0 c.requires.1

pub returns : goal.returns
returns c = after_place c.args.place
