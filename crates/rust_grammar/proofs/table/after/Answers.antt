use Rattle.sym_shape.proofs.Listed.{place_within}
use Rattle.rust_grammar.specs.declared.table.TheConstants.{SYMBOLS}
use Rattle.rust_grammar.proofs.Letters.{after_place}
use Rattle.rust_grammar.proofs.table.after.Goals as goal

pub bounds-place : goal.bounds-place
bounds-place c = place_within SYMBOLS c.args.place c.requires.0 c.requires.1

pub returns : goal.returns
returns c = after_place c.args.place
