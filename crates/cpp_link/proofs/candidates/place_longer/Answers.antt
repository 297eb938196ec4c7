use Rattle.cpp_link.proofs.Listed.{longer_set}
use Rattle.cpp_link.proofs.candidates.place_longer.Goals as goal

pub returns-clause-items : goal.returns-clause-items
returns-clause-items c = longer_set c.args.list.now.items c.args.number c.args.place c.index-candidate.result.now c.requires.number c.index-candidate.ensures
