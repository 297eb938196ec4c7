use Rattle.cpp_press_laws.proofs.Basics.{number_of_kind, any_type}
use Rattle.cpp_press_laws.proofs.Spots as spot
use Rattle.cpp_press_laws.proofs.EveryWay.Law.{reads}
use Rattle.cpp_press_laws.proofs.Components.AddedTrees.{arguments-counted}
use Rattle.cpp_press_laws.proofs.ByKind.Shapes.{symbol-read-fits}
use Rattle.cpp_press_laws.proofs.laws.subtrees_are_read.Goals as goal

pub returns-clause-types : goal.returns-clause-types
unfolding number_of_kind
returns-clause-types c t = ((reads arguments-counted t).at spot.as_type) any_type

pub returns-clause-encodings : goal.returns-clause-encodings
unfolding number_of_kind
returns-clause-encodings c t = ((reads arguments-counted t).at spot.as_encoding)

pub returns-clause-symbols : goal.returns-clause-symbols
returns-clause-symbols c = symbol-read-fits
