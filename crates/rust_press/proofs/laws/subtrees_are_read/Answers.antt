use Rattle.rust_press.proofs.PressKept.{type-kept}
use Rattle.rust_press.proofs.PressSymbol.{press-path-kept}
use Rattle.rust_press.proofs.PressTokens.{constant-kept}
use Rattle.rust_press.proofs.laws.subtrees_are_read.Goals as goal

pub returns-clause-paths : goal.returns-clause-paths
returns-clause-paths c s bound inside minus path fits good closed = press-path-kept s bound fits inside minus path good closed

pub returns-clause-types : goal.returns-clause-types
returns-clause-types c s bound inside minus type fits good closed = type-kept s bound fits inside minus type good closed

pub returns-clause-constants : goal.returns-clause-constants
returns-clause-constants c s bound inside minus constant fits good = constant-kept s bound fits inside minus constant good
