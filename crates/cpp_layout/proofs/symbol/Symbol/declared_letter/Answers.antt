use Rattle.cpp_layout.proofs.Basics.{ap, sym, ◌∙◌, declared_letter, reargued, tree_of}
use Rattle.cpp_layout.proofs.Declaring.{letter-none}
use Rattle.cpp_layout.proofs.symbol.Symbol.declared_letter.Goals as goal

pub returns-in-Operation : goal.returns-in-Operation
unfolding tree_of declared_letter reargued
returns-in-Operation c = ap declared_letter (sym c.in-Operation.ensures.tree ∙ c.place-place.ensures.tree)

pub returns-in_default : goal.returns-in_default
returns-in_default c = letter-none _ _ _ _ c.stored.result c.stored.ensures.own _ (sym c.place-place.ensures.tree ∙ c.stored.ensures.tree) c.in_default.not-Operation
