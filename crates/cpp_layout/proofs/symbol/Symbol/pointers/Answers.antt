use Rattle.cpp_layout.proofs.Basics.{refl, ap, ◌∙◌, arith, pointers}
use Rattle.cpp_layout.proofs.Pointing.{one-more}
use Rattle.cpp_layout.proofs.symbol.Symbol.pointers.Goals as goal

pub returns-in_default-clause-tree : goal.returns-in_default-clause-tree
unfolding pointers
returns-in_default-clause-tree c = refl

pub levels-init : goal.levels-init
unfolding pointers
levels-init c = (refl, c.in-Some.ensures.tree, c.requires.ty, c.in-Some.ensures.below, omega arith)

pub pointed-requires-in-levels-clause-ty : goal.pointed-requires-in-levels-clause-ty
pointed-requires-in-levels-clause-ty c = c.levels.invariant.3

pub levels-preserved : goal.levels-preserved
levels-preserved c = (c.levels.invariant.0 ∙ ap (pointers c.levels.levels) c.levels.invariant.1 ∙ one-more c.levels.levels _, c.in-Some-pointed.ensures.tree, c.levels.invariant.3, c.in-Some-pointed.ensures.below, omega (arith, c.levels-test.true))

pub returns-in_default-pointed-clause-tree : goal.returns-in_default-pointed-clause-tree
returns-in_default-pointed-clause-tree c = c.levels.invariant.0

pub returns-in_default-pointed-clause-below : goal.returns-in_default-pointed-clause-below
returns-in_default-pointed-clause-below c = c.levels.invariant.2

pub returns-in_default-pointed-clause-pointer : goal.returns-in_default-pointed-clause-pointer
returns-in_default-pointed-clause-pointer c = λ some. (_, c.levels.invariant.1)

pub returns-clause-tree : goal.returns-clause-tree
returns-clause-tree c = c.levels.invariant.0

pub returns-clause-below : goal.returns-clause-below
returns-clause-below c = c.levels.invariant.2

pub returns-clause-pointer : goal.returns-clause-pointer
returns-clause-pointer c = λ some. (_, c.levels.invariant.1)

pub returns-clause-few : goal.returns-clause-few
returns-clause-few c = c.levels.invariant.4
