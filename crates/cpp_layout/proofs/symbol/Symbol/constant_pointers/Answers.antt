use Rattle.cpp_layout.proofs.Basics.{refl, ap, ◌∙◌, arith, pointer, constant_pointers}
use Rattle.cpp_layout.proofs.Pointing.{one-more-constant}
use Rattle.cpp_layout.proofs.symbol.Symbol.constant_pointers.Goals as goal

pub returns-in_default-clause-tree : goal.returns-in_default-clause-tree
unfolding constant_pointers
returns-in_default-clause-tree c = refl

pub levels-init : goal.levels-init
unfolding constant_pointers
levels-init c = (refl, c.in-Some.ensures.tree, c.requires.ty, c.in-Some.ensures.below, omega arith)

pub levels-preserved : goal.levels-preserved
levels-preserved c = (
  c.levels.invariant.0 ∙ ap (constant_pointers c.levels.levels) (c.levels.invariant.1 ∙ ap pointer c.in-Some-constant.ensures.tree) ∙ one-more-constant c.levels.levels _,
  c.in-Some-pointed.ensures.tree,
  c.in-Some-constant.ensures.below,
  c.in-Some-pointed.ensures.below,
  omega (arith, c.levels-test.true),
)
