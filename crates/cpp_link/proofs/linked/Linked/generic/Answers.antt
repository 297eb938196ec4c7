use Rattle.cpp_link.proofs.Basics.{◌≡◌, refl, arith, ℕ, List, [], ◌∷◌, length, true, false, false≢true, Production, Value, is_parameter, makes_before, made_before, IsStepOf, Step, Node, Option, Bool}
use Rattle.cpp_link.proofs.linked.Linked.generic.Goals as goal

made : (p : Production) (node : Node) (listed is_name is_candidate : Bool) (packs : Option ℕ) → is_parameter p ≡ true → IsStepOf p 1 (Step.Made node listed is_name is_candidate packs)
unfolding is_parameter made_before
made Production.Parameter node listed is_name is_candidate packs is = (omega arith, refl)
made Production.NestParameter node listed is_name is_candidate packs is = (omega arith, refl)
made Production.ParameterArgument node listed is_name is_candidate packs is = (omega arith, refl)
made Production.ParameterExpression node listed is_name is_candidate packs is = (omega arith, refl)
made _ node listed is_name is_candidate packs is = absurd (false≢true is)

one : (p : Production) (known : List Value) → is_parameter p ≡ true → length known ≡ 1 → 1 ≡ makes_before p known
unfolding is_parameter makes_before made_before
one Production.Parameter (v ∷ []) is e = refl
one Production.NestParameter (v ∷ []) is e = refl
one Production.ParameterArgument (v ∷ []) is e = refl
one Production.ParameterExpression (v ∷ []) is e = refl
one p [] is e = absurd (omega (arith, e))
one p (v ∷ w ∷ vs) is e = absurd (omega (arith, e))
one _ known is e = absurd (false≢true is)

pub returns-then-is_argument-clause-of : goal.returns-then-is_argument-clause-of
returns-then-is_argument-clause-of c p is = made p (Node.Parameter c.generic_number.result 3) true false false c.args.self.now.packs is

pub returns-then-is_argument-clause-makes : goal.returns-then-is_argument-clause-makes
returns-then-is_argument-clause-makes c p known is e = one p known is e

pub returns-clause-of : goal.returns-clause-of
returns-clause-of c p is = made p (Node.Parameter c.generic_number.result 3) true true true c.args.self.now.packs is

pub returns-clause-makes : goal.returns-clause-makes
returns-clause-makes c p known is e = one p known is e
