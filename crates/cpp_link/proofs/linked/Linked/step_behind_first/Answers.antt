use Rattle.cpp_link.proofs.Basics.{◌≡◌, sym, ◌∙◌, ap, subst, [], ◌∷◌, get_or, IfOk, Production, between, value_in, made_before, makes_before, IsStepOf, nodes_of_step}
use Rattle.cpp_link.proofs.Stepping.{first_steps}
use Rattle.cpp_link.proofs.linked.Linked.step_behind_first.Goals as goal

pub returns-in-Parameter-clause-of : goal.returns-in-Parameter-clause-of
unfolding made_before
returns-in-Parameter-clause-of c = first_steps c.args.production c.parameter.result (ap (λ p. get_or (made_before p) 1 0) c.in-Parameter.is)

pub returns-in-NestParameter-clause-of : goal.returns-in-NestParameter-clause-of
unfolding made_before
returns-in-NestParameter-clause-of c = first_steps c.args.production c.parameter-in-NestParameter.result (ap (λ p. get_or (made_before p) 1 0) c.in-NestParameter.is)

pub returns-in-ParameterArgument-clause-of : goal.returns-in-ParameterArgument-clause-of
unfolding made_before
returns-in-ParameterArgument-clause-of c = first_steps c.args.production c.parameter-in-ParameterArgument.result (ap (λ p. get_or (made_before p) 1 0) c.in-ParameterArgument.is)

pub returns-in-ParameterExpression-clause-of : goal.returns-in-ParameterExpression-clause-of
unfolding made_before
returns-in-ParameterExpression-clause-of c = first_steps c.args.production c.parameter_argument.result (ap (λ p. get_or (made_before p) 1 0) c.in-ParameterExpression.is)

pub returns-in-PackArgument-clause-is : goal.returns-in-PackArgument-clause-is
unfolding between
returns-in-PackArgument-clause-is c state = rw c.in-PackArgument.is (sym (c.pack.ensures.is c.args.kept (value_in c.args.symbol.now c.args.self.now.nodes c.args.first) state))

pub returns-in-PackArgument-clause-of : goal.returns-in-PackArgument-clause-of
returns-in-PackArgument-clause-of c = subst (λ p. IsStepOf p 1 c.pack.result) (sym c.in-PackArgument.is) c.pack.ensures.of

pub returns-in-Parameter-clause-pack : goal.returns-in-Parameter-clause-pack
returns-in-Parameter-clause-pack c is = let clash : Production.Parameter ≡ Production.PackArgument = sym c.in-Parameter.is ∙ is in absurd cc

pub returns-in-NestParameter-clause-pack : goal.returns-in-NestParameter-clause-pack
returns-in-NestParameter-clause-pack c is = let clash : Production.NestParameter ≡ Production.PackArgument = sym c.in-NestParameter.is ∙ is in absurd cc

pub returns-in-ParameterArgument-clause-pack : goal.returns-in-ParameterArgument-clause-pack
returns-in-ParameterArgument-clause-pack c is = let clash : Production.ParameterArgument ≡ Production.PackArgument = sym c.in-ParameterArgument.is ∙ is in absurd cc

pub returns-in-ParameterExpression-clause-pack : goal.returns-in-ParameterExpression-clause-pack
returns-in-ParameterExpression-clause-pack c is = let clash : Production.ParameterExpression ≡ Production.PackArgument = sym c.in-ParameterExpression.is ∙ is in absurd cc

pub returns-in-PackArgument-clause-pack : goal.returns-in-PackArgument-clause-pack
returns-in-PackArgument-clause-pack c is = c.pack.ensures.made

pub returns-in_default-clause-pack : goal.returns-in_default-clause-pack
returns-in_default-clause-pack c is = absurd (c.in_default.not-PackArgument is)

pub returns-in-Parameter-clause-makes : goal.returns-in-Parameter-clause-makes
unfolding makes_before made_before
returns-in-Parameter-clause-makes c =
    subst (λ p. IfOk c.parameter.result (λ step. nodes_of_step step ≡ makes_before p (value_in c.args.symbol.now c.args.self.now.nodes c.args.first ∷ []))) (sym c.in-Parameter.is) c.parameter.ensures.one

pub returns-in-NestParameter-clause-makes : goal.returns-in-NestParameter-clause-makes
unfolding makes_before made_before
returns-in-NestParameter-clause-makes c =
    subst (λ p. IfOk c.parameter-in-NestParameter.result (λ step. nodes_of_step step ≡ makes_before p (value_in c.args.symbol.now c.args.self.now.nodes c.args.first ∷ []))) (sym c.in-NestParameter.is)
    c.parameter-in-NestParameter.ensures.one

pub returns-in-ParameterArgument-clause-makes : goal.returns-in-ParameterArgument-clause-makes
unfolding makes_before made_before
returns-in-ParameterArgument-clause-makes c =
    subst (λ p. IfOk c.parameter-in-ParameterArgument.result (λ step. nodes_of_step step ≡ makes_before p (value_in c.args.symbol.now c.args.self.now.nodes c.args.first ∷ []))) (sym c.in-ParameterArgument.is)
    c.parameter-in-ParameterArgument.ensures.one

pub returns-in-ParameterExpression-clause-makes : goal.returns-in-ParameterExpression-clause-makes
unfolding makes_before made_before
returns-in-ParameterExpression-clause-makes c =
    subst (λ p. IfOk c.parameter_argument.result (λ step. nodes_of_step step ≡ makes_before p (value_in c.args.symbol.now c.args.self.now.nodes c.args.first ∷ []))) (sym c.in-ParameterExpression.is)
    c.parameter_argument.ensures.one
