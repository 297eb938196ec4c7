use Rattle.cpp_link.proofs.Basics.{sym, ◌∙◌, ap, arith, local_number, in_64_bits, lambda_at_end, trees_in, value_of}
use Rattle.cpp_link.proofs.Declared.{declaring_means, declaring_makes, undeclared_means, undeclared_makes}
use Rattle.cpp_link.proofs.linked.Linked.lambda.Goals as goal

pub returns-in-Pair-clause-is : goal.returns-in-Pair-clause-is
unfolding value_of
returns-in-Pair-clause-is c =
    c.declaring_lambda.ensures.is
    ∙ declaring_means _ c.in-Pair.letter _ _ _ _ _ _ (sym c.given.ensures.is ∙ ap (value_of c.args.symbol.now (trees_in c.args.symbol.now c.args.self.now.nodes)) c.in-Pair.is)
    c.list-rest.ensures.is (c.local_number-number.ensures ∙ ap (λ d. in_64_bits (local_number d)) c.text.ensures.is)

pub returns-in-Pair-clause-makes : goal.returns-in-Pair-clause-makes
unfolding value_of lambda_at_end
returns-in-Pair-clause-makes c =
    c.declaring_lambda.ensures.makes
    ∙ declaring_makes _ c.in-Pair.letter _ _ _ _ (sym c.given.ensures.is ∙ ap (value_of c.args.symbol.now (trees_in c.args.symbol.now c.args.self.now.nodes)) c.in-Pair.is)
    c.list-rest.ensures.is

pub returns-in_default : goal.returns-in_default
unfolding lambda_at_end
returns-in_default c =
    let s = c.args.symbol.now in
    let ts = trees_in s c.args.self.now.nodes in
    record {
      is = c.undeclared_lambda.ensures.is
          ∙ undeclared_means s ts c.given.result _ _ _ _ _ _ c.in_default.not-Pair c.given.ensures.is c.tree.ensures.is c.list-rest.ensures.is
          (c.local_number-number.ensures ∙ ap (λ d. in_64_bits (local_number d)) c.text.ensures.is);
      there = c.undeclared_lambda.ensures.there;
      nodes = omega (arith, c.undeclared_lambda.ensures.nodes);
      makes = c.undeclared_lambda.ensures.makes ∙ undeclared_makes s ts c.given.result _ _ _ _ c.in_default.not-Pair c.given.ensures.is c.tree.ensures.is c.list-rest.ensures.is;
    }
