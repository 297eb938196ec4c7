use Rattle.cpp_parts.proofs.Basics.{◌∙◌, sym, arith, on_ok_weaker, encoding_by}
use Rattle.cpp_parts.proofs.Growing.{grow-same}
use Rattle.cpp_parts.proofs.Sorting.{by-no-encoding}
use Rattle.cpp_parts.proofs.encodings.push_encoding.Goals as goal

pub returns-in-Function-clause-grows : goal.returns-in-Function-clause-grows
unfolding encoding_by
returns-in-Function-clause-grows c =
    on_ok_weaker c.push_function.result (λ g. grow-same c.args.y.now c.args.most _ _ _ _ _ _ g (sym (c.in-Function.ensures.is _ _)) (omega arith)) c.push_function.ensures.grows

pub returns-in-Variable-clause-grows : goal.returns-in-Variable-clause-grows
returns-in-Variable-clause-grows c =
    on_ok_weaker c.push_variable.result (λ g. grow-same c.args.y.now c.args.most _ _ _ _ _ _ g (sym (c.in-Variable.ensures.is _ _)) (omega arith)) c.push_variable.ensures.grows

pub returns-in-Target-clause-grows : goal.returns-in-Target-clause-grows
returns-in-Target-clause-grows c =
    on_ok_weaker c.push_target.result (λ g. grow-same c.args.y.now c.args.most _ _ _ _ _ _ g (sym (c.in-Target.ensures.is _ _)) (omega arith)) c.push_target.ensures.grows

pub returns-in-Other-clause-grows : goal.returns-in-Other-clause-grows
returns-in-Other-clause-grows c =
    on_ok_weaker c.push_special.result (λ g. grow-same c.args.y.now c.args.most _ _ _ _ _ _ g (by-no-encoding _ c.args.y.now _ ∙ sym (c.in-Other.ensures.is _ _)) (omega arith)) c.push_special.ensures.grows
