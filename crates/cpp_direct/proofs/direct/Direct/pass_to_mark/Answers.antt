use Rattle.cpp_direct.proofs.ForAnswers.{codes, false, true, subst, refl, ap, ◌∙◌, Some, pointer, lvalue, rvalue, qualified, detail_by, PrintsAs, qualifiers, pointer-as, lvalue-as, rvalue-as, const-as, value-marked, Open}
use Rattle.cpp_direct.proofs.direct.Direct.pass_to_mark.Goals as goal

pub mark-requires : goal.mark-requires
mark-requires g c =
    value-marked _ c.args.self.now c.args.is_reference false c.args.is_dependent (Open.Pointer c.in-Pointer.from) c.in-Pointer.from pointer (codes "*")
    c.requires.writing (c.requires.waits ∙ ap (λ o. Some o) c.in-Pointer.is) (λ scope rest os text h. h) (λ rest. refl)
    (λ names t b h. pointer-as (detail_by g.G.Grammar.IS_BARE g.G.Grammar.IS_BRIEF) names c.args.is_dependent t b c.args.is_reference h)

pub mark-requires-in-Lvalue : goal.mark-requires-in-Lvalue
mark-requires-in-Lvalue g c =
    value-marked _ c.args.self.now c.args.is_reference true c.args.is_dependent (Open.Lvalue c.in-Lvalue.from) c.in-Lvalue.from lvalue (codes "&")
    c.requires.writing (c.requires.waits ∙ ap (λ o. Some o) c.in-Lvalue.is) (λ scope rest os text h. h) (λ rest. refl)
    (λ names t b h. lvalue-as (detail_by g.G.Grammar.IS_BARE g.G.Grammar.IS_BRIEF) names c.args.is_dependent t b
    (subst (λ r. PrintsAs (detail_by g.G.Grammar.IS_BARE g.G.Grammar.IS_BRIEF) names c.args.is_dependent t b r) c.if-is_reference.false h))

pub mark-requires-in-Rvalue : goal.mark-requires-in-Rvalue
mark-requires-in-Rvalue g c =
    value-marked _ c.args.self.now c.args.is_reference true c.args.is_dependent (Open.Rvalue c.in-Rvalue.from) c.in-Rvalue.from rvalue (codes "&&")
    c.requires.writing (c.requires.waits ∙ ap (λ o. Some o) c.in-Rvalue.is) (λ scope rest os text h. h) (λ rest. refl)
    (λ names t b h. rvalue-as (detail_by g.G.Grammar.IS_BARE g.G.Grammar.IS_BRIEF) names c.args.is_dependent t b
    (subst (λ r. PrintsAs (detail_by g.G.Grammar.IS_BARE g.G.Grammar.IS_BRIEF) names c.args.is_dependent t b r) c.if-is_reference-2.false h))

pub mark-requires-in-Const : goal.mark-requires-in-Const
mark-requires-in-Const g c =
    value-marked _ c.args.self.now c.args.is_reference false c.args.is_dependent (Open.Const c.in-Const.from) c.in-Const.from (qualified (qualifiers true)) (codes " const")
    c.requires.writing (c.requires.waits ∙ ap (λ o. Some o) c.in-Const.is) (λ scope rest os text h. h) (λ rest. refl)
    (λ names t b h. const-as (detail_by g.G.Grammar.IS_BARE g.G.Grammar.IS_BRIEF) names c.args.is_dependent t b
    (subst (λ r. PrintsAs (detail_by g.G.Grammar.IS_BARE g.G.Grammar.IS_BRIEF) names c.args.is_dependent t b r) c.if-is_reference-3.false h))
