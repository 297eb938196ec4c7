use Rattle.cpp_link.proofs.Basics.{refl, sym, ◌∙◌, subst, AreListed}
use Rattle.cpp_link.proofs.Pushed.{one_listed, noted_all, numbered_as_it_is}
use Rattle.cpp_link.proofs.candidates.Candidates.number.Goals as goal

pub returns-then-is_one_list : goal.returns-then-is_one_list
returns-then-is_one_list c =
    let old = c.args.self.now in
    let p = c.requires.pushed in
    numbered_as_it_is old old refl
    (subst (λ xs. AreListed old.not_longer old.not_shorter old.by xs) (sym p.items)
    (one_listed old.not_longer old.not_shorter old.by p.before p.last p.listed (p.by ∙ noted_all c.args.counted (sym c.is_by_all.ensures ∙ c.if-is_by_all.true))
    (sym c.is_one_list.ensures ∙ c.if-is_one_list.true) (p.longer ∙ p.own) (p.shorter ∙ p.own)))
