use Rattle.cpp_layout.proofs.Basics.{List, ap, arith, decimal, sym, ℕ, ◌∙◌, ◌∷◌, [], text, name_of_own, reargued, tree_of}
use Rattle.cpp_layout.proofs.Declaring.{name-some, own-other, own-right}
use Rattle.cpp_layout.proofs.Growing.{fills, starts}
use Rattle.cpp_layout.proofs.symbol.Symbol.fill_own_name.Goals as goal

pub returns-then-form-eq-RIGHT-clause-shows : goal.returns-then-form-eq-RIGHT-clause-shows
returns-then-form-eq-RIGHT-clause-shows g c = fills c.args.self.now c.args.detail _ _ _ (starts c.args.self.now c.args.detail _) (own-right c.args.form c.args.number _ c.if-form-eq-RIGHT.true)

pub returns-in-Absent-clause-shows : goal.returns-in-Absent-clause-shows
unfolding tree_of reargued name_of_own
returns-in-Absent-clause-shows g c =
    fills c.args.self.now c.args.detail _ _ _ (c.push_some.ensures.shows _ _ _ (starts c.args.self.now c.args.detail _))
    (ap (λ (t : List ℕ). text t ∷ []) c.builtin_with_d.ensures.text
    ∙ ap (name_of_own c.args.number) (sym c.in-Absent.ensures.tree ∙ c.place-place.ensures.tree ∙ c.element_of-head.ensures.tree)
    ∙ own-other c.args.form c.args.number _ c.requires.plain c.if-form-eq-RIGHT.false)

pub returns-in_default : goal.returns-in_default
returns-in_default g c = record {
  shows =
      fills c.args.self.now c.args.detail _ _ _ (c.push_text.ensures.shows _ _ _ (c.push_decimal.ensures.shows _ _ _ (starts c.args.self.now c.args.detail _)))
      (ap (λ (t : List ℕ). text t ∷ text (decimal c.args.number) ∷ []) c.front_of_name.ensures.text
      ∙ name-some _ _ _ _ c.stored.result c.stored.ensures.own _ c.stored.ensures.tree c.args.number c.in_default.not-Absent
      ∙ ap (name_of_own c.args.number) (c.place-place.ensures.tree ∙ c.element_of-head.ensures.tree)
      ∙ own-other c.args.form c.args.number _ c.requires.plain c.if-form-eq-RIGHT.false);
  few = omega (arith, c.push_decimal.ensures.room, c.push_text.ensures.room);
}
