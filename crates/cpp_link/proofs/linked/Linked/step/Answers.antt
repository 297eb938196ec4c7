use Rattle.cpp_link.proofs.Basics.{◌≡◌, sym, ◌∙◌, ap, subst, arith, ℕ, ◌<◌, List, [], ◌∷◌, length, get_or, IfOk, IfErr, Refusal, Fails, Production, Value, part, between, Linked, Surroundings, Step, trees_in, value_in, values_in, around_of, goes_on, Part, makes_before, IsStepOf, nodes_of_step}
use Rattle.cpp_term.specs.Values as values
use Rattle.cpp_link.proofs.Stepping.{none_made}
use Rattle.cpp_link.proofs.Places.{values_length, none_are, one_is, two_are, three_are, later_are, empty_length, many_more}
use Rattle.cpp_link.proofs.linked.Linked.step.Goals as goal

abbrev Goes : List ℕ → Linked → Production → (place : ℕ) → Surroundings → List Value → Step → Type 0
Goes s l p place kept vs step =
    (state : values.State) → between p (around_of (trees_in s l.nodes) kept) place vs (record state { packs = l.packs }) ≡ goes_on s l.nodes kept vs state l.packs step

abbrev Refuses : List ℕ → Linked → Production → (place : ℕ) → Surroundings → List Value → Refusal → Type 0
Refuses s l p place kept vs e = (state : values.State) → Fails e (between p (around_of (trees_in s l.nodes) kept) place vs (record state { packs = l.packs }))

pub returns-then-is_empty : goal.returns-then-is_empty
returns-then-is_empty c =
    let s = c.args.symbol.now in
    let l = c.args.self.now in
    let p = c.args.production in
    let empty = empty_length c.args.parts.now (sym c.is_empty.ensures ∙ c.if-is_empty.true) in
    let none = none_are (values_in s l.nodes c.args.parts.now) (values_length _ _ c.args.parts.now ∙ empty) in
    let had = c.step_begin.ensures in
    record {
      is = subst (λ vs. IfOk c.step_begin.result (λ step. Goes s l p c.args.place c.args.kept vs step)) (sym none) had.is;
      refused = subst (λ vs. IfErr c.step_begin.result (λ e. Refuses s l p c.args.place c.args.kept vs e)) (sym none) had.refused;
      there = had.there;
      of = had.of (length c.args.parts.now);
      makes = subst (λ vs. IfOk c.step_begin.result (λ step. nodes_of_step step ≡ makes_before p vs)) (sym none) had.makes;
      pack = λ is one. absurd (omega (arith, empty, ap (λ ps. length ps) one));
      bad = had.bad;
    }

pub returns-then-parts-eq1 : goal.returns-then-parts-eq1
returns-then-parts-eq1 c =
    let s = c.args.symbol.now in
    let l = c.args.self.now in
    let p = c.args.production in
    let one = one_is (values_in s l.nodes c.args.parts.now) (values_length _ _ c.args.parts.now ∙ c.if-parts-eq1.true) ∙ ap (λ v. v ∷ []) (sym c.given-first.ensures.is) in
    let had = c.step_behind_first.ensures in
    record {
      is = subst (λ vs. IfOk c.step_behind_first.result (λ step. Goes s l p c.args.place c.args.kept vs step)) (sym one) had.is;
      refused = subst (λ vs. IfErr c.step_behind_first.result (λ e. Refuses s l p c.args.place c.args.kept vs e)) (sym one) had.refused;
      there = had.there;
      of = subst (λ held. IfOk c.step_behind_first.result (λ step. IsStepOf p held step)) (sym c.if-parts-eq1.true) had.of;
      makes = subst (λ vs. IfOk c.step_behind_first.result (λ step. nodes_of_step step ≡ makes_before p vs)) (sym one) had.makes;
      pack = λ is alone. none_made c.step_behind_first.result c.given-first.result (c.given-first.ensures.at ∙ ap (λ ps. get_or ps 0 Part.Nothing) alone) (had.pack is);
      bad = had.bad;
    }

pub returns-then-parts-eq2 : goal.returns-then-parts-eq2
returns-then-parts-eq2 c =
    let s = c.args.symbol.now in
    let l = c.args.self.now in
    let p = c.args.production in
    let vs = values_in s l.nodes c.args.parts.now in
    let two = two_are vs (values_length _ _ c.args.parts.now ∙ c.if-parts-eq2.true) ∙ ap (λ v. v ∷ part vs 1 ∷ []) (sym c.given-first.ensures.is)
    ∙ ap (λ v. value_in s l.nodes c.given-first.result ∷ v ∷ []) (sym c.given-second.ensures.is) in
    let had = c.step_third.ensures in
    record {
      is = subst (λ vs. Goes s l p c.args.place c.args.kept vs c.step_third.result) (sym two) had.is;
      refused = tt;
      there = had.there;
      of = subst (λ held. IsStepOf p held c.step_third.result) (sym c.if-parts-eq2.true) had.of;
      makes = subst (λ vs. nodes_of_step c.step_third.result ≡ makes_before p vs) (sym two) had.makes;
      pack = λ is alone. absurd (c.if-parts-eq1.false (ap (λ ps. length ps) alone));
      bad = tt;
    }

pub returns-then-parts-eq3 : goal.returns-then-parts-eq3
returns-then-parts-eq3 c =
    let s = c.args.symbol.now in
    let l = c.args.self.now in
    let p = c.args.production in
    let vs = values_in s l.nodes c.args.parts.now in
    let first : Value = value_in s l.nodes c.given-first.result in
    let second : Value = value_in s l.nodes c.given-second.result in
    let three = three_are vs (values_length _ _ c.args.parts.now ∙ c.if-parts-eq3.true) ∙ ap (λ v. v ∷ part vs 1 ∷ part vs 2 ∷ []) (sym c.given-first.ensures.is)
    ∙ ap (λ v. first ∷ v ∷ part vs 2 ∷ []) (sym c.given-second.ensures.is) ∙ ap (λ v. first ∷ second ∷ v ∷ []) (sym c.given-third.ensures.is) in
    let had = c.step_fourth.ensures in
    record {
      is = subst (λ vs. Goes s l p c.args.place c.args.kept vs c.step_fourth.result) (sym three) had.is;
      refused = tt;
      there = had.there;
      of = had.of (length c.args.parts.now);
      makes = subst (λ vs. nodes_of_step c.step_fourth.result ≡ makes_before p vs) (sym three) had.makes;
      pack = λ is alone. absurd (c.if-parts-eq1.false (ap (λ ps. length ps) alone));
      bad = tt;
    }

pub returns : goal.returns
returns c =
    let s = c.args.symbol.now in
    let l = c.args.self.now in
    let p = c.args.production in
    let vs = values_in s l.nodes c.args.parts.now in
    let size = values_length s (trees_in s l.nodes) c.args.parts.now in
    let later = later_are vs (subst (λ n. 3 < n) (sym size) (many_more _ (sym c.is_empty.ensures ∙ c.if-is_empty.false) c.if-parts-eq1.false c.if-parts-eq2.false c.if-parts-eq3.false)) in
    let are = later.are ∙ ap (λ v. v ∷ later.second ∷ later.third ∷ later.fourth ∷ later.rest) (sym c.given-first.ensures.is) in
    let had = c.step_later.ensures in
    record {
      is = subst (λ vs. Goes s l p c.args.place c.args.kept vs c.step_later.result) (sym are) (had.is later.second later.third later.fourth later.rest);
      refused = tt;
      there = had.there;
      of = had.of (length c.args.parts.now);
      makes = subst (λ vs. nodes_of_step c.step_later.result ≡ makes_before p vs) (sym are) (had.makes later.second later.third later.fourth later.rest);
      pack = λ is alone. absurd (c.if-parts-eq1.false (ap (λ ps. length ps) alone));
      bad = tt;
    }
