-- If components are trees of nodes, the number of components with a tree that no earlier component has is at most the
-- number of nodes.
use Rattle.cpp_press.proofs.Basics.{◌≡◌, ℕ, ◌+◌, ◌<◌, ◌≤◌, length, List, [], ◌∷◌, ◌++◌, Bool, true, false, refl, ap, arith, sym, subst, ◌∙◌, ◌||◌, IsDistinct, list_any, AllByRecursion, eqb, eqb-true, Term, ReadSymbol, whole_of, same_tree, spelled_components, Component, tree-itself, plain_at, AreOfNodes, HasFewComponents}
use Rattle.std.proofs.lemmas.Map.Keys.{IsDistinct-cons}
use Rattle.std.proofs.lemmas.Map.Steps.{length-le_from_distinct_below}
use Rattle.cpp_press_laws.specs.Repeated.{is_spelled, repeated}
use Rattle.cpp_press.proofs.NodesOfRead.{components-below}

true-false : true ≡ false → ⊥
true-false bad = cc

-- ## Trees that are spelled

spelled-here : (t : Term) (before : List Component) (c : Component) → c.tree ≡ t → is_spelled t (before ++ c ∷ []) ≡ true
unfolding is_spelled
spelled-here t [] c is = rw (is, tree-itself t) refl
spelled-here t (d ∷ before) c is = go (same_tree t d.tree) (spelled-here t before c is)
  where
    go : (b : Bool) → is_spelled t (before ++ c ∷ []) ≡ true → b || is_spelled t (before ++ c ∷ []) ≡ true
    go true more = refl
    go false more = more

spelled-later : (t : Term) (before : List Component) (c : Component) → is_spelled t before ≡ true → is_spelled t (before ++ c ∷ []) ≡ true
unfolding is_spelled
spelled-later t [] c is = cc
spelled-later t (d ∷ before) c is = go (same_tree t d.tree) is (spelled-later t before c)
  where
    go : (b : Bool) → b || is_spelled t before ≡ true → (is_spelled t before ≡ true → is_spelled t (before ++ c ∷ []) ≡ true)
        → b || is_spelled t (before ++ c ∷ []) ≡ true
    go true so more = refl
    go false so more = more so

-- ## Nodes of spelled trees

-- the tree of each of these nodes is the tree of a component so far
AreKnown : ReadSymbol → (before : List Component) → List ℕ → Type 0
AreKnown y before [] = Unit {0}
AreKnown y before (x ∷ xs) = ((x < length y.table.nodes) × (is_spelled (plain_at y x) before ≡ true)) × AreKnown y before xs

known-later : (y : ReadSymbol) (before : List Component) (c : Component) (xs : List ℕ) → AreKnown y before xs
    → AreKnown y (before ++ c ∷ []) xs
unfolding AreKnown
known-later y before c [] are = tt
known-later y before c (x ∷ xs) are = ((are.0.0, spelled-later (plain_at y x) before c are.0.1), known-later y before c xs are.1)

known-below : (y : ReadSymbol) (before : List Component) (xs : List ℕ) → AreKnown y before xs → (q : ℕ) → list_any (eqb q) xs ≡ true
    → q < length y.table.nodes
unfolding AreKnown
known-below y before [] are q is = cc
known-below y before (x ∷ xs) are q is = go (eqb q x) refl is (known-below y before xs are.1 q)
  where
    go : (b : Bool) → eqb q x ≡ b → b || list_any (eqb q) xs ≡ true → (list_any (eqb q) xs ≡ true → q < length y.table.nodes)
        → q < length y.table.nodes
    go true same so more = omega (arith, eqb-true q x same, are.0.0)
    go false same so more = more so

-- a node whose tree isn't spelled yet differs from all nodes whose trees are spelled
other-node : (y : ReadSymbol) (before : List Component) (t : Term) (i : ℕ) (xs : List ℕ) → plain_at y i ≡ t → is_spelled t before ≡ false
    → AreKnown y before xs
    → AllByRecursion (λ x. eqb i x ≡ false) xs
unfolding AreKnown
other-node y before t i [] is new are = tt
other-node y before t i (x ∷ xs) is new are = (go (eqb i x) refl, other-node y before t i xs is new are.1)
  where
    go : (b : Bool) → eqb i x ≡ b → eqb i x ≡ false
    go true same =
        let there : is_spelled (plain_at y i) before ≡ true = subst (λ n. is_spelled (plain_at y n) before ≡ true) (sym (eqb-true i x same)) are.0.1 in
        absurd (true-false (sym there ∙ ap (λ u. is_spelled u before) is ∙ new))
    go false same = same

-- ## Components

counted : (y : ReadSymbol) (before cs : List Component) (xs : List ℕ) → AreOfNodes y cs → AreKnown y before xs → IsDistinct eqb xs
    → length xs + length cs ≤ length y.table.nodes + length (repeated before cs)
unfolding repeated AreKnown
counted y before [] xs own known distinct =
    omega (arith, length-le_from_distinct_below xs (length y.table.nodes) distinct (known-below y before xs known))
counted y before (c ∷ cs) xs own known distinct =
    let node : ℕ = own.0.0 in
    let later = known-later y before c xs known in
    go (is_spelled c.tree before) refl (counted y (before ++ c ∷ []) cs xs own.1 later distinct)
    (λ new. omega (
      arith,
      counted y (before ++ c ∷ []) cs (node ∷ xs) own.1 ((own.0.1, spelled-here (plain_at y node) before c (sym own.0.2)), later)
          (IsDistinct-cons eqb node xs (other-node y before c.tree node xs own.0.2 new known) distinct),
    ))
  where
    go : (b : Bool) → is_spelled c.tree before ≡ b → length xs + length cs ≤ length y.table.nodes + length (repeated (before ++ c ∷ []) cs)
        → (is_spelled c.tree before ≡ false → 1 + length xs + length cs ≤ length y.table.nodes + length (repeated (before ++ c ∷ []) cs))
        → length xs + length (c ∷ cs) ≤ length y.table.nodes
        + length {A = Component} (elim b as (λ _. List Component) [ true ↦ c ∷ repeated (before ++ c ∷ []) cs | false ↦ repeated (before ++ c ∷ []) cs ])
    go true is same fewer = omega (arith, same)
    go false is same fewer = omega (arith, fewer is)

pub few-components : (y : ReadSymbol) (cs : List Component) → AreOfNodes y cs → cs ≡ spelled_components (whole_of y) → HasFewComponents y
unfolding AreKnown IsDistinct
few-components y cs own is =
    let few : length cs ≤ length y.table.nodes + length (repeated [] cs) = omega (arith, counted y [] cs [] own tt tt) in
    record {
      apart = subst (λ l. length l ≤ length y.table.nodes + length (repeated [] l)) is few;
      of_read = λ s reading nodes. components-below s (whole_of y) (length y.table.nodes) reading nodes;
    }
