-- If components are apart and each is the tree of a node, there are at most as many of them as nodes.
use Rattle.rust_press.proofs.Basics.{◌≡◌, ℕ, zero, suc, ◌+◌, ◌≤◌, length, List, [], ◌∷◌, slice_get, Some, None, true, false, ap, arith, sym, subst, ◌∙◌, same_Some, Tree, of_symbol, ReadSymbol, trees_of, symbol_in, length-trees, whole_of, same_tree, Component, IsNew, AreApart, spelled_components, AreOfNodes, press_root, press_some, press_tree, HasFewComponents}
use Rattle.rust_tree.specs.Symbol as tree
use Rattle.rust_press.proofs.PressApart.{components-apart}

-- ## The other nodes

without : ℕ → List Tree → List Tree
without k [] = []
without zero (t ∷ ts) = ts
without (suc k) (t ∷ ts) = t ∷ without k ts

none-some : {t : Tree} → None ≡ Some t → ⊥
none-some bad = cc

one-less : (all : List Tree) (k : ℕ) (t : Tree) → slice_get all k ≡ Some t → length all ≡ length (without k all) + 1
unfolding without
one-less [] k t is = absurd (none-some is)
one-less (u ∷ us) zero t is = omega arith
one-less (u ∷ us) (suc k) t is = omega (arith, one-less us k t is)

-- a tree that differs from the one left out is among the other trees
still-there : (all : List Tree) (k j : ℕ) (t u : Tree) → slice_get all k ≡ Some t → slice_get all j ≡ Some u → (t ≡ u → ⊥)
    → (m : ℕ) × (slice_get (without k all) m ≡ Some u)
unfolding without
still-there [] k j t u here there apart = absurd (none-some here)
still-there (x ∷ xs) zero zero t u here there apart = absurd (apart (same_Some _ _ (sym here ∙ there)))
still-there (x ∷ xs) zero (suc j) t u here there apart = (j, there)
still-there (x ∷ xs) (suc k) zero t u here there apart = (0, there)
still-there (x ∷ xs) (suc k) (suc j) t u here there apart = let more = still-there xs k j t u here there apart in (suc more.0, more.1)

true-false : true ≡ false → ⊥
true-false bad = cc

others-there : (all : List Tree) (k : ℕ) (t : Tree) (cs : List Component) → slice_get all k ≡ Some t → same_tree t t ≡ true → IsNew t cs → AreOfNodes all cs
    → AreOfNodes (without k all) cs
others-there all k t [] here itself new are = tt
others-there all k t (c ∷ cs) here itself new are =
    let apart : t ≡ c.own → ⊥ = λ e. true-false (sym (subst (λ u. same_tree t u ≡ true) e itself) ∙ new.0) in
    let there = still-there all k are.0.0 t c.own here are.0.1 apart in
    ((there.0, there.1, are.0.2), others-there all k t cs here itself new.1 are.1)

pub few : (cs : List Component) (all : List Tree) → AreApart cs → AreOfNodes all cs → length cs ≤ length all
few [] all apart are = omega arith
few (c ∷ cs) all apart are =
    omega (arith, one-less all are.0.0 c.own are.0.1, few cs (without are.0.0 all) apart.1 (others-there all are.0.0 c.own cs are.0.1 are.0.2 apart.0 are.1))

pub few-components : (y : ReadSymbol) (whole : tree.Symbol) → slice_get (trees_of y) y.root ≡ Some (of_symbol whole) → AreOfNodes (trees_of y) (press_root y).components
    → HasFewComponents y
few-components y whole there are =
    let same : press_root y ≡ press_tree (of_symbol whole) 0 [] = ap (λ o. press_some o 0 []) there in
    let all : length (spelled_components (whole_of y)) ≡ length (spelled_components whole) = ap (λ o. length (spelled_components (symbol_in o))) there in
    let counted = few (spelled_components whole) (trees_of y) (components-apart whole) (subst (λ one. AreOfNodes (trees_of y) one.components) same are) in
    omega (arith, all, counted, length-trees y.bytes y.table.nodes)
