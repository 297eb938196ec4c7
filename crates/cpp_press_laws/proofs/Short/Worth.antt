-- What components are worth: the bytes that each takes where it is spelled out, beyond those of a reference. A function
-- type is worth all of its bytes, since it is spelled out again under each set of qualifiers. A function type directly
-- under qualifiers is worth nothing if it was a component before.
use Rattle.cpp_press_laws.proofs.Basics.{◌≡◌, ℕ, ◌+◌, ◌≤◌, ◌⊎◌, inl, inr, length, List, [], ◌∷◌, ◌++◌, Bool, true, false, refl, ap, sym, ◌∙◌, arith, append_assoc, append-nil, cond, ◌&&◌, ◌||◌, Term, qualified, is_function_type, either_cond, Component, is_same, has_letters}
use Rattle.cpp_press_laws.proofs.Components.Parts.{Has}
use Rattle.cpp_press_laws.proofs.Short.Size.{size, over, over-most}

unfoldable pub is_among : (encoding : ℕ) → Term → List Component → Bool
is_among n t [] = false
is_among n t (c ∷ cs) = is_same n t c || is_among n t cs

pub has-among : (n : ℕ) (t : Term) (cs : List Component) → Has n t cs → is_among n t cs ≡ true
unfolding is_among
has-among n t [] has = absurd has
has-among n t (c ∷ cs) (inl same) = ap (λ b. b || is_among n t cs) same
has-among n t (c ∷ cs) (inr later) = go (is_same n t c) (has-among n t cs later)
  where
    go : (b : Bool) → is_among n t cs ≡ true → b || is_among n t cs ≡ true
    go true h = refl
    go false h = h

pub among-has : (n : ℕ) (t : Term) (cs : List Component) → is_among n t cs ≡ true → Has n t cs
unfolding is_among
among-has n t [] is = cc
among-has n t (c ∷ cs) is = go (is_same n t c) refl is (among-has n t cs)
  where
    go : (b : Bool) → is_same n t c ≡ b → b || is_among n t cs ≡ true → (is_among n t cs ≡ true → Has n t cs) → (is_same n t c ≡ true) ⊎ Has n t cs
    go true same h later = inl same
    go false same h later = inr (later h)

-- whether the tree is a function type with qualifiers, and the function type was a component before
unfoldable pub is_again : (before : List Component) → (encoding : ℕ) → Term → Bool
is_again before n (qualified q t) = has_letters q && (is_function_type t && is_among n t before)
is_again before n _ = false

-- what a tree is worth, whatever came before it
unfoldable pub full : Term → ℕ
full t = cond (is_function_type t) (1 + size t) (1 + over (size t))

unfoldable pub worth : (before : List Component) → (encoding : ℕ) → Term → ℕ
worth before n t = cond (is_again before n t) 1 (full t)

unfoldable pub worths : (before components : List Component) → ℕ
worths before [] = 0
worths before (c ∷ cs) = worth before c.encoding c.tree + worths (before ++ c ∷ []) cs

pub full-some : (t : Term) → 1 ≤ full t
unfolding full
full-some t = either_cond (λ n. 1 ≤ n) (is_function_type t) (1 + size t) (1 + over (size t)) (λ h. omega arith) (λ h. omega arith)

pub full-most : (t : Term) → full t ≤ 1 + size t
unfolding full
full-most t =
    either_cond (λ n. n ≤ 1 + size t) (is_function_type t) (1 + size t) (1 + over (size t)) (λ h. omega arith)
    (λ h. omega (arith, over-most (size t)))

pub worth-full : (before : List Component) (n : ℕ) (t : Term) → worth before n t ≤ full t
unfolding worth
worth-full before n t = either_cond (λ m. m ≤ full t) (is_again before n t) 1 (full t) (λ h. full-some t) (λ h. omega arith)

pub worth-some : (before : List Component) (n : ℕ) (t : Term) → 1 ≤ worth before n t
unfolding worth
worth-some before n t = either_cond (λ m. 1 ≤ m) (is_again before n t) 1 (full t) (λ h. omega arith) (λ h. full-some t)

pub worths-count : (before cs : List Component) → length cs ≤ worths before cs
unfolding worths
worths-count before [] = omega arith
worths-count before (c ∷ cs) = omega (arith, worth-some before c.encoding c.tree, worths-count (before ++ c ∷ []) cs)

pub worths-append : (before cs ds : List Component) → worths before (cs ++ ds) ≡ worths before cs + worths (before ++ cs) ds
unfolding worths
worths-append before [] ds = ap (λ l. worths l ds) (sym (append-nil before)) ∙ omega arith
worths-append before (c ∷ cs) ds =
    omega (arith, worths-append (before ++ c ∷ []) cs ds, ap (λ l. worths l ds) (append_assoc before (c ∷ []) cs))

pub worths-one : (cs : List Component) (c : Component) → worths [] (cs ++ c ∷ []) ≡ worths [] cs + worth cs c.encoding c.tree
unfolding worths
worths-one cs c = omega (arith, worths-append [] cs (c ∷ []))
