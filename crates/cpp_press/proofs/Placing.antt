-- The first components of each likeness, after one more component.
use Rattle.cpp_press.proofs.Basics.{◌≡◌, ℕ, ◌+◌, ◌<◌, length, List, [], ◌∷◌, ◌++◌, Bool, true, false, Option, Some, None, refl, ap, sym, arith, ◌∙◌, cond, ◌&&◌, ◌||◌, not, nat_eq, get_or, is_some, eqb-true, eq-eqb, Term, is_open, ReadSymbol, same_tree, Component, is_same, first_equal, equal-tree, tree-itself, Likeness, plain_at, like, noted, likeness_of, ArePlaces, AreFirst}

true-false : true ≡ false → ⊥
true-false bad = cc

-- the first equal component among some components and one more
one-later : (from : ℕ) → Option ℕ → Bool → (count : ℕ) → Option ℕ
one-later from (Some k) same count = Some k
one-later from None true count = Some (from + count)
one-later from None false count = None

later-is : (e : ℕ) (t : Term) (c : Component) (from : ℕ) (cs : List Component) → first_equal e t from (cs ++ c ∷ []) ≡ one-later from (first_equal e t from cs) (is_same e t c) (length cs)
unfolding first_equal one-later
later-is e t c from [] = go (is_same e t c)
  where
    go : (b : Bool) → elim b as (λ _. Option ℕ) [ true ↦ Some from | false ↦ None ] ≡ one-later from None b 0
    go true = ap Some (omega arith)
    go false = refl
later-is e t c from (d ∷ cs) = go (is_same e t d) (later-is e t c (from + 1) cs)
  where
    more : (o : Option ℕ) (b : Bool) → one-later (from + 1) o b (length cs) ≡ one-later from o b (length (d ∷ cs))
    more (Some k) b = refl
    more None true = ap Some (omega arith)
    more None false = refl

    go : (b : Bool) → first_equal e t (from + 1) (cs ++ c ∷ []) ≡ one-later (from + 1) (first_equal e t (from + 1) cs) (is_same e t c) (length cs)
        → elim b as (λ _. Option ℕ) [ true ↦ Some from | false ↦ first_equal e t (from + 1) (cs ++ c ∷ []) ]
        ≡ one-later from (elim b as (λ _. Option ℕ) [ true ↦ Some from | false ↦ first_equal e t (from + 1) cs ]) (is_same e t c) (length (d ∷ cs))
    go true is = refl
    go false is = is ∙ more (first_equal e t (from + 1) cs) (is_same e t c)

-- trees have one likeness exactly if they compare as equal
compared-alike : (t u : Term) (m n e f : ℕ) → (m ≡ n → t ≡ u) → (t ≡ u → m ≡ n)
    → is_same f u (record { tree = t; encoding = e })
    ≡ like (record { number = m; encoding = cond (is_open t) e 0 }) (record { number = n; encoding = cond (is_open u) f 0 })
unfolding is_same
compared-alike t u m n e f trees numbers = go (nat_eq m n) refl
  where
    open_is : (b : Bool) → (not b || nat_eq e f) ≡ nat_eq (cond b e 0) (cond b f 0)
    open_is true = refl
    open_is false = refl

    differ : (b : Bool) → (same_tree u t) ≡ b → (u ≡ t → ⊥) → b ≡ false
    differ true is never = absurd (never (equal-tree u t is))
    differ false is never = refl

    go : (b : Bool) → nat_eq m n ≡ b
        → same_tree u t && (not (is_open u) || nat_eq e f) ≡ nat_eq m n && nat_eq (cond (is_open t) e 0) (cond (is_open u) f 0)
    go true is =
        let same : t ≡ u = trees (eqb-true m n is) in
        rw (is, same, tree-itself u) (open_is (is_open u))
    go false is =
        let none : same_tree u t ≡ false = differ (same_tree u t) refl (λ s. true-false (sym (eq-eqb m n (numbers (sym s))) ∙ is)) in
        rw (is, none) refl

like-equal : (a b : Likeness) → like a b ≡ true → a ≡ b
like-equal a b h = go a.number a.encoding b.number b.encoding h
  where
    split : (x y : Bool) → x && y ≡ true → (x ≡ true) × (y ≡ true)
    split true y h = (refl, h)
    split false y h = absurd (true-false (sym h))

    go : (m e n f : ℕ) → nat_eq m n && nat_eq e f ≡ true → ◌≡◌ {A = Likeness} (record { number = m; encoding = e }) (record { number = n; encoding = f })
    go m e n f h = let s = split (nat_eq m n) (nat_eq e f) h in rw (eqb-true m n s.0, eqb-true e f s.1) refl

some-none : {k : ℕ} → Some k ≡ None → ⊥
some-none bad = cc

abbrev choose : (old other : Option ℕ) → Bool → (count : ℕ) → Option ℕ
choose old other b count = elim old [ Some number ↦ other | None ↦ cond b (Some count) other ]

chosen : (old other : Option ℕ) (b : Bool) (count : ℕ) → (b ≡ true → old ≡ other) → choose old other b count ≡ one-later 0 other b count
unfolding one-later
chosen (Some k) (Some j) b count same = refl
chosen (Some k) None true count same = absurd (some-none (same refl))
chosen (Some k) None false count same = refl
chosen None (Some j) true count same = absurd (some-none (sym (same refl)))
chosen None (Some j) false count same = refl
chosen None None true count same = ap Some (omega arith)
chosen None None false count same = refl

note-goes : (first : Likeness → Option ℕ) (one q : Likeness) (count from : ℕ) (old other : Option ℕ) (b : Bool)
    → first one ≡ old → first q ≡ other → b ≡ like one q → count ≡ from → noted first one count q ≡ one-later 0 other b from
note-goes first one q count from old other b here there same long =
    ap (λ o. choose o (first q) (like one q) count) here
    ∙ ap (λ o. choose old o (like one q) count) there
    ∙ ap (λ d. choose old other d count) (sym same)
    ∙ ap (λ n. choose old other b n) long
    ∙ chosen old other b from (λ so. sym here ∙ ap first (like-equal one q (sym same ∙ so)) ∙ there)

pub places-go : (y : ReadSymbol) (ns : List ℕ) (first new : Likeness → Option ℕ) (cs : List Component) (count node e : ℕ)
    → AreFirst y ns → ArePlaces y ns first cs → node < length y.table.nodes → count ≡ length cs
    → ((q : Likeness) → new q ≡ noted first (likeness_of y ns node e) count q)
    → ArePlaces y ns new (cs ++ record { tree = plain_at y node; encoding = e } ∷ [])
places-go y ns first new cs count node e are places low long is j f there =
    is (likeness_of y ns j f)
    ∙ note-goes first (likeness_of y ns node e) (likeness_of y ns j f) count (length cs) (first_equal e (plain_at y node) 0 cs) (first_equal f (plain_at y j) 0 cs)
    (is_same f (plain_at y j) (record { tree = plain_at y node; encoding = e }))
    (places node e low) (places j f there)
    (compared-alike (plain_at y node) (plain_at y j) (get_or ns node 0) (get_or ns j 0) e f
    (are.same node j (omega (arith, low, are.long)) (omega (arith, there, are.long)))
    (are.equal node j (omega (arith, low, are.long)) (omega (arith, there, are.long))))
    long
    ∙ sym (later-is f (plain_at y j) (record { tree = plain_at y node; encoding = e }) 0 cs)

-- the numbers of the first components, after one more component
pub noted-fresh : (old : Likeness → Option ℕ) (one q : Likeness) (count : ℕ) (o new : Option ℕ) → old one ≡ o → is_some o ≡ false
    → new ≡ cond (like one q) (Some count) (old q) → new ≡ noted old one count q
noted-fresh old one q count None new there none is = is ∙ sym (ap (λ p. choose p (old q) (like one q) count) there)
noted-fresh old one q count (Some k) new there none is = absurd (true-false none)

pub noted-known : (old : Likeness → Option ℕ) (one q : Likeness) (count : ℕ) (o : Option ℕ) → old one ≡ o → is_some o ≡ true → old q ≡ noted old one count q
noted-known old one q count None there some = absurd (true-false (sym some))
noted-known old one q count (Some k) there some = sym (ap (λ p. choose p (old q) (like one q) count) there)
