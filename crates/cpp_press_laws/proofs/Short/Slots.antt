-- A function type that is a component is spelled out again at most once for each set of qualifiers.
use Rattle.cpp_press_laws.proofs.Basics.{◌≡◌, ℕ, ◌+◌, ◌*◌, ◌-◌, ◌≤◌, ◌⊎◌, inl, inr, length, List, [], ◌∷◌, ◌++◌, Bool, true, false, refl, ap, sym, subst, ◌∙◌, arith, cond, codes, ◌&&◌, ◌||◌, and_parts, false≢true, Qualifiers, Term, symbol, function_type, qualified, is_function_type, is_open, qualifier_letters, same_truth, same_qualifiers, Component, is_same, has_letters, Marked, unmarked, IsNew, IsApart, AreApartBehind, is_name}
use Rattle.cpp_press_laws.proofs.Components.Growing.{unmarked-append}
use Rattle.cpp_press_laws.proofs.Components.Sameness.{equal-qualifiers}
use Rattle.cpp_press_laws.proofs.Components.Parts.{Has, has-before, has-itself, has-closed, same-means}
use Rattle.cpp_press_laws.proofs.Short.Size.{size, over, part_of, bare_of, name_of}
use Rattle.cpp_press_laws.proofs.Short.Worth.{is_among, has-among, among-has, is_again, full, worth, worths}
use Rattle.cpp_press_laws.proofs.Short.Spelled.{cost, costs}

-- the bytes of the function type in a tree, if the function type is under these qualifiers and was a component before
unfoldable again : Qualifiers → (compared : Bool) → (before : List Component) → (encoding : ℕ) → Term → ℕ
again q b before n (qualified p f) = cond (b && (same_qualifiers q p && (is_function_type f && is_among n f before))) (size f) 0
again q b before n _ = 0

unfoldable agains : Qualifiers → (before components : List Marked) → ℕ
agains q before [] = 0
agains q before (c ∷ cs) = again q c.was_compared (unmarked before) c.component.encoding c.component.tree + agains q (before ++ c ∷ []) cs

-- the bytes of a component, if it may still be spelled out under these qualifiers
unfoldable slot : Qualifiers → (all : List Component) → Component → ℕ
slot q all c = cond (is_function_type c.tree) (cond (is_among c.encoding (qualified q c.tree) all) 0 (size c.tree)) 0

unfoldable slots : Qualifiers → (all some : List Component) → ℕ
slots q all [] = 0
slots q all (c ∷ cs) = slot q all c + slots q all cs

unfoldable functions : List Component → ℕ
functions [] = 0
functions (c ∷ cs) = cond (is_function_type c.tree) (size c.tree) 0 + functions cs

-- ## Slots

slot-most : (q : Qualifiers) (all : List Component) (c : Component) → slot q all c ≤ cond (is_function_type c.tree) (size c.tree) 0
unfolding slot
slot-most q all c = go (is_function_type c.tree) (is_among c.encoding (qualified q c.tree) all)
  where
    go : (f a : Bool) → cond f (cond a 0 (size c.tree)) 0 ≤ cond f (size c.tree) 0
    go true true = omega arith
    go true false = omega arith
    go false a = omega arith

slot-fewer : (q : Qualifiers) (all more : List Component) (c : Component) → slot q (all ++ more) c ≤ slot q all c
unfolding slot
slot-fewer q all more c =
    go (is_function_type c.tree) (is_among c.encoding (qualified q c.tree) all) (is_among c.encoding (qualified q c.tree) (all ++ more))
    (λ is. has-among c.encoding (qualified q c.tree) (all ++ more)
    (has-before c.encoding (qualified q c.tree) all more (among-has c.encoding (qualified q c.tree) all is)))
  where
    go : (f a b : Bool) → (a ≡ true → b ≡ true) → cond f (cond b 0 (size c.tree)) 0 ≤ cond f (cond a 0 (size c.tree)) 0
    go true true true h = omega arith
    go true true false h = absurd (false≢true (h refl))
    go true false true h = omega arith
    go true false false h = omega arith
    go false a b h = omega arith

slots-fewer : (q : Qualifiers) (all more some : List Component) → slots q (all ++ more) some ≤ slots q all some
unfolding slots
slots-fewer q all more [] = omega arith
slots-fewer q all more (c ∷ cs) = omega (arith, slot-fewer q all more c, slots-fewer q all more cs)

slots-one : (q : Qualifiers) (all some : List Component) (c : Component) → slots q all (some ++ c ∷ []) ≡ slots q all some + slot q all c
unfolding slots
slots-one q all [] c = omega arith
slots-one q all (d ∷ some) c = omega (arith, slots-one q all some c)

new-none : (n : ℕ) (t : Term) (cs : List Component) → IsNew n t cs → Has n t cs → ⊥
new-none n t [] new has = has
new-none n t (c ∷ cs) new (inl same) = false≢true (sym new.0 ∙ same)
new-none n t (c ∷ cs) new (inr later) = new-none n t cs new.1 later

-- the slot of an equal function type is taken
slot-taken : (q : Qualifiers) (n : ℕ) (f : Term) (all : List Component) (c : Component) → is_function_type f ≡ true → IsNew n (qualified q f) all
    → (f ≡ c.tree) × ((is_open f ≡ false) ⊎ (c.encoding ≡ n))
    → slot q (all ++ record { tree = qualified q f; encoding = n } ∷ []) c + size f ≤ slot q all c
unfolding slot is_open
slot-taken q n f all c is new (same, scoped) =
    let own : Component = record { tree = qualified q f; encoding = n } in
    let here : (cs : List Component) → Has n (qualified q f) cs → Has c.encoding (qualified q f) cs = λ cs has. elim scoped [
      | inl closed ↦ has-closed n c.encoding (qualified q f) cs closed has
      | inr equal ↦ subst (λ m. Has m (qualified q f) cs) (sym equal) has
    ] in
    let there : (cs : List Component) → Has c.encoding (qualified q f) cs → Has n (qualified q f) cs = λ cs has. elim scoped [
      | inl closed ↦ has-closed c.encoding n (qualified q f) cs closed has
      | inr equal ↦ subst (λ m. Has m (qualified q f) cs) equal has
    ] in
    subst (λ t. cond (is_function_type t) (cond (is_among c.encoding (qualified q t) (all ++ own ∷ [])) 0 (size t)) 0 + size f
    ≤ cond (is_function_type t) (cond (is_among c.encoding (qualified q t) all) 0 (size t)) 0) same
    (go (is_function_type f) (is_among c.encoding (qualified q f) (all ++ own ∷ [])) (is_among c.encoding (qualified q f) all) is
    (has-among c.encoding (qualified q f) (all ++ own ∷ []) (here (all ++ own ∷ []) (has-itself n (qualified q f) all)))
    (λ h. new-none n (qualified q f) all new (there all (among-has c.encoding (qualified q f) all h))))
  where
    go : (g a b : Bool) → g ≡ true → a ≡ true → (b ≡ true → ⊥) → cond g (cond a 0 (size f)) 0 + size f ≤ cond g (cond b 0 (size f)) 0
    go true true true h k none = absurd (none refl)
    go true true false h k none = omega arith
    go true false b h k none = absurd (false≢true k)
    go false a b h k none = absurd (false≢true h)

slots-taken : (q : Qualifiers) (n : ℕ) (f : Term) (all some : List Component) → is_function_type f ≡ true → IsNew n (qualified q f) all
    → is_among n f some ≡ true → slots q (all ++ record { tree = qualified q f; encoding = n } ∷ []) some + size f ≤ slots q all some
unfolding slots is_among
slots-taken q n f all [] is new among = cc
slots-taken q n f all (c ∷ cs) is new among = go (is_same n f c) refl among (slots-taken q n f all cs is new)
  where
    more : List Component
    more = record { tree = qualified q f; encoding = n } ∷ []

    go : (b : Bool) → is_same n f c ≡ b → b || is_among n f cs ≡ true
        → (is_among n f cs ≡ true → slots q (all ++ more) cs + size f ≤ slots q all cs)
        → slot q (all ++ more) c + slots q (all ++ more) cs + size f ≤ slot q all c + slots q all cs
    go true same h later = omega (arith, slot-taken q n f all c is new (same-means n f c same), slots-fewer q all more cs)
    go false same h later = omega (arith, slot-fewer q all more c, later h)

-- ## Components in turn

-- a function type that is spelled out again takes a slot
again-slots : (q : Qualifiers) (b : Bool) (before : List Component) (n : ℕ) (t : Term) → (b ≡ true → IsNew n t before)
    → again q b before n t + slots q (before ++ record { tree = t; encoding = n } ∷ []) before ≤ slots q before before
unfolding again
again-slots q b before n (qualified p f) new = go (b && (same_qualifiers q p && (is_function_type f && is_among n f before))) refl
  where
    go : (c : Bool) → b && (same_qualifiers q p && (is_function_type f && is_among n f before)) ≡ c
        → cond c (size f) 0 + slots q (before ++ record { tree = qualified p f; encoding = n } ∷ []) before ≤ slots q before before
    go false h = omega (arith, slots-fewer q before (record { tree = qualified p f; encoding = n } ∷ []) before)
    go true h =
        let one = and_parts b (same_qualifiers q p && (is_function_type f && is_among n f before)) h in
        let two = and_parts (same_qualifiers q p) (is_function_type f && is_among n f before) one.1 in
        let three = and_parts (is_function_type f) (is_among n f before) two.1 in
        let same : q ≡ p = equal-qualifiers q p two.0 in
        subst (λ r. size f + slots q (before ++ record { tree = qualified r f; encoding = n } ∷ []) before ≤ slots q before before) same
        (omega (arith, slots-taken q n f before before three.0 (subst (λ r. IsNew n (qualified r f) before) (sym same) (new one.0)) three.1))
again-slots q b before n (symbol e suffix) new = omega (arith, slots-fewer q before (record { tree = symbol e suffix; encoding = n } ∷ []) before)
again-slots q b before n t new = omega (arith, slots-fewer q before (record { tree = t; encoding = n } ∷ []) before)

apart-new : (t : Term) (before : List Marked) (c : Marked) → IsApart t before c → c.was_compared ≡ true
    → IsNew c.component.encoding c.component.tree (unmarked before)
apart-new t before c (inl new) is = new.1
apart-new t before c (inr never) is = absurd (false≢true (sym never.0 ∙ is))

agains-most : (q : Qualifiers) (t : Term) (before cs : List Marked) → AreApartBehind t before cs
    → agains q before cs ≤ slots q (unmarked before) (unmarked before) + functions (unmarked cs)
unfolding agains functions
agains-most q t before [] apart = omega arith
agains-most q t before (c ∷ cs) apart =
    let olds : List Component = unmarked before in
    let news : List Component = olds ++ c.component ∷ [] in
    omega (
      arith,
      agains-most q t (before ++ c ∷ []) cs apart.1,
      ap (λ l. slots q l l) (unmarked-append before (c ∷ [])),
      again-slots q c.was_compared olds c.component.encoding c.component.tree (apart-new t before c apart.0),
      slots-one q news olds c.component,
      slot-most q news c.component,
    )

-- ## The sets of qualifiers

abbrev set : (restrict volatile const : Bool) → Qualifiers
set r v c = record { restrict = r; volatile = v; const = c }

abbrev seven : (Qualifiers → ℕ) → ℕ
seven f =
    f (set true true true) + f (set true true false) + f (set true false true) + f (set true false false) + f (set false true true)
    + f (set false true false) + f (set false false true)

pub letters-short : (q : Qualifiers) → length (qualifier_letters q) ≤ 3
unfolding qualifier_letters
letters-short q = go q.restrict q.volatile q.const
  where
    go : (r v c : Bool) → length (cond r (codes "r") [] ++ cond v (codes "V") [] ++ cond c (codes "K") []) ≤ 3
    go true true true = omega arith
    go true true false = omega arith
    go true false true = omega arith
    go true false false = omega arith
    go false true true = omega arith
    go false true false = omega arith
    go false false true = omega arith
    go false false false = omega arith

seven-most : (r v c x : Bool) (k : ℕ) → has_letters (set r v c) ≡ true → x ≡ true
    → k ≤ seven (λ q. cond (same_qualifiers q (set r v c) && x) k 0)
unfolding has_letters same_qualifiers same_truth
seven-most r v c false k some is = absurd (false≢true is)
seven-most true true true true k some is = omega arith
seven-most true true false true k some is = omega arith
seven-most true false true true k some is = omega arith
seven-most true false false true k some is = omega arith
seven-most false true true true k some is = omega arith
seven-most false true false true k some is = omega arith
seven-most false false true true k some is = omega arith
seven-most false false false true k some is = absurd (false≢true some)

-- a component costs at most what it is worth, plus the bytes of the function type in it if that type is spelled out
-- again
cost-worth : (b : Bool) (before : List Component) (n : ℕ) (t : Term)
    → cost (record { component = record { tree = t; encoding = n }; was_compared = b }) ≤ worth before n t + seven (λ q. again q b before n t)
unfolding cost worth is_again full again name_of is_name size bare_of is_function_type over
cost-worth false before n (qualified p f) = omega arith
cost-worth true before n (qualified p f) = go (has_letters p && (is_function_type f && is_among n f before)) refl
  where
    l : ℕ
    l = length (qualifier_letters p)

    go : (d : Bool) → has_letters p && (is_function_type f && is_among n f before) ≡ d
        → l + cond (is_function_type f) (size f) (part_of f (size f)) - 8
        ≤ cond d 1 (1 + (l + cond (is_function_type f) (size f) (part_of f (size f)) - 8))
        + seven (λ q. cond (same_qualifiers q p && (is_function_type f && is_among n f before)) (size f) 0)
    go false h = omega arith
    go true h =
        let one = and_parts (has_letters p) (is_function_type f && is_among n f before) h in
        let two = and_parts (is_function_type f) (is_among n f before) one.1 in
        omega (
          arith,
          letters-short p,
          ap (λ g. cond g (size f) (part_of f (size f))) two.0,
          seven-most p.restrict p.volatile p.const (is_function_type f && is_among n f before) (size f) one.0 one.1,
        )
cost-worth true before n (symbol e suffix) = omega arith
cost-worth false before n (symbol e suffix) = omega arith
cost-worth true before n (function_type c_linkage noexcept ref returned parameters) = omega arith
cost-worth false before n (function_type c_linkage noexcept ref returned parameters) = omega arith
cost-worth true before n t = omega arith
cost-worth false before n t = omega arith

costs-agains : (t : Term) (before cs : List Marked) → costs cs ≤ worths (unmarked before) (unmarked cs) + seven (λ q. agains q before cs)
unfolding costs worths agains
costs-agains t before [] = omega arith
costs-agains t before (c ∷ cs) =
    omega (
      arith,
      cost-worth c.was_compared (unmarked before) c.component.encoding c.component.tree,
      costs-agains t (before ++ c ∷ []) cs,
      ap (λ l. worths l (unmarked cs)) (unmarked-append before (c ∷ [])),
    )

function-worth : (before : List Component) (n : ℕ) (t : Term) → cond (is_function_type t) (size t) 0 ≤ worth before n t
unfolding worth is_again full is_function_type
function-worth before n (function_type c_linkage noexcept ref returned parameters) = omega arith
function-worth before n (qualified q t) = omega arith
function-worth before n t = omega arith

functions-worth : (before cs : List Component) → functions cs ≤ worths before cs
unfolding functions worths
functions-worth before [] = omega arith
functions-worth before (c ∷ cs) = omega (arith, function-worth before c.encoding c.tree, functions-worth (before ++ c ∷ []) cs)

-- The components that are spelled out take at most eight times what they are worth.
pub costs-most : (t : Term) (cs : List Marked) → AreApartBehind t [] cs → costs cs ≤ 8 * worths [] (unmarked cs)
unfolding slots
costs-most t cs apart =
    omega (
      arith,
      costs-agains t [] cs,
      functions-worth [] (unmarked cs),
      agains-most (set true true true) t [] cs apart,
      agains-most (set true true false) t [] cs apart,
      agains-most (set true false true) t [] cs apart,
      agains-most (set true false false) t [] cs apart,
      agains-most (set false true true) t [] cs apart,
      agains-most (set false true false) t [] cs apart,
      agains-most (set false false true) t [] cs apart,
    )
