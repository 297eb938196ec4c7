-- First nodes by a map from keys: what the map and the list of first nodes are after one more node.
use Rattle.std.proofs.Common.{◌≡◌, ℕ, ◌<◌, ◌⊎◌, inl, inr, length, List, [], ◌∷◌, ◌++◌, Option, Some, None, Bool, true, false, refl, ap, arith, sym, subst, ◌∙◌, length-append}
use Rattle.std.specs.Prelude.{cond}
use Rattle.sym_spell.specs.Numbers.{number_at, TellApart}
use Rattle.sym_spell.proofs.Entering.{last-or, old-number, new-number}

-- Keys of things. A key names other things by the first things equal to them. Equal things have keys that are alike, and
-- different things have different keys.
pub record AreKeys {K A : Type 0} (Alike : K → K → Type 0) (thing : ℕ → A) (count : ℕ) (IsKey : List ℕ → ℕ → K → Type 0) : Type 0 where
  pub grown : (firsts : List ℕ) (n i : ℕ) (a : K) → IsKey firsts i a → IsKey (firsts ++ n ∷ []) i a
  pub one : (firsts : List ℕ) (i j : ℕ) (a b : K) → i < count → j < count → TellApart thing firsts → IsKey firsts i a → IsKey firsts j b → Alike a b → thing i ≡ thing j
  pub alike : (firsts : List ℕ) (i j : ℕ) (a b : K) → TellApart thing firsts → thing i ≡ thing j → IsKey firsts i a → IsKey firsts j b → Alike a b
  pub taken : (firsts : List ℕ) (i : ℕ) (a b : K) → IsKey firsts i a → Alike a b → IsKey firsts i b
  pub itself : (a : K) → Alike a a

-- A test that tells whether keys are alike, and a map that gives the same for keys that are alike.
pub record IsLookUp {K : Type 0} (Alike : K → K → Type 0) (test : K → K → Bool) (first : K → Option ℕ) : Type 0 where
  pub told : (a b : K) → test a b ≡ true → Alike a b
  pub passed : (a b : K) → Alike a b → test a b ≡ true
  pub respects : (a b : K) → Alike a b → first a ≡ first b

-- The first things so far: each thing has a key in the map, and each key of the map belongs to the thing that the map
-- gives for it.
pub record AreFirsts {K A : Type 0} (thing : ℕ → A) (IsKey : List ℕ → ℕ → K → Type 0) (firsts : List ℕ) (first : K → Option ℕ) : Type 0 where
  pub apart : TellApart thing firsts
  pub each : (i : ℕ) → i < length firsts → (key : K) × (first key ≡ Some (number_at firsts i)) × IsKey firsts i key
  pub own : (key : K) (n : ℕ) → first key ≡ Some n → (n < length firsts) × IsKey firsts n key

-- a first node is below the number of nodes
pub first-below : {K A : Type 0} (thing : ℕ → A) (IsKey : List ℕ → ℕ → K → Type 0) (firsts : List ℕ) (first : K → Option ℕ) → AreFirsts thing IsKey firsts first
    → (i : ℕ) → i < length firsts → number_at firsts i < length firsts
first-below thing IsKey firsts first f i low = let found = f.each i low in (f.own found.0 (number_at firsts i) found.1).0

pub none-first : {K A : Type 0} (thing : ℕ → A) (IsKey : List ℕ → ℕ → K → Type 0) (firsts : List ℕ) (first : K → Option ℕ) → firsts ≡ [] → ((key : K) → first key ≡ None)
    → AreFirsts thing IsKey firsts first
none-first thing IsKey firsts first none empty = record {
  apart = record {
    same = λ i j low other is. absurd (no i low);
    equal = λ i j low other is. absurd (no i low);
  };
  each = λ i low. absurd (no i low);
  own = λ key n is. absurd (none-some (sym (empty key) ∙ is));
}
  where
    long : length firsts ≡ 0
    long = ap length none

    no : (i : ℕ) → i < length firsts → ⊥
    no i low = omega (arith, low, long)

    none-some : {n : ℕ} → None ≡ Some n → ⊥
    none-some h = cc

some-one : {a b : ℕ} → Some a ≡ Some b → a ≡ b
some-one h = cc

apart-more : {A : Type 0} (thing : ℕ → A) (firsts : List ℕ) (n : ℕ) → TellApart thing firsts
    → ((i : ℕ) → i < length firsts → number_at firsts i ≡ n → thing i ≡ thing (length firsts))
    → ((i : ℕ) → i < length firsts → thing i ≡ thing (length firsts) → number_at firsts i ≡ n)
    → TellApart thing (firsts ++ n ∷ [])
apart-more thing ns n f thing-same first-same = record { same = same; equal = equal }
  where
    k : ℕ
    k = length ns

    bound : (i : ℕ) → i < length (ns ++ n ∷ []) → (i < k) ⊎ (i ≡ k)
    bound i low = last-or i k (omega (arith, low, length-append ns (n ∷ [])))

    same : (i j : ℕ) → i < length (ns ++ n ∷ []) → j < length (ns ++ n ∷ []) → number_at (ns ++ n ∷ []) i ≡ number_at (ns ++ n ∷ []) j → thing i ≡ thing j
    same i j low other is = go (bound i low) (bound j other)
      where
        go : (i < k) ⊎ (i ≡ k) → (j < k) ⊎ (j ≡ k) → thing i ≡ thing j
        go (inl a) (inl b) = f.same i j a b (sym (old-number ns n i a) ∙ is ∙ old-number ns n j b)
        go (inl a) (inr b) = thing-same i a (sym (old-number ns n i a) ∙ is ∙ ap (number_at (ns ++ n ∷ [])) b ∙ new-number ns n) ∙ ap thing (sym b)
        go (inr a) (inl b) = ap thing a ∙ sym (thing-same j b (sym (old-number ns n j b) ∙ sym is ∙ ap (number_at (ns ++ n ∷ [])) a ∙ new-number ns n))
        go (inr a) (inr b) = ap thing (a ∙ sym b)

    equal : (i j : ℕ) → i < length (ns ++ n ∷ []) → j < length (ns ++ n ∷ []) → thing i ≡ thing j → number_at (ns ++ n ∷ []) i ≡ number_at (ns ++ n ∷ []) j
    equal i j low other is = go (bound i low) (bound j other)
      where
        go : (i < k) ⊎ (i ≡ k) → (j < k) ⊎ (j ≡ k) → number_at (ns ++ n ∷ []) i ≡ number_at (ns ++ n ∷ []) j
        go (inl a) (inl b) = old-number ns n i a ∙ f.equal i j a b is ∙ sym (old-number ns n j b)
        go (inl a) (inr b) = old-number ns n i a ∙ first-same i a (is ∙ ap thing b) ∙ sym (new-number ns n) ∙ ap (number_at (ns ++ n ∷ [])) (sym b)
        go (inr a) (inl b) = ap (number_at (ns ++ n ∷ [])) a ∙ new-number ns n ∙ sym (first-same j b (sym is ∙ ap thing a)) ∙ sym (old-number ns n j b)
        go (inr a) (inr b) = ap (number_at (ns ++ n ∷ [])) (a ∙ sym b)

pub firsts-more : {K A : Type 0} (Alike : K → K → Type 0) (test : K → K → Bool) (thing : ℕ → A) (count : ℕ) (IsKey : List ℕ → ℕ → K → Type 0)
    (firsts : List ℕ) (old new : K → Option ℕ) (key : K) (node n : ℕ) → AreKeys Alike thing count IsKey → IsLookUp Alike test old
    → AreFirsts thing IsKey firsts old → node ≡ length firsts → node < count → IsKey firsts node key
    → ((m : ℕ) → old key ≡ Some m → (n ≡ m) × ((q : K) → new q ≡ old q))
    → (old key ≡ None → (n ≡ node) × ((q : K) → new q ≡ cond (test key q) (Some node) (old q)))
    → AreFirsts thing IsKey (firsts ++ n ∷ []) new
firsts-more {K} {A} Alike test thing count IsKey ns old new key node n keys looks f last room mine known fresh = go (old key) refl
  where
    k : ℕ
    k = length ns

    bound : (i : ℕ) → i < length (ns ++ n ∷ []) → (i < k) ⊎ (i ≡ k)
    bound i low = last-or i k (omega (arith, low, length-append ns (n ∷ [])))

    here : IsKey ns k key
    here = subst (λ i. IsKey ns i key) last mine

    inside : k < count
    inside = omega (arith, last, room)

    -- whether the map had the key or not, the map and the first things still agree after this node
    go : (o : Option ℕ) → old key ≡ o → AreFirsts thing IsKey (ns ++ n ∷ []) new
    go (Some m) was = record {
      apart = apart-more thing ns n f.apart thing-same first-same;
      each = each;
      own = own;
    }
      where
        is_m : n ≡ m
        is_m = (known m was).0

        there : (m < k) × IsKey ns m key
        there = f.own key m was

        thing-same : (i : ℕ) → i < k → number_at ns i ≡ n → thing i ≡ thing k
        thing-same i low is =
            let found = f.each i low in
            let told = f.own found.0 m (found.1 ∙ ap Some (is ∙ is_m)) in
            keys.one ns i m found.0 found.0 (omega (arith, low, inside)) (omega (arith, told.0, inside)) f.apart found.2 told.1 (keys.itself found.0)
            ∙ keys.one ns m k key key (omega (arith, there.0, inside)) inside f.apart there.1 here (keys.itself key)

        first-same : (i : ℕ) → i < k → thing i ≡ thing k → number_at ns i ≡ n
        first-same i low is =
            let found = f.each i low in
            some-one (sym found.1 ∙ looks.respects found.0 key (keys.alike ns i k found.0 key f.apart is found.2 here) ∙ was) ∙ sym is_m

        each : (i : ℕ) → i < length (ns ++ n ∷ []) → (x : K) × (new x ≡ Some (number_at (ns ++ n ∷ []) i)) × IsKey (ns ++ n ∷ []) i x
        each i low = by (bound i low)
          where
            by : (i < k) ⊎ (i ≡ k) → (x : K) × (new x ≡ Some (number_at (ns ++ n ∷ []) i)) × IsKey (ns ++ n ∷ []) i x
            by (inl a) =
                let found = f.each i a in
                (found.0, (known m was).1 found.0 ∙ found.1 ∙ ap Some (sym (old-number ns n i a)), keys.grown ns n i found.0 found.2)
            by (inr a) = (
              key,
              (known m was).1 key ∙ was ∙ ap Some (sym is_m ∙ sym (new-number ns n) ∙ ap (number_at (ns ++ n ∷ [])) (sym a)),
              subst (λ j. IsKey (ns ++ n ∷ []) j key) (sym a) (keys.grown ns n k key here),
            )

        own : (x : K) (p : ℕ) → new x ≡ Some p → (p < length (ns ++ n ∷ [])) × IsKey (ns ++ n ∷ []) p x
        own x p is =
            let told = f.own x p (sym ((known m was).1 x) ∙ is) in
            (omega (arith, told.0, length-append ns (n ∷ [])), keys.grown ns n p x told.1)
    go None was = record {
      apart = apart-more thing ns n f.apart thing-same first-same;
      each = each;
      own = own;
    }
      where
        is_k : n ≡ k
        is_k = (fresh was).0 ∙ last

        none-some : {p : ℕ} → None ≡ Some p → ⊥
        none-some h = cc

        true-false : true ≡ false → ⊥
        true-false h = cc

        at-new : (x : K) → new x ≡ cond (test key x) (Some node) (old x)
        at-new = (fresh was).1

        thing-same : (i : ℕ) → i < k → number_at ns i ≡ n → thing i ≡ thing k
        thing-same i low is =
            let found = f.each i low in
            absurd (omega (arith, (f.own found.0 k (found.1 ∙ ap Some (is ∙ is_k))).0))

        first-same : (i : ℕ) → i < k → thing i ≡ thing k → number_at ns i ≡ n
        first-same i low is =
            let found = f.each i low in
            absurd (none-some (sym was ∙ looks.respects key found.0 (keys.alike ns k i key found.0 f.apart (sym is) here found.2) ∙ found.1))

        kept : (x : K) (p : ℕ) → old x ≡ Some p → new x ≡ Some p
        kept x p is = by (test key x) refl
          where
            by : (b : Bool) → test key x ≡ b → new x ≡ Some p
            by true told = absurd (none-some (sym was ∙ looks.respects key x (looks.told key x told) ∙ is))
            by false told = at-new x ∙ ap (λ b. cond b (Some node) (old x)) told ∙ is

        each : (i : ℕ) → i < length (ns ++ n ∷ []) → (x : K) × (new x ≡ Some (number_at (ns ++ n ∷ []) i)) × IsKey (ns ++ n ∷ []) i x
        each i low = by (bound i low)
          where
            by : (i < k) ⊎ (i ≡ k) → (x : K) × (new x ≡ Some (number_at (ns ++ n ∷ []) i)) × IsKey (ns ++ n ∷ []) i x
            by (inl a) =
                let found = f.each i a in
                (found.0, kept found.0 (number_at ns i) found.1 ∙ ap Some (sym (old-number ns n i a)), keys.grown ns n i found.0 found.2)
            by (inr a) = (
              key,
              at-new key ∙ ap (λ b. cond b (Some node) (old key)) (looks.passed key key (keys.itself key))
                  ∙ ap Some (sym (fresh was).0 ∙ sym (new-number ns n) ∙ ap (number_at (ns ++ n ∷ [])) (sym a)),
              subst (λ j. IsKey (ns ++ n ∷ []) j key) (sym a) (keys.grown ns n k key here),
            )

        own : (x : K) (p : ℕ) → new x ≡ Some p → (p < length (ns ++ n ∷ [])) × IsKey (ns ++ n ∷ []) p x
        own x p is = by (test key x) refl
          where
            by : (b : Bool) → test key x ≡ b → (p < length (ns ++ n ∷ [])) × IsKey (ns ++ n ∷ []) p x
            by true told =
                let at : node ≡ p = some-one (ap (λ b. cond b (Some node) (old x)) (sym told) ∙ sym (at-new x) ∙ is) in (
                  omega (arith, at, last, length-append ns (n ∷ [])),
                  subst (λ j. IsKey (ns ++ n ∷ []) j x) (sym last ∙ at) (keys.grown ns n k x (keys.taken ns k key x here (looks.told key x told))),
                )
            by false told =
                let found = f.own x p (ap (λ b. cond b (Some node) (old x)) (sym told) ∙ sym (at-new x) ∙ is) in
                (omega (arith, found.0, length-append ns (n ∷ [])), keys.grown ns n p x found.1)
