-- Numbers that are assigned in order: each is the place of an entry in a map.
use Rattle.std.proofs.Common.{◌≡◌, ℕ, zero, suc, ◌+◌, ◌<◌, ◌≤◌, ◌⊎◌, inl, inr, length, List, [], ◌∷◌, ◌++◌, take, slice_get, Some, refl, ap, arith, sym, subst, ◌∙◌, length-append}
use Rattle.std.specs.Prelude.{max, fold}
use Rattle.std.proofs.Math.Dec.{eqb}
use Rattle.std.proofs.lemmas.Bool.{eqb-true, eq-eqb}
use Rattle.sym_spell.specs.Numbers.{number_at, entries_of, AreBelow, TellApart, AreNumbered, AreCounted}
use Rattle.sym_spell.proofs.Entering.{last-or, old-number, new-number, IsTest, one-place, Enters}

-- ## Fronts of lists

old-front : (ns : List ℕ) (n i : ℕ) → i ≤ length ns → take i (ns ++ n ∷ []) ≡ take i ns
old-front [] n zero low = refl
old-front [] n (suc i) low = absurd (omega (arith, low))
old-front (m ∷ ns) n zero low = refl
old-front (m ∷ ns) n (suc i) low = ap (λ l. m ∷ l) (old-front ns n i (omega (arith, low)))

whole-front : (ns : List ℕ) → take (length ns) ns ≡ ns
whole-front [] = refl
whole-front (m ∷ ns) = ap (λ l. m ∷ l) (whole-front ns)

fold-push : (f : ℕ → ℕ → ℕ) (a : ℕ) (ns : List ℕ) (n : ℕ) → fold f a (ns ++ n ∷ []) ≡ f (fold f a ns) n
fold-push f a [] n = refl
fold-push f a (m ∷ ns) n = fold-push f (f a m) ns n

grows : (ms : List ℕ) (j : ℕ) → j < length ms → take (suc j) ms ≡ take j ms ++ number_at ms j ∷ []
grows [] j low = absurd (omega (arith, low))
grows (m ∷ ms) zero low = refl
grows (m ∷ ms) (suc j) low = ap (λ l. m ∷ l) (grows ms j (omega (arith, low)))

-- the first `i` numbers have at most `i` entries
pub entries-front : (ns : List ℕ) → ((i : ℕ) → i < length ns → number_at ns i ≤ entries_of (take i ns)) → (i : ℕ) → i ≤ length ns → entries_of (take i ns) ≤ i
entries-front ns next zero low = omega arith
entries-front ns next (suc i) low =
    omega (
      arith,
      ap entries_of (grows ns i (omega (arith, low))),
      fold-push (λ most m. max most (m + 1)) 0 (take i ns) (number_at ns i),
      entries-front ns next i (omega (arith, low)),
      next i (omega (arith, low)),
    )

-- numbers that are assigned in order are below the count of things
pub numbers-below : (ns : List ℕ) → ((i : ℕ) → i < length ns → number_at ns i ≤ entries_of (take i ns)) → AreBelow ns (length ns)
numbers-below ns next i low = omega (arith, next i low, entries-front ns next i (omega (arith, low)), low)

pub entries-few : (ns : List ℕ) → ((i : ℕ) → i < length ns → number_at ns i ≤ entries_of (take i ns)) → entries_of ns ≤ length ns
entries-few ns next = subst (λ l. entries_of l ≤ length ns) (whole-front ns) (entries-front ns next (length ns) (omega arith))

-- ## One more number

abbrev pub Same : ℕ → ℕ → Type 0
Same a b = a ≡ b

pub number-test : IsTest Same eqb
number-test = record { one = λ a b h. eqb-true a b h; passed = λ a b h. eq-eqb a b h; turned = λ a b h. sym h }

pub none-counted : (firsts ns es : List ℕ) → ns ≡ [] → es ≡ [] → AreCounted firsts ns es
none-counted firsts ns es no-numbers no-entries = record {
  numbered = record {
    long = refl;
    same = λ i j low other is. absurd (no i low);
    equal = λ i j low other is. absurd (no i low);
    next = λ i low. absurd (no i low);
  };
  each = λ i low. absurd (no i low);
  many = ap entries_of no-numbers ∙ sym (ap length no-entries);
}
  where
    long : length ns ≡ 0
    long = ap length no-numbers

    no : (i : ℕ) → i < length ns → ⊥
    no i low = omega (arith, low, long)

pub counted-more : (firsts ns es new : List ℕ) (key n : ℕ) → AreCounted firsts ns es → key ≡ number_at firsts (length ns) → Enters Same eqb es new key n
    → AreCounted firsts (ns ++ n ∷ []) new
counted-more firsts ns es new key n f own e = record {
  numbered = record { long = refl; same = same; equal = equal; next = next };
  each = each;
  many = fold-push (λ most m. max most (m + 1)) 0 ns n ∙ omega (arith, f.many, e.size);
}
  where
    k : ℕ
    k = length ns

    bound : (i : ℕ) → i < length (ns ++ n ∷ []) → (i < k) ⊎ (i ≡ k)
    bound i low = last-or i k (omega (arith, low, length-append ns (n ∷ [])))

    some-one : {a b : ℕ} → Some a ≡ Some b → a ≡ b
    some-one h = cc

    first-same : (i : ℕ) → i < k → number_at ns i ≡ n → number_at firsts i ≡ number_at firsts k
    first-same i low is =
        let there : slice_get new n ≡ Some (number_at firsts i) = subst (λ m. slice_get new m ≡ Some (number_at firsts i)) is (e.old (number_at ns i) (number_at firsts i) (f.each i low)) in
        some-one (sym there ∙ e.stored.1) ∙ sym e.stored.2 ∙ own

    number-same : (i : ℕ) → i < k → number_at firsts i ≡ number_at firsts k → number_at ns i ≡ n
    number-same i low is =
        one-place Same eqb number-test new (number_at ns i) n (number_at firsts i) e.stored.0 e.distinct
        (e.old (number_at ns i) (number_at firsts i) (f.each i low)) e.stored.1 (is ∙ sym own ∙ e.stored.2)

    same : (i j : ℕ) → i < length (ns ++ n ∷ []) → j < length (ns ++ n ∷ []) → number_at (ns ++ n ∷ []) i ≡ number_at (ns ++ n ∷ []) j → number_at firsts i ≡ number_at firsts j
    same i j low other is = go (bound i low) (bound j other)
      where
        go : (i < k) ⊎ (i ≡ k) → (j < k) ⊎ (j ≡ k) → number_at firsts i ≡ number_at firsts j
        go (inl a) (inl b) = f.numbered.same i j a b (sym (old-number ns n i a) ∙ is ∙ old-number ns n j b)
        go (inl a) (inr b) = first-same i a (sym (old-number ns n i a) ∙ is ∙ ap (number_at (ns ++ n ∷ [])) b ∙ new-number ns n) ∙ ap (number_at firsts) (sym b)
        go (inr a) (inl b) = ap (number_at firsts) a ∙ sym (first-same j b (sym (old-number ns n j b) ∙ sym is ∙ ap (number_at (ns ++ n ∷ [])) a ∙ new-number ns n))
        go (inr a) (inr b) = ap (number_at firsts) (a ∙ sym b)

    equal : (i j : ℕ) → i < length (ns ++ n ∷ []) → j < length (ns ++ n ∷ []) → number_at firsts i ≡ number_at firsts j → number_at (ns ++ n ∷ []) i ≡ number_at (ns ++ n ∷ []) j
    equal i j low other is = go (bound i low) (bound j other)
      where
        go : (i < k) ⊎ (i ≡ k) → (j < k) ⊎ (j ≡ k) → number_at (ns ++ n ∷ []) i ≡ number_at (ns ++ n ∷ []) j
        go (inl a) (inl b) = old-number ns n i a ∙ f.numbered.equal i j a b is ∙ sym (old-number ns n j b)
        go (inl a) (inr b) = old-number ns n i a ∙ number-same i a (is ∙ ap (number_at firsts) b) ∙ sym (new-number ns n) ∙ ap (number_at (ns ++ n ∷ [])) (sym b)
        go (inr a) (inl b) = ap (number_at (ns ++ n ∷ [])) a ∙ new-number ns n ∙ sym (number-same j b (sym is ∙ ap (number_at firsts) a)) ∙ sym (old-number ns n j b)
        go (inr a) (inr b) = ap (number_at (ns ++ n ∷ [])) (a ∙ sym b)

    next : (i : ℕ) → i < length (ns ++ n ∷ []) → number_at (ns ++ n ∷ []) i ≤ entries_of (take i (ns ++ n ∷ []))
    next i low = go (bound i low)
      where
        go : (i < k) ⊎ (i ≡ k) → number_at (ns ++ n ∷ []) i ≤ entries_of (take i (ns ++ n ∷ []))
        go (inl a) = rw (old-number ns n i a, old-front ns n i (omega (arith, a))) (f.numbered.next i a)
        go (inr a) = rw (a, new-number ns n, old-front ns n (length ns) (omega arith), whole-front ns, f.many) e.low

    each : (i : ℕ) → i < length (ns ++ n ∷ []) → slice_get new (number_at (ns ++ n ∷ []) i) ≡ Some (number_at firsts i)
    each i low = go (bound i low)
      where
        go : (i < k) ⊎ (i ≡ k) → slice_get new (number_at (ns ++ n ∷ []) i) ≡ Some (number_at firsts i)
        go (inl a) = ap (slice_get new) (old-number ns n i a) ∙ e.old (number_at ns i) (number_at firsts i) (f.each i a)
        go (inr a) =
            ap (slice_get new) (ap (number_at (ns ++ n ∷ [])) a ∙ new-number ns n) ∙ e.stored.1
            ∙ ap Some (sym e.stored.2 ∙ own ∙ ap (number_at firsts) (sym a))

-- numbers assigned to the first equal things are also numbers of the things themselves
pub through : {A : Type 0} (thing : ℕ → A) (count : ℕ) (firsts numbers : List ℕ) → length firsts ≡ count → TellApart thing firsts
    → AreNumbered (number_at firsts) (length firsts) numbers → AreNumbered thing count numbers
through thing count firsts numbers many apart are = record {
  long = are.long ∙ many;
  same = λ i j low other is. apart.same i j (omega (arith, low, are.long)) (omega (arith, other, are.long)) (are.same i j low other is);
  equal = λ i j low other is. are.equal i j low other (apart.equal i j (omega (arith, low, are.long)) (omega (arith, other, are.long)) is);
  next = are.next;
}
