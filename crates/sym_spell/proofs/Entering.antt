-- Lists of keys that a test compares: where a key is, and what the list has after one more key. Also lists of the numbers
-- that keys have, before and after one more number.
use Rattle.std.proofs.Common.{◌≡◌, ℕ, zero, suc, ◌+◌, ◌<◌, ◌≤◌, ◌⊎◌, inl, inr, length, List, [], ◌∷◌, ◌++◌, slice_get, get_or, Some, None, Bool, true, false, refl, ap, arith, sym, subst, ◌∙◌, length-append}
use Rattle.std.specs.Prelude.{max, if◌then◌else◌, ◌||◌, ◌==◌, not}
use Rattle.std.proofs.lemmas.Bool.{eqb-true, eq-eqb}
use Rattle.std.specs.List.{IsDistinct, list_any, position_or_len, AllByRecursion}

-- ## Lists with one more element

pub last-or : (i n : ℕ) → i < n + 1 → (i < n) ⊎ (i ≡ n)
last-or i n low = go (i == n) refl
  where
    go : (b : Bool) → (i == n) ≡ b → (i < n) ⊎ (i ≡ n)
    go true h = inr (eqb-true i n h)
    go false h =
        let apart : i ≡ n → ⊥ = λ e. true-false (sym (eq-eqb i n e) ∙ h) in
        inl (omega (arith, low, apart))
      where
        true-false : true ≡ false → ⊥
        true-false bad = cc

pub old-number : (ns : List ℕ) (n i : ℕ) → i < length ns → get_or (ns ++ n ∷ []) i 0 ≡ get_or ns i 0
old-number [] n i low = absurd (omega (arith, low))
old-number (m ∷ ns) n zero low = refl
old-number (m ∷ ns) n (suc i) low = old-number ns n i (omega (arith, low))

pub new-number : (ns : List ℕ) (n : ℕ) → get_or (ns ++ n ∷ []) (length ns) 0 ≡ n
new-number [] n = refl
new-number (m ∷ ns) n = new-number ns n

-- ## Keys

-- a test of two keys that answers true exactly if they are alike
pub record IsTest {K : Type 0} (Alike : K → K → Type 0) (eq : K → K → Bool) : Type 0 where
  pub one : (a b : K) → eq a b ≡ true → Alike a b
  pub passed : (a b : K) → Alike a b → eq a b ≡ true
  pub turned : (a b : K) → Alike a b → Alike b a

some-one : {A : Type 0} {a b : A} → Some a ≡ Some b → a ≡ b
some-one h = cc

apart-at : {K : Type 0} (eq : K → K → Bool) (a b : K) (ks : List K) (m : ℕ) → AllByRecursion (λ y. eq a y ≡ false) ks → slice_get ks m ≡ Some b → eq a b ≡ false
apart-at eq a b [] m apart is = none-some is
  where
    none-some : None ≡ Some b → eq a b ≡ false
    none-some bad = cc
apart-at eq a b (x ∷ ks) zero apart is = subst (λ k. eq a k ≡ false) (some-one is) apart.0
apart-at eq a b (x ∷ ks) (suc m) apart is = apart-at eq a b ks m apart.1 is

-- keys that are alike have the same place
pub one-place : {K : Type 0} (Alike : K → K → Type 0) (eq : K → K → Bool) → IsTest Alike eq → (ks : List K) (n m : ℕ) (a b : K) → IsDistinct eq ks
    → slice_get ks n ≡ Some a → slice_get ks m ≡ Some b → Alike a b → n ≡ m
unfolding IsDistinct
one-place Alike eq test [] n m a b distinct here there one = none-some here
  where
    none-some : None ≡ Some a → n ≡ m
    none-some bad = cc
one-place Alike eq test (x ∷ ks) zero zero a b distinct here there one = refl
one-place Alike eq test (x ∷ ks) zero (suc m) a b distinct here there one =
    absurd (both-so (test.passed a b one) (subst (λ k. eq k b ≡ false) (some-one here) (apart-at eq x b ks m distinct.0 there)))
  where
    both-so : eq a b ≡ true → eq a b ≡ false → ⊥
    both-so h k = cc
one-place Alike eq test (x ∷ ks) (suc n) zero a b distinct here there one =
    absurd (both-so (test.passed b a (test.turned a b one)) (subst (λ k. eq k a ≡ false) (some-one there) (apart-at eq x a ks n distinct.0 here)))
  where
    both-so : eq b a ≡ true → eq b a ≡ false → ⊥
    both-so h k = cc
one-place Alike eq test (x ∷ ks) (suc n) (suc m) a b distinct here there one = ap suc (one-place Alike eq test ks n m a b distinct.1 here there one)

no-place : {K : Type 0} (test : K → Bool) (ks : List K) → list_any test ks ≡ false → position_or_len test ks ≡ length ks
no-place test [] none = refl
no-place test (x ∷ ks) none = go (test x) none (no-place test ks)
  where
    go : (b : Bool) → (b || list_any test ks) ≡ false → (list_any test ks ≡ false → position_or_len test ks ≡ length ks)
        → (if not b then 1 + position_or_len test ks else 0) ≡ suc (length ks)
    go true bad more = cc
    go false so more = omega (arith, more so)

pub old-key : {A : Type 0} (ks more : List A) (m : ℕ) (k : A) → slice_get ks m ≡ Some k → slice_get (ks ++ more) m ≡ Some k
old-key [] more m k is = none-some is
  where
    none-some : None ≡ Some k → slice_get more m ≡ Some k
    none-some bad = cc
old-key (x ∷ ks) more zero k is = is
old-key (x ∷ ks) more (suc m) k is = old-key ks more m k is

-- the list of keys `new` is `ks` after `key` was entered; `key` has the place `n` in it
pub record Enters {K : Type 0} (Alike : K → K → Type 0) (eq : K → K → Bool) (ks new : List K) (key : K) (n : ℕ) : Type 0 where
  pub old : (m : ℕ) (k : K) → slice_get ks m ≡ Some k → slice_get new m ≡ Some k
  pub stored : (k : K) × (slice_get new n ≡ Some k) × Alike key k
  pub low : n ≤ length ks
  pub size : length new ≡ max (length ks) (n + 1)
  pub distinct : IsDistinct eq new

pub enters : {K : Type 0} (Alike : K → K → Type 0) (eq : K → K → Bool) → IsTest Alike eq → (ks new : List K) (key : K) (n : ℕ)
    → n ≡ position_or_len (eq key) ks → new ≡ (if list_any (eq key) ks then ks else ks ++ key ∷ []) → n < length new
    → ((k : K) × (slice_get new n ≡ Some k) × (eq key k ≡ true)) → IsDistinct eq new → Enters Alike eq ks new key n
enters Alike eq test ks new key n place is within stored distinct = go (list_any (eq key) ks) refl is
  where
    go : (b : Bool) → list_any (eq key) ks ≡ b → new ≡ (if b then ks else ks ++ key ∷ []) → Enters Alike eq ks new key n
    go true any is = record {
      old = λ m k at. subst (λ l. slice_get l m ≡ Some k) (sym is) at;
      stored = (stored.0, stored.1, test.one key stored.0 stored.2);
      low = omega (arith, within, ap length is);
      size = omega (arith, within, ap length is);
      distinct = distinct;
    }
    go false any is = record {
      old = λ m k at. subst (λ l. slice_get l m ≡ Some k) (sym is) (old-key ks (key ∷ []) m k at);
      stored = (stored.0, stored.1, test.one key stored.0 stored.2);
      low = omega (arith, place, no-place (eq key) ks any);
      size = omega (arith, place, no-place (eq key) ks any, ap length is, length-append ks (key ∷ []));
      distinct = distinct;
    }
