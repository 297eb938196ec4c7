-- Orders of keys, field by field: which keys they take for equal, and what a map in such an order has at equal keys.
use Rattle.std.proofs.Common.{◌≡◌, ℕ, ◌<◌, List, [], ◌∷◌, true, refl, ap, subst, Ordering, Less, Equal, Greater}
use Rattle.std.specs.Ordering.{MatchOrdering, nat_cmp, ordering_then, is_eq}
use Rattle.std.specs.Cmp.Lexicographic.{slice_cmp}
use Rattle.std.specs.BTreeMap.{is_at, get, BTreeMap}
use Rattle.std.specs.Map.{lookup}
use Rattle.std.proofs.lemmas.Cmp.{ranked, tied_itself, nat_cmp_total, nat_list_cmp_total}

pub equal-is : (o : Ordering) → is_eq o ≡ true → o ≡ Equal
equal-is Less h = cc
equal-is Equal h = refl
equal-is Greater h = cc

pub first-tied : (a b : Ordering) → is_eq (ordering_then a b) ≡ true → (a ≡ Equal) × (is_eq b ≡ true)
first-tied Less b h = cc
first-tied Equal b h = (refl, h)
first-tied Greater b h = cc

pub then-tied : (a b : Ordering) → a ≡ Equal → is_eq b ≡ true → is_eq (ordering_then a b) ≡ true
then-tied a b one rest = rw one rest

pub number-tied : (x y : ℕ) → nat_cmp x y ≡ Equal → x ≡ y
number-tied x y is = subst (λ o. MatchOrdering o (x < y) (x ≡ y) (y < x)) is (ranked x y (nat_cmp x y) refl)

pub number-itself : (x y : ℕ) → x ≡ y → nat_cmp x y ≡ Equal
number-itself x y is = subst (λ z. nat_cmp x z ≡ Equal) is (tied_itself nat_cmp_total x)

pub list-tied : (xs ys : List ℕ) → slice_cmp nat_cmp xs ys ≡ Equal → xs ≡ ys
list-tied [] [] h = refl
list-tied [] (y ∷ ys) h = cc
list-tied (x ∷ xs) [] h = cc
list-tied (x ∷ xs) (y ∷ ys) h =
    let split : (nat_cmp x y ≡ Equal) × (is_eq (slice_cmp nat_cmp xs ys) ≡ true) = first-tied (nat_cmp x y) (slice_cmp nat_cmp xs ys) (ap is_eq h) in
    rw (number-tied x y split.0, list-tied xs ys (equal-is (slice_cmp nat_cmp xs ys) split.1)) refl

pub list-itself : (xs ys : List ℕ) → xs ≡ ys → slice_cmp nat_cmp xs ys ≡ Equal
list-itself xs ys is = subst (λ zs. slice_cmp nat_cmp xs zs ≡ Equal) is (tied_itself nat_list_cmp_total xs)

-- a map has the same entry at keys that compare as equal
pub same-look : {K X : Type 0} (cmp : K → K → Ordering) (a b : K) → ((q : K) → cmp a q ≡ cmp b q) → (m : BTreeMap K X) → get cmp m a ≡ get cmp m b
same-look {K} {X} cmp a b same m = go m.entries
  where
    go : (es : List (K × X)) → lookup (is_at (cmp a)) es ≡ lookup (is_at (cmp b)) es
    go [] = refl
    go (e ∷ es) = rw (same e.0, go es) refl
