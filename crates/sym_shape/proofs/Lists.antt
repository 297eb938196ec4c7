-- Lists that begin with one another.
use Rattle.std.proofs.Common.{◌≡◌, Bool, true, false, ◌⊎◌, inl, inr, List, [], ◌∷◌, ◌++◌, refl, ap, sym, ◌∙◌, Option, Some}
pub use Rattle.sym_core.proofs.Lists.{compared, split_nil}

-- the first element of joined lists is that of the second list if the first list is empty, else that of the first list
pub split_cons : {X : Type 0} (xs ys : List X) (b : X) (w : List X) → xs ++ ys ≡ b ∷ w → ((xs ≡ []) × (ys ≡ b ∷ w)) ⊎ ((v : List X) × (xs ≡ b ∷ v) × (w ≡ v ++ ys))
split_cons [] ys b w e = inl (refl, e)
split_cons (x ∷ xs) ys b w e = inr (xs, cc, cc)

pub true_or : (b : Bool) → (b ≡ true) ⊎ (b ≡ false)
true_or true = inl refl
true_or false = inr refl

pub one_taken : {X : Type 0} (taken : List X) (byte : X) (rest : List X) (b : X) (w : List X) → taken ≡ byte ∷ [] → taken ++ rest ≡ b ∷ w → (byte ≡ b) × (rest ≡ w)
one_taken taken byte rest b w one e =
    let together : byte ∷ rest ≡ b ∷ w = sym (ap (λ v. v ++ rest) one) ∙ e in
    (cc, cc)

pub none_taken : {X : Type 0} (taken rest w : List X) → taken ≡ [] → taken ++ rest ≡ w → rest ≡ w
none_taken taken rest w none e = sym (ap (λ v. v ++ rest) none) ∙ e

-- a list that isn't empty has a first element
pub filled : {X : Type 0} (xs : List X) → (xs ≡ [] → ⊥) → (b : X) × (w : List X) × (xs ≡ b ∷ w)
filled [] h = absurd (h refl)
filled (x ∷ xs) h = (x, xs, refl)

pub some_same : {X : Type 0} (x y : X) (o : Option X) → o ≡ Some x → o ≡ Some y → x ≡ y
some_same x y o p q = cc
