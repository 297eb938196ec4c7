-- What has ended, by the places where it began.
use Rattle.rust_v0.proofs.Basics.{◌≡◌, refl, ap, ◌∙◌, ℕ, zero, suc, ◌+◌, List, [], ◌∷◌, ◌++◌, replicate, get_or, append_assoc, replicate-append-replicate}

pub more : {A : Type 0} (xs ys zs : List A) (k n : ℕ) (x : A) → ys ≡ xs ++ replicate k x → zs ≡ ys ++ replicate n x → zs ≡ xs ++ replicate (k + n) x
more xs ys zs k n x old new =
    new ∙ ap (λ l. l ++ replicate n x) old ∙ append_assoc xs (replicate k x) (replicate n x) ∙ ap (λ l. xs ++ l) (replicate-append-replicate k n x)

none_there : {A : Type 0} (k i : ℕ) (x : A) → get_or (replicate k x) i x ≡ x
none_there zero i x = refl
none_there (suc k) zero x = refl
none_there (suc k) (suc i) x = none_there k i x

-- places at which nothing has ended yet change nothing
pub same_there : {A : Type 0} (xs : List A) (k i : ℕ) (x : A) → get_or (xs ++ replicate k x) i x ≡ get_or xs i x
same_there [] k i x = none_there k i x
same_there (y ∷ ys) k zero x = refl
same_there (y ∷ ys) k (suc i) x = same_there ys k i x
