-- Lists that begin with one another, and runs of bytes that pass a test.
use Rattle.sym_core.proofs.Basics.{◌≡◌, ℕ, suc, ◌<◌, Bool, true, ◌⊎◌, inl, inr, List, [], ◌∷◌, ◌++◌, length, get_or, refl, ap, sym, ◌∙◌, arith, AllByRecursion, false≢true, StopsAt}

pub split_nil : {X : Type 0} (xs ys : List X) → xs ++ ys ≡ [] → (xs ≡ []) × (ys ≡ [])
split_nil [] ys e = (refl, e)
split_nil (x ∷ xs) ys e = cc

-- one of two fronts of a list begins with the other
pub compared : {X : Type 0} (xs ys v w : List X) → xs ++ v ≡ ys ++ w → ((m : List X) × (xs ≡ ys ++ m) × (w ≡ m ++ v)) ⊎ ((b : X) × (m : List X) × (ys ≡ xs ++ b ∷ m) × (v ≡ b ∷ (m ++ w)))
compared xs [] v w e = inl (xs, refl, sym e)
compared [] (y ∷ ys) v w e = inr (y, ys, refl, e)
compared (x ∷ xs) (y ∷ ys) v w e =
    let heads : x ≡ y = cc in
    let tails : xs ++ v ≡ ys ++ w = cc in
    elim (compared xs ys v w tails) [
      | inl more ↦ inl (more.0, cc, more.2)
      | inr less ↦ inr (less.0, less.1, cc, less.3)
    ]

abbrev pub Each : (ℕ → Bool) → List ℕ → Type 0
Each p xs = AllByRecursion (λ b. p b ≡ true) xs

-- two runs at the front of one list are equal, if both end where the test fails
pub same_run : (p : ℕ → Bool) (xs ys v w : List ℕ) → Each p xs → Each p ys → StopsAt p v → StopsAt p w → xs ++ v ≡ ys ++ w → (xs ≡ ys) × (v ≡ w)
same_run p [] [] v w xs_pass ys_pass v_stops w_stops e = (refl, e)
same_run p (x ∷ xs) (y ∷ ys) v w xs_pass ys_pass v_stops w_stops e =
    let heads : x ≡ y = cc in
    let rest = same_run p xs ys v w xs_pass.1 ys_pass.1 v_stops w_stops cc in
    (cc, rest.1)
same_run p [] (y ∷ ys) [] w xs_pass ys_pass v_stops w_stops e = cc
same_run p [] (y ∷ ys) (b ∷ v) w xs_pass ys_pass v_stops w_stops e =
    let heads : b ≡ y = cc in
    absurd (false≢true (sym v_stops ∙ ap p heads ∙ ys_pass.0))
same_run p (x ∷ xs) [] v [] xs_pass ys_pass v_stops w_stops e = cc
same_run p (x ∷ xs) [] v (b ∷ w) xs_pass ys_pass v_stops w_stops e =
    let heads : x ≡ b = cc in
    absurd (false≢true (sym w_stops ∙ ap p (sym heads) ∙ xs_pass.0))

pub each_front : (p : ℕ → Bool) (xs : List ℕ) (b : ℕ) (m : List ℕ) → Each p (xs ++ b ∷ m) → (p b ≡ true) × Each p (xs ++ b ∷ [])
each_front p [] b m h = (h.0, (h.0, tt))
each_front p (x ∷ xs) b m h = let rest = each_front p xs b m h.1 in (rest.0, (h.0, rest.1))

pub each_from_points : (p : ℕ → Bool) (xs : List ℕ) → ((k : ℕ) → k < length xs → p (get_or xs k 0) ≡ true) → Each p xs
each_from_points p [] h = tt
each_from_points p (x ∷ xs) h = (h 0 (omega arith), each_from_points p xs (λ k lt. h (suc k) (omega arith)))
