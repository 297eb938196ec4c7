-- Parts that are taken one at a time.
use Rattle.sym_print.proofs.Basics.{◌≡◌, ℕ, suc, ◌+◌, ◌<◌, List, [], ◌∷◌, ◌++◌, length, drop, reverse, get_or, sym, ap, ◌∙◌, arith, reverse-append, drop-cons}

-- a list from a place on is the element at that place, and then the elements after it
pub drop-next : {X : Type 0} (xs : List X) (k : ℕ) (x : X) → k < length xs → x ≡ get_or xs k x → drop k xs ≡ x ∷ drop (k + 1) xs
drop-next xs k x h e =
    let more : suc k ≡ k + 1 = omega arith in
    drop-cons xs k x h ∙ ap (λ y. y ∷ drop (suc k) xs) (sym e) ∙ ap (λ n. x ∷ drop n xs) more

-- likewise for the elements from a place on, in reverse order
pub reverse-next : {X : Type 0} (xs : List X) (k : ℕ) (x : X) → k < length xs → x ≡ get_or xs k x → reverse (drop k xs) ≡ reverse (drop (k + 1) xs) ++ x ∷ []
reverse-next xs k x h e = ap reverse (drop-next xs k x h e) ∙ reverse-append (x ∷ []) (drop (k + 1) xs)
