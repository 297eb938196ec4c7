-- Lists that are taken apart and joined.
use Rattle.sym_link.proofs.Basics.{◌≡◌, refl, sym, ◌∙◌, ap, arith, ℕ, zero, suc, ◌-◌, ◌<◌, ◌≤◌, List, [], ◌∷◌, ◌++◌, length, take, drop, append_assoc, length-drop, length-append, get_or, AreAll, get_or-append_seam, take-append-drop, length-take-le, take_all}

pub taken_dropped : {A : Type 0} (n : ℕ) (xs : List A) → take n xs ++ drop n xs ≡ xs
taken_dropped n xs = take-append-drop n xs

pub pushed_behind : {A : Type 0} (n : ℕ) (xs : List A) (x : A) → n ≤ length xs → xs ++ x ∷ [] ≡ take n xs ++ (drop n xs ++ x ∷ [])
pushed_behind n xs x within = ap (λ ys. ys ++ x ∷ []) (sym (take-append-drop n xs)) ∙ append_assoc (take n xs) (drop n xs) (x ∷ [])

pub dropped_push : {A : Type 0} (n : ℕ) (xs : List A) (x : A) → n ≤ length xs → drop n (xs ++ x ∷ []) ≡ drop n xs ++ x ∷ []
dropped_push zero xs x within = refl
dropped_push (suc n) [] x within = absurd (omega (arith, within))
dropped_push (suc n) (y ∷ xs) x within = dropped_push n xs x (omega (arith, within))

pub span_length : {A : Type 0} (from to : ℕ) (xs : List A) → from ≤ to → to ≤ length xs → length (take (to - from) (drop from xs)) ≡ to - from
span_length from to xs low high = length-take-le (to - from) (drop from xs) (omega (arith, low, high, length-drop from xs))

pub pushed_at : {A : Type 0} (xs ys : List A) (x y : A) (n : ℕ) (d : A) → ys ≡ xs ++ y ∷ [] → n ≡ length xs → y ≡ x → (n < length ys) × (get_or ys n d ≡ x)
pushed_at xs ys x y n d are is_n is =
    (omega (arith, is_n, ap (λ zs. length zs) are, length-append xs (y ∷ [])), rw (are, is_n) (get_or-append_seam xs y [] d ∙ is))

pub all_push : {P V : Type 0} (Is : P → V → Type 0) (ps : List P) (vs : List V) (p : P) (v : V) → AreAll Is ps vs → Is p v → AreAll Is (ps ++ p ∷ []) (vs ++ v ∷ [])
all_push Is [] [] p v are is = (is, tt)
all_push Is (q ∷ ps) (w ∷ vs) p v are is = (are.0, all_push Is ps vs p v are.1 is)
all_push Is [] (w ∷ vs) p v are is = absurd are
all_push Is (q ∷ ps) [] p v are is = absurd are

pub all_stay : {P V : Type 0} (Is Was : P → V → Type 0) (ps : List P) (vs : List V) → ((p : P) (v : V) → Was p v → Is p v) → AreAll Was ps vs → AreAll Is ps vs
all_stay Is Was [] [] stay are = tt
all_stay Is Was (q ∷ ps) (w ∷ vs) stay are = (stay q w are.0, all_stay Is Was ps vs stay are.1)
all_stay Is Was [] (w ∷ vs) stay are = absurd are
all_stay Is Was (q ∷ ps) [] stay are = absurd are

pub snoc_last : {A : Type 0} (xs ys : List A) (x y : A) → xs ++ x ∷ [] ≡ ys ++ y ∷ [] → x ≡ y
snoc_last [] [] x y h = cc
snoc_last [] (b ∷ []) x y h = cc
snoc_last [] (b ∷ c ∷ ys) x y h = cc
snoc_last (a ∷ []) [] x y h = cc
snoc_last (a ∷ c ∷ xs) [] x y h = cc
snoc_last (a ∷ xs) (b ∷ ys) x y h = let e : xs ++ x ∷ [] ≡ ys ++ y ∷ [] = cc in snoc_last xs ys x y e

pub snoc_front : {A : Type 0} (xs ys : List A) (x y : A) → xs ++ x ∷ [] ≡ ys ++ y ∷ [] → xs ≡ ys
snoc_front [] [] x y h = refl
snoc_front [] (b ∷ []) x y h = cc
snoc_front [] (b ∷ c ∷ ys) x y h = cc
snoc_front (a ∷ []) [] x y h = cc
snoc_front (a ∷ c ∷ xs) [] x y h = cc
snoc_front (a ∷ xs) (b ∷ ys) x y h = let e : xs ++ x ∷ [] ≡ ys ++ y ∷ [] = cc in let f : xs ≡ ys = snoc_front xs ys x y e in cc

pub no_last : {A : Type 0} (xs : List A) (x : A) → [] ≡ xs ++ x ∷ [] → ⊥
no_last [] x h = cc
no_last (y ∷ xs) x h = cc

pub dropped_front : {A : Type 0} (xs ys : List A) → drop (length xs) (xs ++ ys) ≡ ys
dropped_front [] ys = refl
dropped_front (x ∷ xs) ys = dropped_front xs ys

pub taken_front : {A : Type 0} (xs ys : List A) → take (length xs) (xs ++ ys) ≡ xs
taken_front [] ys = refl
taken_front (x ∷ xs) ys = ap (λ l. x ∷ l) (taken_front xs ys)

pub rest_all : {A : Type 0} (xs : List A) (n : ℕ) → take (length xs - n) (drop n xs) ≡ drop n xs
rest_all xs n = take_all (length xs - n) (drop n xs) (omega (arith, length-drop n xs))

-- what a pop leaves
pub popped : {A : Type 0} (items lower : List A) (x : A) (n : ℕ) → items ≡ lower ++ x ∷ [] → n ≡ length items → take (n - 1) items ≡ lower
popped items lower x n are is_n =
    let count : n - 1 ≡ length lower = omega (arith, ap length are, length-append lower (x ∷ []), is_n) in
    rw (count, are) (taken_front lower (x ∷ []))

-- a list has one last item
pub last_same : {A : Type 0} (xs ys : List A) (x y : A) → xs ++ x ∷ [] ≡ ys ++ y ∷ [] → x ≡ y
last_same [] [] x y same = cc
last_same [] (b ∷ []) x y same = cc
last_same [] (b ∷ c ∷ ys) x y same = cc
last_same (a ∷ []) [] x y same = cc
last_same (a ∷ c ∷ xs) [] x y same = cc
last_same (a ∷ xs) (b ∷ ys) x y same = last_same xs ys x y cc
