-- The texts of codes, by their numbers.
use Rattle.cpp_layout.proofs.Basics.{◌≡◌, refl, sym, ◌∙◌, ap, arith, ℕ, zero, suc, ◌+◌, ◌<◌, ◌≤◌, List, [], ◌∷◌, ◌++◌, length, slice_get, ◌*◌, Bool, true, false, nat_eq, nat_lt, ◌&&◌, ◌||◌, codes, Some, None, inl, inr, eqb-true, ltb-true, eqb_tells, slice_get_past, Naming, same_bytes, look_up, builtin_texts, operator_texts, abbreviation_texts, special_texts, named_special_texts, literal_endings, fixed_text, texts, operator_letter, operator_code, COUNT, NONE, OPERATOR, OPERATORS, OPERATOR_ALONE}
use Rattle.cpp_layout.proofs.CodeLetters.{builtin_letters, d_letters, abbreviation_letters, special_letters, named_special_letters, ending_letters}

abbrev pub all_below : (ℕ → Bool) → ℕ → Bool
all_below p zero = true
all_below p (suc n) = all_below p n && p n

and-first : (a b : Bool) → a && b ≡ true → a ≡ true
and-first true b e = refl
and-first false b e = e

and-second : (a b : Bool) → a && b ≡ true → b ≡ true
and-second true b e = e
and-second false true e = refl
and-second false false e = e

pub holds_below : (p : ℕ → Bool) (n k : ℕ) → all_below p n ≡ true → k < n → p k ≡ true
holds_below p zero k all less = absurd (omega (arith, less))
holds_below p (suc n) k all less = elim (eqb_tells k n) [
  | inl a ↦ ap p a.1 ∙ and-second (all_below p n) (p n) all
  | inr b ↦ holds_below p n k (and-first (all_below p n) (p n) all) (omega (arith, b.1, less))
]

or-second : (a b : Bool) → a || b ≡ true → a ≡ false → b ≡ true
or-second true b e n = cc n
or-second false b e n = e

-- the code of the naming with this number; empty past the last one
abbrev code_at : List Naming → ℕ → List ℕ
code_at ns k = elim (slice_get ns k) [ Some n ↦ n.code | None ↦ [] ]

pub same_bytes_sound : (a b : List ℕ) → same_bytes a b ≡ true → a ≡ b
unfolding same_bytes
same_bytes_sound [] [] e = refl
same_bytes_sound (x ∷ xs) (y ∷ ys) e = rw (eqb-true x y (and-first (nat_eq x y) (same_bytes xs ys) e), same_bytes_sound xs ys (and-second (nat_eq x y) (same_bytes xs ys) e)) refl
same_bytes_sound [] (y ∷ ys) e = cc e
same_bytes_sound (x ∷ xs) [] e = cc e

-- ## Texts

-- the only empty text is that of `NONE`
pub some_text : (n : ℕ) → n < COUNT → nat_eq n NONE ≡ false → 0 < length (fixed_text n)
unfolding builtin_texts operator_texts abbreviation_texts special_texts named_special_texts literal_endings
some_text n less other = ltb-true 0 (length (fixed_text n)) (or-second _ _ (holds_below (λ m. nat_eq m NONE || nat_lt 0 (length (fixed_text m))) COUNT n refl less) other)

-- a number past the last one has the empty text
pub past_last : (n : ℕ) → COUNT ≤ n → [] ≡ fixed_text n
unfolding builtin_texts operator_texts abbreviation_texts special_texts named_special_texts literal_endings
past_last n past = rw (slice_get_past texts n past) refl

abbrev pub any_of : List ℕ → ℕ → Bool
any_of [] l = false
any_of (x ∷ xs) l = nat_eq l x || any_of xs l

pub no_builtin : (l : ℕ) → l < 256 → any_of builtin_letters l ≡ false → [] ≡ look_up (l ∷ []) builtin_texts
unfolding builtin_texts operator_texts abbreviation_texts special_texts named_special_texts literal_endings look_up same_bytes
no_builtin l less none = same_bytes_sound _ _ (or-second _ _ (holds_below (λ n. any_of builtin_letters n || same_bytes [] (look_up (n ∷ []) builtin_texts)) 256 l refl less) none)

pub no_d : (l : ℕ) → l < 256 → any_of d_letters l ≡ false → [] ≡ look_up (68 ∷ l ∷ []) builtin_texts
unfolding builtin_texts operator_texts abbreviation_texts special_texts named_special_texts literal_endings look_up same_bytes
no_d l less none = same_bytes_sound _ _ (or-second _ _ (holds_below (λ n. any_of d_letters n || same_bytes [] (look_up (68 ∷ n ∷ []) builtin_texts)) 256 l refl less) none)

pub no_abbreviation : (l : ℕ) → l < 256 → any_of abbreviation_letters l ≡ false → [] ≡ look_up (l ∷ []) abbreviation_texts
unfolding builtin_texts operator_texts abbreviation_texts special_texts named_special_texts literal_endings look_up same_bytes
no_abbreviation l less none = same_bytes_sound _ _ (or-second _ _ (holds_below (λ n. any_of abbreviation_letters n || same_bytes [] (look_up (n ∷ []) abbreviation_texts)) 256 l refl less) none)

pub no_special : (l : ℕ) → l < 256 → any_of special_letters l ≡ false → [] ≡ look_up (l ∷ []) special_texts
unfolding builtin_texts operator_texts abbreviation_texts special_texts named_special_texts literal_endings look_up same_bytes
no_special l less none = same_bytes_sound _ _ (or-second _ _ (holds_below (λ n. any_of special_letters n || same_bytes [] (look_up (n ∷ []) special_texts)) 256 l refl less) none)

pub no_named_special : (l : ℕ) → l < 256 → any_of named_special_letters l ≡ false → [] ≡ look_up (l ∷ []) named_special_texts
unfolding builtin_texts operator_texts abbreviation_texts special_texts named_special_texts literal_endings look_up same_bytes
no_named_special l less none = same_bytes_sound _ _ (or-second _ _ (holds_below (λ n. any_of named_special_letters n || same_bytes [] (look_up (n ∷ []) named_special_texts)) 256 l refl less) none)

pub no_ending : (l : ℕ) → l < 256 → any_of ending_letters l ≡ false → [] ≡ look_up (l ∷ []) literal_endings
unfolding builtin_texts operator_texts abbreviation_texts special_texts named_special_texts literal_endings look_up same_bytes
no_ending l less none = same_bytes_sound _ _ (or-second _ _ (holds_below (λ n. any_of ending_letters n || same_bytes [] (look_up (n ∷ []) literal_endings)) 256 l refl less) none)

-- ## Operators

pub operator_text : (k : ℕ) → k < OPERATORS → fixed_text (OPERATOR + k) ≡ codes "operator" ++ look_up (operator_letter 0 k ∷ operator_letter 1 k ∷ []) operator_texts
unfolding builtin_texts operator_texts abbreviation_texts special_texts named_special_texts literal_endings look_up same_bytes
operator_text k less = same_bytes_sound _ _ (holds_below (λ n. same_bytes (fixed_text (OPERATOR + n)) (codes "operator" ++ look_up (operator_letter 0 n ∷ operator_letter 1 n ∷ []) operator_texts)) OPERATORS k refl less)

few-letters : (k : ℕ) → k < OPERATORS → operator_letter 0 k < 256
unfolding operator_texts
few-letters k less = ltb-true _ _ (holds_below (λ n. nat_lt (operator_letter 0 n) 256) OPERATORS k refl less)

few-seconds : (k : ℕ) → k < OPERATORS → operator_letter 1 k < 256
unfolding operator_texts
few-seconds k less = ltb-true _ _ (holds_below (λ n. nat_lt (operator_letter 1 n) 256) OPERATORS k refl less)

pub operator_found : (a b k : ℕ) → k < OPERATORS → a < 256 → b < 256 → operator_code k ≡ a * 256 + b → fixed_text (OPERATOR + k) ≡ codes "operator" ++ look_up (a ∷ b ∷ []) operator_texts
unfolding operator_code
operator_found a b k less p q e =
    let f : operator_letter 0 k ≡ a = omega (arith, few-letters k less, few-seconds k less, p, q, e) in
    let g : operator_letter 1 k ≡ b = omega (arith, few-letters k less, few-seconds k less, p, q, e) in
    operator_text k less ∙ ap (λ x. codes "operator" ++ look_up (x ∷ operator_letter 1 k ∷ []) operator_texts) f ∙ ap (λ x. codes "operator" ++ look_up (a ∷ x ∷ []) operator_texts) g

two-letters : (k : ℕ) → k < OPERATORS → code_at operator_texts k ≡ operator_letter 0 k ∷ operator_letter 1 k ∷ []
unfolding operator_texts same_bytes
two-letters k less = same_bytes_sound _ _ (holds_below (λ n. same_bytes (code_at operator_texts n) (operator_letter 0 n ∷ operator_letter 1 n ∷ [])) OPERATORS k refl less)

second-same : (a b x z : ℕ) → same_bytes (a ∷ b ∷ []) (x ∷ z ∷ []) ≡ true → (a ≡ x) × (b ≡ z)
unfolding same_bytes
second-same a b x z e = (eqb-true a x (and-first (nat_eq a x) (nat_eq b z && true) e), eqb-true b z (and-first (nat_eq b z) true (and-second (nat_eq a x) (nat_eq b z && true) e)))

differ : (a b x z : ℕ) (t : Bool) → same_bytes (a ∷ b ∷ []) (x ∷ z ∷ []) ≡ t → x < 256 → z < 256 → a < 256 → b < 256 → (256 * x + z ≡ a * 256 + b → ⊥) → t ≡ false
differ a b x z true e p q r s other = let f = second-same a b x z e in absurd (other (omega (arith, f.0, f.1)))
differ a b x z false e p q r s other = refl

no-look : (code : List ℕ) (ns : List Naming) → ((k : ℕ) → k < length ns → same_bytes code (code_at ns k) ≡ false) → look_up code ns ≡ []
unfolding look_up
no-look code [] all = refl
no-look code (n ∷ ns) all = rw (look_up, all 0 (omega arith)) (no-look code ns (λ k less. all (suc k) (omega (arith, less))))

pub no_operator : (a b : ℕ) → a < 256 → b < 256 → ((k : ℕ) → k < OPERATORS → operator_code k ≡ a * 256 + b → ⊥) → fixed_text OPERATOR_ALONE ≡ codes "operator" ++ look_up (a ∷ b ∷ []) operator_texts
unfolding operator_code builtin_texts operator_texts abbreviation_texts special_texts named_special_texts literal_endings
no_operator a b p q other = ap (λ l. codes "operator" ++ l) (sym (no-look (a ∷ b ∷ []) operator_texts (λ k less.
    let small : k < OPERATORS = few-operators k less in
    ap (same_bytes (a ∷ b ∷ [])) (two-letters k small) ∙ differ a b (operator_letter 0 k) (operator_letter 1 k) (same_bytes (a ∷ b ∷ []) (operator_letter 0 k ∷ operator_letter 1 k ∷ [])) refl (few-letters k small) (few-seconds k small) p q (other k small))))
  where
    few-operators : (k : ℕ) → k < length operator_texts → k < OPERATORS
    few-operators k less = less
