-- Numbers as the code writes them.
use Rattle.cpp_spelling.proofs.Basics.{◌≡◌, ℕ, zero, suc, ◌-◌, ◌<◌, length, List, [], ◌∷◌, ◌++◌, ap, arith, ◌∙◌, append_assoc, digits-ten, digits-capital, decimal, ordinal, counted, seq_id}
use Rattle.sym_spell.specs.Digits.{digits_of, digits_in, decimal_digit, digit36}

glued : (a before tens last b c d : List ℕ) → b ≡ a ++ before → c ≡ b ++ tens → d ≡ c ++ last → d ≡ a ++ (before ++ (tens ++ last))
glued a before tens last b c d one two three =
    three ∙ ap (λ l. l ++ last) (two ∙ ap (λ l. l ++ tens) one) ∙ append_assoc (a ++ before) tens last ∙ append_assoc a before (tens ++ last)

ten-digits : (b c : List ℕ) (m n : ℕ) → m ≡ n → c ≡ b ++ digits_of 10 m → c ≡ b ++ digits_in 10 decimal_digit 40 n
ten-digits b c m n same is = is ∙ ap (λ k. b ++ digits_of 10 k) same ∙ ap (λ l. b ++ l) (digits-ten n)

capital-digits : (b c : List ℕ) (m n : ℕ) → m ≡ n → c ≡ b ++ digits_of 36 m → c ≡ b ++ digits_in 36 digit36 40 n
capital-digits b c m n same is = is ∙ ap (λ k. b ++ digits_of 36 k) same ∙ ap (λ l. b ++ l) (digits-capital n)

pub ordinal-more : (a b c d before : List ℕ) (n : ℕ) → 0 < n → b ≡ a ++ before → c ≡ b ++ digits_of 10 (n - 1) → d ≡ c ++ 95 ∷ [] → d ≡ a ++ (before ++ ordinal n)
unfolding ordinal decimal
ordinal-more a b c d before zero some one two three = absurd (omega (arith, some))
ordinal-more a b c d before (suc n) some one two three =
    glued a before (digits_in 10 decimal_digit 40 n) (95 ∷ []) b c d one (ten-digits b c (suc n - 1) n (omega arith) two) three

pub ordinal-first : (a b d before : List ℕ) (n : ℕ) → n ≡ 0 → b ≡ a ++ before → d ≡ b ++ 95 ∷ [] → d ≡ a ++ (before ++ ordinal n)
unfolding ordinal
ordinal-first a b d before n none one two = rw none (two ∙ ap (λ l. l ++ 95 ∷ []) one ∙ append_assoc a before (95 ∷ []))

pub counted-name : (a b c d before name : List ℕ) (n : ℕ) → n ≡ length name → b ≡ a ++ before → c ≡ b ++ digits_of 10 n → d ≡ c ++ name → d ≡ a ++ (before ++ counted name)
unfolding counted decimal
counted-name a b c d before name n long one two three =
    glued a before (digits_in 10 decimal_digit 40 (length name)) name b c d one (ten-digits b c n (length name) long two) three

pub reference-more : (a b c d : List ℕ) (n : ℕ) → 0 < n → b ≡ a ++ 83 ∷ [] → c ≡ b ++ digits_of 36 (n - 1) → d ≡ c ++ 95 ∷ [] → d ≡ a ++ (83 ∷ [] ++ seq_id n ++ 95 ∷ [])
unfolding seq_id
reference-more a b c d zero some one two three = absurd (omega (arith, some))
reference-more a b c d (suc n) some one two three =
    glued a (83 ∷ []) (digits_in 36 digit36 40 n) (95 ∷ []) b c d one (capital-digits b c (suc n - 1) n (omega arith) two) three

pub reference-first : (a b d : List ℕ) (n : ℕ) → n ≡ 0 → b ≡ a ++ 83 ∷ [] → d ≡ b ++ 95 ∷ [] → d ≡ a ++ (83 ∷ [] ++ seq_id n ++ 95 ∷ [])
unfolding seq_id
reference-first a b d n none one two = rw none (two ∙ ap (λ l. l ++ 95 ∷ []) one ∙ append_assoc a (83 ∷ []) (95 ∷ []))
