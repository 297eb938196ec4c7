-- The texts of a name's tokens, and what they cost.
use Rattle.rust_legacy.proofs.Basics.{◌≡◌, ◌≤◌, ◌<◌, ℕ, zero, suc, ◌+◌, ◌-◌, ◌++◌, List, [], ◌∷◌, length, drop, refl, ap, sym, ◌∙◌, arith, append_assoc, length-append, append-nil, length-drop, drop-drop, text_of, cost_of, name_parts, texts_in, texts_of, token_of}

-- the texts one after another
abbrev pub whole_text : List (List ℕ) → List ℕ
whole_text [] = []
whole_text (text ∷ rest) = text ++ whole_text rest

-- what the texts cost, each as an item
abbrev pub whole_cost : List (List ℕ) → ℕ
whole_cost [] = 0
whole_cost (text ∷ rest) = 1 + length text + whole_cost rest

pub name_text : (texts : List (List ℕ)) → text_of (name_parts texts) ≡ whole_text texts
name_text [] = refl
name_text (text ∷ []) = refl
name_text (text ∷ next ∷ rest) = ap (λ t. text ++ t) (append-nil (text_of (name_parts (next ∷ rest))) ∙ name_text (next ∷ rest))

pub name_cost : (texts : List (List ℕ)) → 0 < length texts → cost_of (name_parts texts) ≡ whole_cost texts
name_cost [] some = absurd (omega (arith, some))
name_cost (text ∷ []) some = omega arith
name_cost (text ∷ next ∷ rest) some = omega (arith, name_cost (next ∷ rest) (omega arith))

-- asking for more tokens than there are makes no difference
same : (n m : ℕ) (bytes : List ℕ) → length bytes ≤ n → length bytes ≤ m → texts_in n bytes ≡ texts_in m bytes
same zero zero bytes a b = refl
same zero (suc m) [] a b = refl
same zero (suc m) (byte ∷ rest) a b = absurd (omega (arith, a))
same (suc n) zero [] a b = refl
same (suc n) zero (byte ∷ rest) a b = absurd (omega (arith, b))
same (suc n) (suc m) [] a b = refl
same (suc n) (suc m) (byte ∷ rest) a b =
    let k = (token_of (byte ∷ rest)).size - 1 in
    let short = length-drop k rest in
    ap (λ texts. (token_of (byte ∷ rest)).text ∷ texts) (same n m (drop k rest) (omega (arith, a, short)) (omega (arith, b, short)))

-- the texts of all tokens are that of the first token and those of the tokens after it
pub one_more : (bytes : List ℕ) → 0 < length bytes → 0 < (token_of bytes).size
    → texts_of bytes ≡ (token_of bytes).text ∷ texts_of (drop (token_of bytes).size bytes)
one_more [] some _ = absurd (omega (arith, some))
one_more (byte ∷ rest) some size =
    let k = (token_of (byte ∷ rest)).size - 1 in
    let short = length-drop k rest in
    let is : (token_of (byte ∷ rest)).size ≡ suc k = omega (arith, size) in
    ap (λ texts. (token_of (byte ∷ rest)).text ∷ texts)
    (same (length rest) (length (drop k rest)) (drop k rest) (omega (arith, short)) (omega arith)
    ∙ ap (λ n. texts_of (drop n (byte ∷ rest))) (sym is))

-- bytes have at least one token
pub some_texts : (bytes : List ℕ) → 0 < length bytes → 0 < length (texts_of bytes)
some_texts [] some = absurd (omega (arith, some))
some_texts (byte ∷ rest) some = omega arith

-- after a token, what is written and what is left still make the whole text; likewise for the cost
pub goes : (bytes : List ℕ) (at size left paid now limit all : ℕ) (before mid out : List ℕ)
    → at < length bytes
    → now + length (token_of (drop at bytes)).text ≡ paid → out ≡ mid ++ (token_of (drop at bytes)).text
    → size ≡ (token_of (drop at bytes)).size → 0 < size → paid + 1 ≡ left
    → mid ++ whole_text (texts_of (drop at bytes)) ≡ before → left + all ≡ limit + whole_cost (texts_of (drop at bytes))
    → (out ++ whole_text (texts_of (drop (at + size) bytes)) ≡ before) × (now + all ≡ limit + whole_cost (texts_of (drop (at + size) bytes)))
goes bytes at size left paid now limit all before mid out some spent written is more one text cost =
    let rest = drop at bytes in
    let token = token_of rest in
    let later = texts_of (drop (at + size) bytes) in
    let long = length-drop at bytes in
    let next : drop token.size rest ≡ drop (at + size) bytes = ap (λ n. drop n rest) (sym is) ∙ drop-drop size at bytes in
    let same_rest : texts_of rest ≡ token.text ∷ later =
    one_more rest (omega (arith, some, long)) (omega (arith, more, is)) ∙ ap (λ b. token.text ∷ texts_of b) next in (
      ap (λ o. o ++ whole_text later) written ∙ append_assoc mid token.text _ ∙ ap (λ t. mid ++ whole_text t) (sym same_rest) ∙ text,
      omega (arith, spent, one, cost, ap whole_cost same_rest),
    )

-- the first token's text is the first text
pub first_text : (bytes : List ℕ) → 0 < length bytes → (rest : List (List ℕ)) × (texts_of bytes ≡ (token_of bytes).text ∷ rest)
first_text [] some = absurd (omega (arith, some))
first_text (byte ∷ rest) some = (_, refl)

-- a limit that doesn't cover a token, or even its item, doesn't cover the whole
pub limit_passed : (bytes : List ℕ) (at left cost all limit : ℕ) → at < length bytes → left < cost → cost ≤ 1 + length (token_of (drop at bytes)).text
    → left + all ≡ limit + whole_cost (texts_of (drop at bytes)) → limit < all
limit_passed bytes at left cost all limit some none within is =
    let first = first_text (drop at bytes) (omega (arith, some, length-drop at bytes)) in
    omega (arith, none, within, is, ap whole_cost first.1)

-- what is written, together with the token's text, is no longer than the whole text
pub token_within : (bytes : List ℕ) (at : ℕ) (before mid : List ℕ) → at < length bytes
    → mid ++ whole_text (texts_of (drop at bytes)) ≡ before → length mid + length (token_of (drop at bytes)).text ≤ length before
token_within bytes at before mid some text =
    let first = first_text (drop at bytes) (omega (arith, some, length-drop at bytes)) in
    omega (arith, ap length (sym text), length-append mid (whole_text (texts_of (drop at bytes))), ap (λ t. length (whole_text t)) first.1, length-append (token_of (drop at bytes)).text (whole_text first.0))
