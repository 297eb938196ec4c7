-- Subsequences of a text: bytes that occur in it in the same order.
use Rattle.std.proofs.Common.{◌≡◌, ◌==◌, ℕ, Bool, true, false, if◌then◌else◌, List, [], ◌∷◌, ◌++◌, append-nil, refl, sym, ap, subst, ◌∙◌, true≢false}
use Rattle.gnu_texts.proofs.Basics.{eq-eqb, filter, are_in}

abbrev pub AreIn : (bytes text : List ℕ) → Type 0
AreIn bytes text = are_in bytes text ≡ true

-- a subsequence of a text is also one of the text preceded by one more byte, if each subsequence of the text stays one without
-- its first byte
more-by : (text : List ℕ) → ((first : ℕ) (bytes : List ℕ) → AreIn (first ∷ bytes) text → AreIn bytes text) → (bytes : List ℕ) (byte : ℕ) → AreIn bytes text → AreIn bytes (byte ∷ text)
unfolding are_in
more-by text less [] byte is = refl
more-by text less (first ∷ bytes) byte is = by (first == byte)
  where
    by : (b : Bool) → (elim b as (λ _. Bool) [ true ↦ are_in bytes text | false ↦ are_in (first ∷ bytes) text ]) ≡ true
    by true = less first bytes is
    by false = is

-- a subsequence of a text stays one without its first byte
in-less : (text : List ℕ) (first : ℕ) (bytes : List ℕ) → AreIn (first ∷ bytes) text → AreIn bytes text
unfolding are_in
in-less [] first bytes is = absurd (true≢false (sym is))
in-less (byte ∷ text) first bytes is = by (first == byte) is (in-less text)
  where
    by : (b : Bool) → (elim b as (λ _. Bool) [ true ↦ are_in bytes text | false ↦ are_in (first ∷ bytes) text ]) ≡ true
        → ((first : ℕ) (bytes : List ℕ) → AreIn (first ∷ bytes) text → AreIn bytes text) → AreIn bytes (byte ∷ text)
    by true e less = more-by text less bytes byte e
    by false e less = more-by text less bytes byte (less first bytes e)

pub in-more : (bytes : List ℕ) (byte : ℕ) (text : List ℕ) → AreIn bytes text → AreIn bytes (byte ∷ text)
in-more bytes byte text is = more-by text (in-less text) bytes byte is

-- a subsequence of a text is also one of the text preceded by more bytes
in-behind : (front bytes text : List ℕ) → AreIn bytes text → AreIn bytes (front ++ text)
in-behind [] bytes text is = is
in-behind (byte ∷ front) bytes text is = in-more bytes byte (front ++ text) (in-behind front bytes text is)

-- subsequences of two texts, one after the other
pub in-both : (text bytes more rest : List ℕ) → AreIn bytes text → AreIn more rest → AreIn (bytes ++ more) (text ++ rest)
unfolding are_in
in-both text [] more rest is also = in-behind text more rest also
in-both [] (first ∷ bytes) more rest is also = absurd (true≢false (sym is))
in-both (byte ∷ text) (first ∷ bytes) more rest is also = by (first == byte) is (λ bytes h. in-both text bytes more rest h also)
  where
    by : (b : Bool) → (elim b as (λ _. Bool) [ true ↦ are_in bytes text | false ↦ are_in (first ∷ bytes) text ]) ≡ true
        → ((bytes : List ℕ) → AreIn bytes text → AreIn (bytes ++ more) (text ++ rest))
        → (elim b as (λ _. Bool) [ true ↦ are_in (bytes ++ more) (text ++ rest) | false ↦ are_in (first ∷ (bytes ++ more)) (text ++ rest) ]) ≡ true
    by true e again = again bytes e
    by false e again = again (first ∷ bytes) e

-- a subsequence of a text is also one of the text followed by more bytes
pub in-ahead : (bytes text rest : List ℕ) → AreIn bytes text → AreIn bytes (text ++ rest)
unfolding are_in
in-ahead bytes text rest is = subst (λ t. AreIn t (text ++ rest)) (append-nil bytes) (in-both text bytes [] rest is refl)

-- the bytes of a text that pass a test are a subsequence of it
pub in-filter : (test : ℕ → Bool) (text : List ℕ) → AreIn (filter test text) text
unfolding are_in
in-filter test [] = refl
in-filter test (byte ∷ text) = by (test byte) (in-filter test text)
  where
    by : (b : Bool) → AreIn (filter test text) text → AreIn (if b then byte ∷ filter test text else filter test text) (byte ∷ text)
    by true is = ap (λ b. elim b as (λ _. Bool) [ true ↦ are_in (filter test text) text | false ↦ are_in (byte ∷ filter test text) text ]) (eq-eqb byte byte refl) ∙ is
    by false is = in-more (filter test text) byte text is
