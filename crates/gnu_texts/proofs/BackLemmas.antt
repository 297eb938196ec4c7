-- A spelled text without the blanks before its brackets is the text that was spelled.
use Rattle.gnu_texts.proofs.Basics.{◌≡◌, ◌≤◌, ◌<◌, ◌+◌, ◌-◌, ◌==◌, ◌⊎◌, inl, inr, ℕ, zero, suc, Bool, true, false, not, ◌&&◌, ◌||◌, if◌then◌else◌, List, [], ◌∷◌, ◌++◌, length, take, drop, nat_eq, codes, refl, sym, ap, ap₂, ◌∙◌, arith, true≢false, take-append-drop, take-append-add, take-append_seam, pointwise, starts_with, list_all, is_letter, Piece, HasNoWords, HasNoBlanks, ComesBack, closed_up, bytes_of, is_spaced, last_of, operator_size, piece_at, sign_size, size_of, spelled}
use Rattle.gnu_texts.proofs.FrontLemmas.{front-is}
use Rattle.gnu_texts.proofs.KeptLemmas.{at-byte}
use Rattle.gnu_texts.proofs.PieceLemmas.{and-right, by-few, choose, operator-within, words-tail}

-- ## Operators' names have no blanks

abbrev IsSolid : List ℕ → Type 0
IsSolid text = list_all (λ b. not (b == 32)) text ≡ true

sign-solid : (text : List ℕ) → IsSolid (take (sign_size text) text)
unfolding sign_size
sign-solid text =
    choose (λ n. IsSolid (take n text)) (starts_with nat_eq text (codes "<=>")) _ _ (is (codes "<=>") refl)
    (λ _. choose (λ n. IsSolid (take n text)) (starts_with nat_eq text (codes "->") || starts_with nat_eq text (codes ">>") || starts_with nat_eq text (codes "()")) _ _
    (three (starts_with nat_eq text (codes "->")) (starts_with nat_eq text (codes ">>")) (starts_with nat_eq text (codes "()")) (is (codes "->") refl) (is (codes ">>") refl) (is (codes "()") refl))
    (λ _. choose (λ n. IsSolid (take n text)) (starts_with nat_eq text (codes ">")) _ _ (is (codes ">") refl) (λ _. refl)))
  where
    is : (sign : List ℕ) → IsSolid sign → starts_with nat_eq text sign ≡ true → IsSolid (take (length sign) text)
    is sign solid starts = ap (λ t. list_all (λ b. not (b == 32)) (take (length sign) t)) (front-is text sign starts) ∙ ap (list_all (λ b. not (b == 32))) (take-append_seam sign (drop (length sign) text)) ∙ solid

    three : (a b c : Bool) → (a ≡ true → IsSolid (take 2 text)) → (b ≡ true → IsSolid (take 2 text)) → (c ≡ true → IsSolid (take 2 text)) → (a || b || c) ≡ true → IsSolid (take 2 text)
    three true b c f g h e = f refl
    three false true c f g h e = g refl
    three false false c f g h e = h e

operator-solid : (last : ℕ) (text : List ℕ) → IsSolid (take (operator_size last text) text)
unfolding operator_size
operator-solid last text = by (is_letter last) (starts_with nat_eq text (codes "operator")) (sign_size (drop 8 text) == 0) refl
  where
    by : (letter begins none : Bool) → starts_with nat_eq text (codes "operator") ≡ begins → IsSolid (take (if letter || not begins || none then 0 else 8 + sign_size (drop 8 text)) text)
    by true begins none e = refl
    by false false none e = refl
    by false true true e = refl
    by false true false e =
        let size = sign_size (drop 8 text) in
        ap (λ t. list_all (λ b. not (b == 32)) (take (8 + size) t)) (front-is text (codes "operator") e)
        ∙ ap (list_all (λ b. not (b == 32))) (take-append-add (codes "operator") (drop 8 text) size)
        ∙ sign-solid (drop 8 text)

-- ## Where a blank is left out

is_joint : (last : ℕ) → List ℕ → Bool
is_joint last [] = false
is_joint last (byte ∷ text) = byte == 32 && is_spaced last text

none-joint : (last : ℕ) (text : List ℕ) → starts_with nat_eq (last ∷ text) (codes "> >") ≡ false → starts_with nat_eq (last ∷ text) (codes ") [") ≡ false → is_joint last text ≡ false
unfolding is_joint is_spaced
none-joint last [] closing array = refl
none-joint last (byte ∷ text) closing array = at-byte byte 32 (is_spaced last text) (λ blank.
    ap₂ (λ a b. a || b)
    (at-byte last 62 (starts_with nat_eq text (codes ">")) (λ e. sym (ap₂ (λ a b. starts_with nat_eq (a ∷ b ∷ text) (codes "> >")) e blank) ∙ closing))
    (at-byte last 41 (starts_with nat_eq text (codes "[")) (λ e. sym (ap₂ (λ a b. starts_with nat_eq (a ∷ b ∷ text) (codes ") [")) e blank) ∙ array)))

-- whether a blank is written before a text depends only on the byte before the text and on the text's first byte
spaced-first : (last : ℕ) (text other : List ℕ) → take 1 text ≡ take 1 other → is_spaced last text ≡ is_spaced last other
unfolding is_spaced
spaced-first last text other e = ap (λ t. (last == 62 && pointwise nat_eq (codes ">") t) || (last == 41 && pointwise nat_eq (codes "[") t)) e

no-blank : (last : ℕ) (text : List ℕ) → is_spaced last (32 ∷ text) ≡ false
unfolding is_spaced
no-blank last text = by (last == 62) (last == 41)
  where
    by : (a b : Bool) → ((a && false) || (b && false)) ≡ false
    by true true = refl
    by true false = refl
    by false true = refl
    by false false = refl

-- no blank is written after a byte that closes nothing
closes-nothing : (text : List ℕ) → (is_spaced 0 text ≡ false) × (is_spaced 32 text ≡ false)
unfolding is_spaced
closes-nothing text = (refl, refl)

-- ## What is left of a piece

-- the last of some bytes, or the byte before them
end_of : (last : ℕ) → List ℕ → ℕ
end_of last [] = last
end_of last (byte ∷ text) = end_of byte text

end-drop : (m last byte : ℕ) (text : List ℕ) → m < length (byte ∷ text) → drop m (byte ∷ text) ≡ end_of last (take (suc m) (byte ∷ text)) ∷ drop m text
unfolding end_of
end-drop zero last byte text within = refl
end-drop (suc m) last byte [] within = absurd (omega (arith, within))
end-drop (suc m) last byte (next ∷ text) within = end-drop m byte next text (omega (arith, within))

keep : (last byte : ℕ) (text : List ℕ) → (byte == 32 && is_spaced last text) ≡ false → closed_up last (byte ∷ text) ≡ byte ∷ closed_up byte text
unfolding closed_up
keep last byte text h = ap (λ b. elim b as (λ _. List ℕ) [ true ↦ closed_up last text | false ↦ byte ∷ closed_up byte text ]) h

leave : (last : ℕ) (text : List ℕ) → is_spaced last text ≡ true → closed_up last (32 ∷ text) ≡ closed_up last text
unfolding closed_up
leave last text h = ap (λ b. elim b as (λ _. List ℕ) [ true ↦ closed_up last text | false ↦ 32 ∷ closed_up 32 text ]) h

solid-closed : (last : ℕ) (text rest : List ℕ) → IsSolid text → closed_up last (text ++ rest) ≡ text ++ closed_up (end_of last text) rest
unfolding end_of
solid-closed last [] rest solid = refl
solid-closed last (byte ∷ text) rest solid =
    keep last byte (text ++ rest) (at-byte byte 32 (is_spaced last (text ++ rest)) (λ e. absurd (true≢false (sym solid ∙ ap (λ b. not (b == 32) && list_all (λ b. not (b == 32)) text) e))))
    ∙ ap (λ t. byte ∷ t) (solid-closed byte text rest (and-right (not (byte == 32)) _ solid))

-- what is written for a text begins with the text's first byte, if no blank is written before it
first-same : (last : ℕ) (text : List ℕ) → HasNoWords text → is_spaced last text ≡ false → take 1 (spelled last 0 text) ≡ take 1 text
unfolding spelled bytes_of
first-same last [] none other = refl
first-same last (byte ∷ text) none other =
    let all : List ℕ = byte ∷ text in
    by-few (λ piece. take 1 (bytes_of piece all ++ spelled (last_of piece all) (size_of piece all - 1) text) ≡ byte ∷ []) last all none
    (λ some. one (operator_size last all) _ some) (λ spaced. absurd (true≢false (sym spaced ∙ other))) (λ _. refl)
  where
    one : (n : ℕ) (rest : List ℕ) → 0 < n → take 1 (take n (byte ∷ text) ++ rest) ≡ byte ∷ []
    one zero rest some = absurd (omega (arith, some))
    one (suc n) rest some = refl

blanks-tail : (byte : ℕ) (text : List ℕ) → HasNoBlanks (byte ∷ text) → HasNoBlanks text
blanks-tail byte text none = record { closing = λ k. none.closing (suc k); array = λ k. none.array (suc k) }

-- ## A text

back-by : (before last skipped : ℕ) (text : List ℕ) → HasNoWords text → HasNoBlanks text → (last ≡ before) ⊎ (last ≡ 0) → is_joint before (drop skipped text) ≡ false
    → closed_up before (spelled last skipped text) ≡ drop skipped text
unfolding closed_up spelled bytes_of last_of size_of is_joint
back-by before last zero [] words blanks same joint = refl
back-by before last (suc skipped) [] words blanks same joint = refl
back-by before last (suc skipped) (byte ∷ text) words blanks same joint = back-by before last skipped text (words-tail byte text words) (blanks-tail byte text blanks) same joint
back-by before last zero (byte ∷ text) words blanks same joint = by (λ b l n. back-by b l n text (words-tail byte text words) (blanks-tail byte text blanks))
  where
    -- an operator's name
    named : ((b l n : ℕ) → (l ≡ b) ⊎ (l ≡ 0) → is_joint b (drop n text) ≡ false → closed_up b (spelled l n text) ≡ drop n text)
        → (size : ℕ) → 0 < size → size ≤ length (byte ∷ text) → IsSolid (take size (byte ∷ text)) → closed_up before (take size (byte ∷ text) ++ spelled 0 (size - 1) text) ≡ byte ∷ text
    named again zero some within solid = absurd (omega (arith, some))
    named again (suc m) some within solid =
        let all : List ℕ = byte ∷ text in
        let name : List ℕ = take (suc m) all in
        let end : ℕ = end_of before name in
        let here : drop m all ≡ end ∷ drop m text = end-drop m before byte text (omega (arith, within)) in
        let less : suc m - 1 ≡ m = omega arith in
        solid-closed before name (spelled 0 (suc m - 1) text) solid
        ∙ ap (λ n. name ++ closed_up end (spelled 0 n text)) less
        ∙ ap (λ t. name ++ t) (again end 0 m (inr refl)
        (none-joint end (drop m text) (ap (λ t. starts_with nat_eq t (codes "> >")) (sym here) ∙ blanks.closing m) (ap (λ t. starts_with nat_eq t (codes ") [")) (sym here) ∙ blanks.array m)))
        ∙ take-append-drop (suc m) all

    by : ((b l n : ℕ) → (l ≡ b) ⊎ (l ≡ 0) → is_joint b (drop n text) ≡ false → closed_up b (spelled l n text) ≡ drop n text)
        → let all : List ℕ = byte ∷ text in let piece : Piece = piece_at last all in closed_up before (bytes_of piece all ++ spelled (last_of piece all) (size_of piece all - 1) text) ≡ all
    by again =
        let all : List ℕ = byte ∷ text in
        let rest : List ℕ = spelled byte 0 text in
        let on : byte ∷ closed_up byte rest ≡ all = ap (λ t. byte ∷ t) (again byte byte 0 (inl refl) (none-joint byte text (blanks.closing 0) (blanks.array 0))) in
        by-few (λ piece. closed_up before (bytes_of piece all ++ spelled (last_of piece all) (size_of piece all - 1) text) ≡ all) last all words
        (λ some. named again (operator_size last all) some (operator-within last all) (operator-solid last all))
        (λ spaced. leave before (byte ∷ rest) (is-spaced same spaced)
        ∙ keep before byte rest (at-byte byte 32 (is_spaced before rest) (λ e. absurd (true≢false (sym spaced ∙ ap (λ b. is_spaced last (b ∷ text)) e ∙ no-blank last text))))
        ∙ on)
        (λ _. keep before byte rest (at-byte byte 32 (is_spaced before rest) (λ e.
        spaced-first before rest text (first-same byte text (words-tail byte text words) (blank-none e)) ∙ sym (ap (λ b. b == 32 && is_spaced before text) e) ∙ joint))
        ∙ on)
      where
        blank-none : byte ≡ 32 → is_spaced byte text ≡ false
        blank-none e = ap (λ b. is_spaced b text) e ∙ (closes-nothing text).1

        is-spaced : (last ≡ before) ⊎ (last ≡ 0) → is_spaced last (byte ∷ text) ≡ true → is_spaced before (byte ∷ spelled byte 0 text) ≡ true
        is-spaced (inl e) spaced = spaced-first before (byte ∷ spelled byte 0 text) (byte ∷ text) refl ∙ sym (ap (λ b. is_spaced b (byte ∷ text)) e) ∙ spaced
        is-spaced (inr e) spaced = absurd (true≢false (sym spaced ∙ ap (λ b. is_spaced b (byte ∷ text)) e ∙ (closes-nothing (byte ∷ text)).0))

pub comes-back : (text : List ℕ) → ComesBack text
unfolding is_joint
comes-back text words blanks = back-by 0 0 0 text words blanks (inl refl) (none-at text)
  where
    none-at : (text : List ℕ) → is_joint 0 text ≡ false
    none-at [] = refl
    none-at (byte ∷ text) = at-byte byte 32 (is_spaced 0 text) (λ _. (closes-nothing text).0)
