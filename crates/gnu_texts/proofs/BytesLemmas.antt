-- The bytes of a text, in their order, are a subsequence of its spelled text.
use Rattle.gnu_texts.proofs.Basics.{◌≡◌, ◌≤◌, ◌+◌, ◌-◌, ◌==◌, ◌&&◌, ◌||◌, ℕ, zero, suc, true, false, not, true≢false, List, [], ◌∷◌, ◌++◌, length, take, drop, get_or, nat_eq, codes, refl, sym, ap, ap₂, subst, ◌∙◌, arith, length-append, take_all, take-add, take-append_seam, Decides-eqb, take-append-drop, filter-append, ends_is, ends_with, starts_with, Name, Piece, begins_part, clones, is_suffix, letter_bytes, parted, suffix_of, HasNo, KeepsBytes, are_in, without_parentheses, begins_whole, member_bytes, member_front, member_size, name_of, written_of, bytes_of, last_of, operator_size, piece_at, size_of, spelled}
use Rattle.gnu_texts.specs.declared.names.Name.TheVariants as names
use Rattle.gnu_texts.specs.declared.piece.Piece.TheVariants as pieces
use Rattle.gnu_texts.proofs.FrontLemmas.{front-is}
use Rattle.gnu_texts.proofs.OrderLemmas.{AreIn, in-ahead, in-both, in-filter, in-more}
use Rattle.gnu_texts.proofs.PieceLemmas.{and-left, and-right, by-piece, choose, sized, suffix-some}
use Rattle.gnu_texts.proofs.SpelledLemmas.{drop-less}

-- two parts of a text are in what is written for both, if each part is in what is written for it
parts-in : (front rest written more : List ℕ) → AreIn (without_parentheses front) written → AreIn (without_parentheses rest) more → AreIn (without_parentheses (front ++ rest)) (written ++ more)
parts-in front rest written more is also =
    subst (λ t. AreIn t (written ++ more)) (sym (filter-append (λ byte. not (byte == 40 || byte == 41)) front rest))
    (in-both written (without_parentheses front) (without_parentheses rest) more is also)

same-in : (text : List ℕ) → AreIn (without_parentheses text) text
same-in text = in-filter (λ byte. not (byte == 40 || byte == 41)) text

-- ## Suffixes

letter-in : (byte : ℕ) (text : List ℕ) → AreIn (without_parentheses (byte ∷ [])) (letter_bytes (byte ∷ text))
unfolding begins_part are_in
letter-in byte text =
    choose (AreIn (without_parentheses (byte ∷ []))) (begins_part (byte ∷ text)) (codes "] [clone .") (byte ∷ [])
    (λ h.
    let dot : byte ≡ 46 = ap (λ t. get_or t 0 0) (front-is (byte ∷ text) (codes ".") (and-left _ _ h)) in
    subst (λ b. AreIn (without_parentheses (b ∷ [])) (codes "] [clone .")) (sym dot) refl)
    (λ _. same-in (byte ∷ []))

parted-in : (text : List ℕ) → AreIn (without_parentheses text) (parted text)
unfolding parted are_in
parted-in [] = refl
parted-in (byte ∷ text) = parts-in (byte ∷ []) text (letter_bytes (byte ∷ text)) (parted text) (letter-in byte text) (parted-in text)

-- what a suffix is, and what is between its dot and its end
record IsSuffix (text : List ℕ) : Type 0 where
  own : List ℕ
  text_is : text ≡ codes " (." ++ own ++ codes ")"
  own_is : suffix_of text ≡ 46 ∷ own

suffix-is : (text : List ℕ) → is_suffix text ≡ true → IsSuffix text
unfolding is_suffix
suffix-is text h =
    let both = and-left _ _ h in
    by text (suffix-some text h) (front-is text (codes " (.") (and-left _ _ both))
    ((ends_is Decides-eqb text (codes ")") (ends_with nat_eq text (codes ")")) refl).0 (and-right (starts_with nat_eq text (codes " (.")) _ both))
  where
    by : (text : List ℕ) → 4 ≤ length text → text ≡ codes " (." ++ drop 3 text → text ≡ take (length text - 1) text ++ codes ")" → IsSuffix text
    by [] some front end = absurd (omega (arith, some))
    by (a ∷ []) some front end = absurd (omega (arith, some))
    by (a ∷ b ∷ []) some front end = absurd (omega (arith, some))
    by (a ∷ b ∷ c ∷ []) some front end = absurd (omega (arith, some))
    by (a ∷ b ∷ c ∷ d ∷ text) some front end =
        let all : List ℕ = a ∷ b ∷ c ∷ d ∷ text in
        let own : List ℕ = take (length text) (d ∷ text) in
        let dot : c ≡ 46 = ap (λ t. get_or t 2 0) front in
        let end_size : length all - 1 ≡ suc (suc (suc (length text))) = omega arith in
        let own_size : length all - 3 ≡ suc (length text) = omega arith in
        record {
          own = own;
          text_is = end ∙ ap (λ n. take n all ++ codes ")") end_size
              ∙ ap (λ t. t ++ own ++ codes ")") (ap₂ (λ x y. x ∷ y) (ap (λ t. get_or t 0 0) front) (ap₂ (λ x y. x ∷ y) (ap (λ t. get_or t 1 0) front) (ap (λ x. x ∷ []) dot)));
          own_is = ap (λ n. take n (c ∷ d ∷ text)) own_size ∙ ap (λ x. x ∷ own) dot;
        }

suffix-in : (text : List ℕ) → is_suffix text ≡ true → AreIn (without_parentheses text) (clones (suffix_of text))
unfolding are_in
suffix-in text h =
    let is = suffix-is text h in
    let written : List ℕ = codes " [clone ." ++ parted is.own in
    subst (λ t. AreIn (without_parentheses t) (clones (suffix_of text))) (sym is.text_is)
    (subst (λ t. AreIn (without_parentheses (codes " (." ++ is.own ++ codes ")")) (clones t)) (sym is.own_is)
    (parts-in (codes " (." ++ is.own) (codes ")") written (codes "]") (parts-in (codes " (.") is.own (codes " [clone .") (parted is.own) refl (parted-in is.own)) refl))

-- ## Names

member-in : (name : Name) (text : List ℕ) → AreIn (without_parentheses (take (member_size name (member_front name text)) text)) (member_bytes name (member_front name text) text)
unfolding member_front begins_whole are_in
member-in name text =
    let Is : ℕ → Type 0 = λ n. AreIn (without_parentheses (take (member_size name n) text)) (member_bytes name n text) in
    choose Is (starts_with nat_eq text (codes "::~") && begins_whole (drop 3 text) (name_of name)) _ _
    (λ h. behind 3 (and-left _ _ (and-right (starts_with nat_eq text (codes "::~")) _ h)))
    (λ _. choose Is (starts_with nat_eq text (codes "::") && begins_whole (drop 2 text) (name_of name)) _ _
    (λ h. behind 2 (and-left _ _ (and-right (starts_with nat_eq text (codes "::")) _ h)))
    (λ _. refl))
  where
    behind : (n : ℕ) → starts_with nat_eq (drop n text) (name_of name) ≡ true
        → AreIn (without_parentheses (take (n + length (name_of name)) text)) (take n text ++ codes "basic_" ++ name_of name)
    behind n starts =
        let own : List ℕ = name_of name in
        let size = length own in
        let is : take (n + size) text ≡ take n text ++ own =
        take-add n size text ∙ ap (λ t. take n text ++ t) (ap (take size) (front-is (drop n text) own starts) ∙ take-append_seam own (drop size (drop n text))) in
        subst (λ t. AreIn (without_parentheses t) (take n text ++ codes "basic_" ++ own)) (sym is)
        (parts-in (take n text) own (take n text ++ codes "basic_") own (in-ahead (without_parentheses (take n text)) (take n text) (codes "basic_") (same-in (take n text))) (same-in own))

written-in : (name : Name) (text : List ℕ) → starts_with nat_eq text (codes "std::nullptr_t") ≡ false → starts_with nat_eq text (codes "std::" ++ name_of name) ≡ true
    → AreIn (without_parentheses (codes "std::" ++ name_of name)) (written_of name)
unfolding name_of written_of are_in
written-in names.Istream text none starts = refl
written-in names.Iostream text none starts = refl
written-in names.Ostream text none starts = refl
written-in names.String text none starts = refl
written-in names.NullPointer text none starts = absurd (true≢false (sym starts ∙ none))

name-in : (name : Name) (text : List ℕ) → starts_with nat_eq text (codes "std::nullptr_t") ≡ false → starts_with nat_eq text (codes "std::" ++ name_of name) ≡ true
    → let piece = pieces.Named name (member_front name (drop (5 + length (name_of name)) text)) in AreIn (without_parentheses (take (size_of piece text) text)) (bytes_of piece text)
unfolding size_of bytes_of
name-in name text none starts =
    let own : List ℕ = codes "std::" ++ name_of name in
    let size = 5 + length (name_of name) in
    let behind : List ℕ = drop size text in
    let front = member_front name behind in
    let more = member_size name front in
    let size_is : size ≡ length own = omega (arith, length-append (codes "std::") (name_of name)) in
    let is : take (size + more) text ≡ own ++ take more behind =
    take-add size more text ∙ ap (λ t. t ++ take more behind) (ap (λ n. take n text) size_is ∙ ap (take (length own)) (front-is text own starts) ∙ take-append_seam own (drop (length own) text)) in
    subst (λ t. AreIn (without_parentheses t) (written_of name ++ member_bytes name front behind)) (sym is)
    (parts-in own (take more behind) (written_of name) (member_bytes name front behind) (written-in name text none starts) (member-in name behind))

-- ## A text

piece-in : (last : ℕ) (text : List ℕ) → starts_with nat_eq text (codes "std::nullptr_t") ≡ false
    → AreIn (without_parentheses (take (size_of (piece_at last text) text) text)) (bytes_of (piece_at last text) text)
unfolding size_of bytes_of
piece-in last text none =
    by-piece (λ piece. AreIn (without_parentheses (take (size_of piece text) text)) (bytes_of piece text)) last text (λ _. same-in (take (operator_size last text) text))
    (λ name. name-in name text none)
    (λ suffix. subst (λ t. AreIn (without_parentheses t) (clones (suffix_of text))) (sym (take_all (length text) text (omega arith))) (suffix-in text suffix))
    (λ _. in-more _ 32 _ (same-in (take 1 text))) (λ _. same-in (take 1 text))

bytes-by : (last skipped : ℕ) (text : List ℕ) → HasNo (codes "std::nullptr_t") text → AreIn (without_parentheses (drop skipped text)) (spelled last skipped text)
unfolding spelled are_in
bytes-by last zero [] none = refl
bytes-by last (suc skipped) [] none = refl
bytes-by last (suc skipped) (byte ∷ text) none = bytes-by last skipped text (λ k. none (suc k))
bytes-by last zero (byte ∷ text) none =
    let all : List ℕ = byte ∷ text in
    let piece : Piece = piece_at last all in
    let size = size_of piece all in
    let rest : List ℕ = spelled (last_of piece all) (size - 1) text in
    subst (λ t. AreIn (without_parentheses t) (bytes_of piece all ++ rest))
    (ap (λ t. take size all ++ t) (drop-less size byte text (sized last all (omega arith)).some) ∙ take-append-drop size all)
    (parts-in (take size all) (drop (size - 1) text) (bytes_of piece all) rest (piece-in last all (none 0)) (bytes-by (last_of piece all) (size - 1) text (λ k. none (suc k))))

pub keeps-bytes : (text : List ℕ) → KeepsBytes text
keeps-bytes text none = bytes-by 0 0 text none
