-- How long a spelled text is.
use Rattle.gnu_texts.proofs.Basics.{◌≡◌, ◌≤◌, ◌<◌, ◌+◌, ◌*◌, ◌-◌, ◌⊎◌, inl, inr, ℕ, zero, suc, true, List, [], ◌∷◌, ◌++◌, length, take, drop, replicate, nat_eq, codes, refl, sym, ap, subst, ◌∙◌, arith, length-append, length-take, true≢false, drop-append_seam, take-append_seam, drop_all, length-replicate, pointwise, ends_with, list_all, is_letter, Piece, begins_part, clones, is_suffix, letter_bytes, parted, suffix_of, bytes_of, is_spaced, last_of, operator_size, piece_at, size_of, HasNoWords, IsBounded, IsLessThanDouble, IsNoShorter, ReachesBound, dots, spelled}
use Rattle.gnu_texts.proofs.FrontLemmas.{suffix-piece}
use Rattle.gnu_texts.proofs.PieceLemmas.{by-few, sized, words-tail}
use Rattle.gnu_texts.proofs.SpelledLemmas.{spelled-piece}

-- ## All texts

no-shorter-by : (last skipped : ℕ) (text : List ℕ) → length text ≤ skipped + length (spelled last skipped text)
unfolding spelled
no-shorter-by last skipped [] = omega arith
no-shorter-by last (suc skipped) (byte ∷ text) = omega (arith, no-shorter-by last skipped text)
no-shorter-by last zero (byte ∷ text) =
    let all : List ℕ = byte ∷ text in
    let piece : Piece = piece_at last all in
    let is = sized last all (omega arith) in
    omega (arith, is.some, is.longer, no-shorter-by (last_of piece all) (size_of piece all - 1) text, length-append (bytes_of piece all) (spelled (last_of piece all) (size_of piece all - 1) text))

pub no-shorter : (text : List ℕ) → IsNoShorter text
no-shorter text = omega (arith, no-shorter-by 0 0 text)

-- the length of what is written: at most twice the text's length, or at most thirty less than ten times that length
abbrev AreBounded : (size long : ℕ) → Type 0
AreBounded size long = (long ≤ 2 * size) ⊎ (long + 30 ≤ 10 * size)

bounded-both : (size long rest more : ℕ) → AreBounded size long → AreBounded rest more → AreBounded (size + rest) (long + more)
bounded-both size long rest more (inl a) (inl b) = inl (omega (arith, a, b))
bounded-both size long rest more (inl a) (inr b) = inr (omega (arith, a, b))
bounded-both size long rest more (inr a) (inl b) = inr (omega (arith, a, b))
bounded-both size long rest more (inr a) (inr b) = inr (omega (arith, a, b))

bounded-as : (size long size' long' : ℕ) → size ≡ size' → long ≡ long' → AreBounded size long → AreBounded size' long'
bounded-as size long size' long' e f (inl a) = inl (omega (arith, e, f, a))
bounded-as size long size' long' e f (inr a) = inr (omega (arith, e, f, a))

bounded-by : (last skipped : ℕ) (text : List ℕ) → skipped ≤ length text → AreBounded (length text - skipped) (length (spelled last skipped text))
unfolding spelled
bounded-by last skipped [] within = inl (omega arith)
bounded-by last (suc skipped) (byte ∷ text) within = bounded-as _ _ _ _ (omega arith) refl (bounded-by last skipped text (omega (arith, within)))
bounded-by last zero (byte ∷ text) within =
    let all : List ℕ = byte ∷ text in
    let piece : Piece = piece_at last all in
    let is = sized last all (omega arith) in
    let rest : List ℕ = spelled (last_of piece all) (size_of piece all - 1) text in
    bounded-as _ _ _ _ (omega (arith, is.some, is.within)) (sym (length-append (bytes_of piece all) rest))
    (bounded-both (size_of piece all) (length (bytes_of piece all)) (length text - (size_of piece all - 1)) (length rest) is.bounded
    (bounded-by (last_of piece all) (size_of piece all - 1) text (omega (arith, is.within))))

pub bounded : (text : List ℕ) → IsBounded text
bounded text = by (length text) _ (bounded-as _ _ _ _ (omega arith) refl (bounded-by 0 0 text (omega arith)))
  where
    by : (size long : ℕ) → AreBounded size long → (long ≤ 10 * size) × (4 ≤ size → long + 30 ≤ 10 * size)
    by size long (inl a) = (omega (arith, a), λ some. omega (arith, a, some))
    by size long (inr a) = (omega (arith, a), λ some. a)

-- ## Texts without names that are written otherwise, and without a suffix

few-double : (last : ℕ) (text : List ℕ) → HasNoWords text → length (bytes_of (piece_at last text) text) ≤ 2 * size_of (piece_at last text) text
unfolding bytes_of size_of
few-double last text none =
    by-few (λ piece. length (bytes_of piece text) ≤ 2 * size_of piece text) last text none (λ _. omega (arith, length-take (operator_size last text) text))
    (λ _. omega (arith, length-take 1 text)) (λ _. omega (arith, length-take 1 text))

-- the first piece of a text is no bracket with a blank before it
first-double : (text : List ℕ) → HasNoWords text → length (bytes_of (piece_at 0 text) text) < 2 * size_of (piece_at 0 text) text
unfolding bytes_of size_of is_spaced
first-double text none =
    by-few (λ piece. length (bytes_of piece text) < 2 * size_of piece text) 0 text none (λ some. omega (arith, some, length-take (operator_size 0 text) text))
    (λ h. absurd (true≢false (sym h))) (λ _. omega (arith, length-take 1 text))

double-by : (last skipped : ℕ) (text : List ℕ) → HasNoWords text → skipped ≤ length text → length (spelled last skipped text) ≤ 2 * (length text - skipped)
unfolding spelled
double-by last skipped [] none within = omega arith
double-by last (suc skipped) (byte ∷ text) none within = omega (arith, double-by last skipped text (words-tail byte text none) (omega (arith, within)))
double-by last zero (byte ∷ text) none within =
    let all : List ℕ = byte ∷ text in
    let piece : Piece = piece_at last all in
    let is = sized last all (omega arith) in
    omega (
      arith,
      is.some,
      is.within,
      few-double last all none,
      double-by (last_of piece all) (size_of piece all - 1) text (words-tail byte text none) (omega (arith, is.within)),
      length-append (bytes_of piece all) (spelled (last_of piece all) (size_of piece all - 1) text),
    )

pub double : (text : List ℕ) → IsLessThanDouble text
unfolding spelled
double [] none some = absurd (omega (arith, some))
double (byte ∷ text) none some =
    let all : List ℕ = byte ∷ text in
    let piece : Piece = piece_at 0 all in
    let is = sized 0 all (omega arith) in
    omega (
      arith,
      is.some,
      is.within,
      first-double all none,
      double-by (last_of piece all) (size_of piece all - 1) text (words-tail byte text none) (omega (arith, is.within)),
      length-append (bytes_of piece all) (spelled (last_of piece all) (size_of piece all - 1) text),
    )

-- ## Suffixes of dots

dots-parted : (count : ℕ) → length (parted (replicate count 46)) ≡ 10 * count
unfolding parted begins_part
dots-parted zero = refl
dots-parted (suc count) = omega (arith, dots-parted count, length-append (letter_bytes (46 ∷ replicate count 46)) (parted (replicate count 46)), ap length (begin count))
  where
    begin : (count : ℕ) → letter_bytes (46 ∷ replicate count 46) ≡ codes "] [clone ."
    begin zero = refl
    begin (suc count) = refl

dots-letters : (count : ℕ) → list_all is_letter (replicate count 46) ≡ true
unfolding is_letter
dots-letters zero = refl
dots-letters (suc count) = dots-letters count

dots-own : (count : ℕ) → suffix_of (dots count) ≡ replicate count 46
dots-own count =
    let own : List ℕ = replicate count 46 in
    ap (λ n. take n (own ++ codes ")")) (omega (arith, length-append own (codes ")"))) ∙ take-append_seam own (codes ")")

dots-suffix : (count : ℕ) → is_suffix (dots (suc count)) ≡ true
unfolding is_suffix
dots-suffix count =
    let own : List ℕ = replicate (suc count) 46 in
    let front : List ℕ = codes " (" ++ own in
    let ends : ends_with nat_eq (dots (suc count)) (codes ")") ≡ true =
    let here : length (dots (suc count)) - 1 ≡ length front = omega (arith, length-append front (codes ")")) in
    ap (λ n. pointwise nat_eq (codes ")") (drop n (front ++ codes ")"))) here ∙ ap (pointwise nat_eq (codes ")")) (drop-append_seam front (codes ")")) in
    rw (ends, dots-own (suc count), dots-letters (suc count)) refl

pub reached : (count : ℕ) → ReachesBound count
unfolding size_of bytes_of last_of spelled
reached zero some = absurd (omega (arith, some))
reached (suc count) some =
    let text : List ℕ = dots (suc count) in
    let own : List ℕ = replicate count 46 in
    let suffix = suffix-piece 0 text (dots-suffix count) refl refl in
    let is : spelled 0 0 text ≡ clones (suffix_of text) ++ [] =
    spelled-piece 0 text (omega arith) (subst (λ piece. 0 < size_of piece text) (sym suffix) (omega arith))
    ∙ ap (λ piece. bytes_of piece text ++ spelled (last_of piece text) 0 (drop (size_of piece text) text)) suffix
    ∙ ap (λ t. clones (suffix_of text) ++ spelled 93 0 t) (drop_all (length text) text (omega arith)) in
    omega (
      arith,
      ap length is,
      ap (λ t. length (clones t ++ [])) (dots-own (suc count)),
      length-append (clones (replicate (suc count) 46)) [],
      length-append (codes " [clone ." ++ parted own) (codes "]"),
      length-append (codes " [clone .") (parted own),
      dots-parted count,
      length-append (replicate (suc count) 46) (codes ")"),
      length-replicate {A = ℕ} (suc count) 46,
    )
