-- Texts that are spelled piece after piece.
use Rattle.gnu_texts.proofs.Basics.{◌≡◌, ◌≤◌, ◌<◌, ◌+◌, ◌-◌, ℕ, zero, suc, List, [], ◌∷◌, ◌++◌, length, drop, refl, sym, ap, ap₂, ◌∙◌, arith, append_assoc, length-drop, drop-drop, drop_all, append-nil, piece_at, size_of, bytes_of, last_of, spelled}

-- bytes that are passed over spell nothing
pub spelled-skipped : (last k : ℕ) (text : List ℕ) → spelled last k text ≡ spelled last 0 (drop k text)
unfolding spelled
spelled-skipped last zero text = refl
spelled-skipped last (suc k) [] = refl
spelled-skipped last (suc k) (byte ∷ text) = spelled-skipped last k text

-- what follows a piece
pub drop-less : (n byte : ℕ) (text : List ℕ) → 0 < n → drop (n - 1) text ≡ drop n (byte ∷ text)
drop-less zero byte text h = absurd (omega (arith, h))
drop-less (suc n) byte text h = ap (λ k. drop k text) (omega arith)

-- one piece
pub spelled-piece : (last : ℕ) (text : List ℕ) → 0 < length text → 0 < size_of (piece_at last text) text
    → spelled last 0 text ≡ bytes_of (piece_at last text) text ++ spelled (last_of (piece_at last text) text) 0 (drop (size_of (piece_at last text) text) text)
unfolding spelled
spelled-piece last [] some more = absurd (omega (arith, some))
spelled-piece last (byte ∷ text) some more =
    let piece = piece_at last (byte ∷ text) in
    ap (λ t. bytes_of piece (byte ∷ text) ++ t)
    (spelled-skipped (last_of piece (byte ∷ text)) (size_of piece (byte ∷ text) - 1) text
    ∙ ap (λ t. spelled (last_of piece (byte ∷ text)) 0 t) (drop-less (size_of piece (byte ∷ text)) byte text more))

-- after one more piece, what is written and the spelling of the rest still make the whole text
pub piece-more : (text : List ℕ) (at last : ℕ) (old so_far new : List ℕ) (size next : ℕ) → at < length text
    → so_far ++ spelled last 0 (drop at text) ≡ old
    → 0 < size → size ≡ size_of (piece_at last (drop at text)) (drop at text) → next ≡ last_of (piece_at last (drop at text)) (drop at text)
    → new ≡ so_far ++ bytes_of (piece_at last (drop at text)) (drop at text)
    → new ++ spelled next 0 (drop (at + size) text) ≡ old
piece-more text at last old so_far new size next within is some size_is next_is new_is =
    let rest = drop at text in
    let bytes = bytes_of (piece_at last rest) rest in
    let one = spelled-piece last rest (omega (arith, within, length-drop at text)) (omega (arith, some, size_is)) in
    let here : drop (at + size) text ≡ drop (size_of (piece_at last rest) rest) rest = sym (drop-drop size at text) ∙ ap (λ k. drop k rest) size_is in
    ap₂ (λ a b. a ++ b) new_is (ap₂ (λ a b. spelled a 0 b) next_is here)
    ∙ append_assoc so_far bytes _
    ∙ ap (λ t. so_far ++ t) (sym one)
    ∙ is

pub spelled-end : (text : List ℕ) (at last : ℕ) (so_far old : List ℕ) → length text ≤ at → so_far ++ spelled last 0 (drop at text) ≡ old → so_far ≡ old
unfolding spelled
spelled-end text at last so_far old end is = sym (append-nil so_far) ∙ ap (λ t. so_far ++ spelled last 0 t) (sym (drop_all at text end)) ∙ is
