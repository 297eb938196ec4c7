-- Suffixes that are written byte after byte.
use Rattle.gnu_texts.proofs.Basics.{◌≡◌, ◌≤◌, ◌<◌, ◌+◌, ℕ, List, ◌∷◌, ◌++◌, length, drop, get_or, sym, ap, ◌∙◌, append_assoc, refl, drop_more, drop_all, append-nil, letter_bytes, parted}

pub letter-more : (text : List ℕ) (at : ℕ) (old so_far new : List ℕ) → at < length text → so_far ++ parted (drop at text) ≡ old
    → new ≡ so_far ++ letter_bytes (drop at text) → new ++ parted (drop (at + 1) text) ≡ old
unfolding parted
letter-more text at old so_far new within is new_is =
    let here = drop_more text at 0 within in
    ap (λ t. t ++ parted (drop (at + 1) text)) (new_is ∙ ap (λ t. so_far ++ letter_bytes t) here)
    ∙ append_assoc so_far (letter_bytes (get_or text at 0 ∷ drop (at + 1) text)) (parted (drop (at + 1) text))
    ∙ ap (λ t. so_far ++ t) (step (get_or text at 0) (drop (at + 1) text))
    ∙ ap (λ t. so_far ++ parted t) (sym here)
    ∙ is
  where
    step : (byte : ℕ) (rest : List ℕ) → letter_bytes (byte ∷ rest) ++ parted rest ≡ parted (byte ∷ rest)
    step byte rest = refl

pub letters-end : (text : List ℕ) (at : ℕ) (so_far old : List ℕ) → length text ≤ at → so_far ++ parted (drop at text) ≡ old → so_far ≡ old
unfolding parted
letters-end text at so_far old end is = sym (append-nil so_far) ∙ ap (λ t. so_far ++ parted t) (sym (drop_all at text end)) ∙ is
