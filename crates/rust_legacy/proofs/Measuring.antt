-- The lengths of the texts of a name's tokens, one by one.
use Rattle.rust_legacy.proofs.Basics.{◌≡◌, ◌≤◌, ◌<◌, ℕ, ◌+◌, List, ◌∷◌, length, drop, ap, sym, ◌∙◌, arith, length-append, length-drop, drop-drop, texts_of, token_of}
use Rattle.rust_legacy.proofs.Texts.{one_more, whole_text}

-- after a token is counted, the count and the text that is left still add up to the whole text
pub counted : (bytes : List ℕ) (at size text count all : ℕ) → at < length bytes
    → text ≡ length (token_of (drop at bytes)).text → size ≡ (token_of (drop at bytes)).size → 0 < size
    → count + length (whole_text (texts_of (drop at bytes))) ≡ all
    → (count + text) + length (whole_text (texts_of (drop (at + size) bytes))) ≡ all
counted bytes at size text count all some long is more whole =
    let rest = drop at bytes in
    let token = token_of rest in
    let later = texts_of (drop (at + size) bytes) in
    let next : drop token.size rest ≡ drop (at + size) bytes = ap (λ n. drop n rest) (sym is) ∙ drop-drop size at bytes in
    let same_rest : texts_of rest ≡ token.text ∷ later =
    one_more rest (omega (arith, some, length-drop at bytes)) (omega (arith, more, is)) ∙ ap (λ b. token.text ∷ texts_of b) next in
    omega (arith, whole, long, ap (λ t. length (whole_text t)) same_rest, length-append token.text (whole_text later))
