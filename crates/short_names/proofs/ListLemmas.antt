-- Elements of lists: their text, and where they begin.
use Rattle.short_names.proofs.Basics.{◌≡◌, ◌+◌, refl, sym, ap, ◌∙◌, ℕ, arith, List, [], ◌∷◌, ◌++◌, length, append_assoc, append-nil, length-append, codes, joined, starts_of, ended}

pub ended-push : (elements : List (List ℕ)) (last : List ℕ) → ended (elements ++ last ∷ []) ≡ ended elements ++ last ++ codes ", "
unfolding ended
ended-push [] last = append-nil _
ended-push (element ∷ elements) last =
    ap (λ t. element ++ codes ", " ++ t) (ended-push elements last ∙ append_assoc (ended elements) last (codes ", "))
    ∙ sym (append_assoc (element ++ codes ", ") (ended elements) (last ++ codes ", ")) ∙ sym (append_assoc (element ++ codes ", " ++ ended elements) last (codes ", "))

pub joined-push : (elements : List (List ℕ)) (last : List ℕ) → joined (elements ++ last ∷ []) ≡ ended elements ++ last
unfolding ended joined
joined-push [] last = refl
joined-push (element ∷ []) last = ap (λ t. t ++ last) (sym (append-nil (element ++ codes ", ")))
joined-push (element ∷ next ∷ elements) last =
    ap (λ t. element ++ codes ", " ++ t) (joined-push (next ∷ elements) last) ∙ sym (append_assoc (element ++ codes ", ") (ended (next ∷ elements)) last)

pub length-ended : (element : List ℕ) (elements : List (List ℕ)) → length (ended (element ∷ elements)) ≡ length element + 2 + length (ended elements)
unfolding ended
length-ended element elements = length-append (element ++ codes ", ") (ended elements) ∙ ap (λ n. n + length (ended elements)) (length-append element (codes ", "))

pub starts-push : (base : ℕ) (elements : List (List ℕ)) (last : List ℕ) (next : ℕ) → next ≡ base + length (ended elements) + length last + 2
    → starts_of base (elements ++ [] ∷ []) ++ next ∷ [] ≡ starts_of base ((elements ++ last ∷ []) ++ [] ∷ [])
unfolding ended starts_of
starts-push base [] last next e = ap (λ n. base ∷ n ∷ []) (omega (arith, e))
starts-push base (element ∷ elements) last next e =
    ap (λ t. base ∷ t) (starts-push (base + length element + 2) elements last next (omega (arith, e, length-ended element elements)))

-- the start of the current element doesn't depend on the element's text
pub starts-same : (base : ℕ) (elements : List (List ℕ)) (last : List ℕ) → starts_of base (elements ++ [] ∷ []) ≡ starts_of base (elements ++ last ∷ [])
unfolding starts_of
starts-same base [] last = refl
starts-same base (element ∷ elements) last = ap (λ t. base ∷ t) (starts-same (base + length element + 2) elements last)
