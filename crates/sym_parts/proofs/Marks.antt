-- One marked text before another: their texts and their stretches follow one another, too.
use Rattle.sym_parts.proofs.Basics.{◌≡◌, ℕ, ◌+◌, List, ◌∷◌, ◌++◌, length, refl, sym, ap, ◌∙◌, arith, append_assoc, length-append, add-zero, Stretch, Marked, done, text, marked, text_of, marks_in, ◌before◌, stretches_from}

-- the text of one marked text before another: the first one's text, then the other's
pub text_of-before : (m others : Marked) → text_of (m before others) ≡ text_of m ++ text_of others
unfolding text_of ◌before◌
text_of-before done others = refl
text_of-before (text bytes rest) others = ap (λ t. bytes ++ t) (text_of-before rest others) ∙ sym (append_assoc bytes (text_of rest) (text_of others))
text_of-before (marked role ordinal inside rest) others =
    ap (λ t. text_of inside ++ t) (text_of-before rest others) ∙ sym (append_assoc (text_of inside) (text_of rest) (text_of others))

-- the place after two texts
place-after : (place : ℕ) (one other : List ℕ) → (place + length one) + length other ≡ place + length (one ++ other)
place-after place one other = omega (arith, length-append one other)

-- the stretches of one marked text before another: the first one's stretches, then the other's
pub stretches_from-before : (place : ℕ) (m others : Marked) → stretches_from place (m before others) ≡ stretches_from place m ++ stretches_from (place + length (text_of m)) others
unfolding text_of ◌before◌ stretches_from
stretches_from-before place done others = ap (λ p. stretches_from p others) (sym (add-zero place))
stretches_from-before place (text bytes rest) others =
    stretches_from-before (place + length bytes) rest others
    ∙ ap (λ p. stretches_from (place + length bytes) rest ++ stretches_from p others) (place-after place bytes (text_of rest))
stretches_from-before place (marked role ordinal inside rest) others =
    let here : Stretch = record { role = role; ordinal = ordinal; start = place; length = length (text_of inside) } in
    let behind = place + length (text_of inside) in
    ap (λ ps. here ∷ (stretches_from place inside ++ ps)) (
    stretches_from-before behind rest others ∙ ap (λ p. stretches_from behind rest ++ stretches_from p others) (place-after place (text_of inside) (text_of rest))
    )
    ∙ ap (λ ps. here ∷ ps) (sym (append_assoc (stretches_from place inside) (stretches_from behind rest) (stretches_from (place + length (text_of inside ++ text_of rest)) others)))

-- there is a stretch for each mark
pub length-stretches_from : (place : ℕ) (m : Marked) → length (stretches_from place m) ≡ marks_in m
unfolding marks_in stretches_from
length-stretches_from place done = refl
length-stretches_from place (text bytes rest) = length-stretches_from (place + length bytes) rest
length-stretches_from place (marked role ordinal inside rest) =
    omega (
      arith,
      length-append (stretches_from place inside) (stretches_from (place + length (text_of inside)) rest),
      length-stretches_from place inside,
      length-stretches_from (place + length (text_of inside)) rest,
    )
