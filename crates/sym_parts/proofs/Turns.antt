-- The stretches that the marks give are those of the marked text.
use Rattle.sym_parts.proofs.Basics.{◌≡◌, ℕ, ◌+◌, List, [], ◌∷◌, ◌++◌, length, refl, sym, ap, ◌∙◌, arith, append_assoc, length-append, Stretch, Marked, done, text, marked, text_of, ◌before◌, stretches_from, Mark, skip, begin, marks_of, stretches_at, skipped}
use Rattle.std.proofs.Math.Nat.{add-zero}

-- the marks of one text before another: the first one's marks, then the other's
pub marks_of-before : (m others : Marked) → marks_of (m before others) ≡ marks_of m ++ marks_of others
unfolding marks_of ◌before◌
marks_of-before done others = refl
marks_of-before (text bytes rest) others = ap (λ ms. skip (length bytes) ∷ ms) (marks_of-before rest others)
marks_of-before (marked role ordinal inside rest) others =
    ap (λ ms. begin role ordinal (length (text_of inside)) ∷ (marks_of inside ++ ms)) (marks_of-before rest others)
    ∙ ap (λ ms. begin role ordinal (length (text_of inside)) ∷ ms) (sym (append_assoc (marks_of inside) (marks_of rest) (marks_of others)))

-- the bytes that two lists of marks advance by: the first list's, and then the second's
pub skipped-append : (first second : List Mark) → skipped (first ++ second) ≡ skipped first + skipped second
unfolding skipped
skipped-append [] second = omega arith
skipped-append (skip n ∷ rest) second = omega (arith, skipped-append rest second)
skipped-append (begin role ordinal n ∷ rest) second = skipped-append rest second

-- the stretches that two lists of marks give: the first list's, and then the second's
pub stretches_at-append : (place : ℕ) (first second : List Mark) → stretches_at place (first ++ second) ≡ stretches_at place first ++ stretches_at (place + skipped first) second
unfolding stretches_at skipped
stretches_at-append place [] second = ap (λ p. stretches_at p second) (sym (add-zero place))
stretches_at-append place (skip n ∷ rest) second =
    let same : (place + n) + skipped rest ≡ place + (n + skipped rest) = omega arith in
    stretches_at-append (place + n) rest second ∙ ap (λ p. stretches_at (place + n) rest ++ stretches_at p second) same
stretches_at-append place (begin role ordinal n ∷ rest) second =
    let here : Stretch = record { role = role; ordinal = ordinal; start = place; length = n } in
    ap (λ ps. here ∷ ps) (stretches_at-append place rest second)

-- the marks of a text advance by all its bytes
pub skipped-marks_of : (m : Marked) → skipped (marks_of m) ≡ length (text_of m)
unfolding skipped marks_of text_of
skipped-marks_of done = refl
skipped-marks_of (text bytes rest) = omega (arith, skipped-marks_of rest, length-append bytes (text_of rest))
skipped-marks_of (marked role ordinal inside rest) =
    omega (
      arith,
      skipped-append (marks_of inside) (marks_of rest),
      skipped-marks_of inside,
      skipped-marks_of rest,
      length-append (text_of inside) (text_of rest),
    )

-- the marks of a text give its stretches
pub stretches_at-marks_of : (place : ℕ) (m : Marked) → stretches_at place (marks_of m) ≡ stretches_from place m
unfolding stretches_at marks_of stretches_from
stretches_at-marks_of place done = refl
stretches_at-marks_of place (text bytes rest) = stretches_at-marks_of (place + length bytes) rest
stretches_at-marks_of place (marked role ordinal inside rest) =
    let here : Stretch = record { role = role; ordinal = ordinal; start = place; length = length (text_of inside) } in
    ap (λ ps. here ∷ ps) (
    stretches_at-append place (marks_of inside) (marks_of rest)
    ∙ ap (λ n. stretches_at place (marks_of inside) ++ stretches_at (place + n) (marks_of rest)) (skipped-marks_of inside)
    ∙ ap (λ ps. ps ++ stretches_at (place + length (text_of inside)) (marks_of rest)) (stretches_at-marks_of place inside)
    ∙ ap (λ ps. stretches_from place inside ++ ps) (stretches_at-marks_of (place + length (text_of inside)) rest)
    )
