-- Where lists of bytes end.
use Rattle.std.proofs.Common.{◌≡◌, refl, ◌∙◌, ap, arith, ◌-◌, ◌≤◌, List, [], ◌∷◌, length, get_or}
use Rattle.sym_parts.specs.Spelling.{span}
use Rattle.sym_parts.specs.declared.spelling.Span.{Span}
use Rattle.cpp_spelled.specs.Spelled.{last_end, parameters_in}
use Rattle.cpp_spelled.specs.declared.outline.Reached.{Reached}

-- the end of the last of these spans is their `last_end`
last_is : (other s : Span) (ss : List Span) → (get_or (s ∷ ss) (length ss) other).to ≡ last_end s.to ss
unfolding last_end
last_is other s [] = refl
last_is other s (t ∷ ss) = last_is other t ss

-- all the parameters, by the first and the last one
pub first_to_last : (other : Span) (types : List Span) (function : List Reached) (base : Span) → 1 ≤ length types
    → span (get_or types 0 other).from (get_or types (length types - 1) other).to ≡ parameters_in types function base
unfolding parameters_in
first_to_last other [] function base some = absurd (omega (arith, some))
first_to_last other (s ∷ ss) function base some =
    let left : length (s ∷ ss) - 1 ≡ length ss = omega arith in
    ap (λ n. span s.from (get_or (s ∷ ss) n other).to) left ∙ ap (λ n. span s.from n) (last_is other s ss)
