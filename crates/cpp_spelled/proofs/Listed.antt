-- The sort that is listed for each production, by the production's number.
use Rattle.std.proofs.Common.{◌≡◌, refl, ℕ, zero, suc, List, [], ◌∷◌, map, get_or, slice_get, Some, None}
use Rattle.cpp_grammar.specs.Grammar.{productions}
use Rattle.cpp_grammar.specs.declared.production.Production.{Production}
use Rattle.cpp_spelled.specs.Sorts.{sort_of, sort_at}
use Rattle.cpp_spelled.specs.declared.sort.Sort.TheVariants as sort

pub sort_got : (k : ℕ) → get_or (map sort_of productions) k sort.Closed ≡ sort_at k
unfolding sort_at
sort_got k = go productions k
  where
    go : (ps : List Production) (k : ℕ) → get_or (map sort_of ps) k sort.Closed ≡ elim (slice_get ps k) [ Some p ↦ sort_of p | None ↦ sort.Closed ]
    go [] k = refl
    go (p ∷ ps) zero = refl
    go (p ∷ ps) (suc k) = go ps k
