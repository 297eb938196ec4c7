-- No encoding is a prefix.
use Rattle.cpp_press_laws.proofs.Basics.{◌≡◌, ℕ, List, Option, true, false, ap, ◌∙◌, arith, false≢true, false_from_ne_true, ◌and◌, nothing, Term, symbol, Around, Component, Spelling, ways_of, no_ways, encoding_ways, is_encoding, fits_of, fits_nowhere, encoding_fits, is_open}

pub encoding-prefix : (e : Term) (n : ℕ) → is_encoding e ≡ true → (ways_of n e).as_prefix ≡ nothing
unfolding is_encoding ways_of encoding_ways no_ways
encoding-prefix (symbol e suffix) n is = absurd (false≢true is)
encoding-prefix _ n is = cc

-- an encoding writes nothing as a prefix
pub scope-first : (x : Term) (n : ℕ) (f : Spelling) (place : ℕ) (cs : List Component) → is_encoding x ≡ true
    → ((ways_of n x).as_prefix and f) place cs ≡ f place cs
scope-first x n f place cs is = ap (λ s. (s and f) place cs) (encoding-prefix x n is) ∙ ap (λ q. f q cs) (omega arith)

pub no-encoding-fits : (e : Term) (around : Around) (allowed : Option ℕ) (place : ℕ) (cs : List Component) → is_encoding e ≡ true
    → (fits_of e).as_prefix around allowed place cs → ⊥
unfolding is_encoding fits_of encoding_fits fits_nowhere
no-encoding-fits (symbol e suffix) around allowed place cs is fits = absurd (false≢true is)
no-encoding-fits _ around allowed place cs is fits = first_of (cc, assumption fits)

-- what fits as a prefix is no encoding
pub no-encoding : (x : Term) (around : Around) (allowed : Option ℕ) (place : ℕ) (cs : List Component)
    → (fits_of x).as_prefix around allowed place cs → is_encoding x ≡ false
no-encoding x around allowed place cs fits =
    false_from_ne_true (is_encoding x) (λ is. no-encoding-fits x around allowed place cs is fits)

-- an encoding has no free parameters
pub encoding-shut : (e : Term) → is_encoding e ≡ true → is_open e ≡ false
unfolding is_encoding is_open
encoding-shut (symbol e suffix) is = absurd (false≢true is)
encoding-shut _ is = cc
