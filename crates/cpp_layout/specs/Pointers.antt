-- Pointers to pointers, and to constant pointers.
use Rattle.std.specs.Prelude.{◌≡◌, ℕ, zero, suc, true, false, List, [], ◌++◌, replicate, codes}
use Rattle.cpp_grammar.specs.Term.{Qualifiers}
use Rattle.cpp_term.specs.Term.{Term, pointer, qualified}

-- a type under this many pointers
unfoldable pub pointers : (levels : ℕ) → Term → Term
pointers zero t = t
pointers (suc n) t = pointer (pointers n t)

abbrev pub just_const : Qualifiers
just_const = record { restrict = false; volatile = false; const = true }

-- a type under this many pointers to constant types
unfoldable pub constant_pointers : (pairs : ℕ) → Term → Term
constant_pointers zero t = t
constant_pointers (suc n) t = pointer (qualified just_const (constant_pointers n t))

-- the type is a pointer
abbrev pub IsPointer : Term → Type 0
IsPointer t = (to : Term) × (t ≡ pointer to)

-- what pointers to constant types print before a name
abbrev pub constant_stars : (pairs : ℕ) → List ℕ
constant_stars zero = []
constant_stars (suc n) = constant_stars n ++ codes " const*"

-- the text that each run's text is a slice of: stars, and then what pointers to constant types print
unfoldable pub run_text : List ℕ
run_text = replicate 512 42 ++ constant_stars 64
