-- The bytes at which a reader branches.
use Rattle.std.specs.Prelude.{ℕ, List, ◌∷◌, ◌+◌, [], Bool, true, false, ◌||◌, ◌&&◌, nat_eq, nat_lt, cond}
use Rattle.sym_core.specs.Number.{is_decimal_digit}
use Rattle.cpp_grammar.specs.Grammar.{among}
use Rattle.cpp_direct.specs.Letters.{builtin_letters, builtin_letters_with_d, abbreviation_letters}

-- the letters of the builtin types, except for those after a D
unfoldable pub is_builtin : ℕ → Bool
is_builtin byte = among builtin_letters byte

-- the letters of the builtin types after a D
unfoldable pub is_builtin_with_d : ℕ → Bool
is_builtin_with_d byte = among builtin_letters_with_d byte

-- the letters after an S that denote a class or a class template of std
unfoldable pub is_abbreviated : ℕ → Bool
is_abbreviated byte = among abbreviation_letters byte

-- no run of digits has twenty; `run` is the number of digits just before the list
unfoldable pub short_numbers : (run : ℕ) → List ℕ → Bool
short_numbers run [] = true
short_numbers run (b ∷ bs) = elim (is_decimal_digit b) [ true ↦ nat_lt run 19 && short_numbers (run + 1) bs | false ↦ short_numbers 0 bs ]

-- a symbol that names a local entity has a Z after its _Z, or GVZ if it names the entity's guard variable
unfoldable pub is_local : List ℕ → Bool
is_local (a ∷ b ∷ c ∷ d ∷ e ∷ rest) = nat_eq c 90 || ((nat_eq c 71 && nat_eq d 86) && nat_eq e 90)
is_local (a ∷ b ∷ c ∷ rest) = nat_eq c 90
is_local _ = false

-- a symbol that names a guard variable has GV after its _Z
unfoldable pub is_guard : List ℕ → Bool
is_guard (a ∷ b ∷ c ∷ d ∷ rest) = nat_eq c 71 && nat_eq d 86
is_guard _ = false

-- a symbol has GV after its _Z, and then the name of an object that is no local entity
abbrev pub is_object : List ℕ → Bool
is_object s = cond (is_local s) false (is_guard s)
