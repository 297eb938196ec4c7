-- Words that name a symbol.
use Rattle.std.specs.Prelude.{ℕ, List, [], ◌∷◌, drop, length, codes, Option, Some, None, ◌==◌, nat_eq, nat_le, if◌then◌else◌}
use Rattle.std.specs.List.{starts_with}
use Rattle.sym_filter.specs.declared.kinds.Lang.TheVariants.{Cpp, Rust}
use Rattle.sym_filter.specs.declared.kinds.Kind.{Kind}
use Rattle.sym_filter.specs.declared.kinds.TheConstants.{LONGEST_WORD}

-- the kind of a word by how it begins, whatever its length
abbrev pub kind_by_beginning : List ℕ → Option Kind
kind_by_beginning word =
    if starts_with nat_eq word (codes "_Z") then Some (record { lang = Cpp; skip = 0 })
    else (if starts_with nat_eq word (codes "_R") then Some (record { lang = Rust; skip = 0 })
    else (if starts_with nat_eq word (codes "__Z") then Some (record { lang = Cpp; skip = 1 })
    else (if starts_with nat_eq word (codes "__R") then Some (record { lang = Rust; skip = 1 })
    else None)))

-- the kind of a word that isn't too long and begins like a symbol
abbrev pub kind_of : List ℕ → Option Kind
kind_of word = if nat_le (length word) LONGEST_WORD then kind_by_beginning word else None

-- the symbol in a word: all of it, or all but its first byte
abbrev pub symbol_of : Kind → List ℕ → List ℕ
symbol_of kind word = drop kind.skip word

-- the underscore that a word has before its symbol
abbrev pub underscore_of : (skip : ℕ) → List ℕ
underscore_of skip = if skip == 0 then [] else 95 ∷ []
