-- The rules of a grammar as code lists them: a row of letters for each kind, and the symbols of all rules in one list.
use Rattle.std.specs.Prelude.{◌≡◌, ℕ, zero, suc, ◌+◌, ◌-◌, ◌<◌, nat_lt, nat_eq, List, [], ◌∷◌, length, drop, Option, Some, None, cond}
use Rattle.std.specs.List.{slice_get}
use Rattle.sym_shape.specs.declared.listing.TheConstants.{FIRST, BLANK}
use Rattle.sym_shape.specs.declared.rule.Sym.{Sym}
use Rattle.sym_shape.specs.declared.rule.Sym.TheVariants.{Kind, Name, Number, Byte}

-- `listed` gives the symbols from each place on, to the end of their rule: this symbol is at the place, and the others after it.
pub record StandsAt (listed : ℕ → List Sym) (place : ℕ) (x : Sym) : Type 0 where
  pub left : listed place ≡ x ∷ listed (place + 1)
  pub room : place < 65535

-- the symbols up to a `Byte 0`, which ends a rule
abbrev pub up_to_end : List Sym → List Sym
up_to_end [] = []
up_to_end (Byte zero ∷ xs) = []
up_to_end (Byte (suc b) ∷ xs) = Byte (suc b) ∷ up_to_end xs
up_to_end (Kind k ∷ xs) = Kind k ∷ up_to_end xs
up_to_end (Name ∷ xs) = Name ∷ up_to_end xs
up_to_end (Number kind ∷ xs) = Number kind ∷ up_to_end xs

-- the symbols of a rule from a place of the list on
abbrev pub listed_in : List Sym → ℕ → List Sym
listed_in symbols place = up_to_end (drop place symbols)

-- for each symbol of a list, how many symbols of its rule follow it
abbrev pub counts_after : List Sym → List ℕ
counts_after [] = []
counts_after (x ∷ xs) = length (up_to_end xs) ∷ counts_after xs

-- the letter at a place of a row, unless it is a blank
unfoldable pub unless_blank : Option ℕ → Option ℕ
unless_blank None = None
unless_blank (Some letter) = cond (nat_eq letter BLANK) None (Some letter)

-- the letter that a row has for a byte: a row begins at `$`
unfoldable pub letter_below : List ℕ → ℕ → Option ℕ
letter_below row byte = cond (nat_lt byte FIRST) None (unless_blank (slice_get row (byte - FIRST)))
