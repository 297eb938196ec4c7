-- The code's operations as operations of the table.
use Rattle.std.specs.Prelude.{ℕ, suc, ◌+◌, ◌*◌, ◌<◌, List, [], ◌∷◌, true, false, nat_eq}
use Rattle.cpp_grammar.specs.Operations as table
use Rattle.cpp_layout.specs.declared.operation_rows.Operation.{Operation}
use Rattle.cpp_layout.specs.declared.texts.TheConstants.{COUNT}
use Rattle.cpp_layout.specs.Texts.{fixed_text}

-- an operation of the code as one of the table, with these letters as its code
abbrev pub with_code : List ℕ → Operation → table.Operation
with_code code o =
    record { code = code; precedence = o.precedence; front = fixed_text o.front; left = o.left; between = fixed_text o.between; right = o.right; back = fixed_text o.back }

-- the operation's texts are numbers of fixed texts
abbrev pub HasTexts : Operation → Type 0
HasTexts o = (o.front < COUNT) × (o.between < COUNT) × (o.back < COUNT)

-- a code of two letters as one number
abbrev pub number_of : List ℕ → ℕ
number_of (first ∷ second ∷ []) = first * 256 + second
number_of _ = 65536

-- the place of the first operation with this number, or the place after the last operation
unfoldable pub place_of : ℕ → List table.Operation → ℕ
place_of number [] = 0
place_of number (o ∷ rest) = elim (nat_eq number (number_of o.code)) [ true ↦ 0 | false ↦ suc (place_of number rest) ]
