-- What a token is as a part of its rule.
use Rattle.std.specs.Prelude.{◌≡◌, ℕ, ◌+◌, ◌≤◌, List, [], ◌∷◌, Bool, true, false, Option, Some}
use Rattle.sym_core.specs.Number.{AreDigitsOf}
use Rattle.sym_core.specs.Printed.{signed_text}
use Rattle.sym_core.specs.Token.{AreNameBytes}
use Rattle.sym_core.specs.declared.NameClass.TheVariants.{Rust}
use Rattle.sym_core.specs.declared.NumberKind.TheVariants.{Base62, Hex}
use Rattle.rust_tree.specs.Nodes.{IsWithin, bytes_at}
use Rattle.rust_v0.specs.declared.part.Part.{Part}
use Rattle.rust_grammar.specs.declared.production.Production.{Production}
use Rattle.rust_grammar.specs.declared.production.Production.TheVariants as rules
use Rattle.rust_v0.specs.declared.tokens.TokenSort.{TokenSort}
use Rattle.rust_grammar.specs.Unfold.{value16, value62, an_integer_of}
use Rattle.rust_grammar.specs.Value.{Value, number, a_name}

-- the sort of a token by the production that it is a part of
abbrev pub sort_of : Option Production → TokenSort
sort_of (Some rules.PlainName) = TokenSort.PlainName
sort_of (Some rules.PunycodeName) = TokenSort.PunycodeName
sort_of (Some rules.SignedConstant) = TokenSort.SignedInteger
sort_of (Some rules.UnsignedConstant) = TokenSort.UnsignedInteger
sort_of (Some rules.CharConstant) = TokenSort.CharacterCode
sort_of _ = TokenSort.CountedNumber

-- the value of a token of the sort, by its own bytes and by the minus before it
abbrev pub value_as : TokenSort → (minus : Bool) → List ℕ → Value
value_as TokenSort.PlainName minus own = a_name (record { punycode = false; bytes = own })
value_as TokenSort.PunycodeName minus own = a_name (record { punycode = true; bytes = own })
value_as TokenSort.SignedInteger minus own = an_integer_of minus (value16 own)
value_as TokenSort.UnsignedInteger minus own = an_integer_of false (value16 own)
value_as TokenSort.CharacterCode minus own = number (value16 own)
value_as TokenSort.CountedNumber minus own = number (value62 own)

-- These are the own bytes of a token of the sort. A name in Punycode is the only part of its rule, and follows the rule's `u`
-- and at least one digit.
abbrev pub IsOwn : TokenSort → List ℕ → (parts place from : ℕ) → Type 0
IsOwn TokenSort.PlainName own parts place from = Unit {0}
IsOwn TokenSort.PunycodeName own parts place from = AreNameBytes Rust own × (parts ≡ 0) × (place + 2 ≤ from)
IsOwn TokenSort.SignedInteger own parts place from = AreDigitsOf Hex own
IsOwn TokenSort.UnsignedInteger own parts place from = AreDigitsOf Hex own
IsOwn TokenSort.CharacterCode own parts place from = AreDigitsOf Hex own
IsOwn TokenSort.CountedNumber own parts place from = AreDigitsOf Base62 own

-- The text list begins with the decimal of zero.
abbrev pub HasZero : List ℕ → Type 0
HasZero text = IsWithin (record { from = 0; to = 1 }) text × (bytes_at text (record { from = 0; to = 1 }) ≡ signed_text false 0)

-- whether the part before a token is a minus
abbrev pub minus_before : List Part → Bool
minus_before (Part.Minus ∷ []) = true
minus_before _ = false
