-- What the open rules of a Rust symbol still need. No lifetime is bound, since a symbol that binds one is given up.
use Rattle.std.specs.Prelude.{◌≡◌, ◌⊎◌, ℕ, ◌+◌, ◌≤◌, List, [], ◌∷◌, Bool, true, false, Option, Some, None, Ok, length}
use Rattle.std.specs.List.{AllByRecursion}
use Rattle.sym_core.specs.declared.NumberKind.TheVariants.{Base62}
use Rattle.sym_core.specs.declared.NameClass.TheVariants.{Rust}
use Rattle.sym_core.specs.Token.{Token, bytes_of, IsName, IsNumberToken}
use Rattle.sym_core.specs.Value.{counted_value}
use Rattle.sym_shape.specs.declared.rule.Sym.TheVariants.{Kind as OfKind}
use Rattle.sym_shape.specs.Sheet.{in_ranges}
use Rattle.sym_demangle.specs.Mangled.{StandsFor}
use Rattle.sym_direct.specs.Holes as direct
use Rattle.sym_direct.specs.Holes.{Language, StandsAt}
use Rattle.rust_tree.specs.Symbol as tree
use Rattle.rust_grammar.specs.declared.production.Production.{Production}
use Rattle.rust_grammar.specs.declared.kind.TheConstants.{PATH, OTHER_PATH, TYPE, TYPES, IDENTIFIER, ARGUMENTS}
use Rattle.rust_grammar.specs.Rules.{v0_table, letters, suffix_bytes}
use Rattle.rust_grammar.specs.Mangled.{v0_mangled}
use Rattle.rust_grammar.specs.Value.{Value, State, a_path, a_type, some_types}
use Rattle.rust_grammar.specs.Unfold.{v0, at_first, as_type, arguments_part, identifier_part, greatest_u64}

-- Rust as a language for this reader. The reading of a rule depends on the symbol, since a suffix is the rest of the
-- symbol.
abbrev pub rust_language : Language Value State ℕ
rust_language = record { table = v0_table; reading = λ s. v0 s; first_context = 0; first_state = at_first }

abbrev pub Opened : Type 0
Opened = direct.Opened Value State ℕ

-- the innermost open rule gets its next values: one or none
abbrev pub ComesAll : (s : List ℕ) → List Opened → List Value → (at : ℕ) → State → Type 0
ComesAll s os vs at state = direct.Comes rust_language s os vs at state

abbrev pub Comes : (s : List ℕ) → List Opened → Value → (at : ℕ) → State → Type 0
Comes s os v at state = ComesAll s os (v ∷ []) at state

-- a kind is expected next
abbrev pub Expects : (s : List ℕ) → (kind : ℕ) → List Opened → (at : ℕ) → State → Type 0
Expects s kind os at state = direct.Expects rust_language s (OfKind kind) 0 os at state

-- ## States

-- the state before a part of a production
abbrev pub within : Production → State → State
within p state = record { ended = state.ended; inside = Some p; minus = false }

-- the state after something that no reference may name
abbrev pub behind : State → State
behind state = record { ended = state.ended; inside = None; minus = false }

-- the state after a path, a type or a constant that began at a place
abbrev pub with_ended : (place : ℕ) → Value → State → State
with_ended place v state = record { ended = record { place = place; value = v } ∷ state.ended; inside = None; minus = false }

-- ## What is expected

-- what may be expected: a path, the path of the instantiating crate, or a type
pub data Wanted : Type 0 where
  path : Wanted
  other_path : Wanted
  type : Wanted

abbrev pub kind_of : Wanted → ℕ
kind_of path = PATH
kind_of other_path = OTHER_PATH
kind_of type = TYPE

abbrev pub is_for_type : Wanted → Bool
is_for_type type = true
is_for_type _ = false

-- ## What is read

-- a number in base 62 is at the place, with this value, and `end` is the place after it
pub record IsNumberAt (s : List ℕ) (at : ℕ) (n : ℕ) (end : ℕ) : Type 0 where
  pub token : Token
  pub is_number : IsNumberToken Base62 token
  pub counts : counted_value Base62 token.own ≡ n
  pub stands : StandsAt s at (bytes_of token)
  pub ends : end ≡ at + length (bytes_of token)

-- a name is at the place, and `end` is the place after it
pub record IsNameAt (s : List ℕ) (at : ℕ) (name : List ℕ) (end : ℕ) : Type 0 where
  pub token : Token
  pub is_name : IsName Rust token
  pub own : token.own ≡ name
  pub stands : StandsAt s at (bytes_of token)
  pub ends : end ≡ at + length (bytes_of token)

-- a disambiguator with this value is at the place, or none is and the value is 0; `end` is the place after it
abbrev pub IsDisambiguatorAt : (s : List ℕ) → (at count end : ℕ) → Type 0
IsDisambiguatorAt s at count end =
    ((count ≡ 0) × (end ≡ at))
    ⊎ ((n : ℕ) × StandsAt s at (115 ∷ []) × IsNumberAt s (at + 1) n end × (count ≡ n + 1) × (count ≤ greatest_u64))

-- a number in base 62 is at the place, and is less than the greatest number of 64 bits; `end` is the place after it
abbrev pub IsSmallNumberAt : (s : List ℕ) → (at end : ℕ) → Type 0
IsSmallNumberAt s at end = (n : ℕ) × IsNumberAt s at n end × (n + 1 ≤ greatest_u64)

-- a disambiguator with any number is at the place, or none is; `end` is the place after it
abbrev pub HasDisambiguator : (s : List ℕ) → (at end : ℕ) → Type 0
HasDisambiguator s at end = (count : ℕ) × IsDisambiguatorAt s at count end

-- an identifier that isn't in Punycode
abbrev pub identifier : (count : ℕ) → (name : List ℕ) → tree.Identifier
identifier count name = record { disambiguator = count; name = record { punycode = false; bytes = name } }

-- a byte that names a namespace
unfoldable pub is_namespace : ℕ → Bool
is_namespace b = in_ranges letters b

-- an erased lifetime may be written or not
pub data Erased : Type 0 where
  unwritten : Erased
  written : Erased

abbrev pub erased_bytes : Erased → List ℕ
erased_bytes unwritten = []
erased_bytes written = 76 ∷ 95 ∷ []

-- an erased lifetime is at the place, or none is; `end` is the place after it
abbrev pub IsErasedAt : (s : List ℕ) → (at end : ℕ) → Type 0
IsErasedAt s at end = (e : Erased) × StandsAt s at (erased_bytes e) × (end ≡ at + length (erased_bytes e))

-- ## Symbols

-- a byte of a suffix
unfoldable pub is_suffix_byte : ℕ → Bool
is_suffix_byte b = in_ranges suffix_bytes b

-- a dot, and one or more bytes after it
abbrev pub IsSuffix : List ℕ → Type 0
IsSuffix [] = ⊥
IsSuffix (d ∷ []) = ⊥
IsSuffix (d ∷ b ∷ bs) = (d ≡ 46) × AllByRecursion (λ c. is_suffix_byte c ≡ true) (b ∷ bs)

-- the symbol has this path and this suffix, and any instantiating crate or none
abbrev pub IsSymbol : (s : List ℕ) → tree.Path → (suffix : List ℕ) → Type 0
IsSymbol s p suffix =
    (other : Option tree.Path) × StandsFor v0_mangled s (Ok (record { path = p; instantiating = other; suffix = suffix }))

-- The paths of a symbol are read: the symbol ends at the place, or its suffix begins there.
pub record EndsSymbol (s : List ℕ) (p : tree.Path) (at : ℕ) : Type 0 where
  pub ends : at ≡ length s → IsSymbol s p []
  pub ends_in : (suffix : List ℕ) → StandsAt s at suffix → at + length suffix ≡ length s → IsSuffix suffix → IsSymbol s p suffix

-- The path of a symbol is read, and the path of the instantiating crate may follow.
pub record OtherGoesOn (s : List ℕ) (p : tree.Path) (at : ℕ) (st : State) : Type 0 where
  pub inner : List Opened
  pub awaits : Expects s OTHER_PATH inner at (within Production.Symbol st)
  pub none : EndsSymbol s p at
  pub some : (q : tree.Path) (at : ℕ) (st : State) → Comes s inner (a_path q) at st → EndsSymbol s p at

-- ## Paths

-- The parent of a path in a namespace is read, and the name of the path is expected.
pub record NameGoesOn (s : List ℕ) (outer : List Opened) (letter place : ℕ) (p : tree.Path) (at : ℕ) (st : State) : Type 0 where
  pub inner : List Opened
  pub awaits : Expects s IDENTIFIER inner at (within Production.Nested st)
  pub onward : (v : Value) (name : tree.Identifier) (at : ℕ) (st : State) → identifier_part (v ∷ []) ≡ Ok (name, []) → Comes s inner v at st
      → Comes s outer (a_path (tree.nested letter p name)) at (with_ended place (a_path (tree.nested letter p name)) st)

-- the entry that waited for a path or a type gets this value
abbrev pub Ends : (s : List ℕ) → (outer : List Opened) → (place : ℕ) → Value → (at : ℕ) → State → Type 0
Ends s outer place v at st = Comes s outer v at (with_ended place v st)

-- the value denotes this type; the value of a path also denotes a type
abbrev pub IsType : Value → tree.Ty → Type 0
IsType v t = as_type (Some v) ≡ Some t

-- a type that the inner entry gets is the last part of the outer entry's value, which is made of the type
abbrev pub TypePasses : (s : List ℕ) → (inner outer : List Opened) → (place : ℕ) → (made : tree.Ty → Value) → Type 0
TypePasses s inner outer place made =
    (v : Value) (t : tree.Ty) (at : ℕ) (st : State) → IsType v t → Comes s inner v at st → Ends s outer place (made t) at st

-- a path that the inner entry gets is the last part of the outer entry's value, which is made of the path
abbrev pub PathPasses : (s : List ℕ) → (inner outer : List Opened) → (place : ℕ) → (made : tree.Path → Value) → Type 0
PathPasses s inner outer place made =
    (p : tree.Path) (at : ℕ) (st : State) → Comes s inner (a_path p) at st → Ends s outer place (made p) at st

-- A type is expected, as the last part of a value that is made of the type.
pub record TypeGoesOn (s : List ℕ) (outer : List Opened) (place : ℕ) (made : tree.Ty → Value) (at : ℕ) (st : State) : Type 0 where
  pub inner : List Opened
  pub production : Production
  pub awaits : Expects s TYPE inner at (within production st)
  pub passes : TypePasses s inner outer place made

-- A path is expected, as the last part of a value that is made of the path.
pub record PathGoesOn (s : List ℕ) (outer : List Opened) (place : ℕ) (made : tree.Path → Value) (at : ℕ) (st : State) : Type 0 where
  pub inner : List Opened
  pub production : Production
  pub awaits : Expects s PATH inner at (within production st)
  pub passes : PathPasses s inner outer place made

-- Arguments of a path continue after others, up to an E.
pub record ArgumentsGoOn (s : List ℕ) (outer : List Opened) (place : ℕ) (p : tree.Path) (made : tree.Arguments → tree.Arguments) (at : ℕ) (st : State)
    : Type 0 where
  pub inner : List Opened
  pub production : Production
  pub awaits : Expects s ARGUMENTS inner at (within production st)
  pub closes : (vs : List Value) (a : tree.Arguments) (at : ℕ) (st : State) → arguments_part vs ≡ Ok (a, []) → ComesAll s inner vs at st
      → StandsAt s at (69 ∷ []) → Ends s outer place (a_path (tree.generic p (made a))) (at + 1) st

-- Types of a tuple continue after others, up to an E.
pub record TypesGoOn (s : List ℕ) (outer : List Opened) (place : ℕ) (made : tree.Tys → tree.Tys) (at : ℕ) (st : State) : Type 0 where
  pub inner : List Opened
  pub production : Production
  pub awaits : Expects s TYPES inner at (within production st)
  pub closes : (ts : tree.Tys) (at : ℕ) (st : State) → Comes s inner (some_types ts) at st → Ends s outer place (a_type (tree.tuple (made ts))) at st

-- The type that implements a trait is expected, and after it the trait.
pub record ImplementingGoesOn (s : List ℕ) (outer : List Opened) (place : ℕ) (made : tree.Ty → tree.Path → Value) (at : ℕ) (st : State) : Type 0 where
  pub inner : List Opened
  pub production : Production
  pub awaits : Expects s TYPE inner at (within production st)
  pub onward : (v : Value) (t : tree.Ty) (at : ℕ) (st : State) → IsType v t → Comes s inner v at st → PathGoesOn s outer place (made t) at st

-- The path of an impl is expected, and after it the type of the impl.
pub record ImplGoesOn (s : List ℕ) (outer : List Opened) (place : ℕ) (made : tree.Path → tree.Ty → Value) (at : ℕ) (st : State) : Type 0 where
  pub inner : List Opened
  pub production : Production
  pub awaits : Expects s PATH inner at (within production st)
  pub onward : (q : tree.Path) (at : ℕ) (st : State) → Comes s inner (a_path q) at st → TypeGoesOn s outer place (made q) at st

-- The path of an impl of a trait is expected, and after it the type and the trait.
pub record TraitGoesOn (s : List ℕ) (outer : List Opened) (place : ℕ) (made : tree.Path → tree.Ty → tree.Path → Value) (at : ℕ) (st : State)
    : Type 0 where
  pub inner : List Opened
  pub production : Production
  pub awaits : Expects s PATH inner at (within production st)
  pub onward : (q : tree.Path) (at : ℕ) (st : State) → Comes s inner (a_path q) at st → ImplementingGoesOn s outer place (made q) at st
