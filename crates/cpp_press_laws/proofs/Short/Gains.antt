-- Each byte that is read pays eight bytes of the pressed spelling. The candidates, and a value that isn't a candidate
-- yet, are worth what was paid for them.
use Rattle.cpp_press_laws.proofs.Basics.{◌≡◌, ℕ, ◌+◌, ◌*◌, ◌-◌, ◌≤◌, ◌⊎◌, length, List, [], ◌∷◌, ◌++◌, Bool, true, false, cond, Ok, refl, sym, subst, arith, Tree as Shape, spell, IsTree, found, unfold_tree, Kind, number_of_kind, abi, Term, lvalue_only, is_function_type, appended, with_type, with_prefix, no_items, discriminator_of, signature_or, cpp, signed_text, offset_text, name_letters, discriminator_text, components_of, is_encoding}
use Rattle.sym_shape.specs.declared.rule.Sym.TheVariants.{Kind as OfKind}
use Rattle.cpp_grammar.specs.Values.{Candidate, State, Prefix, outermost, behind, Around, prefix_tree, prefix_listed, Value, nothing_there, letter, text, signed, tree, pair, tree_of, piece_of, is_listed, qualifiers_of, ref_of, is_there, adjustment_of, by_all}
use Rattle.cpp_press_laws.proofs.Components.Parts.{has-itself}
use Rattle.cpp_press_laws.proofs.Components.Complete.{worths-named, candidates-one}
use Rattle.cpp_press_laws.proofs.Short.Size.{size, part, front_of, lettered}
use Rattle.cpp_press_laws.proofs.Short.Worth.{is_among, has-among, full, worth, worths, worth-full}

-- what the candidates are worth
abbrev pub wealth : State → ℕ
wealth s = worths [] (components_of s.candidates)

-- a tree that isn't an encoding and takes at most the bytes of a reference as a part
abbrev pub IsSmall : Term → Type 0
IsSmall t = (part t ≤ 8) × (is_encoding t ≡ false)

-- the tree of each candidate is small
unfoldable pub AllSmall : List Candidate → Type 0
AllSmall [] = Unit {0}
AllSmall (c ∷ cs) = IsSmall c.tree × AllSmall cs

abbrev pub front : Term → ℕ
front t = front_of t (size t)

-- ## What is paid for

-- The classes of values, by how they are paid for.
pub data Class : Type 0 where
  -- a name; a type; a type directly under qualifiers; a piece of a name; an encoding; a list; arguments that may come after a
  -- name; arguments that must come after it
  name : Class
  type : Class
  bare : Class
  unit : Class
  whole : Class
  items : Class
  arguments : Class
  given : Class
  -- a further piece of a name, with those before it
  further : Class
  -- the second letter of an operator and its operands
  operands : Class
  -- an optional mark, or digits; a letter; an offset; a discriminator; the rest of a function type; its rest after a mark; the
  -- second letter of an operator that begins with an l
  leaf : Class
  mark : Class
  offset : Class
  discriminator : Class
  rest : Class
  after_mark : Class
  second : Class
  -- what the ABI's grammar never reads, and a symbol
  unread : Class

unfoldable pub class_of : Kind → Class
class_of Kind.MaybeSuffix = leaf
class_of Kind.SuffixFirst = leaf
class_of Kind.SuffixMore = leaf
class_of Kind.Encoding = whole
class_of Kind.Special = whole
class_of Kind.SpecialAfterG = whole
class_of Kind.CallOffset = offset
class_of Kind.CompleteName = name
class_of Kind.NameAfterS = name
class_of Kind.Nest = name
class_of Kind.NestAfterS = name
class_of Kind.NestRest = name
class_of Kind.NestTail = name
class_of Kind.NestRestOrEnd = name
class_of Kind.NestRestAlone = name
class_of Kind.NestMoreOrEnd = name
class_of Kind.Component = further
class_of Kind.ComponentAfterC = further
class_of Kind.ConstructorAfterC = further
class_of Kind.Entity = name
class_of Kind.TypeEntity = name
class_of Kind.Unqualified = unit
class_of Kind.Anonymous = unit
class_of Kind.SourceOrLocal = unit
class_of Kind.Operator = unit
class_of Kind.OtherOperator = unit
class_of Kind.OperatorAfterL = second
class_of Kind.ComponentAfterD = second
class_of Kind.MaybeDiscriminator = discriminator
class_of Kind.DiscriminatorRest = discriminator
class_of Kind.Abbreviation = type
class_of Kind.Type = type
class_of Kind.Item = type
class_of Kind.ItemButRef = type
class_of Kind.ItemAfterD = type
class_of Kind.AfterD = type
class_of Kind.Solid = type
class_of Kind.SolidButT = type
class_of Kind.TypeAfterS = type
class_of Kind.TypeInStd = type
class_of Kind.LiteralType = type
class_of Kind.AnyArray = type
class_of Kind.ArrayRest = type
class_of Kind.Argument = type
class_of Kind.ArgumentAfterT = type
class_of Kind.ParameterAfterT = type
class_of Kind.LeveledParameter = type
class_of Kind.FirstOfLambda = type
class_of Kind.FirstAfterT = type
class_of Kind.Literal = type
class_of Kind.LiteralAfterD = type
class_of Kind.Expression = type
class_of Kind.AddressedExpression = type
class_of Kind.AddressedLiteral = type
class_of Kind.ExpressionAfterA = operands
class_of Kind.OperatorAfterN = mark
class_of Kind.OperatorAfterD = mark
class_of Kind.OperatorAfterA = mark
class_of Kind.OperatorAfterP = mark
class_of Kind.OperatorAfterC = mark
class_of Kind.OperatorAfterM = mark
class_of Kind.OperatorAfterR = mark
class_of Kind.OperatorAfterO = mark
class_of Kind.OperatorAfterE = mark
class_of Kind.OperatorAfterS = mark
class_of Kind.OperatorAfterI = mark
class_of Kind.OperatorAfterG = mark
class_of Kind.ConstructorDigit = mark
class_of Kind.Plain = bare
class_of Kind.FunctionRest = rest
class_of Kind.AfterR = after_mark
class_of Kind.AfterO = after_mark
class_of Kind.Items = items
class_of Kind.ArgumentList = items
class_of Kind.ArgumentsFirst = items
class_of Kind.PackList = items
class_of Kind.MaybeArguments = arguments
class_of Kind.Arguments = given
class_of Kind.ArgumentsAlone = arguments
class_of Kind.MaybeTags = arguments
class_of Kind.VendorArguments = arguments
class_of Kind.MaybeRestrict = leaf
class_of Kind.MaybeVolatile = leaf
class_of Kind.MaybeConst = leaf
class_of Kind.MaybeRef = leaf
class_of Kind.Integer = leaf
class_of Kind.MaybeCLinkage = leaf
class_of Kind.Bit = leaf
class_of Kind.MaybeZero = leaf
class_of Kind.SpecialMark = leaf
class_of _ = unread

unfoldable pub typed : Value → ℕ
typed v = cond (is_listed v) 0 (full (tree_of v)) + part (tree_of v)

unfoldable pub letters_in : Value → ℕ
letters_in v = lettered (name_letters (qualifiers_of v) (ref_of v))

-- the bytes that a mark, digits or a text hold
unfoldable pub held : Value → ℕ
held (letter b) = 8
held (text bytes) = 8 * length bytes
held (signed n) = length (signed_text n)
held _ = 0

-- What is kept of what was paid, for the next use of the value: a name is spelled out, or becomes a candidate and is
-- referred to; a type becomes a candidate, unless it is one already, and is referred to.
unfoldable pub need : Class → Around → Value → State → ℕ
need name around v s = size (tree_of v) + letters_in v + 9
need further around v s = size (tree_of v) + letters_in v + 9
need type around v s = typed v
need bare around v s =
    cond (is_function_type (tree_of v)) (8 + cond (is_among around.encoding (tree_of v) (components_of s.candidates)) 0 (size (tree_of v))) (part (tree_of v))
need unit around v s = size (piece_of v) + 12
need whole around v s = size (tree_of v) + front (tree_of v)
need items around v s = size (no_items v) - 1
need arguments around v s = cond (is_there v) (size (tree_of v) + 13) 0
need given around v s = size (tree_of v) + 13
need operands around v s = part (tree_of v)
need leaf around v s = held v
need mark around v s = 8
need offset around v s = length (offset_text (adjustment_of v))
need discriminator around v s = length (discriminator_text (discriminator_of v))
need rest around v s = size (tree_of v) + 7
need after_mark around v s = size (tree_of (signature_or lvalue_only v)) + 7
need second around v s = size (piece_of v) + 6
need unread around v s = 0

-- what is kept for the name so far, where a piece or arguments may follow
unfoldable pub lent : Prefix → ℕ
lent outermost = 0
lent (behind t true) = front t
lent (behind t false) = size t + 9

-- what is kept for the name so far, once it is a candidate
unfoldable pub fronted : Prefix → ℕ
fronted outermost = 0
fronted (behind t listed) = front t

unfoldable pub owed : Prefix → ℕ
owed outermost = 0
owed (behind t true) = 0
owed (behind t false) = full t

unfoldable pub loan : Class → Around → ℕ
loan name around = lent around.prefix
loan further around = fronted around.prefix
loan arguments around = owed around.prefix
loan given around = owed around.prefix
loan _ around = 0

-- how much of the loan for arguments is given back if there are no arguments
unfoldable pub returned : Class → Around → Value → ℕ
returned arguments around v = cond (is_there v) 0 (owed around.prefix)
returned _ around v = 0

-- what is paid by the letter before a kind
unfoldable pub grant : Kind → ℕ
grant Kind.ComponentAfterC = 8
grant Kind.ConstructorAfterC = 8
grant Kind.AfterR = 8
grant Kind.AfterO = 8
grant Kind.Entity = 4
grant Kind.Literal = 8
grant Kind.ArgumentAfterT = 8
grant Kind.ParameterAfterT = 8
grant Kind.LeveledParameter = 8
grant Kind.FirstAfterT = 8
grant _ = 0

-- the name so far is a candidate, or may become one
unfoldable pub SmallPrefix : Prefix → Type 0
SmallPrefix outermost = Unit {0}
SmallPrefix (behind t true) = Unit {0}
SmallPrefix (behind t false) = IsSmall t

-- for `IsBehind`, a name comes before; for `MayEnd`, this name may also end here and is no candidate
unfoldable pub IsBehind : Prefix → Type 0
IsBehind outermost = ⊥
IsBehind (behind t listed) = is_encoding t ≡ false

unfoldable pub MayEnd : Prefix → Type 0
MayEnd outermost = ⊥
MayEnd (behind t true) = ⊥
MayEnd (behind t false) = is_function_type t ≡ false

-- Where a class of values, or a kind, is read. No name comes before types and lists. A name comes before the rest of a name,
-- and is no candidate if the rest may end it.
unfoldable pub ready_for : Class → Prefix → Type 0
ready_for type prefix = lent prefix ≡ 0
ready_for bare prefix = lent prefix ≡ 0
ready_for whole prefix = lent prefix ≡ 0
ready_for items prefix = lent prefix ≡ 0
ready_for rest prefix = lent prefix ≡ 0
ready_for after_mark prefix = lent prefix ≡ 0
ready_for operands prefix = lent prefix ≡ 0
ready_for _ prefix = Unit {0}

unfoldable pub Ready : Kind → Prefix → Type 0
Ready Kind.NestTail prefix = MayEnd prefix
Ready Kind.NestRest prefix = IsBehind prefix
Ready Kind.NestRestAlone prefix = IsBehind prefix
Ready Kind.NestRestOrEnd prefix = IsBehind prefix
Ready Kind.NestMoreOrEnd prefix = IsBehind prefix
Ready Kind.Abbreviation prefix = Unit {0}
Ready Kind.Encoding prefix = Unit {0}
Ready kind prefix = ready_for (class_of kind) prefix

-- A name or a type takes at most the bytes of a reference as a part. A function type whose value is marked as listed is among
-- the candidates.
unfoldable pub IsKnown : Class → Around → Value → State → Type 0
IsKnown name around v s = IsSmall (tree_of v) × (is_function_type (tree_of v) ≡ false)
IsKnown further around v s = IsSmall (tree_of v) × (is_function_type (tree_of v) ≡ false)
IsKnown type around v s =
    (is_encoding (tree_of v) ≡ false)
    × ((is_listed v ≡ false → part (tree_of v) ≤ 8)
    × (is_listed v ≡ true → is_function_type (tree_of v) ≡ true → is_among around.encoding (tree_of v) (components_of s.candidates) ≡ true))
IsKnown arguments around v s = (v ≡ nothing_there) ⊎ (v ≡ tree (tree_of v) true)
IsKnown given around v s = v ≡ tree (tree_of v) true
IsKnown operands around v s = (second : ℕ) × (left : Term) × (right : Term) × (v ≡ pair second left right)
IsKnown _ around v s = Unit {0}

-- an absent value leaves the state as it was
unfoldable pub IsKept : Class → Value → (old new : State) → Type 0
IsKept arguments v old new = v ≡ nothing_there → new ≡ old
IsKept _ v old new = Unit {0}

-- These bytes, with what was lent and granted, pay for a value and for what became candidates.
pub record Gains (c : Class) (granted : ℕ) (around : Around) (v : Value) (old new : State) (bytes : ℕ) : Type 0 where
  pub few : wealth new + need c around v new + returned c around v ≤ wealth old + loan c around + 8 * bytes + granted
  pub known : IsKnown c around v new
  pub kept : IsKept c v old new
  pub small : AllSmall new.candidates

unfoldable pub Gained : Class → (granted : ℕ) → Around → Value → (old new : State) → (bytes : ℕ) → Type 0
Gained unread granted around v old new bytes = Unit {0}
Gained c granted around v old new bytes = Gains c granted around v old new bytes

abbrev pub KindGains : Kind → Around → Value → (old new : State) → ℕ → Type 0
KindGains kind around v old new bytes = Gained (class_of kind) (grant kind) around v old new bytes

abbrev pub ShapeGains : Shape → Type 0
ShapeGains t =
    (kind : Kind) (around : Around) (at : ℕ) (old : State) (v : Value) (new : State) → Ready kind around.prefix → SmallPrefix around.prefix
    → AllSmall old.candidates → IsTree abi (OfKind (number_of_kind kind)) t → unfold_tree cpp around at t old ≡ Ok (found (v ∷ []) new)
    → KindGains kind around v old new (length (spell t))

-- ## Candidates

pub appended-wealth : (around : Around) (t : Term) (s : State) → wealth (appended around t s) ≡ wealth s + worth (components_of s.candidates) around.encoding t
unfolding appended
appended-wealth around t s =
    worths-named s.candidates (record { tree = t; encoding = around.encoding; in_lambda = around.in_lambda; counted = by_all })

small-one : (cs : List Candidate) (c : Candidate) → AllSmall cs → IsSmall c.tree → AllSmall (cs ++ c ∷ [])
unfolding AllSmall
small-one [] c all one = (one, tt)
small-one (d ∷ cs) c all one = (all.0, small-one cs c all.1 one)

-- a later state: its candidates are worth at most `most`, and each of them is small
pub record Grown (most : ℕ) (s : State) : Type 0 where
  pub few : wealth s ≤ most
  pub small : AllSmall s.candidates

pub appended-grown : (around : Around) (t : Term) (s : State) → AllSmall s.candidates → IsSmall t → Grown (wealth s + full t) (appended around t s)
unfolding appended
appended-grown around t s all one = record {
  few = omega (arith, appended-wealth around t s, worth-full (components_of s.candidates) around.encoding t);
  small = small-one s.candidates (record { tree = t; encoding = around.encoding; in_lambda = around.in_lambda; counted = by_all }) all one;
}

pub typed-grown : (around : Around) (v : Value) (s : State) → AllSmall s.candidates → (is_listed v ≡ false → IsSmall (tree_of v))
    → Grown (wealth s + cond (is_listed v) 0 (full (tree_of v))) (with_type around v s)
unfolding with_type
typed-grown around v s all one = go (is_listed v) one
  where
    go : (b : Bool) → (b ≡ false → IsSmall (tree_of v))
        → Grown (wealth s + cond b 0 (full (tree_of v))) (elim b as (λ _. State) [ true ↦ s | false ↦ appended around (tree_of v) s ])
    go true h = record { few = omega arith; small = all }
    go false h = appended-grown around (tree_of v) s all (h refl)

pub prefix-grown : (around : Around) (s : State) → AllSmall s.candidates → SmallPrefix around.prefix
    → Grown (wealth s + owed around.prefix) (with_prefix around s)
unfolding with_prefix prefix_listed prefix_tree owed SmallPrefix
prefix-grown around s all small = go around.prefix small
  where
    go : (p : Prefix) → SmallPrefix p
        → Grown (wealth s + owed p) (elim (prefix_listed p) as (λ _. State) [ true ↦ s | false ↦ appended around (prefix_tree p) s ])
    go outermost h = record { few = omega arith; small = all }
    go (behind t true) h = record { few = omega arith; small = all }
    go (behind t false) h = appended-grown around t s all h

-- a tree that was appended is among the candidates
pub appended-among : (around : Around) (t : Term) (s : State) → is_among around.encoding t (components_of (appended around t s).candidates) ≡ true
unfolding appended
appended-among around t s =
    subst (λ cs. is_among around.encoding t cs ≡ true)
    (sym (candidates-one s.candidates (record { tree = t; encoding = around.encoding; in_lambda = around.in_lambda; counted = by_all })))
    (has-among around.encoding t (components_of s.candidates ++ record { tree = t; encoding = around.encoding } ∷ [])
    (has-itself around.encoding t (components_of s.candidates)))
