-- What is expected within an array, and what the rules around it accept then.
use Rattle.std.specs.Prelude.{ℕ, List, [], ◌∷◌, Bool, true, false, codes}
use Rattle.sym_core.specs.declared.NumberKind.TheVariants.{Decimal}
use Rattle.cpp_grammar.specs.declared.kind.Kind.{Kind}
use Rattle.cpp_grammar.specs.Term.{Term, array, pointer, lvalue}
use Rattle.cpp_grammar.specs.Values as values
use Rattle.cpp_grammar.specs.Values.{State, Around, tree}
use Rattle.cpp_direct.specs.Symbol.{Symbol}
use Rattle.cpp_direct.specs.declared.open.Access.{Access}
use Rattle.cpp_direct.specs.declared.open.Access.TheVariants as accesses
use Rattle.cpp_direct.specs.Holes.{Awaits, Comes, IsNumberAt, Opened, with_candidate}

-- the size of an array is at the place, digits or none, and `end` is the place after it
abbrev pub IsSizeAt : (s : List ℕ) → (at : ℕ) → (digits : List ℕ) → (end : ℕ) → Type 0
IsSizeAt s at digits end = IsNumberAt Decimal s at digits end

-- an array, or a pointer or a reference to it
abbrev pub accessed : Access → Term → Term
accessed accesses.Plain t = t
accessed accesses.Pointer t = pointer t
accessed accesses.Lvalue t = lvalue t

-- the letters before an array's size
abbrev pub access_letters : Access → List ℕ
access_letters accesses.Plain = 65 ∷ []
access_letters accesses.Pointer = 80 ∷ 65 ∷ []
access_letters accesses.Lvalue = 82 ∷ 65 ∷ []

-- a pointer or a reference to the array is read
abbrev pub is_marked : Access → Bool
is_marked accesses.Plain = false
is_marked _ = true

-- a reference to the array is read
abbrev pub is_lvalue : Access → Bool
is_lvalue accesses.Lvalue = true
is_lvalue _ = false

-- the state once the array is a candidate, and so is the pointer or the reference to it if there is one
abbrev pub with_accessed : Access → Around → Term → State → State
with_accessed accesses.Plain around t st = with_candidate around t st
with_accessed accesses.Pointer around t st = with_candidate around (pointer t) (with_candidate around t st)
with_accessed accesses.Lvalue around t st = with_candidate around (lvalue t) (with_candidate around t st)

-- what is between the text of the elements' type and the size
abbrev pub array_opening : Access → List ℕ
array_opening accesses.Plain = codes " ["
array_opening accesses.Pointer = codes " (*)["
array_opening accesses.Lvalue = codes " (&)["

-- Expects the type of an array's elements, after the array's size.
abbrev pub ArrayOpened : (s : Symbol) (outer : List Opened) (around : Around) (access : Access) (digits : List ℕ) (at : ℕ) (st : State) → Type 0
ArrayOpened s outer around access digits at st = Awaits s Kind.Type around at st (λ inner.
    (t : Term) (at : ℕ) (st : State) → Comes s inner (tree t true) at st
    → Comes s outer (tree (accessed access (array (values.normal digits) t)) true) at (with_accessed access around (array (values.normal digits) t) st))
