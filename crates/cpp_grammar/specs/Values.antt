-- What the parts of a C++ symbol denote while it is unfolded, and what is known around them.
use Rattle.std.specs.Prelude.{ℕ, zero, suc, ◌+◌, List, [], ◌∷◌, Bool, true, false, cond, not, ◌&&◌, nat_eq, Option}
use Rattle.sym_core.specs.declared.NumberKind.TheVariants.{Decimal}
use Rattle.sym_core.specs.Value.{counted_value}
use Rattle.cpp_grammar.specs.Term.{Qualifiers, RefQualifier, any_value, lvalue_only, rvalue_only, explicit_object, Signed, Adjustment, non_virtual, Term, destructor, absent}

-- Which compilers count a candidate: all, those since GCC 13 and Clang 13, GCC alone, Clang alone, or some that the reading
-- doesn't know.
pub data Counted : Type 0 where
  by_all : Counted
  by_newer : Counted
  by_gcc : Counted
  by_clang : Counted
  by_some : Counted

-- a tree that a substitution may name; where the encoding that it was made in begins; whether it was made in a lambda's signature
-- of that encoding, or in the declaration of an argument; and which compilers count it
pub record Candidate : Type 0 where
  pub tree : Term
  pub encoding : ℕ
  pub in_lambda : Bool
  pub counted : Counted

-- The lists of candidates of the compilers that may have made the symbol: the longer one has the candidates that some compiler
-- counts, and the shorter one those that all compilers count.
pub data Lists : Type 0 where
  both_lists : Lists
  longer_list : Lists
  shorter_list : Lists
  no_list : Lists

-- the place of the last S with something known about what it names: the S begins a nested name, is a type under qualifiers, or is
-- a type of a lambda's function, with this head
pub data Expected : Type 0 where
  anything : Expected
  prefix_at : (place : ℕ) → Expected
  qualified_at : (place : ℕ) → Expected
  item_at : (place head : ℕ) → Expected

-- The heads of the next four types of the encoding that begins at this place, and whether the encoding's name continues after
-- the lambda that has these types. A head is the number of a tree's form, and 0 if the form is unknown.
pub record Awaited : Type 0 where
  pub encoding : ℕ
  pub is_called : Bool
  pub first : ℕ
  pub second : ℕ
  pub third : ℕ
  pub fourth : ℕ

abbrev pub nothing_awaited : Awaited
nothing_awaited = record { encoding = 0; is_called = false; first = 0; second = 0; third = 0; fourth = 0 }

-- which lists remain, what is expected, and what is awaited
pub record Counting : Type 0 where
  pub lists : Lists
  pub expected : Expected
  pub awaited : Awaited

abbrev pub nothing_counted : Counting
nothing_counted = record { lists = both_lists; expected = anything; awaited = nothing_awaited }

-- The state that is threaded through the bytes: the candidates so far, the length of the packs that the innermost expansion
-- has named so far, and how the candidates are counted where compilers differ.
pub record State : Type 0 where
  pub candidates : List Candidate
  pub packs : Option ℕ
  pub counting : Counting

-- the name so far, and whether it is a candidate already or never becomes one
pub data Prefix : Type 0 where
  outermost : Prefix
  behind : Term → (listed : Bool) → Prefix

unfoldable pub prefix_tree : Prefix → Term
prefix_tree outermost = absent
prefix_tree (behind t listed) = t

unfoldable pub prefix_listed : Prefix → Bool
prefix_listed outermost = true
prefix_listed (behind t listed) = listed

-- Whether a part is shown. Nothing in a constraint is shown or looked up, nor is an encoding that a literal in a
-- constraint denotes.
pub data Showing : Type 0 where
  shown : Showing
  in_constraint : Showing
  at_literal : Showing

unfoldable pub is_in_constraint : Showing → Bool
is_in_constraint in_constraint = true
is_in_constraint _ = false

unfoldable pub is_at_literal : Showing → Bool
is_at_literal at_literal = true
is_at_literal _ = false

-- What surrounds a part: the arguments that parameters name there; the place where the innermost encoding begins; whether the
-- part is in a lambda's signature of that encoding, in the declaration of an argument or in a constraint; whether it is under an
-- expansion; the name so far; and whether the part is shown.
pub record Around : Type 0 where
  pub scope : Option Term
  pub encoding : ℕ
  pub in_lambda : Bool
  pub in_expansion : Bool
  pub prefix : Prefix
  pub showing : Showing

-- what a part denotes
pub data Value : Type 0 where
  nothing_there : Value
  letter : ℕ → Value
  text : List ℕ → Value
  signed : Signed → Value
  adjusted : Adjustment → Value
  -- a tree, and whether it is a candidate already or never becomes one
  tree : Term → (listed : Bool) → Value
  -- a piece of a name, before a name is made of it
  piece : Term → Value
  -- the name of an encoding, with the qualifiers that belong to the encoding
  named : Term → Qualifiers → RefQualifier → Value
  -- A letter and two trees; the second tree may be absent. The trees are the operands of an operator with this second
  -- letter, or arguments with the name before them: the name of an inherited constructor's base class, or of a concept.
  pair : (second : ℕ) → (left right : Term) → Value
  -- the parameters of a function type, and its mark
  signature : Term → RefQualifier → Value

-- ## The parts of a value

abbrev pub unqualified : Qualifiers
unqualified = record { restrict = false; volatile = false; const = false }

unfoldable pub tree_of : Value → Term
tree_of (tree t listed) = t
tree_of (named t qualifiers ref) = t
tree_of (signature t ref) = t
tree_of (pair second left right) = left
tree_of _ = absent

-- the piece of a name; a lone digit is that of a destructor
unfoldable pub piece_of : Value → Term
piece_of (piece p) = p
piece_of (letter digit) = destructor digit
piece_of _ = absent

unfoldable pub is_listed : Value → Bool
is_listed (tree t listed) = listed
is_listed _ = false

unfoldable pub qualifiers_of : Value → Qualifiers
qualifiers_of (named t qualifiers ref) = qualifiers
qualifiers_of _ = unqualified

unfoldable pub ref_of : Value → RefQualifier
ref_of (named t qualifiers ref) = ref
ref_of (signature t ref) = ref
ref_of _ = any_value

unfoldable pub letter_of : Value → ℕ
letter_of (letter byte) = byte
letter_of (pair second left right) = second
letter_of _ = 0

unfoldable pub is_there : Value → Bool
is_there nothing_there = false
is_there _ = true

-- the mark R, O or H, or none
unfoldable pub mark_of : Value → RefQualifier
mark_of (letter byte) = cond (nat_eq byte 82) lvalue_only (cond (nat_eq byte 72) explicit_object rvalue_only)
mark_of _ = any_value

unfoldable pub text_of : Value → List ℕ
text_of (text bytes) = bytes
text_of _ = []

unfoldable pub signed_of : Value → Signed
signed_of (signed n) = n
signed_of _ = record { negative = false; digits = [] }

unfoldable pub adjustment_of : Value → Adjustment
adjustment_of (adjusted a) = a
adjustment_of _ = non_virtual (record { negative = false; digits = [] })

-- ## Numbers

-- digits without leading zeros: 0 for zero, and no digits for no digits
unfoldable pub normal : List ℕ → List ℕ
normal [] = []
normal (d ∷ []) = d ∷ []
normal (d ∷ e ∷ ds) = elim (nat_eq d 48) [ true ↦ normal (e ∷ ds) | false ↦ d ∷ e ∷ ds ]

unfoldable pub is_zero : List ℕ → Bool
is_zero (d ∷ []) = nat_eq d 48
is_zero _ = false

unfoldable pub signed_digits : Bool → List ℕ → Signed
signed_digits negative bytes = record { negative = negative && not (is_zero (normal bytes)); digits = normal bytes }

-- the number of a lambda or an unnamed type: no digits is 1, and digits with value v are v + 2
unfoldable pub local_number : List ℕ → ℕ
local_number digits = counted_value Decimal digits + 1

-- ## The values of a production's parts

unfoldable pub part : List Value → ℕ → Value
part [] k = nothing_there
part (v ∷ vs) zero = v
part (v ∷ vs) (suc k) = part vs k
