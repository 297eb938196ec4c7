-- What is printed: a tree in a form and a context, and what must be known of it: heads of types, packs, empty elements.
use Rattle.std.specs.Prelude.{ℕ, [], ◌∷◌, Bool, true, false, ◌&&◌, nat_eq, Option, Some, None}
use Rattle.cpp_grammar.specs.Term.{Term, declaring, parameter, builtin, lvalue, rvalue, array, bounded, function_type, qualified, expansion, pack, nil, list, absent}
use Rattle.cpp_grammar.specs.Scope.{element, pack_length}

-- ## Items

-- Left and right are what precedes and follows a declared name; low is like left, for a reference under an lvalue reference; base
-- is the name of a constructor's class; bare is an encoding without its return type. First and more are a list's elements; expand
-- is an expansion's elements from a number on, and declared is the declarations of a lambda's parameters from a number on.
pub data Form : Type 0 where
  root : Form
  full : Form
  bare : Form
  left : Form
  right : Form
  low : Form
  base : Form
  piece : Form
  first : Form
  more : Form
  expand : ℕ → Form
  declared : ℕ → Form

-- the signature of a lambda with parameters of its own, around a tree: none, one that declares no parameters, or one with these
-- declarations before its types
pub data Signature : Type 0 where
  in_none : Signature
  undeclared : Signature
  declared_in : (heads parameters : Term) → Signature

-- where a tree is printed: the arguments that its parameters name, the index into their packs, and the signature around the tree
-- (that of a lambda with parameters of its own)
pub record Context : Type 0 where
  pub scope : Option Term
  pub index : Option ℕ
  pub in_signature : Signature

-- a tree in a form; for a list, its elements from this one on
pub record Item : Type 0 where
  pub tree : Term
  pub form : Form
  pub context : Context

-- ## Contexts and heads

abbrev pub closed : Context
closed = record { scope = None; index = None; in_signature = in_none }

-- the signature of a lambda that has parameters of its own
unfoldable pub signature_of : Term → Signature
signature_of (declaring heads parameters) = declared_in heads parameters
signature_of parameters = undeclared

-- the context inside this signature
abbrev pub signature_in : Context → Term → Context
signature_in context parameters = record { scope = None; index = context.index; in_signature = signature_of parameters }

-- a pack's element at the index, or any other tree itself
unfoldable pub indexed : Option ℕ → Term → Term
indexed (Some i) (pack elements) = element elements i
indexed index t = t

-- what a lambda's own parameter is printed as: the builtin type auto
abbrev pub auto : Term
auto = builtin (68 ∷ 97 ∷ [])

-- what each of a lambda's own parameters denotes: the signature that declares them, if one does
unfoldable pub own_argument : Signature → Term
own_argument in_none = absent
own_argument undeclared = auto
own_argument (declared_in heads parameters) = declaring heads parameters

-- the argument that a parameter denotes; in a symbol's tree each parameter has one
unfoldable pub argument : Context → ℕ → Term
argument context k = elim context.scope [
  | None ↦ own_argument context.in_signature
  | Some arguments ↦ indexed context.index (element arguments k)
]

pub data Head : Type 0 where
  plain_head : Head
  funarr : Head
  lref : Head
  rref : Head

unfoldable pub collapsed : Head → Head
collapsed lref = lref
collapsed _ = rref

-- the head of a type, given the heads of the arguments that its parameters denote
unfoldable pub head_with : (ℕ → Head) → Term → Head
head_with h (lvalue t) = lref
head_with h (rvalue t) = collapsed (head_with h t)
head_with h (qualified q t) = head_with h t
head_with h (parameter k) = h k
head_with h (function_type c_linkage noexcept ref returned parameters) = funarr
head_with h (array digits t) = funarr
head_with h (bounded bound t) = funarr
head_with h _ = plain_head

-- the head of a type in which no parameter is free
unfoldable pub head_closed : Term → Head
head_closed t = head_with (λ k. plain_head) t

unfoldable pub head : Context → Term → Head
head context t = head_with (λ k. head_closed (argument context k)) t

unfoldable pub is_reference : Head → Bool
is_reference lref = true
is_reference rref = true
is_reference _ = false

unfoldable pub is_funarr : Head → Bool
is_funarr funarr = true
is_funarr _ = false

unfoldable pub packs_of : Context → Term → Option ℕ
packs_of context t = elim context.scope [ None ↦ None | Some arguments ↦ pack_length arguments t ]

unfoldable pub is_none_of : Option ℕ → Bool
is_none_of None = false
is_none_of (Some m) = nat_eq m 0

-- an expansion over packs of length 0, or a pack whose elements are all empty
unfoldable pub is_empty : Context → Term → Bool
is_empty context (expansion pattern) = is_none_of (packs_of context pattern)
is_empty context (pack elements) = is_empty context elements
is_empty context nil = true
is_empty context (list e rest) = is_empty context e && is_empty context rest
is_empty context _ = false
