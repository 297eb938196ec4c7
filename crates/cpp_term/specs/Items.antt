-- What is printed, which is a tree in a form and a context, and what must be known of it: heads of types, packs, empty
-- elements.
use Rattle.std.specs.Prelude.{ℕ, [], ◌∷◌, Bool, true, false, ◌&&◌, Option, Some, None}
use Rattle.cpp_grammar.specs.Items.{Form, Head, plain_head, funarr, lref, rref, collapsed, is_none_of}
use Rattle.cpp_term.specs.Term.{Term, parameter, builtin, lvalue, rvalue, array, bounded, function_type, qualified, expansion, pack, nil, list}
use Rattle.cpp_term.specs.Scope.{element, pack_length}

-- ## Items

-- where a tree is printed: the index into packs
pub record Context : Type 0 where
  pub index : Option ℕ

-- a tree in a form; for a list, its elements from this one on
pub record Item : Type 0 where
  pub tree : Term
  pub form : Form
  pub context : Context

-- ## Contexts and heads

abbrev pub closed : Context
closed = record { index = None }

-- a pack's element at the index, or any other tree itself
unfoldable pub indexed : Option ℕ → Term → Term
indexed (Some i) (pack elements) = element elements i
indexed index t = t

-- what a lambda's own parameter is printed as: the builtin type auto
abbrev pub auto : Term
auto = builtin (68 ∷ 97 ∷ [])

-- the argument that a parameter denotes
unfoldable pub argument : Context → Term → Term
argument context a = indexed context.index a

-- The head of a type as far as it doesn't depend on an index: it is known, it is the head of an element of a list, or it is
-- what an rvalue reference to that element collapses to.
pub data HeadClass : Type 0 where
  known : Head → HeadClass
  of_element : (elements : Term) → HeadClass
  collapsed_of_element : (elements : Term) → HeadClass

unfoldable pub collapsed_class : HeadClass → HeadClass
collapsed_class (known h) = known (collapsed h)
collapsed_class (of_element elements) = collapsed_of_element elements
collapsed_class (collapsed_of_element elements) = collapsed_of_element elements

unfoldable pub class_of : Term → HeadClass
class_of (lvalue t) = known lref
class_of (rvalue t) = collapsed_class (class_of t)
class_of (qualified q t) = class_of t
class_of (parameter k (pack elements)) = of_element elements
class_of (parameter k a) = class_of a
class_of (function_type c_linkage noexcept ref returned parameters) = known funarr
class_of (array digits t) = known funarr
class_of (bounded bound t) = known funarr
class_of _ = known plain_head

-- a pack has no head without an index
unfoldable pub plain_class : HeadClass → Head
plain_class (known h) = h
plain_class (of_element elements) = plain_head
plain_class (collapsed_of_element elements) = rref

unfoldable pub element_head : Option ℕ → Term → Head
element_head None elements = plain_head
element_head (Some i) elements = plain_class (class_of (element elements i))

unfoldable pub head_of_class : Option ℕ → HeadClass → Head
head_of_class index (known h) = h
head_of_class index (of_element elements) = element_head index elements
head_of_class index (collapsed_of_element elements) = collapsed (element_head index elements)

unfoldable pub head : Context → Term → Head
head context t = head_of_class context.index (class_of t)

unfoldable pub packs_of : Context → Term → Option ℕ
packs_of context t = pack_length t

-- an expansion over packs of length 0, or a pack whose elements are all empty
unfoldable pub is_empty : Context → Term → Bool
is_empty context (expansion pattern) = is_none_of (packs_of context pattern)
is_empty context (pack elements) = is_empty context elements
is_empty context nil = true
is_empty context (list e rest) = is_empty context e && is_empty context rest
is_empty context _ = false
