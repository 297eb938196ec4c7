-- Which parts the text of a C++ symbol has: the text with marks, by the symbol's tree and by what its items print, part by part.
use Rattle.std.specs.Prelude.{ℕ, ◌+◌, ◌-◌, List, [], ◌∷◌, length, take, drop, Bool, true, false, nat_eq, Option, Some, None}
use Rattle.cpp_grammar.specs.Term.{Term, symbol, function, object, thunk, clone, instance, local, holder, tagged, abbreviation, expansion, pack, list, absent}
use Rattle.cpp_grammar.specs.Parts.{entity_of}
use Rattle.sym_print.specs.Unshared.{Unshared, done, bytes, item, text_of}
use Rattle.sym_parts.specs.Marked.{Marked, text, marked, ◌before◌}
use Rattle.sym_parts.specs.Marked as marks
use Rattle.sym_parts.specs.Plain.{alone, numbered, only, plain, suffixed, whole}
use Rattle.sym_parts.specs.declared.role.Role.{Role}
use Rattle.sym_parts.specs.declared.role.Role.TheVariants as role
use Rattle.sym_parts.specs.declared.spelling.Ordinal.{Ordinal}
use Rattle.cpp_parts.specs.declared.numbering.Numbering.{Numbering}
use Rattle.cpp_parts.specs.declared.numbering.Numbering.TheVariants as numbering

-- ## Without a tree

-- one part, or none where it has no bytes
unfoldable pub alone_if_any : Role → List ℕ → (rest : Marked) → Marked
alone_if_any r [] rest = rest
alone_if_any r (b ∷ bs) rest = alone r only (b ∷ bs) rest

-- the words of a special name, after the words of this many others; the blank at the end of the words is in no part
unfoldable pub words : (specials : ℕ) → List ℕ → (rest : Marked) → Marked
words specials b rest = alone role.Special (numbered specials) (take (length b - 1) b) (text (drop (length b - 1) b) rest)

-- the rest of a return type after the parameters, if there is one
unfoldable pub returned : Unshared → Marked
returned (item right rest) = alone_if_any role.ReturnType (text_of right) (plain rest)
returned printed = plain printed

-- what follows the parameters of a function, or the name of a variable: its qualifiers, and the rest of the return type
unfoldable pub behind : Unshared → Marked
behind (bytes b rest) = alone role.Qualifiers only b (returned rest)
behind printed = returned printed

-- ## Names without arguments

-- the scope, the two colons, and the rest, which is the base
unfoldable pub scoped : (scope colons : List ℕ) → Unshared → Marked
scoped scope colons rest = alone role.Scope only scope (text (take 2 colons) (marked role.Base only (text (drop 2 colons) (plain rest)) marks.done))

-- the text std::, and the rest, which is the base
unfoldable pub in_std : (std : List ℕ) → Unshared → Marked
in_std std rest = alone role.Scope only (take 3 std) (text (drop 3 std) (whole role.Base only rest))

-- an abbreviation, which has std:: before its base
unfoldable pub abbreviated : Unshared → Marked
abbreviated (bytes b rest) = alone role.Scope only (take 3 b) (text (take 2 (drop 3 b)) (marked role.Base only (text (drop 2 (drop 3 b)) (plain rest)) marks.done))
abbreviated printed = whole role.Base only printed

-- colons, with the ~ of a destructor or without it
unfoldable pub are_colons : List ℕ → Bool
are_colons [] = false
are_colons (b ∷ bs) = nat_eq b 58

-- a name by what it prints: a scope, two colons and a base; or std:: and a base; or only a base
unfoldable pub named : Unshared → Marked
named (item scope (bytes b rest)) = elim (are_colons b) [ true ↦ scoped (text_of scope) b rest | false ↦ whole role.Base only (item scope (bytes b rest)) ]
named (bytes std (item piece done)) = in_std std (item piece done)
named printed = whole role.Base only printed

-- ## Lists

-- the element of a list, or the pattern that is expanded
unfoldable pub element_of : Term → Term
element_of (list e rest) = e
element_of pattern = pattern

-- the list after its first element, or the pattern again
unfoldable pub rest_of : Term → Term
rest_of (list e rest) = rest
rest_of pattern = pattern

-- where an element's own elements are: in the list of a pack, or in a pattern that is expanded
unfoldable pub within : Term → Option Term
within (pack elements) = Some elements
within (expansion pattern) = Some pattern
within _ = None

-- ## Numbers of elements

-- the ordinal of the next element
unfoldable pub ordinal_of : Numbering → Ordinal
ordinal_of (numbering.Items n) = numbered n
ordinal_of (numbering.Elements n e) = record { item = n; element = e }
ordinal_of (numbering.Alike ordinal) = ordinal

-- the numbers of the elements after the next one
unfoldable pub next : Numbering → Numbering
next (numbering.Items n) = numbering.Items (n + 1)
next (numbering.Elements n e) = numbering.Elements n (e + 1)
next (numbering.Alike ordinal) = numbering.Alike ordinal

-- The numbers of an element's own elements: those of a pack that is an item of the list are counted from 1 on, and all others
-- are numbered as the element is.
unfoldable pub inside : Numbering → Term → Numbering
inside (numbering.Items n) (pack elements) = numbering.Elements n 1
inside numbers t = numbering.Alike (ordinal_of numbers)

-- ## Elements

-- The elements of a list, each with this role. A comma is in no element. An element that prints nothing is skipped. The
-- elements of a pack, and of an expansion, are elements of the list.
unfoldable mutual
  pub elements : Role → Numbering → Term → Unshared → Marked
  elements r o t (item skipped done) = elements r (next o) (rest_of t) skipped
  elements r o t (item left (item right rest)) =
      element r o (inside o (element_of t)) (within (element_of t)) left right before elements_after r (next o) (rest_of t) rest
  elements r o t (bytes comma (item skipped done)) = text comma (elements r (next o) (rest_of t) skipped)
  elements r o t (bytes comma (item left (item right rest))) =
      text comma (element r o (inside o (element_of t)) (within (element_of t)) left right before elements_after r (next o) (rest_of t) rest)
  elements r o t (bytes comma printed) = text comma (plain printed)
  elements r o t printed = plain printed

  pub elements_after : Role → Numbering → Term → Unshared → Marked
  elements_after r o t (item others rest) = elements r o t others before plain rest
  elements_after r o t printed = plain printed

  pub element : Role → (own inner : Numbering) → Option Term → (left right : Unshared) → Marked
  element r own inner (Some t) (item printed done) done = elements r inner t printed
  element r own inner _ left right = marked r (ordinal_of own) (text (text_of left) (text (text_of right) marks.done)) marks.done

-- a list in brackets, and what is after it
unfoldable pub in_brackets : (of_list of_element : Role) → Term → (opening : List ℕ) → Unshared → Marked
in_brackets r e t opening (item inner (bytes close rest)) = marked r only (text opening (elements e (numbering.Items 0) t inner before text close marks.done)) (behind rest)
in_brackets r e t opening (bytes close rest) = marked r only (text opening (text close marks.done)) (behind rest)
in_brackets r e t opening printed = text opening (plain printed)

-- the parameters of a function
unfoldable pub parameters : Term → Unshared → Marked
parameters t (bytes opening rest) = in_brackets role.Parameters role.Parameter t opening rest
parameters t printed = plain printed

-- the arguments of a template; a blank before the bracket is in no part
unfoldable pub arguments : Term → Unshared → Marked
arguments t (bytes opening rest) =
    text (take (length opening - 1) opening) (in_brackets role.GenericArguments role.GenericArgument t (drop (length opening - 1) opening) rest)
arguments t printed = plain printed

-- ## Names and encodings

-- A name before this many of its tags. An instance has its template's name and the arguments; a tagged name has its name and a
-- tag.
unfoldable pub name : (tags : ℕ) → Term → Unshared → Marked
name tags (instance template args) (item inner rest) = name tags template inner before arguments args rest
name tags (tagged of_structor inner tag) (item printed rest) = name (tags + 1) inner printed before whole role.AbiTag (numbered tags) rest
name tags (local encoding entity discriminator) (item printed rest) = name tags (entity_of entity) printed before plain rest
name tags (holder inner) (item printed rest) = name tags inner printed before plain rest
name tags (abbreviation letter) printed = abbreviated printed
name tags t printed = named printed

-- the name of a function, and its parameters
unfoldable pub called : (name_of params : Term) → Unshared → Marked
called n params (item printed rest) = name 0 n printed before parameters params rest
called n params printed = plain printed

unfoldable pub is_absent : Term → Bool
is_absent absent = true
is_absent t = false

-- the name of a function and its parameters, with the return type if there is one
unfoldable pub returning : (nothing : Bool) → (name_of params : Term) → Unshared → Marked
returning false n params (item left (bytes blank rest)) = alone role.ReturnType only (text_of left) (text blank (called n params rest))
returning nothing n params printed = called n params printed

-- the words of a special name, and what the name belongs to
unfoldable pub special_name : (specials : ℕ) → Unshared → Marked
special_name specials (bytes b rest) = words specials b (whole role.Object only rest)
special_name specials printed = plain printed

-- An encoding, after the words of this many special names: a function, a variable or a special name. The target of a thunk, and of
-- a clone, has its own parts.
unfoldable pub encoding : (specials : ℕ) → Term → Unshared → Marked
encoding specials (function n q mark returned params) printed = returning (is_absent returned) n params printed
encoding specials (object n q mark) (item printed rest) = name 0 n printed before behind rest
encoding specials (thunk kind e) (bytes b (item printed rest)) = words specials b (encoding (specials + 1) e printed before plain rest)
encoding specials (clone letter e) (bytes b (item printed rest)) = words specials b (encoding (specials + 1) e printed before plain rest)
encoding specials t printed = special_name specials printed

-- a whole symbol
unfoldable pub symbol_marked : Term → Unshared → Marked
symbol_marked (symbol e suffix) (item printed rest) = encoding 0 e printed before suffixed rest
symbol_marked t printed = plain printed
