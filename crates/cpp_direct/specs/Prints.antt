-- Trees with known text: they print the text at the left and nothing at the right, wherever the trees are.
use Rattle.std.specs.Prelude.{◌≡◌, ℕ, ◌+◌, ◌*◌, ◌≤◌, List, [], ◌∷◌, ◌++◌, length, Bool, true, false, cond, Option, None, Some, codes, ◌⊎◌}
use Rattle.sym_print.specs.declared.detail.Detail.{Detail}
use Rattle.sym_print.specs.Unfold.{PartOf}
use Rattle.sym_print.specs.Unshared.{Unshared, text_of, cost_of}
use Rattle.cpp_grammar.specs.Term.{Signed, Term, lvalue, rvalue, nil, list}
use Rattle.cpp_grammar.specs.Scope.{element, is_open, pack_length, length_if_pack}
use Rattle.cpp_grammar.specs.References.{is_function_type}
use Rattle.cpp_grammar.specs.Items.{Form, full, bare, left, right, base, piece, Item, Context, closed, head, is_reference, is_funarr, is_empty, argument}
use Rattle.cpp_grammar.specs.Meaning.{is_void}
use Rattle.cpp_grammar.specs.Parts.{as_item, says, component_parts, within_parts, last_piece, opening_text, is_plain_integer}
pub use Rattle.cpp_direct.specs.WrittenParts.{IsUnmarked, closing_bracket, closing_byte, opening_bracket, opening_byte, unmarked_parts, written, written_in, written_instance}
use Rattle.cpp_direct.specs.HolesOfTypes.{as_const}
use Rattle.cpp_direct.specs.declared.open.Pattern.{Pattern}
use Rattle.cpp_direct.specs.declared.open.Holder.{Holder}
use Rattle.cpp_direct.specs.declared.open.Holder.TheVariants as holders
use Rattle.cpp_direct.specs.declared.open.Pattern.TheVariants as patterns

-- what is written of a tree, in a detail, a form and a context
abbrev pub written_of : Detail → Form → Context → Term → Unshared
written_of detail form context t = written detail (record { tree = t; form = form; context = context })

-- the parts of a name: a tree, in a form and in a context of its own, then colons and a piece
abbrev pub joined_to : Form → (own context : Context) → (t p : Term) → List (PartOf Item)
joined_to form own context t p = as_item form own t ∷ says "::" ∷ as_item piece context p ∷ []

-- the bytes are `int` or `long`, or end in a blank and one of these words, like the names of the types whose integers omit
-- the type
abbrev pub EndsAsInteger : List ℕ → Type 0
EndsAsInteger bytes =
    (front : List ℕ) × ((bytes ≡ codes "int") ⊎ (bytes ≡ front ++ codes " int") ⊎ (bytes ≡ codes "long") ⊎ (bytes ≡ front ++ codes " long"))

-- A tree with this text: a type, or the name of something. `reference` says whether the tree is a reference.
pub record Prints (detail : Detail) (t : Term) (bytes : List ℕ) (reference : Bool) : Type 0 where
  pub left_text : (context : Context) → text_of (written_of detail left context t) ≡ bytes
  pub right_text : (context : Context) → text_of (written_of detail right context t) ≡ []
  pub cost : (context : Context) → 1 + cost_of (written_of detail left context t) + cost_of (written_of detail right context t) ≤ 4 * length bytes
  pub is_reference_head : (context : Context) → is_reference (head context t) ≡ reference
  pub is_funarr_head : (context : Context) → is_funarr (head context t) ≡ false
  pub filled : (context : Context) → is_empty context t ≡ false
  pub is_closed : is_open t ≡ false
  pub packless : (scope : Term) → pack_length scope t ≡ None
  pub no_function : is_function_type t ≡ false
  pub no_pack : length_if_pack t ≡ None
  pub reference_cost : reference ≡ true → (context : Context) → 2 + cost_of (written_of detail left context t) + cost_of (written_of detail right context t) ≤ 4 * length bytes
  pub as_prefix : (context : Context) (p : Term) → component_parts context t p ≡ joined_to left context context t p
  pub opening : opening_text (last_piece t) ≡ codes "<"
  pub void : is_void t ≡ true → bytes ≡ codes "void"
  pub integer : is_plain_integer t ≡ true → EndsAsInteger bytes

-- A tree with this text at the left, as the name of a function or of data has it.
pub record PrintsName (detail : Detail) (t : Term) (bytes : List ℕ) : Type 0 where
  pub left_text : (context : Context) → text_of (written_of detail left context t) ≡ bytes
  pub cost : (context : Context) → 1 + cost_of (written_of detail left context t) + cost_of (written_of detail right context t) ≤ 4 * length bytes

-- A tree with this text in a context. It may cost `extra` more than a tree that has the text in every context.
pub record PrintsIn (detail : Detail) (context : Context) (extra : ℕ) (t : Term) (bytes : List ℕ) (reference : Bool) : Type 0 where
  pub left_text : text_of (written_of detail left context t) ≡ bytes
  pub right_text : text_of (written_of detail right context t) ≡ []
  pub cost : 1 + cost_of (written_of detail left context t) + cost_of (written_of detail right context t) ≤ extra + 4 * length bytes
  pub is_reference_head : is_reference (head context t) ≡ reference
  pub is_funarr_head : is_funarr (head context t) ≡ false
  pub filled : is_empty context t ≡ false
  pub no_function : is_function_type t ≡ false
  pub void : is_void t ≡ true → bytes ≡ codes "void"
  pub some : 1 ≤ length bytes

-- A reference that prints this text on both sides of a name, as a reference to an array does.
pub record PrintsAround (detail : Detail) (t : Term) (bytes : List ℕ) : Type 0 where
  pub both_texts : (context : Context) → text_of (written_of detail left context t) ++ text_of (written_of detail right context t) ≡ bytes
  pub cost : (context : Context) → 2 + cost_of (written_of detail left context t) + cost_of (written_of detail right context t) ≤ 4 * length bytes
  pub is_reference_head : (context : Context) → is_reference (head context t) ≡ true
  pub is_funarr_head : (context : Context) → is_funarr (head context t) ≡ false
  pub filled : (context : Context) → is_empty context t ≡ false
  pub is_closed : is_open t ≡ false
  pub packless : (scope : Term) → pack_length scope t ≡ None
  pub no_void : is_void t ≡ false

-- A tree that has this text as an argument or as an element of a pack. An element may be a reference that prints on both sides of
-- a name.
abbrev pub PrintsListed : (in_pack : Bool) → (detail : Detail) → Term → (bytes : List ℕ) → (reference : Bool) → Type 0
PrintsListed false detail t bytes reference = Prints detail t bytes reference
PrintsListed true detail t bytes reference = Prints detail t bytes reference ⊎ ((reference ≡ true) × PrintsAround detail t bytes)

-- ## Types that name arguments of a function's template

-- the text of an argument of a function's template, and whether it is a reference
pub record Named : Type 0 where
  pub bytes : List ℕ
  pub reference : Bool

-- the arguments of a function's template that may be named, by their numbers
abbrev pub Names : Type 0
Names = (number : ℕ) → Option Named

-- in the context, parameters name arguments that have the texts in `names`
abbrev pub IsGiven : (detail : Detail) → Names → Context → Type 0
IsGiven detail names context = (number : ℕ) (own : Named) → names number ≡ Some own → Prints detail (argument context number) own.bytes own.reference

-- the arguments that may be named are no packs
abbrev pub AreSingle : Names → (arguments : Term) → Type 0
AreSingle names arguments = (number : ℕ) (own : Named) → names number ≡ Some own → length_if_pack (element arguments number) ≡ None

-- A tree that has this text wherever parameters name arguments with the texts in `names`.
pub record PrintsGiven (detail : Detail) (names : Names) (t : Term) (bytes : List ℕ) (reference : Bool) : Type 0 where
  pub prints : (context : Context) → IsGiven detail names context → PrintsIn detail context 3 t bytes reference
  pub packless : (arguments : Term) → AreSingle names arguments → pack_length arguments t ≡ None
  pub no_function : is_function_type t ≡ false
  pub no_pack : length_if_pack t ≡ None
  pub as_prefix : (context : Context) (p : Term) → component_parts context t p ≡ joined_to left context context t p
  pub opening : opening_text (last_piece t) ≡ codes "<"

-- a tree that has this text anywhere or, if the tree is dependent, wherever parameters name the arguments in `names`
abbrev pub PrintsAs : (detail : Detail) → Names → (is_dependent : Bool) → Term → (bytes : List ℕ) → (reference : Bool) → Type 0
PrintsAs detail names false t bytes reference = Prints detail t bytes reference
PrintsAs detail names true t bytes reference = PrintsGiven detail names t bytes reference

-- ## Patterns of a parameter that expands a pack

-- the letters before the parameter
abbrev pub pattern_letters : Pattern → List ℕ
pattern_letters patterns.Same = []
pattern_letters patterns.Lvalue = 82 ∷ []
pattern_letters patterns.ConstLvalue = 82 ∷ 75 ∷ []
pattern_letters patterns.Rvalue = 79 ∷ []

-- what a pattern makes of a type
abbrev pub made_by : Pattern → Term → Term
made_by patterns.Same t = t
made_by patterns.Lvalue t = lvalue t
made_by patterns.ConstLvalue t = lvalue (as_const t)
made_by patterns.Rvalue t = rvalue t

-- The marks that a pattern has after the text of a type. An rvalue reference to a reference is that reference, and adds no
-- mark.
abbrev pub IsMarkedBy : Pattern → (reference : Bool) → (marks : List ℕ) → Type 0
IsMarkedBy patterns.Same reference marks = marks ≡ []
IsMarkedBy patterns.Lvalue reference marks = (reference ≡ false) × (marks ≡ codes "&")
IsMarkedBy patterns.ConstLvalue reference marks = (reference ≡ false) × (marks ≡ codes " const&")
IsMarkedBy patterns.Rvalue true marks = marks ≡ []
IsMarkedBy patterns.Rvalue false marks = marks ≡ codes "&&"

-- a tree that a pattern turns into one with this text
abbrev pub PrintsMade : (detail : Detail) → Pattern → Term → List ℕ → Type 0
PrintsMade detail pattern t bytes =
    (own : List ℕ) × (reference : Bool) × (marks : List ℕ) × PrintsListed true detail t own reference × IsMarkedBy pattern reference marks × (bytes ≡ own ++ marks)

-- A tree whose class has this name before a constructor or a destructor.
pub record NamesClass (detail : Detail) (t : Term) (class : List ℕ) : Type 0 where
  pub base_text : (context : Context) → text_of (written_of detail base context t) ≡ class
  pub base_cost : (context : Context) → cost_of (written_of detail left context t) + cost_of (written_of detail right context t) + cost_of (written_of detail base context t)
      ≤ 4 * (length (text_of (written_of detail left context t)) + length class)

-- A piece of a name that has this text as a component of another name.
pub record PrintsPiece (detail : Detail) (p : Term) (bytes : List ℕ) : Type 0 where
  pub piece_text : (context : Context) → text_of (written_of detail piece context p) ≡ bytes
  pub piece_cost : (context : Context) → cost_of (written_of detail piece context p) ≤ 4 * length bytes
  pub as_component : (context : Context) (prefix : Term) → within_parts context prefix p ≡ component_parts context prefix p
  pub is_closed : is_open p ≡ false
  pub packless : (scope : Term) → pack_length scope p ≡ None
  pub opening : opening_text p ≡ codes "<"

-- An encoding with this text in a detail.
pub record Shows (detail : Detail) (t : Term) (bytes : List ℕ) : Type 0 where
  pub shown_text : text_of (written_of detail full closed t) ≡ bytes
  pub shown_cost : 1 + cost_of (written_of detail full closed t) ≤ 4 * length bytes

-- An encoding that has this text before the name of an entity in it, in a detail.
pub record Encloses (detail : Detail) (t : Term) (bytes : List ℕ) : Type 0 where
  pub as_prefix : (context : Context) (p : Term) → component_parts context t p ≡ joined_to bare closed context t p
  pub bare_text : text_of (written_of detail bare closed t) ≡ bytes
  pub bare_cost : 1 + cost_of (written_of detail bare closed t) ≤ 4 * length bytes
  pub is_closed : is_open t ≡ false
  pub packless : (scope : Term) → pack_length scope t ≡ None

-- what precedes a lambda has this text: the function that contains the lambda, or the name so far that the lambda extends
abbrev pub Leads : (detail : Detail) → Holder → Term → (bytes : List ℕ) → Type 0
Leads detail holders.Function e bytes = Encloses detail e bytes
Leads detail (holders.Name purpose) e bytes = Prints detail e bytes false
Leads detail (holders.Member mark) e bytes = Encloses detail e bytes

-- The text before a lambda is written, from a place on.
pub record IsLed (detail : Detail) (holder : Holder) (from : ℕ) : Type 0 where
  pub e : Term
  pub front : List ℕ
  pub from_is : from ≡ length front
  pub bytes : List ℕ
  pub leads : Leads detail holder e bytes

-- the sign of a number
abbrev pub sign_text : Signed → List ℕ
sign_text n = cond n.negative (codes "-") []

-- ## Lists

-- the list of these elements
abbrev pub list_of : List Term → Term
list_of [] = nil
list_of (t ∷ ts) = list t (list_of ts)

-- texts one after the other, with a comma and a blank between any two
abbrev pub joined : List (List ℕ) → List ℕ
joined [] = []
joined (b ∷ []) = b
joined (b ∷ c ∷ bs) = b ++ codes ", " ++ joined (c ∷ bs)

-- A tree prints this text as an element of a list. It may cost `extra` more than a type with the same text.
pub record IsElement (detail : Detail) (extra : ℕ) (t : Term) (bytes : List ℕ) : Type 0 where
  pub both_texts : (context : Context) → text_of (written_of detail left context t) ++ text_of (written_of detail right context t) ≡ bytes
  pub cost : (context : Context) → 1 + cost_of (written_of detail left context t) + cost_of (written_of detail right context t) ≤ extra + 4 * length bytes
  pub filled : (context : Context) → is_empty context t ≡ false
  pub is_closed : is_open t ≡ false
  pub packless : (scope : Term) → pack_length scope t ≡ None
  pub void : is_void t ≡ true → bytes ≡ codes "void"

-- Likewise in a context.
pub record IsElementIn (detail : Detail) (context : Context) (extra : ℕ) (t : Term) (bytes : List ℕ) : Type 0 where
  pub both_texts : text_of (written_of detail left context t) ++ text_of (written_of detail right context t) ≡ bytes
  pub cost : 1 + cost_of (written_of detail left context t) + cost_of (written_of detail right context t) ≤ extra + 4 * length bytes
  pub filled : is_empty context t ≡ false
  pub void : is_void t ≡ true → bytes ≡ codes "void"

-- Each tree prints its text, in the sense of `by`.
abbrev pub PrintEachBy : (by : Term → List ℕ → Type 0) → List Term → List (List ℕ) → Type 0
PrintEachBy by [] [] = Unit {0}
PrintEachBy by (t ∷ ts) (b ∷ bs) = by t b × PrintEachBy by ts bs
PrintEachBy by _ _ = ⊥

-- the elements print this text, in the sense of `by`, with a comma and a blank between any two
abbrev pub PrintAllBy : (by : Term → List ℕ → Type 0) → List Term → (bytes : List ℕ) → Type 0
PrintAllBy by ts bytes = (texts : List (List ℕ)) × PrintEachBy by ts texts × (joined texts ≡ bytes)

abbrev pub PrintEach : (detail : Detail) (extra : ℕ) → List Term → List (List ℕ) → Type 0
PrintEach detail extra ts texts = PrintEachBy (IsElement detail extra) ts texts

abbrev pub PrintAll : (detail : Detail) (extra : ℕ) → List Term → (bytes : List ℕ) → Type 0
PrintAll detail extra ts bytes = PrintAllBy (IsElement detail extra) ts bytes

-- likewise in a context
abbrev pub PrintEachIn : (detail : Detail) → Context → (extra : ℕ) → List Term → List (List ℕ) → Type 0
PrintEachIn detail context extra ts texts = PrintEachBy (IsElementIn detail context extra) ts texts

abbrev pub PrintAllIn : (detail : Detail) → Context → (extra : ℕ) → List Term → (bytes : List ℕ) → Type 0
PrintAllIn detail context extra ts bytes = PrintAllBy (IsElementIn detail context extra) ts bytes

-- A tree prints this text as an element of a list wherever parameters name arguments with the texts in `names`.
pub record IsElementGiven (detail : Detail) (names : Names) (extra : ℕ) (t : Term) (bytes : List ℕ) : Type 0 where
  pub prints : (context : Context) → IsGiven detail names context → IsElementIn detail context extra t bytes
  pub packless : (arguments : Term) → AreSingle names arguments → pack_length arguments t ≡ None

-- an element that prints this text anywhere or, if the element is dependent, wherever parameters name the arguments in `names`
abbrev pub IsElementAs : (detail : Detail) → Names → (is_dependent : Bool) → (extra : ℕ) → Term → (bytes : List ℕ) → Type 0
IsElementAs detail names false extra t bytes = IsElement detail extra t bytes
IsElementAs detail names true extra t bytes = IsElementGiven detail names extra t bytes

-- the elements print this text anywhere or, if they are dependent, wherever parameters name the arguments in `names`
abbrev pub PrintAllAs : (detail : Detail) → Names → (is_dependent : Bool) → (extra : ℕ) → List Term → (bytes : List ℕ) → Type 0
PrintAllAs detail names is_dependent extra ts bytes = PrintAllBy (IsElementAs detail names is_dependent extra) ts bytes
