-- The pressed spelling of what a C++ symbol denotes: the parts of its tree in order. Each component that equals an
-- earlier one is a reference to the first one that it equals. Everything else is spelled out, without an N that it
-- doesn't need.
use Rattle.std.specs.Prelude.{ℕ, ◌-◌, List, [], ◌∷◌, ◌++◌, Bool, true, false, cond, ◌&&◌, codes, Option}
use Prim.Native.String.{String}
use Rattle.sym_spell.specs.Pressing.{◌and◌, text, nothing}
use Rattle.cpp_grammar.specs.Term.{RefQualifier, Term, symbol, function, object, special, thunk, of_name, construction, clone, alone, in_std, within, instance, local, holder, tagged, of_default, abbreviation, parameter, source, operator, literal_operator, constructor, destructor, inheriting, lambda, generic_lambda, unnamed, string_literal, conversion, builtin, sized_float, constrained, vendor, pointer, lvalue, rvalue, array, bounded, member_pointer, function_type, qualified, vector, complex, decltype, expansion, integer, boolean, null_pointer, encoding_literal, address_of, operation, function_parameter, pack, nil, list, absent, enumeration, bindings, declaring}
use Rattle.cpp_grammar.specs.Scope.{without_tags}
use Rattle.cpp_press_laws.specs.Texts.{counted, ordinal, signed_text, qualifier_letters, mark_letter, name_letters, special_code, thunk_text, discriminator_text}
use Rattle.cpp_press_laws.specs.Components.{Spelling, ended, referred, component}

-- How a tree is spelled depends on where it is, so each tree has these ways. Only the ways in which it can be spelled count.
pub record Ways : Type 0 where
  -- a type; a type directly under qualifiers; a prefix; a name between N and E; a piece of a name
  pub as_type : Spelling
  pub under_qualifiers : Spelling
  pub as_prefix : Spelling
  pub between_N_and_E : Spelling
  pub as_piece : Spelling
  -- an encoding, which begins where it is; its own name, with letters for its qualifiers and its mark
  pub as_encoding : Spelling
  pub as_name : (letters : List ℕ) → Spelling
  -- a template name and the arguments after it, in a type or in an encoding's own name
  pub before : (in_type : Bool) → (arguments : Spelling) → Spelling
  -- an argument of a template; the parameters of a function; those after the first; elements of a list
  pub as_argument : Spelling
  pub as_parameters : Spelling
  pub as_more_parameters : Spelling
  pub as_elements : Spelling

unfoldable pub no_ways : Ways
no_ways = record {
  as_type = nothing;
  under_qualifiers = nothing;
  as_prefix = nothing;
  between_N_and_E = nothing;
  as_piece = nothing;
  as_encoding = nothing;
  as_name = λ letters. nothing;
  before = λ in_type arguments. arguments;
  as_argument = nothing;
  as_parameters = nothing;
  as_more_parameters = nothing;
  as_elements = nothing;
}

abbrev says : String → Spelling
says bytes = text (codes bytes)

-- ## Types

-- a type that has one spelling wherever it is
unfoldable pub type_ways : Spelling → Ways
type_ways spelling = record no_ways {
  as_type = spelling;
  under_qualifiers = spelling;
  as_prefix = spelling;
  before = λ in_type arguments. spelling and arguments;
  as_argument = spelling;
}

-- the marks, the return type and the parameters of a function type (ABI 5.1, `<function-type>`)
unfoldable pub function_text : (c_linkage noexcept : Bool) → RefQualifier → (returned parameters : Spelling) → Spelling
function_text c_linkage noexcept ref returned parameters =
    text (cond noexcept (codes "Do") [] ++ codes "F" ++ cond c_linkage (codes "Y") []) and returned and parameters and text (mark_letter ref ++ codes "E")

-- ## Names

unfoldable pub in_N_and_E : (letters : List ℕ) → Spelling → Spelling
in_N_and_E letters name = text (codes "N" ++ letters) and name and says "E"

-- a name of an encoding needs an N for its letters
unfoldable pub with_letters : (letters : List ℕ) → (own between : Spelling) → Spelling
with_letters [] own between = own
with_letters (l ∷ ls) own between = in_N_and_E (l ∷ ls) between

-- A name that isn't local: its spelling as a type, as an encoding's own name without letters, as a prefix and between N and E. An
-- encoding's own name is no component, nor is what is between N and E as a whole.
unfoldable pub name_ways : (encoding : ℕ) → Term → (type own prefix between : Spelling) → (before : Bool → Spelling → Spelling) → Ways
name_ways encoding name type own prefix between before =
    let typed = component encoding name type in record no_ways {
      as_type = typed;
      under_qualifiers = typed;
      as_prefix = component encoding name prefix;
      between_N_and_E = between;
      as_name = λ letters. with_letters letters own between;
      before = before;
      as_argument = typed;
    }

-- A template name and its arguments. If the name can be a reference, nothing needs an N; otherwise the name is spelled out,
-- between N and E where it needs them.
unfoldable pub template_before : (encoding : ℕ) → Term → (needs_N : Bool) → (between arguments : Spelling) → Spelling
template_before encoding template needs_N between arguments =
    let whole = between and ended encoding template and arguments in
    referred encoding template arguments (elim needs_N [ true ↦ in_N_and_E [] whole | false ↦ whole ])

unfoldable pub is_operator : Term → Bool
is_operator (operator a b) = true
is_operator (literal_operator name) = true
is_operator _ = false

-- Generated by tools/trees.py.
unfoldable pub is_encoding : Term → Bool
is_encoding (function name q ref returned parameters) = true
is_encoding (object name q ref) = true
is_encoding (special l type) = true
is_encoding (thunk kind e) = true
is_encoding (of_name l name q ref) = true
is_encoding (construction derived digits parent) = true
is_encoding (clone letter e) = true
is_encoding _ = false

-- Generated by tools/trees.py. What is compared with others, and may be a reference to an equal one
unfoldable pub is_component : Term → Bool
is_component (alone p) = true
is_component (in_std p) = true
is_component (within prefix p) = true
is_component (instance template arguments) = true
is_component (local e entity discriminator) = true
is_component (tagged of_structor name tag) = true
is_component (parameter k) = true
is_component (vendor name) = true
is_component (pointer type) = true
is_component (lvalue type) = true
is_component (rvalue type) = true
is_component (array digits type) = true
is_component (member_pointer class member) = true
is_component (function_type c_linkage noexcept ref returned parameters) = true
is_component (qualified q type) = true
is_component (vector digits type) = true
is_component (complex type) = true
is_component (expansion pattern) = true
is_component _ = false

-- a name that isn't local
unfoldable pub is_name : Term → Bool
is_name (alone p) = true
is_name (in_std p) = true
is_name (within prefix p) = true
is_name (instance template arguments) = true
is_name (tagged of_structor name tag) = true
is_name _ = false

-- a name within another one, which needs an N unless it is a prefix
unfoldable pub is_nested : Term → Bool
is_nested (within prefix p) = true
is_nested _ = false

-- one piece after an encoding
unfoldable pub is_behind_encoding : Term → Bool
is_behind_encoding (within prefix p) = is_encoding prefix
is_behind_encoding _ = false

-- The entity of a local name is one piece after its encoding, with or without tags and arguments, or is between N and E. No
-- reference can occur there: a template name is spelled out even where an equal one comes before.
unfoldable pub is_one_piece : Term → Bool
is_one_piece (within prefix p) = is_encoding prefix
is_one_piece (instance (within prefix p) arguments) = is_encoding prefix
is_one_piece (tagged of_structor name tag) = is_behind_encoding (without_tags name)
is_one_piece (instance (tagged of_structor name tag) arguments) = is_behind_encoding (without_tags name)
is_one_piece _ = false

unfoldable pub entity_text : Term → (letters : List ℕ) → (between : Spelling) → Spelling
entity_text entity letters between = elim (is_one_piece entity) [ true ↦ between | false ↦ in_N_and_E letters between ]

-- an entity in the scope of an encoding (ABI 5.1, `<local-name>`)
unfoldable pub local_text : (around : Spelling) → Term → (between : Spelling) → Option (List ℕ) → (letters : List ℕ) → Spelling
local_text around entity between discriminator letters =
    says "Z" and around and says "E" and entity_text entity letters between and text (discriminator_text discriminator)

-- ## Trees

-- the spelling of an encoding gets the encoding's own place, and its components are kept with that place
unfoldable pub begun : ((encoding : ℕ) → Spelling) → Spelling
begun spelling place components = spelling place place components

unfoldable pub encoding_ways : ((encoding : ℕ) → Spelling) → Ways
encoding_ways spelling = record no_ways { as_encoding = begun spelling }

unfoldable pub piece_ways : Spelling → Ways
piece_ways spelling = record no_ways { as_piece = spelling }

unfoldable pub argument_ways : Spelling → Ways
argument_ways spelling = record no_ways { as_argument = spelling }

-- the ways of a tree in the encoding that begins at a place
unfoldable pub ways_of : (encoding : ℕ) → Term → Ways
ways_of n (symbol e suffix) = record no_ways { as_encoding = says "_Z" and (ways_of n e).as_encoding and text suffix }
ways_of n (function name q ref returned parameters) =
    encoding_ways (λ here. (ways_of here name).as_name (name_letters q ref) and (ways_of here returned).as_type and (ways_of here parameters).as_parameters)
ways_of n (object name q ref) = encoding_ways (λ here. (ways_of here name).as_name (name_letters q ref))
ways_of n (of_name l name q ref) = encoding_ways (λ here. text (special_code l) and (ways_of here name).as_name (name_letters q ref))
ways_of n (alone p) =
    let spelling = (ways_of n p).as_piece in
    name_ways n (alone p) spelling spelling spelling spelling (λ in_type arguments. template_before n (alone p) false spelling arguments)
ways_of n (in_std p) =
    let spelling = says "St" and (ways_of n p).as_piece in
    let needs_N = is_operator p in
    name_ways n (in_std p) (elim needs_N [ true ↦ in_N_and_E [] spelling | false ↦ spelling ]) spelling spelling spelling
    (λ in_type arguments. template_before n (in_std p) (in_type && needs_N) spelling arguments)
ways_of n (within prefix p) =
    let between = (ways_of n prefix).as_prefix and (ways_of n p).as_piece in
    let spelling = in_N_and_E [] between in
    name_ways n (within prefix p) spelling spelling between between (λ in_type arguments. template_before n (within prefix p) true between arguments)
ways_of n (instance template arguments) =
    let t = ways_of n template in
    let behind = says "I" and (ways_of n arguments).as_elements and says "E" in
    name_ways n (instance template arguments) (t.before true behind) (t.before false behind) (t.as_prefix and behind)
    (t.between_N_and_E and ended n template and behind) (λ in_type more. component n (instance template arguments) nothing and more)
ways_of n (local e entity discriminator) =
    let spelling = local_text (ways_of n e).as_encoding entity (ways_of n entity).between_N_and_E discriminator in
    record (type_ways (component n (local e entity discriminator) (spelling []))) { as_name = spelling }
-- a tag comes after its name and the tags before it; the name without the tag is no component
ways_of n (tagged of_structor name tag) =
    let between = (ways_of n name).between_N_and_E and text (codes "B" ++ counted tag) in
    let needs_N = is_nested (without_tags name) in
    let spelling : Spelling = elim needs_N [ true ↦ in_N_and_E [] between | false ↦ between ] in
    name_ways n (tagged of_structor name tag) spelling spelling between between
    (λ in_type arguments. template_before n (tagged of_structor name tag) needs_N between arguments)
ways_of n (function_type c_linkage noexcept ref returned parameters) =
    let spelling = function_text c_linkage noexcept ref (ways_of n returned).as_type (ways_of n parameters).as_parameters in
    record (type_ways (component n (function_type c_linkage noexcept ref returned parameters) spelling)) { under_qualifiers = spelling }
ways_of n nil = record no_ways { as_parameters = says "v" }
ways_of n (list first rest) =
    let f = ways_of n first in
    let r = ways_of n rest in
    let more = f.as_type and r.as_more_parameters in
    record no_ways { as_parameters = more; as_more_parameters = more; as_elements = f.as_argument and r.as_elements }
-- Generated by tools/trees.py. The other trees, each as its row of cpp_trees.txt says. Five forms that only the wide grammar reads
-- aren't pressed: local entities of default arguments, inherited constructors, arrays whose length is an expression,
-- placeholders that a concept constrains, and expressions
ways_of n (special l type) = encoding_ways (λ here. text (codes "T" ++ l ∷ []) and (ways_of here type).as_type)
ways_of n (thunk kind e) = encoding_ways (λ here. text (thunk_text kind) and (ways_of here e).as_encoding)
ways_of n (construction derived digits parent) = encoding_ways (λ here. says "TC" and (ways_of here derived).as_type and text (digits ++ codes "_") and (ways_of here parent).as_type)
ways_of n (clone letter e) = encoding_ways (λ here. says "GT" and text (letter ∷ []) and (ways_of here e).as_encoding)
ways_of n (holder name) = record no_ways { as_prefix = (ways_of n name).as_prefix and says "M" }
ways_of n (of_default digits entity) = no_ways
ways_of n (abbreviation l) = type_ways (text (codes "S" ++ l ∷ []))
ways_of n (parameter k) = type_ways (component n (parameter k) (text (codes "T" ++ ordinal k)))
ways_of n (source internal name) = piece_ways (text (cond internal (codes "L") [] ++ counted name))
ways_of n (operator a b) = piece_ways (text (a ∷ b ∷ []))
ways_of n (literal_operator name) = piece_ways (text (codes "li" ++ counted name))
ways_of n (constructor digit) = piece_ways (text (codes "C" ++ digit ∷ []))
ways_of n (destructor digit) = piece_ways (text (codes "D" ++ digit ∷ []))
ways_of n (inheriting digit class) = no_ways
ways_of n (lambda parameters k) = piece_ways (says "Ul" and (ways_of n parameters).as_parameters and text (codes "E" ++ ordinal (k - 1)))
ways_of n (generic_lambda parameters number) = piece_ways (says "Ul" and begun (λ here. (ways_of here parameters).as_parameters) and text (codes "E" ++ ordinal (number - 1)))
ways_of n (unnamed k) = piece_ways (text (codes "Ut" ++ ordinal (k - 1)))
ways_of n string_literal = piece_ways (says "s")
ways_of n (conversion type) = piece_ways (says "cv" and (ways_of n type).as_type)
ways_of n (enumeration type name) = piece_ways (says "Ue" and (ways_of n type).as_type and text (counted name))
ways_of n (bindings names) = no_ways
ways_of n (declaring heads parameters) = no_ways
ways_of n (builtin code) = type_ways (text code)
ways_of n (sized_float digits end) = type_ways (says "DF" and text digits and text (end ∷ []))
ways_of n (constrained letter concept) = no_ways
ways_of n (vendor name) = type_ways (component n (vendor name) (text (codes "u" ++ counted name)))
ways_of n (pointer type) = type_ways (component n (pointer type) (says "P" and (ways_of n type).as_type))
ways_of n (lvalue type) = type_ways (component n (lvalue type) (says "R" and (ways_of n type).as_type))
ways_of n (rvalue type) = type_ways (component n (rvalue type) (says "O" and (ways_of n type).as_type))
ways_of n (array digits type) = type_ways (component n (array digits type) (text (codes "A" ++ digits ++ codes "_") and (ways_of n type).as_type))
ways_of n (bounded bound type) = no_ways
ways_of n (member_pointer class member) = type_ways (component n (member_pointer class member) (says "M" and (ways_of n class).as_type and (ways_of n member).as_type))
ways_of n (qualified q type) = type_ways (component n (qualified q type) (text (qualifier_letters q) and (ways_of n type).under_qualifiers))
ways_of n (vector digits type) = type_ways (component n (vector digits type) (text (codes "Dv" ++ digits ++ codes "_") and (ways_of n type).as_type))
ways_of n (complex type) = type_ways (component n (complex type) (says "C" and (ways_of n type).as_type))
ways_of n (decltype operand) = no_ways
ways_of n (expansion pattern) = type_ways (component n (expansion pattern) (says "Dp" and (ways_of n pattern).as_type))
ways_of n (integer type value) = argument_ways (says "L" and (ways_of n type).as_type and text (signed_text value ++ codes "E"))
ways_of n (boolean truth) = argument_ways (text (cond truth (codes "Lb1E") (codes "Lb0E")))
ways_of n null_pointer = argument_ways (says "LDnE")
ways_of n (encoding_literal e) = argument_ways (says "L_Z" and (ways_of n e).as_encoding and says "E")
ways_of n (address_of e) = argument_ways (says "XadL_Z" and (ways_of n e).as_encoding and says "EE")
ways_of n (operation one two u w) = no_ways
ways_of n (function_parameter digits) = no_ways
ways_of n (pack elements) = argument_ways (says "J" and (ways_of n elements).as_elements and says "E")
ways_of n absent = no_ways

-- the pressed bytes of a symbol
unfoldable pub pressed : Term → List ℕ
pressed t = ((ways_of 0 t).as_encoding 0 []).bytes
