-- Where a tree can be spelled so that it is read back: each component in it has an equal component before it, or can be spelled
-- out in its place, after the components before it. The ways here are those of `ways_of`.
use Rattle.std.specs.Prelude.{◌≡◌, ℕ, ◌+◌, ◌<◌, ◌⊎◌, length, List, [], ◌∷◌, ◌++◌, Option, Some, None, Bool, true, false, cond, not, ◌&&◌, ◌||◌, ◌^◌, nat_lt, codes}
use Rattle.sym_core.specs.declared.NumberKind.TheVariants.{Decimal, Digits}
use Rattle.sym_spell.specs.Pressing.{◌and◌, text}
use Rattle.cpp_grammar.specs.declared.kind.Kind.{Kind}
use Rattle.cpp_grammar.specs.declared.production.Production.{Production}
use Rattle.cpp_grammar.specs.Grammar.{choose}
use Rattle.cpp_grammar.specs.Term.{Qualifiers, RefQualifier, explicit_object, Adjustment, non_virtual, by_table, Thunk, adjusting, covariant, Term, symbol, function, object, special, thunk, of_name, construction, clone, alone, in_std, within, instance, local, holder, tagged, of_default, abbreviation, parameter, source, operator, literal_operator, constructor, destructor, inheriting, lambda, generic_lambda, unnamed, string_literal, conversion, builtin, sized_float, constrained, vendor, pointer, lvalue, rvalue, array, bounded, member_pointer, function_type, qualified, vector, complex, decltype, expansion, integer, boolean, null_pointer, encoding_literal, address_of, operation, function_parameter, pack, nil, list, absent, enumeration, bindings, declaring}
use Rattle.cpp_grammar.specs.Scope.{count, element, length_if_pack, has_return_type, is_open}
use Rattle.cpp_grammar.specs.References.{packs_in}
use Rattle.cpp_grammar.specs.Values.{Prefix, outermost, behind, Around}
use Rattle.cpp_grammar.specs.Between.{in_name, in_types, in_signature, under_expansion, after, inside}
use Rattle.cpp_grammar.specs.Meaning.{is_void, is_nil}
use Rattle.cpp_press_laws.specs.Texts.{qualifier_letters, name_letters, thunk_text}
use Rattle.cpp_press_laws.specs.Components.{Component, Spelling, ended, reference, first_equal}
use Rattle.cpp_press_laws.specs.Pressing.{ways_of, is_operator, is_encoding}
use Rattle.cpp_press_laws.specs.Spellable.{IsSpellableName, AreSpellableDigits, IsSpellableNumber, IsOperator, AreSuffixBytes}

-- ## References

-- a tree names no packs, or it is in an expansion and its packs have the allowed length
abbrev pub PacksFit : Around → (allowed : Option ℕ) → (packs : Option ℕ) → Type 0
PacksFit around allowed packs = (packs ≡ None) ⊎ ((around.in_expansion ≡ true) × (packs ≡ allowed))

-- Where a reference to a tree is allowed: the packs that the tree names have the allowed length, and in the signature of a
-- lambda the tree has no free parameters.
pub record MayBeReferred (around : Around) (allowed : Option ℕ) (t : Term) : Type 0 where
  pub lambda : is_open t && around.in_lambda ≡ false
  pub packs : PacksFit around allowed (packs_in around.scope t)

-- ## Places

-- what may hold at a place after components
abbrev pub Standing : Type 1
Standing = (place : ℕ) → List Component → Type 0

-- what may hold in surroundings that allow a length for packs, at a place after components
abbrev pub Fitting : Type 1
Fitting = Around → (allowed : Option ℕ) → Standing

-- what holds after the bytes and the components that a spelling adds
abbrev pub Behind : Spelling → Standing → Standing
Behind spelling stands place cs = stands (place + length (spelling place cs).bytes) (spelling place cs).components

-- no component before is equal to the tree
abbrev pub IsFirst : Around → Term → List Component → Type 0
IsFirst around own cs = first_equal around.encoding own 0 cs ≡ None

-- a component: it may be referred to, and if no equal component comes before, it can be spelled out
abbrev pub as_component : Term → Fitting → Fitting
as_component own spelled around allowed place cs = MayBeReferred around allowed own × (IsFirst around own cs
    → spelled around allowed place cs)

-- a component that can't be spelled out, so an equal component must come before
abbrev pub as_reference : Term → Fitting
as_reference own = as_component own (λ around allowed place cs. ⊥)

-- Before arguments, a template name is a component. If an equal component comes before, the arguments follow a reference to
-- it; otherwise they follow its spelling, which ends a component.
abbrev pub as_template : Term → Fitting → (front : ℕ → Spelling) → (arguments : Fitting) → Fitting
as_template own spelled front arguments around allowed place cs =
    MayBeReferred around allowed own
    × ((number : ℕ) → first_equal around.encoding own 0 cs ≡ Some number → Behind (reference number) (arguments around allowed) place cs)
    × (IsFirst around own cs → spelled around allowed place cs
    × Behind (front around.encoding and ended around.encoding own) (arguments around allowed) place cs)

-- what fits after fixed bytes
abbrev pub behind_bytes : List ℕ → Fitting → Fitting
behind_bytes bytes fitting around allowed place cs = fitting around allowed (place + length bytes) cs

-- a name of one piece, read after this prefix
abbrev pub one_piece : Prefix → (may : Bool) → Fitting → Fitting
one_piece prefix may piece around allowed place cs = (around.prefix ≡ prefix) × (may ≡ true) × piece around allowed place cs

-- the first fact if a test holds, otherwise the second
unfoldable pub either : Bool → (one other : Type 0) → Type 0
either true one other = one
either false one other = other

-- ## Where types are

-- anywhere; directly under qualifiers; an item of a list; a parameter of a function type; the type of a literal
pub data Slot : Type 0 where
  any_type : Slot
  bare_type : Slot
  item_type : Slot
  parameter_type : Slot
  literal_type : Slot

-- all slots except that of a literal's type
unfoldable pub takes_all : Slot → Bool
takes_all literal_type = false
takes_all _ = true

-- all slots except that of a literal's type and that under qualifiers
unfoldable pub takes_qualified : Slot → Bool
takes_qualified bare_type = false
takes_qualified literal_type = false
takes_qualified _ = true

unfoldable pub takes_expansions : Slot → Bool
takes_expansions item_type = true
takes_expansions parameter_type = true
takes_expansions _ = false

-- a builtin type has one letter, or a D and a second letter
abbrev pub IsBuiltin : Slot → (code : List ℕ) → Type 0
IsBuiltin literal_type (b ∷ []) = (b < 256) × (choose Kind.LiteralType b ≡ Some Production.Builtin)
IsBuiltin slot (b ∷ []) = (b < 256) × (choose Kind.Solid b ≡ Some Production.Builtin)
IsBuiltin literal_type (d ∷ b ∷ []) = (d ≡ 68) × (b < 256) × (choose Kind.LiteralAfterD b ≡ Some Production.CharLiteral)
IsBuiltin slot (d ∷ b ∷ []) = (d ≡ 68) × (b < 256) × (choose Kind.AfterD b ≡ Some Production.BuiltinWithD)
IsBuiltin slot code = ⊥

abbrev pub IsAbbreviation : ℕ → Type 0
IsAbbreviation letter = (letter < 256) × (choose Kind.Abbreviation letter ≡ Some Production.Abbreviation)

unfoldable pub has_letters : Qualifiers → Bool
has_letters q = q.restrict || q.volatile || q.const

-- a parameter names an argument of the scope; if the argument is a pack, its length is allowed
pub record NamesArgument (around : Around) (allowed : Option ℕ) (k : ℕ) : Type 0 where
  pub arguments : Term
  pub scoped : around.scope ≡ Some arguments
  pub below : nat_lt k (count arguments) ≡ true
  pub packs : PacksFit around allowed (length_if_pack (element arguments k))

-- ## Where pieces of names are

-- the pieces that may be a type's name, come after St in a type, be the first piece of a name between N and E, or be a local
-- type's name
unfoldable pub begins_name : Term → Bool
begins_name (source internal name) = true
begins_name (lambda parameters k) = true
begins_name (unnamed k) = true
begins_name _ = false

-- the pieces that may be a type's name: those without the mark L
unfoldable pub names_type : Term → Bool
names_type (source internal name) = not internal
names_type p = begins_name p

-- the pieces that may be an encoding's own name, or come after St
unfoldable pub names_function : Term → Bool
names_function (operator a b) = true
names_function (literal_operator name) = true
names_function p = begins_name p

-- the pieces that may come after a prefix
unfoldable pub names_member : Term → Bool
names_member (constructor digit) = true
names_member (destructor digit) = true
names_member p = names_function p

-- the pieces that may be a local entity of an encoding
unfoldable pub names_entity : Term → Bool
names_entity string_literal = true
names_entity p = begins_name p

-- the number of a lambda or an unnamed type is at least 1, and has 64 bits
abbrev pub IsLocalNumber : ℕ → Type 0
IsLocalNumber k = (0 < k) × (nat_lt k (2 ^ 64) ≡ true)

-- ## Numbers

abbrev pub IsSpellableOffset : Adjustment → Type 0
IsSpellableOffset (non_virtual a) = IsSpellableNumber a
IsSpellableOffset (by_table a b) = IsSpellableNumber a × IsSpellableNumber b

abbrev pub IsSpellableThunk : Thunk → Type 0
IsSpellableThunk (adjusting a) = IsSpellableOffset a
IsSpellableThunk (covariant a b) = IsSpellableOffset a × IsSpellableOffset b

abbrev pub IsSpellableDiscriminator : Option (List ℕ) → Type 0
IsSpellableDiscriminator None = Unit {0}
IsSpellableDiscriminator (Some (d ∷ [])) = (d < 256) × (choose Kind.DiscriminatorRest d ≡ Some Production.OneDigit)
IsSpellableDiscriminator (Some digits) = AreSpellableDigits Digits digits

abbrev pub IsSpellableSuffix : List ℕ → Type 0
IsSpellableSuffix [] = Unit {0}
IsSpellableSuffix (dot ∷ []) = ⊥
IsSpellableSuffix (dot ∷ b ∷ bs) = (dot ≡ 46) × (b < 256) × (choose Kind.SuffixFirst b ≡ Some Production.SuffixByte) × AreSuffixBytes bs

-- each mark except that of an explicit object, which only the wide grammar reads
abbrev pub IsAbiMark : RefQualifier → Type 0
IsAbiMark explicit_object = ⊥
IsAbiMark _ = Unit {0}

-- ## The ways of a tree

-- a local entity as a type, or in an encoding's own name with the encoding's letters
pub data Role : Type 0 where
  in_type : Role
  in_name_with : Qualifiers → RefQualifier → Role

-- the mark of the encoding is one of the ABI's
abbrev pub IsAbiRole : Role → Type 0
IsAbiRole in_type = Unit {0}
IsAbiRole (in_name_with q ref) = IsAbiMark ref

unfoldable pub letters_of : Role → List ℕ
letters_of in_type = []
letters_of (in_name_with q ref) = name_letters q ref

-- the pieces that may be the whole entity, by its role
unfoldable pub names_in : Role → Term → Bool
names_in in_type p = begins_name p
names_in (in_name_with q ref) p = names_entity p

-- Where a tree can be, in each of its ways. The `_template` fields are for a template name whose arguments end a prefix, a name
-- between N and E, or an entity: a name that already ends in arguments can't be such a template name.
pub record Fits : Type 1 where
  pub as_type : Slot → Fitting
  pub as_prefix : Fitting
  pub as_prefix_template : Fitting
  pub between : Fitting
  pub between_template : Fitting
  pub as_entity : Role → Fitting
  pub as_entity_template : Fitting
  pub as_piece : Fitting
  pub as_encoding : (allowed : Option ℕ) → Standing
  pub as_name : Qualifiers → RefQualifier → Fitting
  pub before : (typed : Bool) → (arguments : Fitting) → Fitting
  pub as_argument : (in_pack : Bool) → Fitting
  pub as_parameters : Slot → Fitting
  pub as_more_parameters : Slot → Fitting
  pub as_elements : (in_pack : Bool) → Fitting

abbrev pub nowhere : Fitting
nowhere around allowed place cs = ⊥

abbrev pub anywhere : Fitting
anywhere around allowed place cs = Unit {0}

unfoldable pub fits_nowhere : Fits
fits_nowhere = record {
  as_type = λ slot. nowhere;
  as_prefix = nowhere;
  as_prefix_template = nowhere;
  between = nowhere;
  between_template = nowhere;
  as_entity = λ role. nowhere;
  as_entity_template = nowhere;
  as_piece = nowhere;
  as_encoding = λ allowed place cs. ⊥;
  as_name = λ q ref. nowhere;
  before = λ typed arguments. nowhere;
  as_argument = λ in_pack. nowhere;
  as_parameters = λ slot. nowhere;
  as_more_parameters = λ slot. nowhere;
  as_elements = λ in_pack. nowhere;
}

-- a component that isn't a name made of pieces: as a prefix and before arguments it can only be a reference
unfoldable pub type_fits : Term → (Slot → Fitting) → Fits
type_fits own spelled = record fits_nowhere {
  as_type = λ slot. as_component own (spelled slot);
  as_prefix = as_reference own;
  as_prefix_template = as_reference own;
  before = λ typed arguments. as_template own nowhere (λ n. text []) arguments;
  as_argument = λ in_pack. as_component own (spelled item_type);
}

unfoldable pub piece_fits : Fitting → Fits
piece_fits fitting = record fits_nowhere { as_piece = fitting }

unfoldable pub argument_fits : ((in_pack : Bool) → Fitting) → Fits
argument_fits fitting = record fits_nowhere { as_argument = fitting }

unfoldable pub encoding_fits : ((allowed : Option ℕ) → Standing) → Fits
encoding_fits standing = record fits_nowhere { as_encoding = standing }

-- there are no letters
abbrev pub IsWithoutLetters : List ℕ → Type 0
IsWithoutLetters [] = Unit {0}
IsWithoutLetters (l ∷ ls) = ⊥

-- a name that needs an N only for letters: without letters it is spelled alone; with letters it is spelled between N
-- and E, after the letters
unfoldable pub by_letters : (letters : List ℕ) → (own between : Fitting) → Fitting
by_letters [] own between = own
by_letters (l ∷ ls) own between = behind_bytes (codes "N" ++ l ∷ ls) between

-- where a tree can be
unfoldable pub fits_of : Term → Fits
fits_of (symbol e suffix) = fits_nowhere
-- encodings: an encoding's own name has no scope, and the encoding's types have the last arguments of that name as
-- their scope
fits_of (function name q ref returned parameters) =
    encoding_fits (λ allowed here cs.
    (fits_of name).as_name q ref (in_name here) allowed here cs
    × Behind ((ways_of here name).as_name (name_letters q ref)) (λ place ds. either (has_return_type name)
    ((fits_of returned).as_type item_type (in_types here name) allowed place ds) (returned ≡ absent)) here cs
    × Behind ((ways_of here name).as_name (name_letters q ref) and (ways_of here returned).as_type)
    ((fits_of parameters).as_parameters item_type (in_types here name) allowed) here cs
    × IsAbiMark ref)
fits_of (object name q ref) = encoding_fits (λ allowed here cs. (fits_of name).as_name q ref (in_name here) allowed here cs × IsAbiMark ref)
fits_of (special l type) =
    encoding_fits (λ allowed here cs.
    (l < 256) × (choose Kind.Special l ≡ Some Production.SpecialType) × (fits_of type).as_type any_type (in_name here) allowed (here + 2) cs)
fits_of (thunk kind e) =
    encoding_fits (λ allowed here cs. IsSpellableThunk kind × Behind (text (thunk_text kind)) ((fits_of e).as_encoding allowed) here cs)
fits_of (of_name l name q ref) = encoding_fits (λ allowed here cs. (l ≡ 86) × (fits_of name).as_name q ref (in_name here) allowed (here + 2) cs × IsAbiMark ref)
-- a piece alone
fits_of (alone p) = record fits_nowhere {
  as_type = λ slot. as_component (alone p) (one_piece outermost (names_type p) (fits_of p).as_piece);
  as_prefix = as_component (alone p) (one_piece outermost (begins_name p) (fits_of p).as_piece);
  as_prefix_template = as_component (alone p) (one_piece outermost (begins_name p) (fits_of p).as_piece);
  as_name = λ q ref around allowed place cs.
      IsWithoutLetters (name_letters q ref) × one_piece outermost (names_function p) (fits_of p).as_piece around allowed place cs;
  before = λ typed. as_template (alone p) (one_piece outermost (elim typed [ true ↦ names_type p | false ↦ names_function p ])
      (fits_of p).as_piece)
      (λ n. (ways_of n p).as_piece);
  as_argument = λ in_pack. as_component (alone p) (one_piece outermost (names_type p) (fits_of p).as_piece);
}
-- a piece after St; in a type, an operator is between N and E
fits_of (in_std p) =
    let std : Fitting = λ around allowed place cs. (names_function p ≡ true) × (fits_of p).as_piece around allowed (place + 2) cs in
    let typed_std : Fitting = behind_bytes (elim (is_operator p) [ true ↦ codes "N" | false ↦ [] ]) std in
    record fits_nowhere {
      as_type = λ slot. as_component (in_std p) typed_std;
      as_prefix = as_component (in_std p) std;
      as_prefix_template = as_component (in_std p) std;
      between = std;
      between_template = std;
      as_entity = λ role. behind_bytes (codes "N" ++ letters_of role) std;
      as_name = λ q ref. by_letters (name_letters q ref) std std;
      before = λ typed. as_template (in_std p) (elim typed [ true ↦ typed_std | false ↦ std ])
          (λ n. text (elim (typed && is_operator p) [ true ↦ codes "N" | false ↦ [] ]) and text (codes "St") and (ways_of n p).as_piece);
      as_argument = λ in_pack. as_component (in_std p) typed_std;
    }
-- a piece after a prefix; after an encoding, it is the first piece of an entity's name
fits_of (within prefix p) =
    let joined : Fitting = λ around allowed place cs.
    (fits_of prefix).as_prefix around allowed place cs
    × (names_member p ≡ true)
    × Behind (ways_of around.encoding prefix).as_prefix ((fits_of p).as_piece (after prefix true around) allowed) place cs in
    let local_piece : (may : Bool) → Fitting = λ may around allowed place cs.
    (is_encoding prefix ≡ true) × one_piece (behind prefix true) may (fits_of p).as_piece around allowed place cs in
    let begun : Fitting = λ around allowed place cs. local_piece (begins_name p) around allowed place cs ⊎ joined around allowed place cs in
    record fits_nowhere {
      as_type = λ slot. as_component (within prefix p) (behind_bytes (codes "N") joined);
      as_prefix = as_component (within prefix p) begun;
      as_prefix_template = as_component (within prefix p) begun;
      between = joined;
      between_template = joined;
      as_entity = λ role around allowed place cs.
          (IsWithoutLetters (letters_of role) × local_piece (names_in role p) around allowed place cs)
          ⊎ behind_bytes (codes "N" ++ letters_of role) joined around allowed place cs;
      as_entity_template = local_piece (begins_name p);
      as_name = λ q ref. behind_bytes (codes "N" ++ name_letters q ref) joined;
      before = λ typed. as_template (within prefix p) (behind_bytes (codes "N") joined) (λ n. text (codes "N") and (ways_of n
          (within prefix p)).between_N_and_E);
      as_argument = λ in_pack. as_component (within prefix p) (behind_bytes (codes "N") joined);
    }
fits_of (instance template arguments) =
    let elements : Fitting = λ around allowed place cs. (fits_of arguments).as_elements false (inside around) allowed (place + 1) cs in
    let joined : Fitting = λ around allowed place cs.
    (fits_of template).between_template around allowed place cs
    × Behind ((ways_of around.encoding template).between_N_and_E and ended around.encoding template) (elements around allowed) place cs in
    record fits_nowhere {
      as_type = λ slot. as_component (instance template arguments) ((fits_of template).before true elements);
      as_prefix = as_component (instance template arguments) (λ around allowed place cs.
          (fits_of template).as_prefix_template around allowed place cs
          × Behind (ways_of around.encoding template).as_prefix (elements around allowed) place cs);
      as_prefix_template = as_reference (instance template arguments);
      between = joined;
      as_entity = λ role around allowed place cs.
          (IsWithoutLetters (letters_of role)
          × (fits_of template).as_entity_template around allowed place cs
          × Behind ((ways_of around.encoding template).between_N_and_E and ended around.encoding template) (elements around allowed) place cs)
          ⊎ behind_bytes (codes "N" ++ letters_of role) joined around allowed place cs;
      as_name = λ q ref. by_letters (name_letters q ref) ((fits_of template).before false elements) joined;
      before = λ typed more. as_template (instance template arguments) nowhere (λ n. text []) more;
      as_argument = λ in_pack. as_component (instance template arguments) ((fits_of template).before true elements);
    }
-- an entity in the scope of an encoding
fits_of (local e entity discriminator) =
    let spelled : Role → Fitting = λ role around allowed place cs.
    (fits_of e).as_encoding allowed (place + 1) cs
    × Behind (text (codes "Z") and (ways_of around.encoding e).as_encoding and text (codes "E"))
    ((fits_of entity).as_entity role (after e true around) allowed) place cs
    × IsSpellableDiscriminator discriminator in
    record (type_fits (local e entity discriminator) (λ slot. spelled in_type)) { as_name = λ q ref. spelled (in_name_with q ref) }
-- only the wide grammar reads tags, but a reference to a name with a tag may come where any other reference may
fits_of (tagged of_structor name tag) = type_fits (tagged of_structor name tag) (λ slot. nowhere)
fits_of (abbreviation l) =
    let lettered : Fitting = λ around allowed place cs. IsAbbreviation l in
    record fits_nowhere {
      as_type = λ slot. lettered;
      as_prefix = lettered;
      as_prefix_template = lettered;
      before = λ typed arguments around allowed place cs. IsAbbreviation l × arguments around allowed (place + 2) cs;
      as_argument = λ in_pack. lettered;
    }
-- a parameter names an argument of the scope
fits_of (parameter k) =
    let spelled : Fitting = λ around allowed place cs. NamesArgument around allowed k in
    record (type_fits (parameter k) (λ slot. spelled)) {
      as_prefix = as_component (parameter k) spelled;
      as_prefix_template = as_component (parameter k) spelled;
      before = λ typed arguments around allowed place cs.
          as_component (parameter k) (elim typed [ true ↦ spelled | false ↦ nowhere ]) around allowed place cs
          × Behind (ways_of around.encoding (parameter k)).as_type (arguments around allowed) place cs;
    }
-- pieces
fits_of (source internal name) = piece_fits (λ around allowed place cs. IsSpellableName name)
fits_of (operator a b) = piece_fits (λ around allowed place cs. (a < 256) × (b < 256) × IsOperator a b)
fits_of (literal_operator name) = piece_fits (λ around allowed place cs. IsSpellableName name)
fits_of (constructor digit) = piece_fits (λ around allowed place cs. (digit < 256)
    × (choose Kind.ConstructorDigit digit ≡ Some Production.Mark))
fits_of (destructor digit) = piece_fits (λ around allowed place cs. (digit < 256)
    × (choose Kind.ComponentAfterD digit ≡ Some Production.Mark))
fits_of (lambda parameters k) =
    piece_fits (λ around allowed place cs. (fits_of parameters).as_parameters item_type (in_signature around) allowed (place + 2) cs
    × IsLocalNumber k)
fits_of (unnamed k) = piece_fits (λ around allowed place cs. IsLocalNumber k)
fits_of string_literal = piece_fits anywhere
-- types that are no components
fits_of (builtin code) = record fits_nowhere {
  as_type = λ slot around allowed place cs. IsBuiltin slot code;
  as_argument = λ in_pack around allowed place cs. IsBuiltin item_type code;
}
-- types
fits_of (vendor name) = type_fits (vendor name) (λ slot around allowed place cs. (takes_all slot ≡ true) × IsSpellableName name)
fits_of (member_pointer class member) =
    type_fits (member_pointer class member) (λ slot around allowed place cs.
    (fits_of class).as_type any_type around allowed (place + 1) cs
    × Behind (text (codes "M") and (ways_of around.encoding class).as_type) ((fits_of member).as_type any_type around allowed) place cs)
-- a function type directly under qualifiers is no component
fits_of (function_type c_linkage noexcept ref returned parameters) =
    let marks : List ℕ = cond noexcept (codes "Do") [] ++ codes "F" ++ cond c_linkage (codes "Y") [] in
    let spelled : Fitting = λ around allowed place cs.
    (fits_of returned).as_type any_type around allowed (place + length marks) cs
    × Behind (text marks and (ways_of around.encoding returned).as_type)
    ((fits_of parameters).as_parameters parameter_type around allowed) place cs
    × IsAbiMark ref in
    let own : Term = function_type c_linkage noexcept ref returned parameters in
    let all_slots : Slot → Fitting = λ slot around allowed place cs. (takes_all slot ≡ true) × spelled around allowed place cs in
    record (type_fits own all_slots) {
      as_type = λ slot. elim slot [
        | bare_type ↦ spelled
        | any_type ↦ as_component own spelled
        | item_type ↦ as_component own spelled
        | parameter_type ↦ as_component own spelled
        | literal_type ↦ as_reference own
      ];
    }
-- packs under an expansion have a length of their own
fits_of (expansion pattern) =
    type_fits (expansion pattern) (λ slot around allowed place cs.
    (takes_expansions slot ≡ true)
    × ((inner : Option ℕ) × (fits_of pattern).as_type any_type (under_expansion around) inner (place + 2) cs))
-- arguments
fits_of (integer type value) =
    argument_fits (λ in_pack around allowed place cs. (fits_of type).as_type literal_type around allowed (place + 1) cs
    × IsSpellableNumber value)
fits_of (boolean truth) = argument_fits (λ in_pack. anywhere)
fits_of null_pointer = argument_fits (λ in_pack. anywhere)
fits_of (encoding_literal e) = argument_fits (λ in_pack around allowed place cs. (fits_of e).as_encoding allowed (place + 3) cs)
fits_of (address_of e) = argument_fits (λ in_pack around allowed place cs. (fits_of e).as_encoding allowed (place + 6) cs)
fits_of (pack elements) =
    argument_fits (λ in_pack around allowed place cs.
    (in_pack ≡ false) × (fits_of elements).as_elements true around allowed (place + 1) cs)
-- lists; an empty list of parameters is spelled as a lone void
fits_of nil = record fits_nowhere {
  as_parameters = λ slot. anywhere;
  as_more_parameters = λ slot. anywhere;
  as_elements = λ in_pack. anywhere;
}
fits_of (list first rest) =
    let more : Slot → Fitting = λ slot around allowed place cs.
    (fits_of first).as_type slot around allowed place cs
    × Behind (ways_of around.encoding first).as_type ((fits_of rest).as_more_parameters slot around allowed) place cs in
    record fits_nowhere {
      as_parameters = λ slot around allowed place cs. (is_void first && is_nil rest ≡ false) × more slot around allowed place cs;
      as_more_parameters = more;
      as_elements = λ in_pack around allowed place cs.
          (fits_of first).as_argument in_pack around allowed place cs
          × Behind (ways_of around.encoding first).as_argument ((fits_of rest).as_elements in_pack around allowed) place cs;
    }
-- Generated by tools/trees.py. Only the wide grammar reads construction vtables, clones, entities whose initializers hold others, inherited constructors, lambdas
-- with parameters of their own, conversions, floats with a number of bits, entities of default arguments, and expressions.
fits_of (construction derived digits parent) = fits_nowhere
fits_of (clone letter e) = fits_nowhere
fits_of (holder name) = fits_nowhere
fits_of (of_default digits entity) = fits_nowhere
fits_of (inheriting digit class) = fits_nowhere
fits_of (generic_lambda parameters number) = fits_nowhere
fits_of (conversion type) = fits_nowhere
fits_of (enumeration type name) = fits_nowhere
fits_of (bindings names) = fits_nowhere
fits_of (declaring heads parameters) = fits_nowhere
fits_of (sized_float digits end) = fits_nowhere
fits_of (constrained letter concept) = fits_nowhere
fits_of (pointer type) = type_fits (pointer type) (λ slot around allowed place cs. behind_bytes (codes "P") ((fits_of type).as_type any_type) around allowed place cs)
fits_of (lvalue type) = type_fits (lvalue type) (λ slot around allowed place cs. (takes_all slot ≡ true) × behind_bytes (codes "R") ((fits_of type).as_type any_type) around allowed place cs)
fits_of (rvalue type) = type_fits (rvalue type) (λ slot around allowed place cs. (takes_all slot ≡ true) × behind_bytes (codes "O") ((fits_of type).as_type any_type) around allowed place cs)
fits_of (array digits type) = type_fits (array digits type) (λ slot around allowed place cs. (takes_all slot ≡ true) × AreSpellableDigits Decimal digits × behind_bytes (codes "A" ++ digits ++ codes "_") ((fits_of type).as_type any_type) around allowed place cs)
fits_of (bounded bound type) = fits_nowhere
fits_of (qualified q type) = type_fits (qualified q type) (λ slot around allowed place cs. (takes_qualified slot ≡ true) × (has_letters q ≡ true) × behind_bytes (qualifier_letters q) ((fits_of type).as_type bare_type) around allowed place cs)
fits_of (vector digits type) = type_fits (vector digits type) (λ slot around allowed place cs. (takes_all slot ≡ true) × AreSpellableDigits Digits digits × behind_bytes (codes "Dv" ++ digits ++ codes "_") ((fits_of type).as_type any_type) around allowed place cs)
fits_of (complex type) = type_fits (complex type) (λ slot around allowed place cs. (takes_all slot ≡ true) × behind_bytes (codes "C") ((fits_of type).as_type any_type) around allowed place cs)
fits_of (decltype operand) = fits_nowhere
fits_of (operation one two u w) = fits_nowhere
fits_of (function_parameter digits) = fits_nowhere
fits_of absent = fits_nowhere

-- a symbol that can be spelled from the first byte on
abbrev pub SymbolFits : Term → Type 0
SymbolFits (symbol e suffix) = (fits_of e).as_encoding None 2 [] × IsSpellableSuffix suffix
SymbolFits _ = ⊥
