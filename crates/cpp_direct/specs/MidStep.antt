-- Where a writer is between two of its functions, within a step.
use Rattle.std.specs.Prelude.{◌≡◌, ◌≢◌, ◌⊎◌, ℕ, zero, suc, ◌+◌, List, [], ◌∷◌, ◌++◌, length, reverse, ◌≤◌, Bool, true, false, cond, Some, codes, ◌-◌, take, drop, slice_get, nat_eq}
use Rattle.std.specs.List.{ends_with}
use Rattle.cpp_direct.specs.Written.{Reads, Writes}
use Rattle.cpp_direct.specs.HolesOfLists.{IsArgumentKind}
use Rattle.cpp_direct.specs.WrittenParts.{IsUnmarked, opening_bracket}
use Rattle.sym_print.specs.declared.detail.Detail.{Detail}
use Rattle.cpp_grammar.specs.declared.kind.Kind.{Kind}
use Rattle.cpp_grammar.specs.Term.{Term, Signed, absent, array, function, instance, builtin}
use Rattle.cpp_grammar.specs.Texts.{look_up, builtin_texts, literal_endings}
use Rattle.cpp_grammar.specs.Parts.{is_plain_integer, types_of}
use Rattle.cpp_grammar.specs.Scope.{has_return_type, is_structor}
use Rattle.cpp_grammar.specs.Between.{after, in_name, with_tag}
use Rattle.cpp_grammar.specs.Meaning.{encoding_of}
use Rattle.cpp_grammar.specs.Values as values
use Rattle.cpp_grammar.specs.Values.{State, Around, Value, nothing_there, tree, outermost}
use Rattle.cpp_direct.specs.Symbol.{Symbol, detail_of}
use Rattle.cpp_direct.specs.Bytes.{is_local}
use Rattle.cpp_direct.specs.declared.open.Mark.{Mark}
use Rattle.cpp_direct.specs.declared.open.Candidate.{Candidate}
use Rattle.cpp_direct.specs.declared.open.Access.{Access}
use Rattle.cpp_direct.specs.declared.open.Pattern.{Pattern}
use Rattle.cpp_direct.specs.declared.open.Purpose.{Purpose}
use Rattle.cpp_direct.specs.declared.open.Purpose.TheVariants as purposes
use Rattle.cpp_direct.specs.declared.open.Open.{Open}
use Rattle.cpp_direct.specs.declared.open.Arguments.{Arguments}
use Rattle.cpp_direct.specs.declared.open.Open.TheVariants as opens
use Rattle.cpp_direct.specs.declared.direct.Direct.{Direct}
use Rattle.cpp_direct.specs.Holes.{Opened, StandsAt, Comes, Expects, ListGoesOn, IsReferable, IsTyped, TypeNamed, NestNamed, bare_name, with_candidate, IsSeqAt}
use Rattle.sym_core.specs.Value.{counted_value}
use Rattle.sym_core.specs.declared.NumberKind.TheVariants.{Seq36}
use Rattle.cpp_direct.specs.HolesOfFunctions.{SignatureGoesOn, plain_function, pointed, with_pointed}
use Rattle.cpp_direct.specs.HolesOfArrays.{accessed, with_accessed}
use Rattle.cpp_direct.specs.HolesOfLevels.{MemberComes}
use Rattle.cpp_direct.specs.HolesOfTypes.{IsNamedKind, NoReference, TreeOpens}
use Rattle.cpp_direct.specs.Marks.{has_const, called_on, mark_text}
use Rattle.cpp_direct.specs.Prints.{NamesClass, Prints, PrintsName, IsElement, PrintAll, Shows, Encloses, sign_text, PrintsAs, PrintsIn, PrintAllAs, IsGiven, PrintAllBy, PrintsAround, PrintsListed, PrintsMade, pattern_letters}
use Rattle.cpp_direct.specs.WriterInvariant.{AwaitsItems, TakesItems, Encoded, EncodedBehind, Fronts, IsListing, IsTail, IsTemplate, GoesOn, EnumeratorGoesOn, of_template, Owns, ParametersGoOn, Serves, Stands, TakesFunction, opening_text, qualifiers, arguments_or_pack, extra_of, led_by, list_with, in_front_of_next, ComeBefore, AreAmong, HasArguments, HasNameSo, HasPack, IsAmong, IsPackOf, IsSingle, IsKnown, IsMadeIn, IsScoped, is_type, place_of, IsNaming, IsNestScoped, Scope, below, is_noted, may_name, encoding_place, IsNesting, Kept, IsBetween, AwaitsTypeIn, HasInstance, HasParameters, IsNestSoFar, FirstType, IsTaken}

-- the digits after the T of a parameter with this number; there is at most one digit
abbrev pub parameter_digits : (number : ℕ) → List ℕ
parameter_digits zero = []
parameter_digits (suc before) = (48 + before) ∷ []

-- the greatest number of a parameter that has at most one digit
abbrev pub most_by_digit : ℕ
most_by_digit = 10

-- each known argument was known before, or has this number, and its text is between the two places
abbrev pub KnowsMore : (old new : Arguments) → (number from to : ℕ) → (is_reference : Bool) → Type 0
KnowsMore old new number from to is_reference =
    (k : ℕ) → IsKnown new k
    → ((k ≡ number) × (place_of new k ≡ record { from = from; to = to; is_reference = is_reference })) ⊎ (IsKnown old k × (place_of new k ≡ place_of old k))

-- nothing is written yet, there is no candidate, and no entry is open
pub record IsFresh (w : Direct) : Type 0 where
  pub no_text : w.text.list.items ≡ []
  pub no_candidate : w.candidates.list.items ≡ []
  pub none_open : w.waiting.list.items ≡ []

-- an encoding is expected after what is written
pub record AwaitsEncoding (s : Symbol) (w : Direct) : Type 0 where
  pub kept : Kept s w
  pub open kept use *
  pub around : Around
  pub outer : List Opened
  pub begins : w.text.list.items ≡ [] → w.at ≡ encoding_place s.bytes
  pub awaits : Expects s Kind.Encoding around outer w.at state
  pub onward : (e : Term) (at : ℕ) (st : State) → Comes s outer (tree e true) at st → EncodedBehind s w.text.list.items e at st

-- the name of an encoding or of an object is expected
pub record AwaitsName (s : Symbol) (w : Direct) : Type 0 where
  pub kept : Kept s w
  pub open kept use *
  pub encoding : ℕ
  pub outer : List Opened
  pub awaits : Expects s Kind.CompleteName (in_name encoding) outer w.at state
  pub onward : (v : Value) (at : ℕ) (st : State) → Comes s outer v at st → AwaitsItems s w.text.list.items v at st

-- expects a source name as the name of an encoding, after the L of internal linkage or without an L
pub record AwaitsSource (s : Symbol) (w : Direct) (is_internal : Bool) : Type 0 where
  pub before : ℕ
  pub awaits : AwaitsEncoding s (record w { at = before })
  pub letter : is_internal ≡ true → StandsAt s.bytes before (76 ∷ [])
  pub at_is : w.at ≡ before + cond is_internal 1 0

-- the name of an encoding was read after a text; arguments or tags may follow it
pub record HasName (s : Symbol) (lead : List ℕ) (encoding : ℕ) (t : Term) (at : ℕ) (st : State) : Type 0 where
  pub inner : List Opened
  pub awaits : Expects s Kind.MaybeArguments (after t false (in_name encoding)) inner at st
  pub bare : (at : ℕ) (st : State) → Comes s inner nothing_there at st → AwaitsItems s lead (tree t false) at st
  pub argued : (a : Term) (at : ℕ) (st : State) → Comes s inner (tree a true) at st → AwaitsItems s lead (tree (instance t a) false) at st
  pub renamed : (u : Term) (at : ℕ) (st : State) → Comes s inner (bare_name u) at st → AwaitsItems s lead (tree u false) at st

-- The name of an encoding that is in no class was read, and written from a place on. If it `takes` arguments, they may follow.
pub record IsUnscoped (s : Symbol) (w : Direct) (from : ℕ) (takes : Bool) : Type 0 where
  pub kept : Kept s w
  pub open kept use *
  pub encoding : ℕ
  pub own : Term
  pub front : List ℕ
  pub bytes : List ℕ
  pub has : HasName s front encoding own w.at state
  pub written : w.text.list.items ≡ front ++ bytes
  pub from_is : from ≡ length front
  pub names : PrintsName (detail_of s) own bytes
  pub prints : takes ≡ true → Prints (detail_of s) own bytes false
  pub no_return : has_return_type own ≡ false
  pub no_structor : is_structor own ≡ false

-- a type is expected, as one of the kinds of types
pub record AwaitsType (s : Symbol) (w : Direct) : Type 0 where
  pub kept : Kept s w
  pub open kept use *
  pub awaited : AwaitsTypeIn s scope w
  pub open awaited use *
  pub kind : Kind
  pub typed : IsTyped kind
  pub referable : IsReferable kind ⊎ NoReference s.bytes w.at
  pub awaits : Expects s kind around os w.at state

-- expects a type that is a name
pub record AwaitsNamedType (s : Symbol) (w : Direct) : Type 0 where
  pub kept : Kept s w
  pub open kept use *
  pub awaited : AwaitsTypeIn s scope w
  pub open awaited use *
  pub kind : Kind
  pub is_named : IsNamedKind kind
  pub begins : TreeOpens s kind os around w.at state

-- A substitution was read for a type that names an argument of the function's template.
pub record IsNamedAgain (s : Symbol) (w : Direct) (k : Candidate) : Type 0 where
  pub before : ℕ
  pub awaits : AwaitsNamedType s (record w { at = before })
  pub letter : StandsAt s.bytes before (83 ∷ [])
  pub digits : List ℕ
  pub number : IsSeqAt s.bytes (before + 1) digits w.at
  pub found : slice_get w.candidates.list.items (counted_value Seq36 digits) ≡ Some k
  pub ordered : k.from ≤ k.to
  pub is : k.is_dependent ≡ true

-- the name of a type was read, and written from a place on; the type may be a candidate already
pub record IsTypeNamed (s : Symbol) (w : Direct) (from : ℕ) (is_listed is_reference : Bool) : Type 0 where
  pub kept : Kept s w
  pub open kept use *
  pub around : Around
  pub outside : around.prefix ≡ outermost
  pub outer : List Opened
  pub own : Term
  pub named : TypeNamed s outer around own is_listed w.at state
  pub front : List ℕ
  pub bytes : List ℕ
  pub written : w.text.list.items ≡ front ++ bytes
  pub from_is : from ≡ length front
  pub prints : Prints (detail_of s) own bytes is_reference
  pub no_reference : is_listed ≡ false → is_reference ≡ false
  pub stands : Stands s scope (reverse w.waiting.list.items) outer front
  pub scoped : IsScoped scope around (reverse w.waiting.list.items)

-- A type that the innermost entry is to mark was read. It was written from a place on, except for its mark.
pub record AwaitsMark (s : Symbol) (w : Direct) (mark : List ℕ) (from : ℕ) (is_reference is_dependent : Bool) : Type 0 where
  pub kept : Kept s w
  pub open kept use *
  pub entry : Open
  pub rest : List Open
  pub open_is : reverse w.waiting.list.items ≡ entry ∷ rest
  pub outer : List Opened
  pub made_in : Around
  pub made : Term
  pub comes : Comes s outer (tree made true) w.at (with_candidate made_in made state)
  pub front : List ℕ
  pub bytes : List ℕ
  pub written : w.text.list.items ≡ front ++ bytes
  pub from_is : from ≡ length front
  pub prints : PrintsAs (detail_of s) scope.names is_dependent made (bytes ++ mark) is_reference
  pub naming : is_dependent ≡ true → IsNaming scope rest
  pub made_here : is_dependent ≡ true → IsMadeIn scope made_in.encoding made_in.in_lambda
  pub stands : Stands s scope rest outer front

-- the entry that waits for an argument of a name, or for an element of a pack among the arguments
abbrev pub argument_entry : (is_pack : Bool) → (from number : ℕ) → (known : Arguments) → Open
argument_entry false from number known = opens.Argument from number known
argument_entry true from number known = opens.Element from number known

-- the entries that are open around an argument of a name, or around an element of a pack
abbrev pub argument_around : (is_pack : Bool) → (owner : Open) → (rest : List Open) → List Open
argument_around false owner rest = owner ∷ rest
argument_around true owner rest = opens.Pack ∷ owner ∷ rest

-- A type or a literal was read after `number` others, as an argument of a name or as an element of a pack among the
-- arguments.
pub record IsArgumentRead (s : Symbol) (w : Direct) (is_pack : Bool) (from number : ℕ) (known : Arguments) (is_reference : Bool) : Type 0 where
  pub kept : Kept s w
  pub open kept use *
  pub owner : Open
  pub rest : List Open
  pub open_is : reverse w.waiting.list.items ≡ argument_entry is_pack from number known ∷ argument_around is_pack owner rest
  pub front : List ℕ
  pub template : Term
  pub name : List ℕ
  pub ts : List Term
  pub texts : List ℕ
  pub t : Term
  pub bytes : List ℕ
  pub is_template : IsTemplate (detail_of s) scope.names owner front template name w.text.list.items
  pub before : List Term
  pub before_text : List ℕ
  pub come_before : ComeBefore (detail_of s) is_pack known before before_text
  pub elements : PrintAll (detail_of s) (extra_of (arguments_or_pack is_pack before before_text)) ts texts
  pub written : w.text.list.items ≡ (led_by (detail_of s) (arguments_or_pack is_pack before before_text) front name ++ in_front_of_next ts texts) ++ bytes
  pub from_is : from ≡ length (led_by (detail_of s) (arguments_or_pack is_pack before before_text) front name ++ in_front_of_next ts texts)
  pub number_is : number ≡ length (before ++ ts)
  pub among : AreAmong is_pack (detail_of s) w.text.list.items known (before ++ ts)
  pub prints : PrintsListed is_pack (detail_of s) t bytes is_reference
  pub goes : GoesOn s (arguments_or_pack is_pack before before_text) owner (below s scope rest) front template (ts ++ t ∷ []) w.at state

-- Expects another argument or element after `last` + 1 arguments; `known` are the known arguments.
pub record AwaitsKnownArgument (s : Symbol) (w : Direct) (is_pack : Bool) (last : ℕ) (known : Arguments) : Type 0 where
  pub kept : Kept s w
  pub open kept use *
  pub owner : Open
  pub rest : List Open
  pub open_is : reverse w.waiting.list.items ≡ argument_around is_pack owner rest
  pub front : List ℕ
  pub template : Term
  pub name : List ℕ
  pub ts : List Term
  pub texts : List ℕ
  pub is_template : IsTemplate (detail_of s) scope.names owner front template name w.text.list.items
  pub before : List Term
  pub before_text : List ℕ
  pub come_before : ComeBefore (detail_of s) is_pack known before before_text
  pub elements : PrintAll (detail_of s) (extra_of (arguments_or_pack is_pack before before_text)) ts texts
  pub some : ts ≢ []
  pub written : w.text.list.items ≡ led_by (detail_of s) (arguments_or_pack is_pack before before_text) front name ++ texts
  pub number_is : last + 1 ≡ length (before ++ ts)
  pub among : AreAmong is_pack (detail_of s) w.text.list.items known (before ++ ts)
  pub goes : GoesOn s (arguments_or_pack is_pack before before_text) owner (below s scope rest) front template ts w.at state

-- the first piece of a nested name is expected
pub record AwaitsNest (s : Symbol) (w : Direct) (purpose : Purpose) : Type 0 where
  pub kept : Kept s w
  pub open kept use *
  pub around : Around
  pub outside : around.prefix ≡ outermost
  pub outer : List Opened
  pub awaits : Expects s Kind.Nest around outer w.at state
  pub scoped : is_type purpose ≡ true → IsScoped scope around (reverse w.waiting.list.items)
  pub serves : Serves s purpose (below s scope (reverse w.waiting.list.items)) outer w.text.list.items

-- A substituted name was read at the front of a nested one.
pub record IsNestKnown (s : Symbol) (w : Direct) : Type 0 where
  pub kept : Kept s w
  pub open kept use *
  pub own : Term
  pub nesting : IsNesting s scope Kind.NestRestOrEnd w own state
  pub listed : w.nest.is_listed ≡ true
  pub no_structor : w.nest.has_class ≡ true → is_structor own ≡ false

-- A component of a nested name, or a name in std, was read. Arguments or tags may follow it.
pub record IsNestNamed (s : Symbol) (w : Direct) : Type 0 where
  pub kept : Kept s w
  pub open kept use *
  pub own : Term
  pub so_far : IsNestSoFar s scope w own
  pub open so_far use *
  pub named : NestNamed s outer around own w.at state
  pub names_tagged : w.nest.has_class ≡ true → w.nest.is_dependent ≡ false → (tag : List ℕ) → IsUnmarked tag → NamesClass (detail_of s) (with_tag own tag) is_nest.class
  pub unlisted : w.nest.is_listed ≡ false
  pub no_instance : w.nest.is_instance ≡ false
  pub no_return : has_return_type own ≡ false
  pub structor : w.nest.has_class ≡ false → is_structor own ≡ true
  pub no_structor : w.nest.has_class ≡ true → is_structor own ≡ false

-- An operator that ends a nested name was read: no arguments are read after it.
pub record IsOperatorRead (s : Symbol) (w : Direct) : Type 0 where
  pub kept : Kept s w
  pub open kept use *
  pub around : Around
  pub outer : List Opened
  pub own : Term
  pub named : NestNamed s outer around own w.at state
  pub front : List ℕ
  pub bytes : List ℕ
  pub written : w.text.list.items ≡ front ++ bytes
  pub from_is : w.nest.from ≡ length front
  pub prints : PrintsName (detail_of s) own bytes
  pub no_return : has_return_type own ≡ false
  pub serves : Serves s w.nest.purpose (below s scope (reverse w.waiting.list.items)) outer front

-- A constructor or a destructor was read, and was written except for the name of its class.
pub record AwaitsClass (s : Symbol) (w : Direct) : Type 0 where
  pub kept : Kept s w
  pub open kept use *
  pub around : Around
  pub outer : List Opened
  pub own : Term
  pub named : NestNamed s outer around own w.at state
  pub front : List ℕ
  pub bytes : List ℕ
  pub written : w.text.list.items ≡ front ++ bytes
  pub from_is : w.nest.from ≡ length front
  pub class : List ℕ
  pub class_placed : IsBetween w.text.list.items w.nest.class_from w.nest.class_to class
  pub closed : w.nest.is_dependent ≡ false
  pub scoped : IsNestScoped s scope w around
  pub prints : Prints (detail_of s) own (bytes ++ class) false
  pub no_return : has_return_type own ≡ false
  pub structor : is_structor own ≡ true
  pub serves : Serves s w.nest.purpose (below s scope (reverse w.waiting.list.items)) outer front

-- the known arguments are at their places, and so are the known elements of a pack
abbrev pub AreKnown : (detail : Detail) (text : List ℕ) → Arguments → List Term → (tail : Term) → Type 0
AreKnown detail text a ts tail =
    ((number : ℕ) → IsSingle a number → IsAmong false detail text (place_of a number) number ts)
    × (a.has_pack ≡ true → (es : List Term) × HasPack (list_with ts tail) a.before es × IsPackOf detail text a es)

-- The innermost argument list has been read up to its E; its closing bracket is still to be written. The known arguments are at
-- their places.
pub record IsListEnded (s : Symbol) (w : Direct) (argument : Arguments) : Type 0 where
  pub kept : Kept s w
  pub open kept use *
  pub owner : Open
  pub rest : List Open
  pub open_is : reverse w.waiting.list.items ≡ owner ∷ rest
  pub front : List ℕ
  pub template : Term
  pub name : List ℕ
  pub ts : List Term
  pub tail : Term
  pub is_tail : IsTail tail
  pub arguments : List ℕ
  pub is_template : IsTemplate (detail_of s) scope.names owner front template name w.text.list.items
  pub elements : PrintAllAs (detail_of s) scope.names (is_noted owner) 3 ts arguments
  pub written : w.text.list.items ≡ front ++ name ++ opening_bracket (detail_of s) ++ arguments
  pub owns : Owns s owner (below s scope rest) front (instance template (list_with ts tail)) w.at state
  pub known : AreKnown (detail_of s) w.text.list.items argument ts tail

-- Expects an element of a list. The text before the element is written, with a comma if other elements precede it.
pub record AwaitsNextArgument (s : Symbol) (w : Direct) : Type 0 where
  pub kept : Kept s w
  pub open kept use *
  pub place : IsListing (detail_of s) scope.names (reverse w.waiting.list.items) w.text.list.items
  pub ts : List Term
  pub texts : List ℕ
  pub elements : PrintAllAs (detail_of s) scope.names (may_name place.listing place.owner) (extra_of place.listing) ts texts
  pub written : w.text.list.items ≡ led_by (detail_of s) place.listing place.front place.name ++ in_front_of_next ts texts
  pub goes : GoesOn s place.listing place.owner (below s scope place.rest) place.front place.template ts w.at state

-- A literal of a builtin type, which is an element of a list, was read and written.
pub record IsLiteralRead (s : Symbol) (old new : Direct) : Type 0 where
  pub own : Term
  pub bytes : List ℕ
  pub prints : Prints (detail_of s) own bytes false
  pub reads : Reads old new bytes
  pub goes_on : (kind : Kind) (around : Around) (os : List Opened) (st : State) → IsArgumentKind kind → Expects s kind around os old.at st
      → ListGoesOn s kind os around own new.at st

-- The type of an enumerator, which is an element, was read. Expects the enumerator's number.
pub record AwaitsNumber (s : Symbol) (w : Direct) : Type 0 where
  pub kept : Kept s w
  pub open kept use *
  pub opened : List Open
  pub open_is : reverse w.waiting.list.items ≡ opens.Enumerator ∷ opened
  pub place : IsListing (detail_of s) scope.names opened w.text.list.items
  pub ts : List Term
  pub texts : List ℕ
  pub elements : PrintAllAs (detail_of s) scope.names (may_name place.listing place.owner) (extra_of place.listing) ts texts
  pub type : Term
  pub bytes : List ℕ
  pub is_reference : Bool
  pub prints : Prints (detail_of s) type bytes is_reference
  pub written : w.text.list.items ≡ led_by (detail_of s) place.listing place.front place.name ++ in_front_of_next ts texts ++ codes "(" ++ bytes
  pub goes : EnumeratorGoesOn s place.listing place.owner (below s scope place.rest) place.front place.template ts type w.at state

-- Likewise for an enumerator that is an argument of a name: `number` others precede it, and its text begins at `from`.
pub record AwaitsArgumentNumber (s : Symbol) (w : Direct) (from number : ℕ) (known : Arguments) : Type 0 where
  pub kept : Kept s w
  pub open kept use *
  pub owner : Open
  pub rest : List Open
  pub open_is : reverse w.waiting.list.items ≡ opens.ArgumentEnumerator from number known ∷ owner ∷ rest
  pub front : List ℕ
  pub template : Term
  pub name : List ℕ
  pub ts : List Term
  pub texts : List ℕ
  pub is_template : IsTemplate (detail_of s) scope.names owner front template name w.text.list.items
  pub elements : PrintAll (detail_of s) 3 ts texts
  pub no_pack : known.has_pack ≡ false
  pub type : Term
  pub bytes : List ℕ
  pub is_reference : Bool
  pub prints : Prints (detail_of s) type bytes is_reference
  pub from_is : from ≡ length (led_by (detail_of s) of_template front name ++ in_front_of_next ts texts)
  pub written : w.text.list.items ≡ led_by (detail_of s) of_template front name ++ in_front_of_next ts texts ++ codes "(" ++ bytes
  pub number_is : number ≡ length ts
  pub among : AreAmong false (detail_of s) w.text.list.items known ts
  pub goes : EnumeratorGoesOn s of_template owner (below s scope rest) front template ts type w.at state

-- The text doesn't end in the name of a type whose integers omit the type.
pub record EndsOtherwise (text : List ℕ) : Type 0 where
  pub int : ends_with nat_eq text (codes "(int") ≡ false
  pub blank_int : ends_with nat_eq text (codes " int") ≡ false
  pub long : ends_with nat_eq text (codes "(long") ≡ false
  pub blank_long : ends_with nat_eq text (codes " long") ≡ false

-- An instance was read and written for an element that is a member of it. Expects the member's name, between two Es.
pub record AwaitsMember (s : Symbol) (w : Direct) (is_dependent : Bool) : Type 0 where
  pub kept : Kept s w
  pub open kept use *
  pub outer : List Opened
  pub own : Term
  pub front : List ℕ
  pub bytes : List ℕ
  pub written : w.text.list.items ≡ front ++ bytes
  pub prints : PrintsAs (detail_of s) scope.names is_dependent own bytes false
  pub naming : is_dependent ≡ true → IsNaming scope (reverse w.waiting.list.items)
  pub follows : MemberComes s outer own w.at state
  pub stands : Stands s scope (reverse w.waiting.list.items) outer front

-- The name of an encoding was read and written from a place on, except for its qualifier. The known arguments that the name ends
-- in are at their places.
pub record IsNameEnded (s : Symbol) (w : Direct) (mark : Mark) (is_instance : Bool) (argument : Arguments) (from : ℕ) : Type 0 where
  pub kept : Kept s w
  pub open kept use *
  pub has : HasNameSo s w.text.list.items mark from
  pub open has use *
  pub no_return : is_instance ≡ false → has_return_type own ≡ false
  pub returns : is_instance ≡ true → has_return_type own ≡ true
  pub names : HasArguments (detail_of s) w.text.list.items argument own
  pub awaits : AwaitsItems s lead v w.at state

-- Likewise, and types may name the known arguments from here on.
pub record IsNameScoped (s : Symbol) (w : Direct) (mark : Mark) (is_instance : Bool) (argument : Arguments) (from : ℕ) : Type 0 where
  pub ended : IsNameEnded s w mark is_instance argument from
  pub given : IsGiven (detail_of s) ended.scope.names (types_of ended.own)
  pub named : ended.scope.arguments ≡ argument
  pub items : TakesItems s ended.lead ended.v w.at ended.state
  pub encoded : argument.encoding ≢ 0 → (from ≡ 0) × (argument.encoding ≡ encoding_place s.bytes)

-- The return type of a function was read, and written after the function's name and the text before the name.
pub record IsFrontRead (s : Symbol) (w : Direct) (mark : Mark) (start : ℕ) (argument : Arguments) : Type 0 where
  pub kept : Kept s w
  pub open kept use *
  pub front : List ℕ
  pub has : HasInstance s scope front mark start argument
  pub open has use *
  pub returned : Term
  pub bytes : List ℕ
  pub is_reference : Bool
  pub prints : PrintsIn (detail_of s) (types_of is_instance.own) 3 returned bytes is_reference
  pub written : w.text.list.items ≡ front ++ bytes
  pub goes : ParametersGoOn s argument lead (encoding_of v) (returned ∷ []) w.at state

-- A function's name was read and written, with what precedes the name. Expects the function's parameters.
pub record AwaitsParameters (s : Symbol) (w : Direct) (mark : Mark) (start : ℕ) (argument : Arguments) : Type 0 where
  pub kept : Kept s w
  pub open kept use *
  pub has : HasParameters s 3 scope w.text.list.items mark start argument [] []
  pub open has use *
  pub written : w.text.list.items ≡ front
  pub goes : ParametersGoOn s argument lead make [] w.at state

-- an entry that accepts only types that name no argument of the function's template
abbrev pub IsPassedClosed : Open → Type 0
IsPassedClosed (opens.Pointer from) = ⊥
IsPassedClosed (opens.Lvalue from) = ⊥
IsPassedClosed (opens.Rvalue from) = ⊥
IsPassedClosed (opens.Const from) = ⊥
IsPassedClosed (opens.Front mark start argument) = ⊥
IsPassedClosed (opens.Parameters mark start argument) = ⊥
IsPassedClosed _ = Unit {0}

-- an entry for arguments, as it is before and after the entry notes that one of them names an argument of the function's
-- template
abbrev pub IsDependentNow : (old new : Open) → Type 0
IsDependentNow (opens.TypeArguments from is_dependent) new = new ≡ opens.TypeArguments from true
IsDependentNow (opens.NestArguments nest) new = (nest.purpose ≡ purposes.Type) × (new ≡ opens.NestArguments (record nest { is_dependent = true }))
IsDependentNow (opens.FirstArguments nest) new = (nest.purpose ≡ purposes.Type) × (new ≡ opens.FirstArguments (record nest { is_dependent = true }))
IsDependentNow (opens.LevelArguments is_dependent) new = new ≡ opens.LevelArguments true
IsDependentNow _ new = ⊥

-- Parameters of a function were read: none if the first one is expected, and otherwise at least one. Each may cost `extra` beyond
-- its text.
pub record AreParametersRead (s : Symbol) (w : Direct) (extra : ℕ) (is_first : Bool) (mark : Mark) (start : ℕ) (argument : Arguments) : Type 0 where
  pub kept : Kept s w
  pub open kept use *
  pub rest : List Open
  pub open_is : reverse w.waiting.list.items ≡ opens.Parameters mark start argument ∷ rest
  pub ts : List Term
  pub none : is_first ≡ true → ts ≡ []
  pub some : is_first ≡ false → ts ≢ []
  pub texts : List ℕ
  pub has : HasParameters s extra scope w.text.list.items mark start argument ts texts
  pub open has use *
  pub written : w.text.list.items ≡ front ++ codes "(" ++ texts
  pub goes : ParametersGoOn s argument lead make ts w.at state

-- what precedes an element of a list: nothing before the first one, and a comma and a space before any other
abbrev pub separator : (is_first : Bool) → List ℕ
separator true = []
separator false = codes ", "

-- what precedes the element with this number in a list
abbrev pub comma_text : (number : ℕ) → List ℕ
comma_text zero = []
comma_text (suc k) = codes ", "

-- the letters of an expansion
abbrev pub expansion_letters : Pattern → (number : ℕ) → List ℕ
expansion_letters pattern number = 68 ∷ 112 ∷ (pattern_letters pattern ++ 84 ∷ (parameter_digits number ++ 95 ∷ []))

-- What a pattern makes of the first `number` elements of a pack was written.
pub record AreExpanded (detail : Detail) (pattern : Pattern) (old new : Direct) (ts : List Term) (number : ℕ) : Type 0 where
  pub done : List Term
  pub rest : List Term
  pub all : ts ≡ done ++ rest
  pub count : length done ≡ number
  pub bytes : List ℕ
  pub prints : PrintAllBy (PrintsMade detail pattern) done bytes
  pub writes : Writes old new bytes

-- A function was read and written except for its last bracket and its qualifiers.
pub record IsFunctionEnded (s : Symbol) (w : Direct) (mark : Mark) (start : ℕ) : Type 0 where
  pub kept : Kept s w
  pub open kept use *
  pub own : Term
  pub items : Term
  pub e : Term
  pub e_is : e ≡ function own (qualifiers (has_const mark)) (called_on mark) absent items
  pub front : List ℕ
  pub lead : List ℕ
  pub name : List ℕ
  pub texts : List ℕ
  pub prints : PrintsName (detail_of s) own name
  pub fronts : Fronts s.is_bare front start lead name
  pub written : w.text.list.items ≡ front ++ codes "(" ++ texts
  pub shows : s.is_bare ≡ false → Shows (detail_of s) e (name ++ codes "(" ++ texts ++ codes ")" ++ mark_text mark)
  pub behind : EncodedBehind s lead e w.at state

-- An encoding was read and written after a text, except for its qualifier. The candidates are kept where a local entity follows.
pub record IsEncodingEnded (s : Symbol) (w : Direct) (mark : Mark) : Type 0 where
  pub kept : Kept s w
  pub open kept use *
  pub e : Term
  pub lead : List ℕ
  pub bytes : List ℕ
  pub written : w.text.list.items ++ mark_text mark ≡ lead ++ bytes
  pub shows : Shows (detail_of s) e bytes
  pub encloses : Encloses (detail_of s) e bytes
  pub now : State
  pub behind : EncodedBehind s lead e w.at now
  pub same : is_local s.bytes ≡ true → now ≡ state

-- The encoding of a symbol was read and written, as a detail shows it.
pub record IsSymbolEnded (s : Symbol) (w : Direct) : Type 0 where
  pub kept : Kept s w
  pub open kept use *
  pub e : Term
  pub encoded : Encoded s e w.at
  pub shows : Shows (detail_of s) e w.text.list.items

-- ## Function types

-- A type was read after a text; these open entries accept it as an element or a parameter.
pub record ElementOf (s : Symbol) (w : Direct) (waits : List Open) : Type 0 where
  pub kept : Kept s w
  pub open kept use *
  pub os : List Opened
  pub own : Term
  pub front : List ℕ
  pub bytes : List ℕ
  pub written : w.text.list.items ≡ front ++ bytes
  pub element : (extra : ℕ) → IsElement (detail_of s) extra own bytes
  pub comes : Comes s os (tree own true) w.at state
  pub stands : Stands s scope waits os front

-- Likewise, and `o` is the innermost open entry.
pub record IsElementRead (s : Symbol) (w : Direct) (o : Open) : Type 0 where
  pub rest : List Open
  pub open_is : reverse w.waiting.list.items ≡ o ∷ rest
  pub read : ElementOf s w (o ∷ rest)

-- Likewise for a type that may print on both sides of a name, and may be a reference; the innermost entry accepts such types.
pub record IsElementPassed (s : Symbol) (w : Direct) (is_reference : Bool) : Type 0 where
  pub read : ElementOf s w (reverse w.waiting.list.items)
  pub takes : TakesFunction (reverse w.waiting.list.items)
  pub refers : is_reference ≡ true → PrintsAround (detail_of s) read.own read.bytes

-- an entry that accepts a function type or an array after a text
pub record Taker (s : Symbol) (scope : Scope) : Type 0 where
  pub rest : List Open
  pub front : List ℕ
  pub taken : IsTaken (below s scope rest) rest front
  pub open taken use *

-- The type of an array's elements was read. The digits of the size are between two places of the symbol.
pub record IsArrayRead (s : Symbol) (w : Direct) (access : Access) (from to : ℕ) : Type 0 where
  pub kept : Kept s w
  pub open kept use *
  pub taker : Taker s scope
  pub open_is : reverse w.waiting.list.items ≡ opens.Array access from to ∷ taker.rest
  pub digits : List ℕ
  pub ordered : from ≤ to
  pub inside : to ≤ length s.bytes
  pub size : take (to - from) (drop from s.bytes) ≡ digits
  pub first : FirstType s
  pub written : w.text.list.items ≡ taker.front ++ first.bytes
  pub comes : Comes s taker.outer (tree (accessed access (array (values.normal digits) first.own)) true) w.at
      (with_accessed access taker.made_in (array (values.normal digits) first.own) state)

-- The return type and any number of parameters of a function type were read; more parameters may follow.
pub record AwaitsSignature (s : Symbol) (w : Direct) (is_pointer is_first : Bool) : Type 0 where
  pub kept : Kept s w
  pub open kept use *
  pub taker : Taker s scope
  pub open_is : reverse w.waiting.list.items ≡ opens.Signature is_pointer ∷ taker.rest
  pub first : FirstType s
  pub ts : List Term
  pub none : is_first ≡ true → ts ≡ []
  pub some : is_first ≡ false → ts ≢ []
  pub texts : List ℕ
  pub elements : PrintAll (detail_of s) 0 ts texts
  pub written : w.text.list.items ≡ taker.front ++ (first.bytes ++ opening_text is_pointer) ++ texts
  pub goes : SignatureGoesOn s taker.outer taker.made_in is_pointer (λ l. plain_function first.own (list_with ts l)) w.at state

-- A parameter of a function type comes next.
pub record AwaitsParameter (s : Symbol) (w : Direct) (is_pointer : Bool) : Type 0 where
  pub kept : Kept s w
  pub open kept use *
  pub taker : Taker s scope
  pub open_is : reverse w.waiting.list.items ≡ opens.Signature is_pointer ∷ taker.rest
  pub first : FirstType s
  pub ts : List Term
  pub texts : List ℕ
  pub elements : PrintAll (detail_of s) 0 ts texts
  pub written : w.text.list.items ≡ taker.front ++ (first.bytes ++ opening_text is_pointer) ++ in_front_of_next ts texts
  pub goes : SignatureGoesOn s taker.outer taker.made_in is_pointer (λ l. plain_function first.own (list_with ts l)) w.at state

-- The return type of a function type was read.
pub record IsReturned (s : Symbol) (w : Direct) (is_pointer : Bool) : Type 0 where
  pub kept : Kept s w
  pub open kept use *
  pub taker : Taker s scope
  pub open_is : reverse w.waiting.list.items ≡ opens.Returned is_pointer ∷ taker.rest
  pub first : FirstType s
  pub written : w.text.list.items ≡ taker.front ++ first.bytes
  pub goes : SignatureGoesOn s taker.outer taker.made_in is_pointer (λ l. plain_function first.own l) w.at state

-- A function type or a pointer to one was read, and written except for its last bracket.
pub record IsFunctionRead (s : Symbol) (w : Direct) (is_pointer : Bool) : Type 0 where
  pub kept : Kept s w
  pub open kept use *
  pub taker : Taker s scope
  pub open_is : reverse w.waiting.list.items ≡ opens.Signature is_pointer ∷ taker.rest
  pub made : Term
  pub bytes : List ℕ
  pub written : w.text.list.items ≡ taker.front ++ bytes
  pub element : (extra : ℕ) → IsElement (detail_of s) extra (pointed is_pointer made) (bytes ++ codes ")")
  pub comes : Comes s taker.outer (tree (pointed is_pointer made) true) w.at (with_pointed is_pointer taker.made_in made state)

-- ## Literals

abbrev pub truth_text : Bool → List ℕ
truth_text true = codes "true"
truth_text false = codes "false"

-- the text of a number with its sign
abbrev pub number_text : Signed → List ℕ
number_text n = sign_text n ++ n.digits

-- the text of an integer whose builtin type has this letter
abbrev pub integer_text : (letter : ℕ) → Signed → List ℕ
integer_text letter n = elim (is_plain_integer (builtin (letter ∷ []))) [
  | true ↦ number_text n ++ look_up (letter ∷ []) literal_endings
  | false ↦ codes "(" ++ look_up (letter ∷ []) builtin_texts ++ codes ")" ++ number_text n
]
