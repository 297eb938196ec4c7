-- What a writer's lists say while a symbol is read: the open entries wait for what comes next, and the written bytes are the text
-- of what was read.
use Rattle.sym_print.specs.declared.detail.Detail.{Detail}
use Rattle.std.specs.Prelude.{◌≡◌, ◌≢◌, ◌⊎◌, ℕ, ◌+◌, ◌*◌, ◌≤◌, ◌<◌, List, [], ◌∷◌, ◌++◌, ◌-◌, length, take, drop, reverse, Bool, true, false, Option, Some, None, Ok, codes, ◌&&◌}
use Rattle.sym_print.specs.Unshared.{text_of, cost_of}
use Rattle.sym_demangle.specs.Mangled.{StandsFor}
use Rattle.cpp_grammar.specs.declared.kind.Kind.{Kind}
use Rattle.cpp_grammar.specs.Answer.{shown, root_item}
use Rattle.cpp_grammar.specs.Term.{Term, Qualifiers, symbol, function, special, construction, array, pointer, lvalue, rvalue, qualified, instance, within, integer, address_of, pack, nil, list, absent}
use Rattle.cpp_grammar.specs.Parts.{source_text}
use Rattle.cpp_grammar.specs.Texts.{look_up, special_texts}
use Rattle.cpp_grammar.specs.Scope.{has_return_type, is_structor, arguments_of}
use Rattle.cpp_grammar.specs.References.{is_function_type}
use Rattle.cpp_grammar.specs.Values as values
use Rattle.cpp_grammar.specs.Values.{State, Around, Value, tree, named, outermost, tree_of, qualifiers_of, ref_of, signed_digits}
use Rattle.cpp_grammar.specs.Between.{no_items}
use Rattle.cpp_grammar.specs.Meaning.{parameters, encoding_of}
use Rattle.cpp_direct.specs.WrittenParts.{written, opening_bracket}
use Rattle.cpp_direct.specs.Symbol.{Symbol, detail_of, mangled_of}
use Rattle.cpp_direct.specs.declared.open.Nest.{Nest}
use Rattle.cpp_direct.specs.declared.open.Mark.{Mark}
use Rattle.cpp_direct.specs.declared.open.Holder.{Holder}
use Rattle.cpp_direct.specs.declared.open.Holder.TheVariants as holders
use Rattle.cpp_direct.specs.declared.open.Purpose.{Purpose}
use Rattle.cpp_direct.specs.declared.open.Purpose.TheVariants as purposes
use Rattle.cpp_direct.specs.declared.open.Open.{Open}
use Rattle.cpp_direct.specs.declared.open.Arguments.{Arguments}
use Rattle.cpp_direct.specs.declared.open.Open.TheVariants as opens
use Rattle.cpp_direct.specs.declared.open.Step.{Step}
use Rattle.cpp_direct.specs.declared.open.Step.TheVariants as steps
use Rattle.cpp_direct.specs.declared.direct.Direct.{Direct}
use Rattle.cpp_direct.specs.Bytes.{is_local, is_object}
use Rattle.cpp_direct.specs.Holes.{Opened, Comes, Expects, StandsAt, TypePasses, NestGoesOn, AwaitsComponent, with_candidate, unless_listed}
use Rattle.cpp_direct.specs.HolesOfFunctions.{SignatureGoesOn, plain_function}
use Rattle.cpp_direct.specs.HolesOfArrays.{accessed, with_accessed}
use Rattle.cpp_direct.specs.HolesOfTypes.{NoReference}
use Rattle.cpp_direct.specs.HolesOfNests.{IsFirstRest}
use Rattle.cpp_direct.specs.HolesOfLevels.{MemberComes}
use Rattle.cpp_direct.specs.HolesOfLists.{BaseClassOpened, IsSuffix, IsDigitsAt, minus_sign}
use Rattle.cpp_direct.specs.HolesOfLocals.{Discriminator, EntityOpened, IsDiscriminatorAt, IsEntityAt, LambdaEnds, MemberOpened, local_in, member_in}
use Rattle.cpp_direct.specs.Marks.{has_const, called_on}
use Rattle.cpp_direct.specs.Prints.{Names, IsGiven, Prints, PrintsAs, PrintsName, Shows, Encloses, IsElement, IsLed, NamesClass, PrintAll, PrintAllAs, PrintAllIn}
use Rattle.cpp_grammar.specs.Parts.{types_of}
pub use Rattle.cpp_direct.specs.Scoping.{encoding_place, IsBetween, IsPlaced, nowhere, begin_by, place_of, IsKnown, IsSingle, IsAmong, IsPackOf, IsArgument, HasPack, OwnPack, HasArguments, IsScope, IsPackThere, IsEncodedAt, HasScope, is_type, is_within_type, arguments_in, argument_of, Scope, no_scope, AreNamed, HasSingles, IsMadeIn, IsCandidate, AreCandidates, Keeps, Kept, IsScoped, IsNaming}

-- ## The end

-- An encoding with this tree ends at the place: with the symbol, or before its suffix.
pub record Encoded (s : Symbol) (e : Term) (at : ℕ) : Type 0 where
  pub ends : at ≡ length s.bytes → StandsFor (mangled_of s) s.bytes (Ok (symbol e []))
  pub ends_in : (suffix : List ℕ) → StandsAt s.bytes at suffix → at + length suffix ≡ length s.bytes → IsSuffix suffix
      → StandsFor (mangled_of s) s.bytes (Ok (symbol e suffix))

-- An encoding with this tree ends the symbol at the place. The symbol shows `lead` and then the encoding: `lead` says what a
-- thunk or a clone is, and is empty for other symbols.
pub record EndsBehind (s : Symbol) (lead : List ℕ) (e : Term) (at : ℕ) : Type 0 where
  pub made : Term
  pub encoded : Encoded s made at
  pub shows : (bytes : List ℕ) → Shows (detail_of s) e bytes → Shows (detail_of s) made (lead ++ bytes)

-- Likewise for an entity with this name in the encoding: the symbol shows `lead`, the encoding and the name.
pub record EntityBehind (s : Symbol) (lead : List ℕ) (e : Term) (name : List ℕ) (at : ℕ) : Type 0 where
  pub made : Term
  pub encoded : Encoded s made at
  pub shows : (bytes : List ℕ) → Encloses (detail_of s) e bytes → Shows (detail_of s) made (lead ++ (bytes ++ codes "::" ++ source_text name))

-- The name of an encoding that begins at a place was read, and items may follow. `becomes` says what becomes of the encoding
-- that is made of the name and the items.
pub record ItemsOf (s : Symbol) (encoding : ℕ) (becomes : Term → (at : ℕ) → State → Type 0) (v : Value) (at : ℕ) (st : State) : Type 0 where
  pub around : Around
  pub inner : List Opened
  pub outside : around.prefix ≡ outermost
  pub scope_is : around.scope ≡ arguments_of (tree_of v)
  pub encoding_is : around.encoding ≡ encoding
  pub no_lambda : around.in_lambda ≡ false
  pub awaits : Expects s Kind.Items around inner at st
  pub onward : (l : Value) (at : ℕ) (st : State) → Comes s inner l at st → becomes (encoding_of v (no_items l)) at st

-- Likewise for a member function of a local entity: `made`, which is read in place of the encoding, has the encoding's text
-- before the entity, and the member function's name is expected next.
pub record MemberBehind (s : Symbol) (lead : List ℕ) (e : Term) (at : ℕ) (st : State) : Type 0 where
  pub none : lead ≡ []
  pub made : Term
  pub encloses : (bytes : List ℕ) → Encloses (detail_of s) e bytes → Encloses (detail_of s) made bytes
  pub opens : MemberOpened s (λ v there now. ItemsOf s 2 (λ f end last. Encoded s f end) v there now) made at st

-- An encoding with this tree ends at the place, after a text. The symbol ends there, or the name of a local entity or of its
-- member function follows.
pub record EncodedBehind (s : Symbol) (lead : List ℕ) (e : Term) (at : ℕ) (st : State) : Type 0 where
  pub whole : is_local s.bytes ≡ false → EndsBehind s lead e at
  pub entity : is_local s.bytes ≡ true → (internal : Bool) (name : List ℕ) (digit : Discriminator) (end : ℕ) → IsEntityAt s.bytes at internal name digit end
      → EntityBehind s lead e name end
  pub member : is_local s.bytes ≡ true → StandsAt s.bytes 2 (90 ∷ []) → MemberBehind s lead e at st

-- the name of an encoding was read after a text, and items may follow
pub record TakesItems (s : Symbol) (lead : List ℕ) (v : Value) (at : ℕ) (st : State) : Type 0 where
  pub around : Around
  pub inner : List Opened
  pub outside : around.prefix ≡ outermost
  pub scope_is : around.scope ≡ arguments_of (tree_of v)
  pub encoding_is : lead ≡ [] → around.encoding ≡ encoding_place s.bytes
  pub no_lambda : around.in_lambda ≡ false
  pub awaits : Expects s Kind.Items around inner at st
  pub onward : (l : Value) (at : ℕ) (st : State) → Comes s inner l at st → EncodedBehind s lead (encoding_of v (no_items l)) at st

-- the name of an encoding was read after a text; items may follow, unless the name is that of the symbol's object
pub record AwaitsItems (s : Symbol) (lead : List ℕ) (v : Value) (at : ℕ) (st : State) : Type 0 where
  pub ends : EncodedBehind s lead (encoding_of v nil) at st
  pub items : is_object s.bytes ≡ false → TakesItems s lead v at st

-- This text is what is written of the whole symbol.
pub record IsWhole (s : Symbol) (text : List ℕ) : Type 0 where
  pub whole : Term
  pub stands : StandsFor (mangled_of s) s.bytes (Ok whole)
  pub text_is : text_of (written (detail_of s) (root_item whole)) ≡ text
  pub cost : cost_of (written (detail_of s) (root_item whole)) ≤ 4 * length text

-- The symbol is shown as this text, at a cost of at most four times `most`.
pub record IsShown (s : Symbol) (most : ℕ) (text : List ℕ) : Type 0 where
  pub whole : Term
  pub stands : StandsFor (mangled_of s) s.bytes (Ok whole)
  pub text_is : text_of (shown (detail_of s) (root_item whole)) ≡ text
  pub cost : cost_of (shown (detail_of s) (root_item whole)) ≤ 4 * most

-- ## Names

abbrev pub qualifiers : (is_const : Bool) → Qualifiers
qualifiers is_const = record { restrict = false; volatile = false; const = is_const }

-- a name is read as this tree, and as the name of a member function with these qualifiers
pub record IsNamedSo (v : Value) (own : Term) (mark : Mark) : Type 0 where
  pub tree_is : tree_of v ≡ own
  pub qualifiers_are : qualifiers_of v ≡ qualifiers (has_const mark)
  pub mark_is : ref_of v ≡ called_on mark

-- A name was written from a place on, and is read as the name of a function with this mark, or of data.
pub record HasNameSo (s : Symbol) (text : List ℕ) (mark : Mark) (from : ℕ) : Type 0 where
  pub own : Term
  pub v : Value
  pub named_so : IsNamedSo v own mark
  pub lead : List ℕ
  pub name : List ℕ
  pub written : text ≡ lead ++ name
  pub from_is : from ≡ length lead
  pub prints : PrintsName (detail_of s) own name

-- a nested name is read as the name of a function or of data, not as a type
abbrev pub IsOwn : Purpose → Type 0
IsOwn purposes.Type = ⊥
IsOwn _ = Unit {0}

-- a nested name so far, with these bytes after a front
pub record IsNest (detail : Detail) (names : Names) (front bytes text : List ℕ) (nest : Nest) (t : Term) : Type 0 where
  pub back : List ℕ
  pub written : text ≡ front ++ bytes ++ back
  pub from_is : nest.from ≡ length front
  pub prints : PrintsAs detail names nest.is_dependent t bytes false
  pub closed : IsOwn nest.purpose → nest.is_dependent ≡ false
  pub class : List ℕ
  pub class_placed : IsBetween text nest.class_from nest.class_to class
  pub names_class : nest.has_class ≡ true → nest.is_dependent ≡ false → NamesClass detail t class

-- ## Lists

-- a list of these elements, followed by those in `rest`
abbrev pub list_with : List Term → Term → Term
list_with [] rest = rest
list_with (t ∷ ts) rest = list t (list_with ts rest)

-- an empty pack may follow the elements that print something
abbrev pub IsTail : Term → Type 0
IsTail rest = (rest ≡ nil) ⊎ (rest ≡ list (pack nil) nil)

-- the text of the elements so far, and a comma and a space after it if there are any elements
abbrev pub in_front_of_next : List Term → List ℕ → List ℕ
in_front_of_next [] l = l
in_front_of_next (t ∷ ts) l = l ++ codes ", "

-- Parameters continue after these, and may name arguments. `becomes` says what becomes of the encoding that is made of
-- all parameters.
pub record ItemsGoOn (s : Symbol) (argument : Arguments) (becomes : Term → (at : ℕ) → State → Type 0) (make : Term → Term) (ts : List Term) (at : ℕ) (st : State) : Type 0 where
  pub around : Around
  pub inner : List Opened
  pub outside : around.prefix ≡ outermost
  pub scoped : HasScope argument around
  pub awaits : Expects s Kind.Items around inner at st
  pub onward : (l : Value) (at : ℕ) (st : State) → Comes s inner l at st → becomes (make (list_with ts (no_items l))) at st

-- The parameters of an encoding after a text continue after these.
abbrev pub ParametersGoOn : (s : Symbol) → (argument : Arguments) → (lead : List ℕ) → (make : Term → Term) → (ts : List Term) → (at : ℕ) → State → Type 0
ParametersGoOn s argument lead make ts at st = ItemsGoOn s argument (λ e here now. EncodedBehind s lead e here now) make ts at st

-- a function with this name and these items, without a return type
abbrev pub plain_encoding : (mark : Mark) → (own : Term) → (items : Term) → Term
plain_encoding mark own items = function own (qualifiers (has_const mark)) (called_on mark) absent (parameters items)

-- The symbol's own name prints this text. The known arguments that the name ends in are at their places, and are those that types
-- may name.
pub record IsOwnName (detail : Detail) (scope : Scope) (text : List ℕ) (argument : Arguments) (own : Term) (name : List ℕ) : Type 0 where
  pub prints : PrintsName detail own name
  pub names : HasArguments detail text argument own
  pub given : IsGiven detail scope.names (types_of own)
  pub named : scope.arguments ≡ argument

-- A function's name and its parameters so far, with their texts; each parameter may cost `extra` beyond its text. All parameters
-- together make a function that has no return type.
pub record IsFunction (detail : Detail) (extra : ℕ) (scope : Scope) (text : List ℕ) (argument : Arguments) (mark : Mark) (make : Term → Term) (ts : List Term) (name texts : List ℕ) : Type 0 where
  pub own : Term
  pub makes : (t rest : Term) → make (list t rest) ≡ plain_encoding mark own (list t rest)
  pub is_own : IsOwnName detail scope text argument own name
  pub open is_own use *
  pub elements : PrintAllIn detail (types_of own) extra ts texts

-- What is written of a function before its parameters. The function's text begins at `start`, or ends there if only the names of
-- functions are shown.
abbrev pub Fronts : (is_bare : Bool) → (front : List ℕ) → (start : ℕ) → (lead name : List ℕ) → Type 0
Fronts false front start lead name = (aside : List ℕ) × (front ≡ aside ++ lead ++ name) × (start ≡ length aside)
Fronts true front start lead name =
    (aside : List ℕ) × (front ≡ lead ++ name ++ aside) × (start ≡ length (lead ++ name))

-- A function's name and the parameters so far are written, with what precedes them.
pub record HasParameters (s : Symbol) (extra : ℕ) (scope : Scope) (text : List ℕ) (mark : Mark) (start : ℕ) (argument : Arguments) (ts : List Term) (texts : List ℕ) : Type 0 where
  pub front : List ℕ
  pub lead : List ℕ
  pub make : Term → Term
  pub name : List ℕ
  pub is_function : IsFunction (detail_of s) extra scope text argument mark make ts name texts
  pub fronts : Fronts s.is_bare front start lead name

-- A function and its parameters are written after a text. All parameters make a function that has some return type, or none.
pub record IsLedFunction (detail : Detail) (extra : ℕ) (mark : Mark) (ts : List Term) (texts : List ℕ) : Type 0 where
  pub front : List ℕ
  pub name : List ℕ
  pub own : Term
  pub prints : PrintsName detail own name
  pub returned : Term
  pub make : Term → Term
  pub makes : (t rest : Term) → make (list t rest) ≡ function own (qualifiers (has_const mark)) (called_on mark) returned (parameters (list t rest))
  pub none : has_return_type own ≡ false → returned ≡ absent
  pub elements : PrintAllIn detail (types_of own) extra ts texts

-- Likewise, and `Leads` holds of the function's name and the text before the name.
pub record HasLed (detail : Detail) (extra : ℕ) (mark : Mark) (Leads : (own : Term) → (front name : List ℕ) → Type 0) (ts : List Term) (texts : List ℕ) : Type 0 where
  pub is_led : IsLedFunction detail extra mark ts texts
  pub open is_led use *
  pub leads : Leads own front name

-- The name of a function that contains a type is written between two places.
abbrev pub IsEnclosing : (from to : ℕ) → (own : Term) → (front name : List ℕ) → Type 0
IsEnclosing from to own front name = (from ≡ length front) × (to ≡ length (front ++ name))

-- The name of a member function of a local entity is the first text that is written, and ends at this place. The name has
-- no return type.
abbrev pub IsMember : (to : ℕ) → (own : Term) → (front name : List ℕ) → Type 0
IsMember to own front name = (front ≡ []) × (to ≡ length (front ++ name)) × (has_return_type own ≡ false)

-- The name of a function whose address is an argument is written up to a place. The known arguments that the name ends in are at
-- their places before that end, and are those that types may name. The function is in no object's name.
pub record IsAddressed (s : Symbol) (scope : Scope) (to : ℕ) (argument : Arguments) (own : Term) (front name : List ℕ) : Type 0 where
  pub to_is : to ≡ length (front ++ name)
  pub given : IsGiven (detail_of s) scope.names (types_of own)
  pub named : scope.arguments ≡ argument
  pub there : AreNamed (front ++ name) scope
  pub typed : is_object s.bytes ≡ false

-- Likewise for the name of an instance of a function template that contains a type, from a place on.
abbrev pub IsScopedWithin : (s : Symbol) → Scope → (from to : ℕ) → Arguments → (own : Term) → (front name : List ℕ) → Type 0
IsScopedWithin s scope from to argument own front name = (from ≡ length front) × IsAddressed s scope to argument own front name

-- The name of a function that has a return type is written, and `Leads` holds of the name and the text before it.
pub record HasInnerFront (s : Symbol) (text : List ℕ) (mark : Mark) (Leads : (own : Term) → (front name : List ℕ) → Type 0) : Type 0 where
  pub from : ℕ
  pub has : HasNameSo s text mark from
  pub open has use *
  pub leads : Leads own lead name
  pub returns : has_return_type own ≡ true

-- the name of a function that has a return type, and its text
pub record IsInstance (detail : Detail) (scope : Scope) (text : List ℕ) (argument : Arguments) (mark : Mark) (v : Value) (name : List ℕ) : Type 0 where
  pub own : Term
  pub named_so : IsNamedSo v own mark
  pub returns : has_return_type own ≡ true
  pub is_own : IsOwnName detail scope text argument own name
  pub open is_own use *

-- The name of a function that has a return type is written up to this place, after a text that is empty unless an entity is
-- local.
pub record HasInstance (s : Symbol) (scope : Scope) (text : List ℕ) (mark : Mark) (start : ℕ) (argument : Arguments) : Type 0 where
  pub v : Value
  pub lead : List ℕ
  pub name : List ℕ
  pub is_instance : IsInstance (detail_of s) scope text argument mark v name
  pub apart : is_local s.bytes ≡ false → lead ≡ []
  pub text_is : text ≡ lead ++ name
  pub start_is : start ≡ length text

-- ## What is open

-- What is open below an entry: what waits for a value after a text; what types may name there; and the fact that types may
-- name the scope's arguments.
pub record Below : Type 1 where
  pub waits : List Opened → (text : List ℕ) → Type 0
  pub scoped : Around → Type 0
  pub naming : Type 0

-- types in the entry may name what types below may name, if the entry is in a type
abbrev pub scoped_in : Open → Below → Around → Type 0
scoped_in entry below around = is_within_type entry ≡ true → below.scoped around

-- The entry accepts a type and marks it, and the entry below accepts the marked type.
abbrev pub Marks : (s : Symbol) → Below → List Opened → (text : List ℕ) → (from : ℕ) → (made : Term → Term) → Type 0
Marks s below os text from made =
    (outer : List Opened) × (around : Around) × (from ≡ length text) × TypePasses s os outer around made × below.scoped around × below.waits outer text

-- An encoding with this tree ends at the place; the entry below accepts a type that is in the encoding, after this text.
abbrev pub TypeWithin : (s : Symbol) → Below → (front : List ℕ) → (e : Term) → (at : ℕ) → State → Type 0
TypeWithin s below front e at st =
    (outer : List Opened) × (around : Around)
    × (StandsAt s.bytes at (69 ∷ []) → EntityOpened s (λ t end now. Comes s outer (tree t true) end (with_candidate around t now)) e (at + 1) st)
    × below.waits outer front

-- A function with this tree ends at the place; the entry below accepts its address, after this text without the & at its end.
abbrev pub AddressWithin : (s : Symbol) → Below → (front : List ℕ) → (e : Term) → (at : ℕ) → State → Type 0
AddressWithin s below front e at st =
    (outer : List Opened) × (before : List ℕ) × (front ≡ before ++ codes "&")
    × (StandsAt s.bytes at (69 ∷ 69 ∷ []) → Comes s outer (tree (address_of e) true) (at + 2) st) × below.waits outer before

-- What an accepted nested name becomes, by the purpose for which it is read, and what types in the name may name.
abbrev pub Serves : (s : Symbol) → Purpose → Below → List Opened → (front : List ℕ) → Type 0
Serves s purposes.Type below os front =
    (outer : List Opened) × (around : Around)
    × ((t : Term) (listed : Bool) (at : ℕ) (st : State) → is_function_type t ≡ false → Comes s os (tree t listed) at st
    → Comes s outer (tree t true) at (unless_listed listed around t st))
    × below.scoped around × below.waits outer front
Serves s (purposes.Name mark) below os front =
    (t : Term) (listed : Bool) (at : ℕ) (st : State) → Comes s os (tree t listed) at st → AwaitsItems s front (named t (qualifiers (has_const mark)) (called_on mark)) at st
Serves s (purposes.Enclosing mark encoding) below os front =
    (t : Term) (listed : Bool) (at : ℕ) (st : State) → Comes s os (tree t listed) at st
    → ItemsOf s encoding (TypeWithin s below front) (named t (qualifiers (has_const mark)) (called_on mark)) at st
Serves s (purposes.Address mark) below os front =
    (outer : List Opened)
    × ((t : Term) (listed : Bool) (at : ℕ) (st : State) → Comes s os (tree t listed) at st
    → Comes s outer (named t (qualifiers (has_const mark)) (called_on mark)) at st)
    × below.waits outer front

-- The nested name of a member function with these qualifiers, in an encoding, is read as far as a tree; the whole nested
-- name names the symbol's encoding.
pub record MemberGoesOn (s : Symbol) (mark : Mark) (e t : Term) (at : ℕ) (st : State) : Type 0 where
  pub outer : List Opened
  pub around : Around
  pub goes : NestGoesOn s Kind.NestRestAlone outer around t false at st
  pub ends : (u : Term) (listed : Bool) (at : ℕ) (st : State) → Comes s outer (tree u listed) at st
      → ItemsOf s 2 (λ f end last. Encoded s f end) (member_in e u (qualifiers (has_const mark)) (called_on mark)) at st

-- What a lambda that was read after a tree becomes: a type in a function, before its discriminator; a component of a nested name;
-- or an entity with a member function.
abbrev pub LambdaComes : (s : Symbol) → Holder → Below → (front : List ℕ) → (e : Term) → (lambda : Term) → (at : ℕ) → State → Type 0
LambdaComes s holders.Function below front e p at st =
    (outer : List Opened) × (around : Around)
    × ((digit : Discriminator) (end : ℕ) → IsDiscriminatorAt s.bytes at digit end
    → Comes s outer (tree (local_in e p digit) true) end (with_candidate around (local_in e p digit) st))
    × below.waits outer front
LambdaComes s (holders.Name purpose) below front e p at st =
    (outer : List Opened) × (around : Around) × NestGoesOn s Kind.NestTail outer around (within e p) false at st
    × (is_type purpose ≡ true → below.scoped around) × Serves s purpose below outer front
LambdaComes s (holders.Member mark) below front e p at st = (front ≡ []) × MemberGoesOn s mark e (within e p) at st

-- What a lambda becomes once its parameters are read, up to the E after them.
abbrev pub LambdaWithin : (s : Symbol) → Holder → Below → (front : List ℕ) → (e : Term) → (items : Term) → (at : ℕ) → State → Type 0
LambdaWithin s holder below front e items at st = LambdaEnds s (LambdaComes s holder below front e) items at st

-- What an instance that was read after this text becomes, by the entry that was open for its arguments.
abbrev pub Owns : (s : Symbol) → Open → Below → (front : List ℕ) → Term → (at : ℕ) → State → Type 0
Owns s (opens.TypeArguments from is_dependent) below front u at st =
    (outer : List Opened) × (around : Around) × Comes s outer (tree u true) at (with_candidate around u st)
    × below.scoped around × (is_dependent ≡ true → below.naming) × below.waits outer front
Owns s (opens.NestArguments nest) below front u at st =
    (around : Around) × (outer : List Opened) × NestGoesOn s Kind.NestTail outer around u false at st
    × scoped_in (opens.NestArguments nest) below around × (nest.is_dependent ≡ true → below.naming) × Serves s nest.purpose below outer front
Owns s (opens.FirstArguments nest) below front u at st =
    (around : Around) × (outer : List Opened) × AwaitsComponent s outer around u at (with_candidate around u st)
    × scoped_in (opens.FirstArguments nest) below around × (nest.is_dependent ≡ true → below.naming) × Serves s nest.purpose below outer front
Owns s (opens.NameArguments from) below front u at st = AwaitsItems s front (tree u false) at st
Owns s (opens.LevelArguments is_dependent) below front u at st =
    (outer : List Opened) × MemberComes s outer u at st × (is_dependent ≡ true → below.naming) × below.waits outer front
Owns s _ below front u at st = ⊥

-- elements continue after these, up to an E; `closes` says what the list of all of them becomes
abbrev pub ElementsGoOn : (s : Symbol) → Kind → (scoped : Around → Type 0) → (closes : Term → (at : ℕ) → State → Type 0) → List Term → (at : ℕ) → State → Type 0
ElementsGoOn s kind scoped closes ts at st =
    (around : Around) × (inner : List Opened) × (around.prefix ≡ outermost) × scoped around × Expects s kind around inner at st
    × ((l : Value) (at : ℕ) (st : State) → Comes s inner l at st → StandsAt s.bytes at (69 ∷ []) → closes (list_with ts (no_items l)) (at + 1) st)

-- arguments continue after these
abbrev pub ArgumentsGoOn : (s : Symbol) → Open → Below → (front : List ℕ) → (template : Term) → List Term → (at : ℕ) → State → Type 0
ArgumentsGoOn s owner below front template ts at st =
    ElementsGoOn s Kind.ArgumentList (scoped_in owner below) (λ l now then. Owns s owner below front (instance template l) now then) ts at st

-- the list that is read: the arguments of a template, or a pack among them, after the arguments `before` with the text `written`
pub data Listing : Type 0 where
  of_template : Listing
  of_pack : (before : List Term) → (written : List ℕ) → Listing

-- the kind of the rest of the list
abbrev pub element_kind : Listing → Kind
element_kind of_template = Kind.ArgumentList
element_kind (of_pack before written) = Kind.PackList

-- what each element of the list may cost beyond its text
abbrev pub extra_of : Listing → ℕ
extra_of of_template = 3
extra_of (of_pack before written) = 0

-- whether the open entry notes that its name, or one of its arguments so far, names arguments of the function's template
abbrev pub is_noted : Open → Bool
is_noted (opens.TypeArguments from is_dependent) = is_dependent
is_noted (opens.NestArguments nest) = nest.is_dependent
is_noted (opens.FirstArguments nest) = nest.is_dependent
is_noted (opens.LevelArguments is_dependent) = is_dependent
is_noted _ = false

-- whether elements of the list may name arguments of the function's template
abbrev pub may_name : Listing → Open → Bool
may_name of_template owner = is_noted owner
may_name (of_pack before written) owner = false

-- the text before the elements of the list
abbrev pub led_by : Detail → Listing → (front name : List ℕ) → List ℕ
led_by detail of_template front name = front ++ name ++ opening_bracket detail
led_by detail (of_pack before written) front name = front ++ name ++ opening_bracket detail ++ in_front_of_next before written

-- what the list becomes
abbrev pub Closes : (s : Symbol) → Listing → Open → Below → (front : List ℕ) → (template : Term) → Term → (at : ℕ) → State → Type 0
Closes s of_template owner below front template l at st = Owns s owner below front (instance template l) at st
Closes s (of_pack before written) owner below front template l at st =
    ArgumentsGoOn s owner below front template (before ++ pack l ∷ []) at st

-- the list continues after these elements
abbrev pub GoesOn : (s : Symbol) → Listing → Open → Below → (front : List ℕ) → (template : Term) → List Term → (at : ℕ) → State → Type 0
GoesOn s listing owner below front template ts at st =
    ElementsGoOn s (element_kind listing) (scoped_in owner below) (λ l now then. Closes s listing owner below front template l now then) ts at st

-- each known argument is at its place, and is among the arguments, or among some arguments and the elements of a pack
-- after them
abbrev pub AreAmong : (is_pack : Bool) → (detail : Detail) (text : List ℕ) → Arguments → List Term → Type 0
AreAmong is_pack detail text a ts =
    ((number : ℕ) → IsKnown a number → (is_pack ≡ true → number < a.before) → IsAmong false detail text (place_of a number) number ts)
    × (is_pack ≡ true → (number : ℕ) → IsKnown a number → IsAmong true detail text (place_of a number) number ts)

-- this template precedes the arguments
abbrev pub IsTemplate : (detail : Detail) → Names → Open → (front : List ℕ) → Term → (name : List ℕ) → (text : List ℕ) → Type 0
IsTemplate detail names (opens.TypeArguments from is_dependent) front template name text = (from ≡ length front) × Prints detail template name false
IsTemplate detail names (opens.NestArguments nest) front template name text =
    IsNest detail names front name text nest template × (IsOwn nest.purpose → nest.has_class ≡ false → is_structor template ≡ true)
    × (nest.has_class ≡ true → is_structor template ≡ false)
IsTemplate detail names (opens.FirstArguments nest) front template name text = IsNest detail names front name text nest template
IsTemplate detail names (opens.NameArguments from) front template name text =
    (from ≡ length front) × Prints detail template name false × (is_structor template ≡ false)
IsTemplate detail names (opens.LevelArguments is_dependent) front template name text = Prints detail template name false
IsTemplate detail names _ front template name text = ⊥

-- accepts a type as an element of the list
abbrev pub AwaitsElementOf : (s : Symbol) → Names → Listing → Open → Below → List Opened → (text : List ℕ) → Type 0
AwaitsElementOf s names listing owner below os text =
    (front : List ℕ) × (template : Term) × (name : List ℕ) × (ts : List Term) × (elements : List ℕ)
    × IsTemplate (detail_of s) names owner front template name text × PrintAllAs (detail_of s) names (may_name listing owner) (extra_of listing) ts elements
    × (text ≡ led_by (detail_of s) listing front name ++ in_front_of_next ts elements)
    × ((t : Term) (at : ℕ) (st : State) → Comes s os (tree t true) at st → GoesOn s listing owner below front template (ts ++ t ∷ []) at st)

-- the list of a name's arguments, or of a pack among them, after the arguments `before` with the text `written`
abbrev pub arguments_or_pack : (is_pack : Bool) → (before : List Term) → (written : List ℕ) → Listing
arguments_or_pack false before written = of_template
arguments_or_pack true before written = of_pack before written

-- these arguments precede the pack if a pack is read, and are none otherwise; no pack is known so far
pub record ComeBefore (detail : Detail) (is_pack : Bool) (known : Arguments) (before : List Term) (written : List ℕ) : Type 0 where
  pub none : is_pack ≡ false → before ≡ []
  pub prints : PrintAll detail 3 before written
  pub count_is : is_pack ≡ true → known.before ≡ length before
  pub no_pack : known.has_pack ≡ false

-- accepts a type as an argument of a name, or as an element of a pack among the arguments; `number` others precede it
abbrev pub AwaitsArgument : (s : Symbol) → Names → (is_pack : Bool) → (from number : ℕ) → (known : Arguments) → (owner : Open) → Below → List Opened
    → (text : List ℕ) → Type 0
AwaitsArgument s names is_pack from number known owner below os text =
    (front : List ℕ) × (template : Term) × (name : List ℕ) × (ts : List Term) × (elements : List ℕ) × IsTemplate (detail_of s) names owner front template name text
    × (before : List Term) × (written : List ℕ) × ComeBefore (detail_of s) is_pack known before written
    × PrintAll (detail_of s) (extra_of (arguments_or_pack is_pack before written)) ts elements
    × (text ≡ led_by (detail_of s) (arguments_or_pack is_pack before written) front name ++ in_front_of_next ts elements) × (from ≡ length text)
    × (number ≡ length (before ++ ts)) × AreAmong is_pack (detail_of s) text known (before ++ ts)
    × ((t : Term) (at : ℕ) (st : State) → Comes s os (tree t true) at st
    → GoesOn s (arguments_or_pack is_pack before written) owner below front template (ts ++ t ∷ []) at st)

-- a list continues after an enumerator of this type, once the enumerator's number and an E are read
abbrev pub EnumeratorGoesOn : (s : Symbol) → Listing → Open → Below → (front : List ℕ) → (template : Term) → List Term → Term → (at : ℕ) → State → Type 0
EnumeratorGoesOn s listing owner below front template ts t at st =
    (negative : Bool) (digits : List ℕ) (end : ℕ) → StandsAt s.bytes at (minus_sign negative)
    → IsDigitsAt s.bytes (at + length (minus_sign negative)) digits end → StandsAt s.bytes end (69 ∷ [])
    → GoesOn s listing owner below front template (ts ++ integer t (signed_digits negative digits) ∷ []) (end + 1) st

-- accepts a type as the type of an enumerator that is an element
abbrev pub AwaitsEnumerator : (s : Symbol) → Names → Listing → Open → Below → List Opened → (text : List ℕ) → Type 0
AwaitsEnumerator s names listing owner below os text =
    (front : List ℕ) × (template : Term) × (name : List ℕ) × (ts : List Term) × (elements : List ℕ)
    × IsTemplate (detail_of s) names owner front template name text × PrintAllAs (detail_of s) names (may_name listing owner) (extra_of listing) ts elements
    × (text ≡ led_by (detail_of s) listing front name ++ in_front_of_next ts elements ++ codes "(")
    × ((t : Term) (at : ℕ) (st : State) → Comes s os (tree t true) at st → EnumeratorGoesOn s listing owner below front template ts t at st)

-- accepts a type as the type of an enumerator that is an argument of a name; `number` others precede the enumerator
abbrev pub AwaitsArgumentEnumerator : (s : Symbol) → Names → (from number : ℕ) → (known : Arguments) → (owner : Open) → Below → List Opened → (text : List ℕ) → Type 0
AwaitsArgumentEnumerator s names from number known owner below os text =
    (front : List ℕ) × (template : Term) × (name : List ℕ) × (ts : List Term) × (elements : List ℕ)
    × IsTemplate (detail_of s) names owner front template name text × (begun : List ℕ) × (text ≡ begun ++ codes "(") × (from ≡ length begun)
    × (begun ≡ led_by (detail_of s) of_template front name ++ in_front_of_next ts elements) × (known.has_pack ≡ false) × PrintAll (detail_of s) 3 ts elements
    × (number ≡ length ts) × AreAmong false (detail_of s) text known ts
    × ((t : Term) (at : ℕ) (st : State) → Comes s os (tree t true) at st → EnumeratorGoesOn s of_template owner below front template ts t at st)

-- the innermost entry is the owner of the arguments, or is a pack that is one of the owner's arguments
abbrev pub Belongs : (detail : Detail) → Names → Listing → (opened : List Open) → (owner : Open) → (rest : List Open) → Type 0
Belongs detail names of_template opened owner rest = opened ≡ owner ∷ rest
Belongs detail names (of_pack before written) opened owner rest = (opened ≡ opens.Pack ∷ owner ∷ rest) × PrintAllAs detail names (is_noted owner) 3 before written

-- a list is open, and so is what the list belongs to
pub record IsListing (detail : Detail) (names : Names) (opened : List Open) (text : List ℕ) : Type 0 where
  pub listing : Listing
  pub owner : Open
  pub rest : List Open
  pub belongs : Belongs detail names listing opened owner rest
  pub front : List ℕ
  pub template : Term
  pub name : List ℕ
  pub is_template : IsTemplate detail names owner front template name text

-- what follows the return type of a function type, or of a pointer to one
abbrev pub opening_text : (is_pointer : Bool) → List ℕ
opening_text true = codes " (*)("
opening_text false = codes " ("

-- the innermost open arguments are those of a name
abbrev pub EndsNamed : List Open → Type 0
EndsNamed (opens.NestArguments nest ∷ rest) = Unit {0}
EndsNamed (opens.NameArguments from ∷ rest) = Unit {0}
EndsNamed _ = ⊥

-- the innermost entry accepts a function type or an array: it waits for an element, a parameter or the type of a special object
abbrev pub TakesFunction : List Open → Type 0
TakesFunction (opens.TypeArguments from is_dependent ∷ rest) = Unit {0}
TakesFunction (opens.NestArguments nest ∷ rest) = Unit {0}
TakesFunction (opens.FirstArguments nest ∷ rest) = Unit {0}
TakesFunction (opens.NameArguments from ∷ rest) = Unit {0}
TakesFunction (opens.LevelArguments is_dependent ∷ rest) = Unit {0}
TakesFunction (opens.Pack ∷ rest) = Unit {0}
TakesFunction (opens.Element from number known ∷ rest) = Unit {0}
TakesFunction (opens.Parameters mark start argument ∷ rest) = Unit {0}
TakesFunction (opens.Special ∷ rest) = Unit {0}
TakesFunction (opens.Enclosing mark from to ∷ rest) = Unit {0}
TakesFunction (opens.EnclosingInstance mark from to argument ∷ rest) = Unit {0}
TakesFunction _ = ⊥

-- the entries that are open below an entry; `waits` says what they accept
abbrev pub outside : Scope → List Open → (waits : List Opened → List ℕ → Type 0) → Below
outside scope rest waits = record { waits = waits; scoped = λ around. IsScoped scope around rest; naming = IsNaming scope rest }

-- The open entries accept a function type or an array after a text; `made_in` is where that type is made, and `outer` is what
-- is open for the type.
pub record IsTaken (below : Below) (rest : List Open) (front : List ℕ) : Type 0 where
  pub outer : List Opened
  pub made_in : Around
  pub takes : TakesFunction rest
  pub stands : below.waits outer front

-- the type that is read first in a function type or an array: the return type, or the type of the elements
pub record FirstType (s : Symbol) : Type 0 where
  pub own : Term
  pub bytes : List ℕ
  pub is_reference : Bool
  pub prints : Prints (detail_of s) own bytes is_reference

-- The derived class of a construction table is written up to a place, followed by the words that say what the table is.
pub record HasDerived (s : Symbol) (text : List ℕ) (to : ℕ) : Type 0 where
  pub derived : Term
  pub bytes : List ℕ
  pub prints : IsElement (detail_of s) 0 derived bytes
  pub to_is : to ≡ length bytes
  pub written : text ≡ bytes ++ codes "construction vtable for "

-- Accepts a parameter of a function, after those that were read; `Within` says what waits for the function.
abbrev pub AwaitsLed : (s : Symbol) → (extra : ℕ) → Mark → Arguments → (Leads : (own : Term) → (front name : List ℕ) → Type 0)
    → (Within : (front : List ℕ) → (e : Term) → (at : ℕ) → State → Type 0) → List Opened → (text : List ℕ) → Type 0
AwaitsLed s extra mark argument Leads Within os text =
    (ts : List Term) × (texts : List ℕ) × (h : HasLed (detail_of s) extra mark Leads ts texts) × (text ≡ h.front ++ h.name ++ codes "(" ++ in_front_of_next ts texts)
    × ((t : Term) (at : ℕ) (st : State) → Comes s os (tree t true) at st → ItemsGoOn s argument (Within h.front) h.make (ts ++ t ∷ []) at st)

-- Accepts the return type of a function; `Within` says what waits for the function.
abbrev pub AwaitsFront : (s : Symbol) → Mark → Arguments → (Leads : (own : Term) → (front name : List ℕ) → Type 0)
    → (Within : (front : List ℕ) → (e : Term) → (at : ℕ) → State → Type 0) → List Opened → (text : List ℕ) → Type 0
AwaitsFront s mark argument Leads Within os text =
    (a : HasInnerFront s text mark Leads)
    × ((t : Term) (at : ℕ) (st : State) → Comes s os (tree t true) at st → ItemsGoOn s argument (Within a.lead) (λ l. encoding_of a.v l) (t ∷ []) at st)

-- The innermost entry accepts a type, or the name of a function whose address is read, after what is written. While types that
-- may name a function's own arguments are read, the entries around the function name nothing.
abbrev pub Stands : (s : Symbol) → Scope → List Open → List Opened → (text : List ℕ) → Type 0
Stands s scope [] os text = ⊥
Stands s scope (opens.Pointer from ∷ rest) os text = Marks s (outside scope rest (Stands s scope rest)) os text from pointer
Stands s scope (opens.Lvalue from ∷ rest) os text = Marks s (outside scope rest (Stands s scope rest)) os text from lvalue
Stands s scope (opens.Rvalue from ∷ rest) os text = Marks s (outside scope rest (Stands s scope rest)) os text from rvalue
Stands s scope (opens.Const from ∷ rest) os text = Marks s (outside scope rest (Stands s scope rest)) os text from (qualified (qualifiers true))
Stands s scope (opens.Front mark start argument ∷ rest) os text =
    (h : HasInstance s scope text mark start argument)
    × ((t : Term) (at : ℕ) (st : State) → Comes s os (tree t true) at st → ParametersGoOn s argument h.lead (encoding_of h.v) (t ∷ []) at st)
Stands s scope (opens.Parameters mark start argument ∷ rest) os text =
    (ts : List Term) × (texts : List ℕ) × (p : HasParameters s 3 scope text mark start argument ts texts)
    × (text ≡ p.front ++ codes "(" ++ in_front_of_next ts texts)
    × ((t : Term) (at : ℕ) (st : State) → Comes s os (tree t true) at st → ParametersGoOn s argument p.lead p.make (ts ++ t ∷ []) at st)
Stands s scope (opens.Enclosing mark from to ∷ rest) os text =
    AwaitsLed s 6 mark nowhere (IsEnclosing from to) (TypeWithin s (outside scope rest (Stands s scope rest))) os text
Stands s scope (opens.EnclosingFront mark from to argument ∷ rest) os text =
    AwaitsFront s mark argument (IsScopedWithin s scope from to argument) (TypeWithin s (outside no_scope rest (Stands s no_scope rest))) os text
Stands s scope (opens.EnclosingInstance mark from to argument ∷ rest) os text =
    AwaitsLed s 6 mark argument (IsScopedWithin s scope from to argument) (TypeWithin s (outside no_scope rest (Stands s no_scope rest))) os text
Stands s scope (opens.Address encoding ∷ rest) os text =
    (v : Value) (at : ℕ) (st : State) → Comes s os v at st → ItemsOf s encoding (AddressWithin s (outside scope rest (Stands s scope rest)) text) v at st
Stands s scope (opens.AddressedFront mark to argument ∷ rest) os text =
    AwaitsFront s mark argument (IsAddressed s scope to argument) (AddressWithin s (outside no_scope rest (Stands s no_scope rest))) os text
Stands s scope (opens.Addressed mark to argument ∷ rest) os text =
    AwaitsLed s 3 mark argument (IsAddressed s scope to argument) (AddressWithin s (outside no_scope rest (Stands s no_scope rest))) os text
Stands s scope (opens.Member mark to ∷ rest) os text = AwaitsLed s 6 mark nowhere (IsMember to) (λ front e at st. Encoded s e at) os text
Stands s scope (opens.Lambda from holder ∷ rest) os text =
    (h : IsLed (detail_of s) holder from) × (ts : List Term) × (texts : List ℕ) × PrintAll (detail_of s) 0 ts texts
    × (text ≡ h.front ++ (h.bytes ++ codes "::{lambda(") ++ in_front_of_next ts texts)
    × ((t : Term) (at : ℕ) (st : State) → Comes s os (tree t true) at st
    → ItemsGoOn s nowhere (LambdaWithin s holder (outside scope rest (Stands s scope rest)) h.front h.e) (λ l. l) (ts ++ t ∷ []) at st)
Stands s scope (opens.Returned is_pointer ∷ rest) os text =
    (k : IsTaken (outside scope rest (Stands s scope rest)) rest text)
    × ((r : Term) (at : ℕ) (st : State) → Comes s os (tree r true) at st → SignatureGoesOn s k.outer k.made_in is_pointer (λ l. plain_function r l) at st)
Stands s scope (opens.Signature is_pointer ∷ rest) os text =
    (front : List ℕ) × (k : IsTaken (outside scope rest (Stands s scope rest)) rest front) × (first : FirstType s)
    × (ts : List Term) × (texts : List ℕ) × PrintAll (detail_of s) 0 ts texts
    × (text ≡ front ++ (first.bytes ++ opening_text is_pointer) ++ in_front_of_next ts texts)
    × ((t : Term) (at : ℕ) (st : State) → Comes s os (tree t true) at st
    → SignatureGoesOn s k.outer k.made_in is_pointer (λ l. plain_function first.own (list_with (ts ++ t ∷ []) l)) at st)
Stands s scope (opens.Array access from to ∷ rest) os text =
    (k : IsTaken (outside scope rest (Stands s scope rest)) rest text)
    × (digits : List ℕ) × (from ≤ to) × (to ≤ length s.bytes) × (take (to - from) (drop from s.bytes) ≡ digits)
    × ((t : Term) (at : ℕ) (st : State) → Comes s os (tree t true) at st
    → Comes s k.outer (tree (accessed access (array (values.normal digits) t)) true) at (with_accessed access k.made_in (array (values.normal digits) t) st))
Stands s scope (opens.Special ∷ rest) os text =
    (letter : ℕ) × (text ≡ look_up (letter ∷ []) special_texts) × (text ≢ [])
    × ((t : Term) (at : ℕ) (st : State) → Comes s os (tree t true) at st → Encoded s (special letter t) at)
Stands s scope (opens.Derived ∷ rest) os text =
    (text ≡ []) × ((t : Term) (at : ℕ) (st : State) → Comes s os (tree t true) at st → BaseClassOpened s (λ e end now. Encoded s e end) 2 t at st)
Stands s scope (opens.Base to ∷ rest) os text =
    (h : HasDerived s text to) × (digits : List ℕ)
    × ((t : Term) (at : ℕ) (st : State) → Comes s os (tree t true) at st → Encoded s (construction h.derived digits t) at)
Stands s scope (opens.Argument from number known ∷ []) os text = ⊥
Stands s scope (opens.Argument from number known ∷ owner ∷ rest) os text =
    AwaitsArgument s scope.names false from number known owner (outside scope rest (Stands s scope rest)) os text
Stands s scope (opens.Element from number known ∷ opens.Pack ∷ owner ∷ rest) os text =
    AwaitsArgument s scope.names true from number known owner (outside scope rest (Stands s scope rest)) os text
Stands s scope (opens.Element from number known ∷ rest) os text = ⊥
Stands s scope (opens.ArgumentEnumerator from number known ∷ []) os text = ⊥
Stands s scope (opens.ArgumentEnumerator from number known ∷ owner ∷ rest) os text =
    AwaitsArgumentEnumerator s scope.names from number known owner (outside scope rest (Stands s scope rest)) os text
Stands s scope (opens.Enumerator ∷ []) os text = ⊥
Stands s scope (opens.Enumerator ∷ opens.Pack ∷ []) os text = ⊥
Stands s scope (opens.Enumerator ∷ opens.Pack ∷ owner ∷ rest) os text =
    (before : List Term) × (written : List ℕ) × PrintAllAs (detail_of s) scope.names (is_noted owner) 3 before written
    × AwaitsEnumerator s scope.names (of_pack before written) owner (outside scope rest (Stands s scope rest)) os text
Stands s scope (opens.Enumerator ∷ owner ∷ rest) os text = AwaitsEnumerator s scope.names of_template owner (outside scope rest (Stands s scope rest)) os text
Stands s scope (opens.Pack ∷ []) os text = ⊥
Stands s scope (opens.Pack ∷ owner ∷ rest) os text =
    (before : List Term) × (written : List ℕ) × PrintAllAs (detail_of s) scope.names (is_noted owner) 3 before written
    × AwaitsElementOf s scope.names (of_pack before written) owner (outside scope rest (Stands s scope rest)) os text
Stands s scope (owner ∷ rest) os text = AwaitsElementOf s scope.names of_template owner (outside scope rest (Stands s scope rest)) os text

-- these entries, as what is open below another entry
abbrev pub below : (s : Symbol) → Scope → List Open → Below
below s scope rest = outside scope rest (Stands s scope rest)

-- ## What comes next

-- what types may name in a nested name that is read up to here, if the nested name is a type
pub record IsNestScoped (s : Symbol) (scope : Scope) (w : Direct) (around : Around) : Type 0 where
  pub scoped : is_type w.nest.purpose ≡ true → IsScoped scope around (reverse w.waiting.list.items)
  pub naming : w.nest.is_dependent ≡ true → IsNaming scope (reverse w.waiting.list.items)

-- a nested name was read and written as far as this tree
pub record IsNestSoFar (s : Symbol) (scope : Scope) (w : Direct) (t : Term) : Type 0 where
  pub around : Around
  pub outer : List Opened
  pub front : List ℕ
  pub bytes : List ℕ
  pub written : w.text.list.items ≡ front ++ bytes
  pub is_nest : IsNest (detail_of s) scope.names front bytes w.text.list.items w.nest t
  pub scoped : IsNestScoped s scope w around
  pub serves : Serves s w.nest.purpose (below s scope (reverse w.waiting.list.items)) outer front

-- the nested name continues
pub record IsNesting (s : Symbol) (scope : Scope) (kind : Kind) (w : Direct) (t : Term) (st : State) : Type 0 where
  pub so_far : IsNestSoFar s scope w t
  pub open so_far use *
  pub goes : NestGoesOn s kind outer around t w.nest.is_listed w.at st

-- expects a type, an item of a list, or a type that is no reference
abbrev pub ExpectsType : (s : Symbol) → Around → List Opened → (at : ℕ) → State → Type 0
ExpectsType s around os at st =
    Expects s Kind.Type around os at st ⊎ Expects s Kind.Item around os at st ⊎ (Expects s Kind.ItemButRef around os at st × NoReference s.bytes at)

-- a type is expected, and the open entries accept it
pub record AwaitsTypeIn (s : Symbol) (scope : Scope) (w : Direct) : Type 0 where
  pub os : List Opened
  pub around : Around
  pub outside : around.prefix ≡ outermost
  pub stands : Stands s scope (reverse w.waiting.list.items) os w.text.list.items
  pub scoped : IsScoped scope around (reverse w.waiting.list.items)

-- a type was read, and written after a front, and these open entries accept it
pub record IsTypeRead (s : Symbol) (scope : Scope) (w : Direct) (st : State) (waits : List Open) (is_reference is_dependent : Bool) : Type 0 where
  pub os : List Opened
  pub own : Term
  pub front : List ℕ
  pub bytes : List ℕ
  pub written : w.text.list.items ≡ front ++ bytes
  pub prints : PrintsAs (detail_of s) scope.names is_dependent own bytes is_reference
  pub naming : is_dependent ≡ true → IsNaming scope waits
  pub comes : Comes s os (tree own true) w.at st
  pub stands : Stands s scope waits os front

-- where a writer is, before it takes a step
abbrev pub IsBefore : (s : Symbol) → Scope → Direct → State → Step → Type 0
IsBefore s scope w st steps.Type = (a : AwaitsTypeIn s scope w) × ExpectsType s a.around a.os w.at st
IsBefore s scope w st steps.Plain = (a : AwaitsTypeIn s scope w) × Expects s Kind.Plain a.around a.os w.at st
IsBefore s scope w st (steps.Value is_reference is_dependent) = IsTypeRead s scope w st (reverse w.waiting.list.items) is_reference is_dependent
IsBefore s scope w st (steps.List is_first) =
    (place : IsListing (detail_of s) scope.names (reverse w.waiting.list.items) w.text.list.items) × (ts : List Term) × (elements : List ℕ)
    × PrintAllAs (detail_of s) scope.names (may_name place.listing place.owner) (extra_of place.listing) ts elements
    × (w.text.list.items ≡ led_by (detail_of s) place.listing place.front place.name ++ elements)
    × (is_first ≡ true → ts ≡ []) × (is_first ≡ false → ts ≢ [])
    × GoesOn s place.listing place.owner (below s scope place.rest) place.front place.template ts w.at st
IsBefore s scope w st steps.Rest = (t : Term) × (kind : Kind) × IsFirstRest kind × IsNesting s scope kind w t st
IsBefore s scope w st steps.Tail =
    (t : Term) × IsNesting s scope Kind.NestTail w t st × (IsOwn w.nest.purpose → w.nest.is_instance && w.nest.has_class ≡ false → has_return_type t ≡ false)
    × (w.nest.is_instance && w.nest.has_class ≡ true → has_return_type t ≡ true)
    × (w.nest.is_instance ≡ true → HasArguments (detail_of s) w.text.list.items w.argument t)
IsBefore s scope w st steps.Component = (t : Term) × (n : IsNestSoFar s scope w t) × AwaitsComponent s n.outer n.around t w.at st
IsBefore s scope w st steps.Ended = IsWhole s w.text.list.items

-- what a writer keeps, and where it is before the next step
pub record IsWriting (s : Symbol) (w : Direct) (step : Step) : Type 0 where
  pub kept : Kept s w
  pub open kept use *
  pub is_before : IsBefore s scope w state step
