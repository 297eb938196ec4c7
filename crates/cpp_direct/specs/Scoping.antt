-- What types may name while a symbol is read: the arguments of a name and where they are, and the candidates of substitutions.
use Rattle.sym_print.specs.declared.detail.Detail.{Detail}
use Rattle.std.specs.Prelude.{◌≡◌, ◌≢◌, ℕ, zero, suc, ◌+◌, ◌≤◌, ◌<◌, List, [], ◌∷◌, ◌++◌, length, replicate, get_or, slice_get, Bool, true, false, cond, Option, Some, None}
use Rattle.cpp_grammar.specs.Term.{Term, pack}
use Rattle.cpp_grammar.specs.Scope.{arguments_of, length_if_pack, element, count}
use Rattle.cpp_grammar.specs.Values as values
use Rattle.cpp_grammar.specs.Values.{State, Around, named}
use Rattle.cpp_direct.specs.Symbol.{Symbol, detail_of}
use Rattle.cpp_direct.specs.declared.open.Candidate.{Candidate}
use Rattle.cpp_direct.specs.declared.open.Purpose.{Purpose}
use Rattle.cpp_direct.specs.declared.open.Purpose.TheVariants as purposes
use Rattle.cpp_direct.specs.declared.open.Open.{Open}
use Rattle.cpp_direct.specs.declared.open.TheConstants.{MOST_KNOWN}
use Rattle.cpp_direct.specs.declared.open.Argument.{Argument}
use Rattle.cpp_direct.specs.declared.open.Arguments.{Arguments}
use Rattle.cpp_direct.specs.declared.open.Open.TheVariants as opens
use Rattle.cpp_direct.specs.declared.direct.Direct.{Direct}
use Rattle.cpp_direct.specs.Bytes.{is_local, is_object}
use Rattle.cpp_direct.specs.Prints.{Named, Names, Prints, PrintsAs, PrintsListed, list_of}

-- ## Places

-- the place where the encoding of a symbol begins if no text precedes it: after _Z, or after _ZZ in the symbol of a local
-- entity
abbrev pub encoding_place : List ℕ → ℕ
encoding_place s = cond (is_local s) 3 2

-- these bytes of a text are between two places
pub record IsBetween (text : List ℕ) (from to : ℕ) (bytes : List ℕ) : Type 0 where
  pub front : List ℕ
  pub back : List ℕ
  pub written : text ≡ front ++ bytes ++ back
  pub from_is : from ≡ length front
  pub to_is : to ≡ length front + length bytes

-- ## Arguments of templates

-- these bytes are at an argument's place in a text
abbrev pub IsPlaced : (text : List ℕ) → Argument → (bytes : List ℕ) → Type 0
IsPlaced text p bytes = IsBetween text p.from p.to bytes

-- no argument has a known place
abbrev pub nowhere : Arguments
nowhere = record { from = 0; ends = replicate MOST_KNOWN 0; references = replicate MOST_KNOWN false; count = 0; encoding = 0; has_pack = false; before = 0; elements = 0 }

-- where the text of the argument with this number begins: the first text begins at a place, and any other follows the text before
-- it, a comma and a space
abbrev pub begin_by : (from : ℕ) → (ends : List ℕ) → (number : ℕ) → ℕ
begin_by from ends zero = from
begin_by from ends (suc before) = get_or ends before 0 + 2

-- the argument with this number
abbrev pub place_of : Arguments → (number : ℕ) → Argument
place_of a number = record { from = begin_by a.from a.ends number; to = get_or a.ends number 0; is_reference = get_or a.references number false }

-- the argument with this number is known
abbrev pub IsKnown : Arguments → (number : ℕ) → Type 0
IsKnown a number = number < a.count

-- the argument with this number is known, and is no element of the pack
abbrev pub IsSingle : Arguments → (number : ℕ) → Type 0
IsSingle a number = IsKnown a number × (a.has_pack ≡ true → number < a.before)

-- the text of a name's argument with this number, or of a pack's element with this number, is at a place
pub record IsAmong (in_pack : Bool) (detail : Detail) (text : List ℕ) (p : Argument) (number : ℕ) (ts : List Term) : Type 0 where
  pub bytes : List ℕ
  pub placed : IsPlaced text p bytes
  pub own : Term
  pub there : slice_get ts number ≡ Some own
  pub prints : PrintsListed in_pack detail own bytes p.is_reference

-- a pack has these elements, and the known ones are at their places
pub record IsPackOf (detail : Detail) (text : List ℕ) (a : Arguments) (ts : List Term) : Type 0 where
  pub size : length ts ≡ a.elements
  pub among : (k : ℕ) → IsKnown a (a.before + k) → IsAmong true detail text (place_of a (a.before + k)) k ts

-- A name's argument with this number is at a place.
pub record IsArgument (detail : Detail) (text : List ℕ) (p : Argument) (number : ℕ) (name : Term) : Type 0 where
  pub bytes : List ℕ
  pub placed : IsPlaced text p bytes
  pub own : Term
  pub all : Term
  pub all_are : arguments_of name ≡ Some all
  pub there : (element all number ≡ own) × (number < count all)
  pub prints : Prints detail own bytes p.is_reference

-- the argument with this number is a pack of these elements
abbrev pub HasPack : (all : Term) → (number : ℕ) → List Term → Type 0
HasPack all number ts = (element all number ≡ pack (list_of ts)) × (number < count all)

-- a name's arguments include a pack, which is known
pub record OwnPack (detail : Detail) (text : List ℕ) (a : Arguments) (name : Term) : Type 0 where
  pub all : Term
  pub all_are : arguments_of name ≡ Some all
  pub elements : List Term
  pub there : HasPack all a.before elements
  pub are : IsPackOf detail text a elements

-- the known arguments of a name are at their places, and so are the known elements of a pack among them
abbrev pub HasArguments : (detail : Detail) (text : List ℕ) → Arguments → (name : Term) → Type 0
HasArguments detail text a name =
    ((number : ℕ) → IsSingle a number → IsArgument detail text (place_of a number) number name) × (a.has_pack ≡ true → OwnPack detail text a name)

-- a parameter may name the argument with this number here; the argument is no pack
pub record IsScope (number : ℕ) (around : Around) : Type 0 where
  pub own : Term
  pub all : Term
  pub scope_is : around.scope ≡ Some all
  pub there : (element all number ≡ own) × (number < count all)
  pub no_pack : length_if_pack own ≡ None

-- a parameter may name a pack of these elements here
pub record IsPackThere (around : Around) (number : ℕ) (ts : List Term) : Type 0 where
  pub all : Term
  pub scope_is : around.scope ≡ Some all
  pub there : HasPack all number ts

-- if the place is known, the innermost encoding begins there, and no lambda in it is being read
abbrev pub IsEncodedAt : (place : ℕ) → Around → Type 0
IsEncodedAt place around = place ≢ 0 → (around.encoding ≡ place) × (around.in_lambda ≡ false)

-- parameters may name the known arguments here, and the pack among them
abbrev pub HasScope : Arguments → Around → Type 0
HasScope a around =
    IsEncodedAt a.encoding around × ((number : ℕ) → IsSingle a number → IsScope number around)
    × (a.has_pack ≡ true → (ts : List Term) × IsPackThere around a.before ts)

-- a nested name is a type
abbrev pub is_type : Purpose → Bool
is_type purposes.Type = true
is_type _ = false

-- what the entry waits for is within a type
abbrev pub is_within_type : Open → Bool
is_within_type (opens.Pointer from) = true
is_within_type (opens.Lvalue from) = true
is_within_type (opens.Rvalue from) = true
is_within_type (opens.Const from) = true
is_within_type (opens.TypeArguments from is_dependent) = true
is_within_type (opens.NestArguments nest) = is_type nest.purpose
is_within_type (opens.FirstArguments nest) = is_type nest.purpose
is_within_type (opens.LevelArguments is_dependent) = true
is_within_type _ = false

-- the arguments that types may name in what the entry waits for
abbrev pub arguments_in : Open → Option Arguments
arguments_in (opens.Front mark start argument) = Some argument
arguments_in (opens.Parameters mark start argument) = Some argument
arguments_in (opens.EnclosingFront mark from to argument) = Some argument
arguments_in (opens.EnclosingInstance mark from to argument) = Some argument
arguments_in (opens.AddressedFront mark to argument) = Some argument
arguments_in (opens.Addressed mark to argument) = Some argument
arguments_in _ = None

-- the arguments that a type may name where these entries are open
abbrev pub argument_of : List Open → Option Arguments
argument_of [] = None
argument_of (o ∷ rest) = elim (is_within_type o) [ true ↦ argument_of rest | false ↦ arguments_in o ]

-- What types may name: the known arguments of the symbol's own name, or of the name of a function whose address is read, and
-- their texts.
pub record Scope : Type 0 where
  pub arguments : Arguments
  pub names : Names

-- nothing may be named
abbrev pub no_scope : Scope
no_scope = record { arguments = nowhere; names = λ number. None }

-- each argument that may be named has, at its place, the text that the scope gives it
abbrev pub AreNamed : (text : List ℕ) → Scope → Type 0
AreNamed text scope =
    (number : ℕ) → IsSingle scope.arguments number → (bytes : List ℕ)
    × (scope.names number ≡ Some (record { bytes = bytes; reference = (place_of scope.arguments number).is_reference }))
    × IsPlaced text (place_of scope.arguments number) bytes

-- the arguments that have texts are no packs
abbrev pub HasSingles : Scope → Type 0
HasSingles scope = (number : ℕ) (own : Named) → scope.names number ≡ Some own → IsSingle scope.arguments number

-- ## Candidates

-- the encoding is the one whose arguments may be named, its beginning is known, and this is in none of its lambdas
abbrev pub IsMadeIn : Scope → (encoding : ℕ) → (in_lambda : Bool) → Type 0
IsMadeIn scope encoding in_lambda = (encoding ≡ scope.arguments.encoding) × (scope.arguments.encoding ≢ 0) × (in_lambda ≡ false)

-- A candidate prints the text at its place. If it names arguments of the function's template, types may name these arguments.
pub record IsCandidate (s : Symbol) (scope : Scope) (text : List ℕ) (k : Candidate) (c : values.Candidate) : Type 0 where
  pub bytes : List ℕ
  pub placed : IsBetween text k.from k.to bytes
  pub open placed use *
  pub prints : PrintsAs (detail_of s) scope.names k.is_dependent c.tree bytes k.is_reference
  pub made_in : k.is_dependent ≡ true → IsMadeIn scope c.encoding c.in_lambda

-- each candidate prints the text at its place, except for those that end before they begin: their texts are unknown
abbrev pub AreCandidates : (s : Symbol) → Scope → (text : List ℕ) → List Candidate → List values.Candidate → Type 0
AreCandidates s scope text [] [] = Unit {0}
AreCandidates s scope text (k ∷ ks) (c ∷ cs) = (k.from ≤ k.to → IsCandidate s scope text k c) × AreCandidates s scope text ks cs
AreCandidates s scope text _ _ = ⊥

-- What a writer keeps: its candidates, and the arguments that types may name. Before the end of the symbol's own name no argument
-- is known, except for those of a function whose address is an argument of that name. After an object's name there are no types.
pub record Keeps (s : Symbol) (scope : Scope) (w : Direct) (cs : List values.Candidate) : Type 0 where
  pub candidates : AreCandidates s scope w.text.list.items w.candidates.list.items cs
  pub named : AreNamed w.text.list.items scope
  pub single : HasSingles scope
  pub unknown : w.has_scope ≡ false → (scope ≡ no_scope) × (is_object s.bytes ≡ false)

-- what a writer keeps, with a state and a scope
pub record Kept (s : Symbol) (w : Direct) : Type 0 where
  pub state : State
  pub scope : Scope
  pub keeps : Keeps s scope w state.candidates

-- if types may name arguments where these entries are open, the scope has these arguments, and parameters may name them here
abbrev pub IsScoped : Scope → Around → List Open → Type 0
IsScoped scope around open_ = (a : Arguments) → argument_of open_ ≡ Some a → (scope.arguments ≡ a) × HasScope a around

-- types may name the arguments of the scope here, and the beginning of the arguments' encoding is known
abbrev pub IsNaming : Scope → List Open → Type 0
IsNaming scope open_ = (argument_of open_ ≡ Some scope.arguments) × (scope.arguments.encoding ≢ 0)
