-- Where a writer is between two of its functions within a step: local entities, and types in functions.
use Rattle.std.specs.Prelude.{◌≡◌, ◌≢◌, ℕ, ◌+◌, List, [], ◌∷◌, ◌++◌, length, reverse, Bool, true, false, cond, codes, ◌⊎◌}
use Rattle.cpp_grammar.specs.Term.{Term, within}
use Rattle.cpp_grammar.specs.Scope.{has_return_type}
use Rattle.cpp_grammar.specs.Texts.{builtin_texts, look_up}
use Rattle.cpp_grammar.specs.Values.{State}
use Rattle.cpp_grammar.specs.Meaning.{encoding_of}
use Rattle.cpp_direct.specs.Symbol.{detail_of, Symbol}
use Rattle.cpp_direct.specs.declared.open.Mark.{Mark}
use Rattle.cpp_direct.specs.declared.open.Mark.TheVariants as marks
use Rattle.cpp_direct.specs.declared.open.Arguments.{Arguments}
use Rattle.cpp_direct.specs.declared.open.Holder.{Holder}
use Rattle.cpp_direct.specs.declared.open.Open.{Open}
use Rattle.cpp_direct.specs.declared.open.Open.TheVariants as opens
use Rattle.cpp_direct.specs.declared.direct.Direct.{Direct}
use Rattle.cpp_direct.specs.Bytes.{is_builtin_with_d, is_local, short_numbers}
use Rattle.cpp_direct.specs.Holes.{StandsAt}
use Rattle.cpp_direct.specs.HolesOfLocals.{FirstOpened, member_in}
use Rattle.cpp_direct.specs.Marks.{called_on, has_const, mark_text}
use Rattle.cpp_direct.specs.Prints.{Encloses, IsLed, Prints, PrintsPiece, PrintAll, Shows}
use Rattle.cpp_direct.specs.WriterInvariant.{Encoded, HasArguments, HasInnerFront, ItemsGoOn, LambdaComes, LambdaWithin, TypeWithin, below, no_scope, nowhere, Kept, HasLed, HasNameSo, IsEnclosing, IsMember, IsScopedWithin, ItemsOf, MemberGoesOn, qualifiers, Scope}
use Rattle.cpp_direct.specs.MidStep.{IsEncodingEnded}

-- ## Local entities

-- Expects the name of a local entity after the E of the encoding before it, and after the L of internal linkage or without one.
pub record AwaitsEntity (s : Symbol) (w : Direct) (is_internal : Bool) : Type 0 where
  pub before : ℕ
  pub ended : IsEncodingEnded s (record w { at = before }) marks.Plain
  pub is_entity : is_local s.bytes ≡ true
  pub first : StandsAt s.bytes before (69 ∷ [])
  pub letter : is_internal ≡ true → StandsAt s.bytes (before + 1) (76 ∷ [])
  pub at_is : w.at ≡ before + 1 + cond is_internal 1 0

-- ## Types in functions

-- The name of a function that contains a type was read and written from a place on, except for its qualifier. Expects the
-- function's return type if the function is an instance of a function template.
pub record IsEnclosingNamed (s : Symbol) (w : Direct) (mark : Mark) (is_instance : Bool) (from : ℕ) : Type 0 where
  pub kept : Kept s w
  pub open kept use *
  pub has : HasNameSo s w.text.list.items mark from
  pub open has use *
  pub returns : has_return_type own ≡ is_instance
  pub goes : ItemsGoOn s nowhere (TypeWithin s (below s scope (reverse w.waiting.list.items)) lead) (λ l. encoding_of v l) [] w.at state

-- A builtin type is at the place, with a code of one letter or of two, and `end` is the place after it.
abbrev pub IsBuiltinAt : List ℕ → (at end : ℕ) → Type 0
IsBuiltinAt bytes at end =
    (letter : ℕ) × (((look_up (letter ∷ []) builtin_texts ≢ []) × (letter ≢ 0 → StandsAt bytes at (letter ∷ [])) × (end ≡ at + 1))
    ⊎ ((is_builtin_with_d letter ≡ true) × StandsAt bytes at (68 ∷ letter ∷ []) × (end ≡ at + 2)))

-- The name of an instance of a function template that contains a type was read and written from a place on, except for its
-- qualifier. Expects the return type. The instance's encoding begins at `encoding`, and its known arguments are at their places.
pub record IsInstanceNamed (s : Symbol) (w : Direct) (mark : Mark) (encoding from : ℕ) : Type 0 where
  pub kept : Kept s w
  pub open kept use *
  pub has : HasNameSo s w.text.list.items mark from
  pub open has use *
  pub returns : has_return_type own ≡ true
  pub names : HasArguments (detail_of s) w.text.list.items w.argument own
  pub items : ItemsOf s encoding (TypeWithin s (below s scope (reverse w.waiting.list.items)) lead) v w.at state

-- The name of a function was read after a text, and so was the function's return type if there is one. Expects the function's
-- parameters. `Leads` holds of the name and the text before it, and `Within` of the function once the parameters are read.
pub record AwaitsLedParameters (s : Symbol) (w : Direct) (extra : ℕ) (mark : Mark) (argument : Arguments)
    (Leads : Scope → (own : Term) → (front name : List ℕ) → Type 0)
    (Within : Scope → List Open → (front : List ℕ) → (e : Term) → (at : ℕ) → State → Type 0) : Type 0 where
  pub kept : Kept s w
  pub open kept use *
  pub has : HasLed (detail_of s) extra mark (Leads scope) [] []
  pub open has use *
  pub written : w.text.list.items ≡ front ++ name
  pub goes : ItemsGoOn s argument (Within scope (reverse w.waiting.list.items) front) make [] w.at state

-- A parameter of a function was read, with this entry open for it.
pub record IsLedParameterRead (s : Symbol) (w : Direct) (extra : ℕ) (mark : Mark) (argument : Arguments) (entry : Open)
    (Leads : Scope → (own : Term) → (front name : List ℕ) → Type 0)
    (Within : Scope → List Open → (front : List ℕ) → (e : Term) → (at : ℕ) → State → Type 0) : Type 0 where
  pub kept : Kept s w
  pub open kept use *
  pub rest : List Open
  pub open_is : reverse w.waiting.list.items ≡ entry ∷ rest
  pub ts : List Term
  pub some : ts ≢ []
  pub texts : List ℕ
  pub has : HasLed (detail_of s) extra mark (Leads scope) ts texts
  pub open has use *
  pub written : w.text.list.items ≡ front ++ name ++ codes "(" ++ texts
  pub goes : ItemsGoOn s argument (Within scope rest front) make ts w.at state

-- Expects parameters of a function that contains a type, from a place on.
abbrev pub AwaitsEnclosingParameters : (s : Symbol) → (w : Direct) → Mark → (from : ℕ) → Type 0
AwaitsEnclosingParameters s w mark from =
    AwaitsLedParameters s w 6 mark nowhere (λ scope own front name. from ≡ length front) (λ scope waits. TypeWithin s (below s scope waits))

-- A parameter of a function that contains a type was read.
abbrev pub IsEnclosingParameterRead : (s : Symbol) → (w : Direct) → Mark → (from to : ℕ) → Type 0
IsEnclosingParameterRead s w mark from to =
    IsLedParameterRead s w 6 mark nowhere (opens.Enclosing mark from to) (λ scope. IsEnclosing from to) (λ scope waits. TypeWithin s (below s scope waits))

-- A parameter of an instance of a function template was read. Its type may name the instance's arguments.
abbrev pub IsInstanceParameterRead : (s : Symbol) → (w : Direct) → Mark → (from to : ℕ) → Type 0
IsInstanceParameterRead s w mark from to =
    (argument : Arguments) × IsLedParameterRead s w 6 mark argument (opens.EnclosingInstance mark from to argument) (λ scope. IsScopedWithin s scope from to argument)
    (λ scope waits. TypeWithin s (below s no_scope waits))

-- The return type of a function was read, with this entry open for it, and written after the function's name. `Leads` holds of
-- the name and the text before it, and `Within` of the function once the parameters are read.
pub record IsInnerFrontRead (s : Symbol) (w : Direct) (mark : Mark) (argument : Arguments) (entry : Open)
    (Leads : Scope → (own : Term) → (front name : List ℕ) → Type 0)
    (Within : Scope → List Open → (front : List ℕ) → (e : Term) → (at : ℕ) → State → Type 0) : Type 0 where
  pub kept : Kept s w
  pub open kept use *
  pub rest : List Open
  pub open_is : reverse w.waiting.list.items ≡ entry ∷ rest
  pub text : List ℕ
  pub front : HasInnerFront s text mark (Leads scope)
  pub open front use *
  pub returned : Term
  pub bytes : List ℕ
  pub reads : w.text.list.items ≡ text ++ bytes
  pub goes : ItemsGoOn s argument (Within scope rest lead) (λ l. encoding_of v l) (returned ∷ []) w.at state

-- The return type of an instance of a function template was read. The instance contains a type.
abbrev pub IsEnclosingFrontRead : (s : Symbol) → (w : Direct) → Mark → (from to : ℕ) → Arguments → Type 0
IsEnclosingFrontRead s w mark from to argument =
    IsInnerFrontRead s w mark argument (opens.EnclosingFront mark from to argument) (λ scope. IsScopedWithin s scope from to argument)
    (λ scope waits. TypeWithin s (below s no_scope waits))

-- A function was read and written after a text, except for its qualifier. `Leads` holds of the function's name and that text,
-- and `Within` of the function and the place after it.
pub record IsLedFunctionRead (s : Symbol) (w : Direct) (mark : Mark) (Leads : (own : Term) → (front : List ℕ) → Type 0)
    (Within : Scope → List Open → (front : List ℕ) → (e : Term) → (at : ℕ) → State → Type 0) : Type 0 where
  pub kept : Kept s w
  pub open kept use *
  pub e : Term
  pub own : Term
  pub front : List ℕ
  pub leads : Leads own front
  pub bytes : List ℕ
  pub encloses : Encloses (detail_of s) e bytes
  pub shows : has_return_type own ≡ false → Shows (detail_of s) e bytes
  pub written : w.text.list.items ++ mark_text mark ≡ front ++ bytes
  pub within : Within scope (reverse w.waiting.list.items) front e w.at state

-- A function that contains a type was read, and written from a place on, except for its qualifier.
abbrev pub IsEnclosingRead : (s : Symbol) → (w : Direct) → Mark → (from : ℕ) → Type 0
IsEnclosingRead s w mark from =
    IsLedFunctionRead s w mark (λ own front. from ≡ length front) (λ scope waits. TypeWithin s (below s scope waits))

-- Expects the name of a type after the E of the function that contains the type. The function was written from a place on.
pub record AwaitsTypeName (s : Symbol) (w : Direct) (from : ℕ) : Type 0 where
  pub before : ℕ
  pub read : IsEnclosingRead s (record w { at = before }) marks.Plain from
  pub letter : StandsAt s.bytes before (69 ∷ [])
  pub at_is : w.at ≡ before + 1

-- ## Lambdas

-- The first bytes of a lambda were read and written, and an entry waits for its parameters.
pub record IsLambdaOpened (s : List ℕ) (old new : Direct) (from : ℕ) (holder : Holder) : Type 0 where
  pub short : short_numbers 0 s ≡ true
  pub stands : StandsAt s old.at (85 ∷ 108 ∷ [])
  pub text : new.text.list.items ≡ old.text.list.items ++ codes "::{lambda("
  pub candidates : new.candidates ≡ old.candidates
  pub scope : new.has_scope ≡ old.has_scope
  pub at : new.at ≡ old.at + 2
  pub waiting : new.waiting.list.items ≡ old.waiting.list.items ++ opens.Lambda from holder ∷ []

-- A parameter of a lambda was read. `holder` says what the lambda is a part of.
pub record IsLambdaParameterRead (s : Symbol) (w : Direct) (from : ℕ) (holder : Holder) : Type 0 where
  pub kept : Kept s w
  pub open kept use *
  pub rest : List Open
  pub open_is : reverse w.waiting.list.items ≡ opens.Lambda from holder ∷ rest
  pub has : IsLed (detail_of s) holder from
  pub open has use *
  pub ts : List Term
  pub some : ts ≢ []
  pub texts : List ℕ
  pub elements : PrintAll (detail_of s) 0 ts texts
  pub written : w.text.list.items ≡ front ++ (bytes ++ codes "::{lambda(") ++ texts
  pub goes : ItemsGoOn s nowhere (LambdaWithin s holder (below s scope rest) front e) (λ l. l) ts w.at state

-- A lambda was read, and written after what contains it.
pub record IsLambdaRead (s : Symbol) (w : Direct) (from : ℕ) (holder : Holder) : Type 0 where
  pub kept : Kept s w
  pub open kept use *
  pub has : IsLed (detail_of s) holder from
  pub open has use *
  pub own : Term
  pub name : List ℕ
  pub prints : PrintsPiece (detail_of s) own name
  pub returns : has_return_type (within e own) ≡ false
  pub written : w.text.list.items ≡ front ++ (bytes ++ codes "::" ++ name)
  pub comes : LambdaComes s holder (below s scope (reverse w.waiting.list.items)) front e own w.at state

-- ## Member functions of local entities

-- The function that contains a local entity was read, and is all that is written. Expects the entity, as the first piece of the
-- name of a member function with these qualifiers.
pub record AwaitsFirst (s : Symbol) (w : Direct) (mark : Mark) : Type 0 where
  pub kept : Kept s w
  pub open kept use *
  pub e : Term
  pub encloses : Encloses (detail_of s) e w.text.list.items
  pub first : FirstOpened s (λ t at st. ItemsOf s 2 (λ f end last. Encoded s f end) (member_in e t (qualifiers (has_const mark)) (called_on mark)) at st) e w.at state

-- A local entity was read and written. Expects its member function.
pub record AwaitsMemberFunction (s : Symbol) (w : Direct) (mark : Mark) : Type 0 where
  pub kept : Kept s w
  pub open kept use *
  pub e : Term
  pub own : Term
  pub prints : Prints (detail_of s) own w.text.list.items false
  pub goes : MemberGoesOn s mark e own w.at state

-- a member function of a local entity is an encoding that ends the symbol
abbrev pub MemberWithin : (s : Symbol) → Scope → List Open → (front : List ℕ) → (e : Term) → (at : ℕ) → State → Type 0
MemberWithin s scope waits front e at st = Encoded s e at

-- the name of a member function has no return type, and nothing is written before it
abbrev pub LeadsMember : (own : Term) → (front : List ℕ) → Type 0
LeadsMember own front = (front ≡ []) × (has_return_type own ≡ false)

-- Expects the parameters of a member function.
abbrev pub AwaitsMemberParameters : (s : Symbol) → (w : Direct) → Mark → Type 0
AwaitsMemberParameters s w mark = AwaitsLedParameters s w 6 mark nowhere (λ scope own front name. LeadsMember own front) (MemberWithin s)

-- A parameter of a member function was read.
abbrev pub IsMemberParameterRead : (s : Symbol) → (w : Direct) → Mark → (to : ℕ) → Type 0
IsMemberParameterRead s w mark to = IsLedParameterRead s w 6 mark nowhere (opens.Member mark to) (λ scope. IsMember to) (MemberWithin s)

-- A member function was read and written, except for its qualifiers.
abbrev pub IsMemberRead : (s : Symbol) → (w : Direct) → Mark → Type 0
IsMemberRead s w mark = IsLedFunctionRead s w mark LeadsMember (MemberWithin s)
