-- Names are read as what was pressed: a piece with its arguments, and names between N and E from piece to piece.
use Rattle.cpp_press_laws.proofs.Basics.{ℕ, ◌+◌, length, List, [], ◌∷◌, ◌++◌, Option, Bool, true, false, refl, arith, sym, append_assoc, length-append, TakesRule, Kind, Production, NEST, NEST_TAIL, COMPONENT, COMPONENT_AFTER_C, CONSTRUCTOR_DIGIT, COMPONENT_AFTER_D, ANONYMOUS, MAYBE_ARGUMENTS, ARGUMENTS_ALONE, NEST_REST, NEST_REST_ALONE, NEST_REST_OR_END, OPERATOR, OPERATOR_AFTER_C, OTHER_OPERATOR, CONSTRUCTOR_AFTER_C, kinds, may_be_empty, abi, rule_of, Term, source, operator, constructor, destructor, prefix_tree, prefix_listed, Around, Value, nothing_there, letter, tree, piece, appended, with_prefix, after, extended, applied, named_so_far, arguments_alone, rest_alone, Component, counted, IsSpellableName, Written, written, ReadsAt, Is}
use Rattle.sym_shape.specs.declared.rule.Sym.TheVariants.{Kind as OfKind}
use Rattle.cpp_grammar.specs.Values as value
use Rattle.cpp_grammar.proofs.Rests.{abi_rest}
use Rattle.cpp_press_laws.proofs.ReadBack.Reading.{appended-same, takes-byte, takes-none, empty-reads, name-reads, elsewhere, grammar, read-by-parts, same-written, reshaped, ◌before◌}
use Rattle.cpp_press_laws.proofs.ReadBack.Arguments.{listed_now}

-- ## A piece and its arguments

-- no bytes are read as no arguments
pub no-arguments : (around : Around) (allowed : Option ℕ) (place : ℕ) (cs : List Component)
    → ReadsAt around allowed (OfKind MAYBE_ARGUMENTS) (Is nothing_there) place cs (written [] cs)
unfolding kinds may_be_empty
no-arguments around allowed place cs = empty-reads Kind.MaybeArguments refl refl

-- what is read after a name is also read where no tags may come
pub alone-arguments : {around : Around} {allowed : Option ℕ} {Q : Value → Type 0} {place : ℕ} {cs : List Component} {w : Written}
    → ReadsAt around allowed (OfKind MAYBE_ARGUMENTS) Q place cs w → ReadsAt around allowed (OfKind ARGUMENTS_ALONE) Q place cs w
alone-arguments one = reshaped (λ t is. (t, refl, arguments_alone t is, λ s. refl)) one

pub alone-rest : {around : Around} {allowed : Option ℕ} {Q : Value → Type 0} {place : ℕ} {cs : List Component} {w : Written}
    → ReadsAt around allowed (OfKind NEST_REST) Q place cs w → ReadsAt around allowed (OfKind NEST_REST_ALONE) Q place cs w
alone-rest one = reshaped (λ t is. (t, refl, rest_alone t is, λ s. refl)) one

-- what is read after a name is also read after a name that an S denotes
pub rest-or-end : {around : Around} {allowed : Option ℕ} {Q : Value → Type 0} {place : ℕ} {cs : List Component} {w : Written}
    → ReadsAt around allowed (OfKind NEST_REST) Q place cs w → ReadsAt around allowed (OfKind NEST_REST_OR_END) Q place cs w
rest-or-end {around} {place} one = reshaped (λ t is. let r = abi_rest t is in (r.tree, r.spells, r.is, r.says around place)) one

-- a name of this piece, and what follows the name
abbrev pub NamesAt : Around → Option ℕ → (k : ℕ) → (p : Term) → (place : ℕ) → List Component → Written → Type 0
NamesAt around allowed k p place cs w =
    (last : Value) (rest : Written)
    → ReadsAt (after (extended around.prefix p) false around) allowed (OfKind MAYBE_ARGUMENTS) (Is last) (place + length w.bytes) w.components rest
    → ReadsAt around allowed (OfKind k) (Is (tree (applied (extended around.prefix p) last) false)) place cs
    (written (w.bytes ++ rest.bytes) rest.components)

pub source-name : (k : ℕ) (around : Around) (allowed : Option ℕ) (name : List ℕ) (place : ℕ) (cs : List Component)
    → TakesRule abi k (rule_of Production.SourceName) [] → IsSpellableName name
    → NamesAt around allowed k (source false name) place cs (written (counted name) cs)
unfolding grammar named_so_far
source-name k around allowed name place cs takes good last rest two =
    read-by-parts Production.SourceName k [] (value.text name ∷ last ∷ []) (written (counted name) cs ∷ rest ∷ []) takes tt refl
    (λ s c q. name-reads name good s c q before λ s c q. elsewhere (omega arith) two s c q before λ began s. refl)

pub internal-name : (k : ℕ) (around : Around) (allowed : Option ℕ) (name : List ℕ) (place : ℕ) (cs : List Component)
    → TakesRule abi k (rule_of Production.InternalName) (76 ∷ []) → IsSpellableName name
    → NamesAt around allowed k (source true name) place cs (written (76 ∷ counted name) cs)
unfolding grammar named_so_far
internal-name k around allowed name place cs takes good last rest two =
    read-by-parts Production.InternalName k (76 ∷ []) (value.text name ∷ last ∷ []) (written (counted name) cs ∷ rest ∷ []) takes tt refl
    (λ s c q. name-reads name good s c q before λ s c q. elsewhere (omega arith) two s c q before λ began s. refl)

-- a name of an operator
pub operator-name : (k : ℕ) (around : Around) (allowed : Option ℕ) (p : Term) (place : ℕ) (cs : List Component) (first : Written)
    → TakesRule abi k (rule_of Production.OperatorName) []
    → ReadsAt around allowed (OfKind OPERATOR) (Is (piece p)) (place + 0) cs first → NamesAt around allowed k p place cs first
unfolding grammar named_so_far
operator-name k around allowed p place cs first takes one last rest two =
    read-by-parts Production.OperatorName k [] (piece p ∷ last ∷ []) (first ∷ rest ∷ []) takes tt refl
    (λ s c q. one s c q before λ s c q. elsewhere (omega arith) two s c q before λ began s. refl)

-- the name of an operator within a nested name, where the operator begins with no c
pub other-operator-name : (around : Around) (allowed : Option ℕ) (p : Term) (place : ℕ) (cs : List Component) (first : Written)
    → ReadsAt around allowed (OfKind OTHER_OPERATOR) (Is (piece p)) (place + 0) cs first → NamesAt around allowed COMPONENT p place cs first
unfolding grammar named_so_far
other-operator-name around allowed p place cs first one last rest two =
    read-by-parts Production.OtherOperatorName COMPONENT [] (piece p ∷ last ∷ []) (first ∷ rest ∷ [])
    (takes-none COMPONENT Kind.Component Production.OtherOperatorName 110 refl refl (omega arith) refl) tt refl
    (λ s c q. one s c q before λ s c q. elsewhere (omega arith) two s c q before λ began s. refl)

-- the name of an operator within a nested name, where the operator begins with a c
pub operator-name-with-c : (around : Around) (allowed : Option ℕ) (second place : ℕ) (cs : List Component)
    → ReadsAt around allowed (OfKind OPERATOR_AFTER_C) (Is (letter second)) (place + 1 + 0) cs (written (second ∷ []) cs)
    → NamesAt around allowed COMPONENT (operator 99 second) place cs (written (99 ∷ second ∷ []) cs)
unfolding grammar named_so_far
operator-name-with-c around allowed second place cs one last rest two =
    read-by-parts Production.ComponentWithC COMPONENT (99 ∷ []) (tree (applied (extended around.prefix (operator 99 second)) last) false ∷ [])
    (written (second ∷ rest.bytes) rest.components ∷ [])
    (takes-byte COMPONENT Kind.Component Production.ComponentWithC 99 refl refl (omega arith) refl) tt refl
    (λ s c q. read-by-parts Production.OperatorNameWithC COMPONENT_AFTER_C [] (letter second ∷ last ∷ [])
    (written (second ∷ []) cs ∷ rest ∷ []) (takes-none COMPONENT_AFTER_C Kind.ComponentAfterC
    Production.OperatorNameWithC 109 refl refl (omega arith) refl) tt refl (λ s c q. one s c q before λ s c q. elsewhere
    (omega arith) two s c q before λ began s. refl) s c q before λ began s. refl)

-- a lambda's or an unnamed type's name
pub local-type-name : (k : ℕ) (around : Around) (allowed : Option ℕ) (p : Term) (place : ℕ) (cs : List Component) (first : Written)
    → TakesRule abi k (rule_of Production.LocalTypeName) (85 ∷ [])
    → ReadsAt around allowed (OfKind ANONYMOUS) (Is (piece p)) (place + 1) cs first
    → NamesAt around allowed k p place cs (written (85 ∷ first.bytes) first.components)
unfolding grammar named_so_far
local-type-name k around allowed p place cs first takes one last rest two =
    read-by-parts Production.LocalTypeName k (85 ∷ []) (piece p ∷ last ∷ []) (first ∷ rest ∷ []) takes tt refl
    (λ s c q. one s c q before λ s c q. elsewhere (omega arith) two s c q before λ began s. refl)

pub constructor-name : (around : Around) (allowed : Option ℕ) (digit place : ℕ) (cs : List Component)
    → ReadsAt around allowed (OfKind CONSTRUCTOR_DIGIT) (Is (letter digit)) (place + 1 + 0) cs (written (digit ∷ []) cs)
    → NamesAt around allowed COMPONENT (constructor digit) place cs (written (67 ∷ digit ∷ []) cs)
unfolding grammar named_so_far
constructor-name around allowed digit place cs one last rest two =
    read-by-parts Production.AnyConstructor COMPONENT (67 ∷ []) (tree (applied (extended around.prefix (constructor digit)) last) false ∷ [])
    (written (digit ∷ rest.bytes) rest.components ∷ [])
    (takes-byte COMPONENT Kind.Component Production.AnyConstructor 67 refl refl (omega arith) refl) tt refl
    (λ s c q. read-by-parts Production.Constructor CONSTRUCTOR_AFTER_C [] (letter digit ∷ last ∷ [])
    (written (digit ∷ []) cs ∷ rest ∷ []) (takes-none CONSTRUCTOR_AFTER_C Kind.ConstructorAfterC Production.Constructor
    49 refl refl (omega arith) refl) tt refl (λ s c q. one s c q before λ s c q. elsewhere (omega arith) two s c q
    before λ began s. refl) s c q before λ began s. refl)

pub destructor-name : (around : Around) (allowed : Option ℕ) (digit place : ℕ) (cs : List Component)
    → ReadsAt around allowed (OfKind COMPONENT_AFTER_D) (Is (letter digit)) (place + 1) cs (written (digit ∷ []) cs)
    → NamesAt around allowed COMPONENT (destructor digit) place cs (written (68 ∷ digit ∷ []) cs)
unfolding grammar named_so_far
destructor-name around allowed digit place cs one last rest two =
    read-by-parts Production.Destructor COMPONENT (68 ∷ []) (letter digit ∷ last ∷ []) (written (digit ∷ []) cs ∷ rest ∷ [])
    (takes-byte COMPONENT Kind.Component Production.Destructor 68 refl refl (omega arith) refl) tt refl
    (λ s c q. one s c q before λ s c q. elsewhere (omega arith) two s c q before λ began s. refl)

-- ## Between N and E

-- A name so far, between N and E: whatever is read after it in its scope is read as the whole from the N on.
abbrev pub SoFar : Around → Option ℕ → (t : Term) → (listed : Bool) → (k : ℕ) → (place : ℕ) → List Component → Written → Type 0
SoFar around allowed t listed k place cs w =
    (v : Value) (rest : Written) → ReadsAt (after t listed around) allowed (OfKind k) (Is v) (place + length w.bytes) w.components rest
    → ReadsAt around allowed (OfKind NEST) (Is v) place cs (written (w.bytes ++ rest.bytes) rest.components)

-- A prefix that is a component: if the piece after it is read as a longer name, and then the rest is read, the whole is
-- read as the rest is. The piece must be read alike whether the prefix is a candidate already or becomes one before the
-- piece.
abbrev pub Extends : Around → Option ℕ → (t : Term) → (place : ℕ) → List Component → Written → Type 0
Extends around allowed t place cs w =
    (u : Term) (v : Value) (one rest : Written)
    → ((listed : Bool) → ReadsAt (after t listed around) allowed (OfKind COMPONENT) (Is (tree u false)) (place + length w.bytes) w.components one)
    → ReadsAt (after u false around) allowed (OfKind NEST_TAIL) (Is v) (place + length w.bytes + length one.bytes) one.components rest
    → ReadsAt around allowed (OfKind NEST) (Is v) place cs (written (w.bytes ++ (one.bytes ++ rest.bytes)) rest.components)

-- the end of a name
pub nest-ends : (around : Around) (allowed : Option ℕ) (t : Term) (listed : Bool) (place : ℕ) (cs : List Component)
    → ReadsAt (after t listed around) allowed (OfKind NEST_TAIL) (Is (tree t listed)) place cs (written (69 ∷ []) cs)
unfolding grammar after prefix_tree prefix_listed
nest-ends around allowed t listed place cs =
    read-by-parts Production.NestEnd NEST_TAIL (69 ∷ []) [] [] (takes-byte NEST_TAIL Kind.NestTail Production.NestEnd 69 refl refl (omega arith) refl)
    tt refl (λ began s. refl)

-- one more piece; before it the name so far becomes a component, or is one already, or never is one
nest-next : (listed : Bool) (k : ℕ) (around : Around) (allowed : Option ℕ) (t u : Term) (v : Value) (place : ℕ) (cs : List Component)
    (one rest : Written) → TakesRule abi k (rule_of Production.NestNext) []
    → ((own : Bool) → ReadsAt (after t own around) allowed (OfKind COMPONENT) (Is (tree u false)) (place + 0) (listed_now around listed cs t) one)
    → ReadsAt (after u false around) allowed (OfKind NEST_TAIL) (Is v) (place + 0 + length one.bytes) one.components rest
    → ReadsAt (after t listed around) allowed (OfKind k) (Is v) place cs (written (one.bytes ++ rest.bytes) rest.components)
unfolding grammar with_prefix appended after prefix_tree prefix_listed
nest-next false k around allowed t u v place cs one rest takes first second =
    read-by-parts Production.NestNext k [] (tree u false ∷ v ∷ []) (one ∷ rest ∷ []) takes tt refl
    (λ s c q. first false (appended around t s) (appended-same around t s c) q before λ s c q. second s c q before λ began s.
    refl)
nest-next true k around allowed t u v place cs one rest takes first second =
    read-by-parts Production.NestNext k [] (tree u false ∷ v ∷ []) (one ∷ rest ∷ []) takes tt refl
    (λ s c q. first true s c q before λ s c q. second s c q before λ began s. refl)

-- a longer name so far, of a prefix and a piece
pub so-far-within : (around : Around) (allowed : Option ℕ) (t u : Term) (place : ℕ) (cs : List Component) (w one : Written)
    → Extends around allowed t place cs w
    → ((listed : Bool) → ReadsAt (after t listed around) allowed (OfKind COMPONENT) (Is (tree u false)) (place + length w.bytes) w.components one)
    → SoFar around allowed u false 18 place cs (written (w.bytes ++ one.bytes) one.components)
so-far-within around allowed t u place cs w one prefix first v rest second =
    same-written (sym (append_assoc w.bytes one.bytes rest.bytes))
    (prefix u v one rest first (elsewhere (omega (arith, length-append w.bytes one.bytes)) second))

-- a name so far becomes a prefix
pub extends : (listed : Bool) (k : ℕ) (around : Around) (allowed : Option ℕ) (t : Term) (place : ℕ) (cs : List Component) (w : Written)
    → TakesRule abi k (rule_of Production.NestNext) []
    → SoFar around allowed t listed k place cs w → Extends around allowed t place cs (written w.bytes (listed_now around listed w.components t))
extends listed k around allowed t place cs w takes so_far u v one rest first second =
    so_far v (written (one.bytes ++ rest.bytes) rest.components)
    (nest-next listed k around allowed t u v (place + length w.bytes) w.components one rest takes (λ own. elsewhere (omega arith) (first own))
    (elsewhere (omega arith) second))

-- a whole name between N and E
pub nest-whole : (around : Around) (allowed : Option ℕ) (t : Term) (place : ℕ) (cs : List Component) (w : Written)
    → SoFar around allowed t false 18 place cs w
    → ReadsAt around allowed (OfKind NEST) (Is (tree t false)) place cs (written (w.bytes ++ (69 ∷ [])) w.components)
nest-whole around allowed t place cs w so_far = so_far (tree t false) (written (69 ∷ []) w.components)
    (nest-ends around allowed t false (place + length w.bytes) w.components)
