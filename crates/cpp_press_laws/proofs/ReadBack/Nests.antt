-- The beginning of a name between N and E, and the arguments within the name, are read as what was pressed.
use Rattle.cpp_press_laws.proofs.Basics.{◌≡◌, ℕ, ◌+◌, length, List, [], ◌∷◌, ◌++◌, Option, Bool, true, false, refl, ap, arith, sym, subst, ◌∙◌, append_assoc, length-append, Kind, Production, UNQUALIFIED, NEST, NEST_AFTER_S, NEST_REST, NEST_TAIL, COMPONENT, ABBREVIATION, ANONYMOUS, MAYBE_ARGUMENTS, ARGUMENT_LIST, NEST_REST_ALONE, Term, source, in_std, instance, parameter, prefix_tree, prefix_listed, Around, Value, nothing_there, tree, piece, part, appended, with_prefix, parameter_named, after, inside, extended, applied, no_items, named_so_far, listed_so_far, parameter_so_far, Component, counted, ordinal, IsSpellableName, Written, written, ReadsAt, Is}
use Rattle.sym_shape.specs.declared.rule.Sym.TheVariants.{Kind as OfKind}
use Rattle.cpp_grammar.specs.Values as value
use Rattle.cpp_press_laws.proofs.ReadBack.Tokens.{ordinal_digits}
use Rattle.cpp_press_laws.proofs.ReadBack.Reading.{appended-same, takes-byte, takes-none, fixed-reads, name-reads, first-reads, elsewhere, grammar, read-by-parts, same-written, more, Means, ◌before◌}
use Rattle.cpp_press_laws.proofs.ReadBack.Functions.{IsInScope, parameter-parts}
use Rattle.cpp_press_laws.proofs.ReadBack.Names.{alone-rest, rest-or-end, SoFar, Extends}
use Rattle.cpp_press_laws.proofs.ReadBack.Arguments.{listed_now}

-- ## The first part of a name

pub nest-source : (around : Around) (allowed : Option ℕ) (name : List ℕ) (place : ℕ) (cs : List Component) → IsSpellableName name
    → SoFar around allowed (extended around.prefix (source false name)) false 17 place cs (written (counted name) cs)
unfolding grammar named_so_far
nest-source around allowed name place cs good v rest second =
    read-by-parts Production.NestSource NEST [] (value.text name ∷ v ∷ []) (written (counted name) cs ∷ rest ∷ [])
    (takes-none NEST Kind.Nest Production.NestSource 48 refl refl (omega arith) refl) tt refl
    (λ s c q. name-reads name good s c q before λ s c q. elsewhere (omega arith) second s c q before λ began s. refl)

pub nest-internal : (around : Around) (allowed : Option ℕ) (name : List ℕ) (place : ℕ) (cs : List Component) → IsSpellableName name
    → SoFar around allowed (extended around.prefix (source true name)) false 17 place cs (written (76 ∷ counted name) cs)
unfolding grammar named_so_far
nest-internal around allowed name place cs good v rest second =
    read-by-parts Production.NestInternal NEST (76 ∷ []) (value.text name ∷ v ∷ []) (written (counted name) cs ∷ rest ∷ [])
    (takes-byte NEST Kind.Nest Production.NestInternal 76 refl refl (omega arith) refl) tt refl
    (λ s c q. name-reads name good s c q before λ s c q. elsewhere (omega arith) second s c q before λ began s. refl)

pub nest-local-type : (around : Around) (allowed : Option ℕ) (p : Term) (place : ℕ) (cs : List Component) (first : Written)
    → ReadsAt around allowed (OfKind ANONYMOUS) (Is (piece p)) (place + 1) cs first
    → SoFar around allowed (extended around.prefix p) false 17 place cs (written (85 ∷ first.bytes) first.components)
unfolding grammar named_so_far
nest-local-type around allowed p place cs first one v rest second =
    read-by-parts Production.NestLocalType NEST (85 ∷ []) (piece p ∷ v ∷ []) (first ∷ rest ∷ [])
    (takes-byte NEST Kind.Nest Production.NestLocalType 85 refl refl (omega arith) refl) tt refl
    (λ s c q. one s c q before λ s c q. elsewhere (omega arith) second s c q before λ began s. refl)

pub nest-parameter : (around : Around) (allowed : Option ℕ) (k place : ℕ) (cs : List Component) → IsInScope around allowed k
    → SoFar around allowed (parameter k) true 17 place cs (written (84 ∷ ordinal k) (more around cs (parameter k)))
unfolding grammar parameter_so_far parameter_named listed_so_far
nest-parameter around allowed k place cs is v rest second =
    read-by-parts Production.NestParameter NEST (84 ∷ []) (value.text (ordinal_digits k) ∷ v ∷ []) (written (ordinal k) cs ∷ rest ∷ [])
    (takes-byte NEST Kind.Nest Production.NestParameter 84 refl refl (omega arith) refl) tt refl
    (parameter-parts Production.NestParameter around allowed place k (place + 1) cs (Means Production.NestParameter 84 around place v)
    (OfKind NEST_REST_ALONE) v rest is (λ s. refl) (λ s. refl)
    (alone-rest (elsewhere (omega arith) second)) (λ began s. refl))

-- an abbreviation or a reference after an S
pub nest-behind-s : (around : Around) (allowed : Option ℕ) (t : Term) (place : ℕ) (cs : List Component) (first : Written)
    → ReadsAt around allowed (OfKind ABBREVIATION) (Is (tree t true)) (place + 1 + 0) cs first
    → SoFar around allowed t true 17 place cs (written (83 ∷ first.bytes) first.components)
unfolding grammar listed_so_far
nest-behind-s around allowed t place cs first one v rest second =
    read-by-parts Production.NestWithS NEST (83 ∷ []) (v ∷ []) (written (first.bytes ++ rest.bytes) rest.components ∷ [])
    (takes-byte NEST Kind.Nest Production.NestWithS 83 refl refl (omega arith) refl) tt refl
    (λ s c q. read-by-parts Production.NestTemplate NEST_AFTER_S [] (tree t true ∷ v ∷ []) (first ∷ rest ∷ [])
    (takes-none NEST_AFTER_S Kind.NestAfterS Production.NestTemplate 95 refl refl (omega arith) refl) tt refl (λ s c q.
    one s c q before λ s c q. rest-or-end (elsewhere (omega arith) second) s c q before λ began s. refl) s c q
    before λ began s. refl)

-- a piece in std, with or without arguments
pub nest-std : (around : Around) (allowed : Option ℕ) (p : Term) (last : Value) (place : ℕ) (cs : List Component) (first args : Written)
    → ReadsAt around allowed (OfKind UNQUALIFIED) (Is (piece p)) (place + 1 + 1) cs first
    → ReadsAt (after (in_std p) false around) allowed (OfKind MAYBE_ARGUMENTS) (Is last) (place + 1 + 1 + length first.bytes) first.components args
    → SoFar around allowed (applied (in_std p) last) false 18 place cs (written (83 ∷ 116 ∷ (first.bytes ++ args.bytes)) args.components)
unfolding grammar named_so_far
nest-std around allowed p last place cs first args one two v rest third =
    same-written (ap (λ l. 83 ∷ 116 ∷ l) (sym (append_assoc first.bytes args.bytes rest.bytes)))
    (read-by-parts Production.NestWithS NEST (83 ∷ []) (v ∷ []) (written (116 ∷ (first.bytes ++ (args.bytes ++ rest.bytes))) rest.components ∷ [])
    (takes-byte NEST Kind.Nest Production.NestWithS 83 refl refl (omega arith) refl) tt refl
    (λ s c q. read-by-parts Production.NestStd NEST_AFTER_S (116 ∷ []) (piece p ∷ last ∷ v ∷ [])
    (first ∷ args ∷ rest ∷ []) (takes-byte NEST_AFTER_S Kind.NestAfterS Production.NestStd 116 refl refl (omega arith)
    refl) tt refl (λ s c q. one s c q before λ s c q. two s c q before λ s c q. elsewhere
    (omega (arith, length-append first.bytes args.bytes)) third s c q before λ began s. refl) s c q before λ began s.
    refl))

-- ## Arguments after a first part

-- arguments, and a piece after them; before the arguments, the name becomes a component if it isn't one yet
arguments-and-more : (listed : Bool) (around : Around) (allowed : Option ℕ) (t : Term) (last : Value) (at : ℕ) (cs : List Component)
    (args : Written) (u : Term) (v : Value) (comp rest : Written)
    → ReadsAt (inside around) allowed (OfKind ARGUMENT_LIST) (Is last) (at + 1) (listed_now around listed cs t) args
    → ((own : Bool) → ReadsAt (after (instance t (no_items last)) own around) allowed (OfKind COMPONENT) (Is (tree u false)) (at + 1 + length args.bytes + 1)
    (more around args.components (instance t (no_items last))) comp)
    → ReadsAt (after u false around) allowed (OfKind NEST_TAIL) (Is v) (at + 1 + length args.bytes + 1 + length comp.bytes) comp.components rest
    → ReadsAt (after t listed around) allowed (OfKind NEST_REST) (Is v) at cs
    (written (73 ∷ (args.bytes ++ (69 ∷ (comp.bytes ++ rest.bytes)))) rest.components)
unfolding grammar with_prefix appended after inside prefix_tree prefix_listed listed_so_far
arguments-and-more true around allowed t last at cs args u v comp rest one two three =
    let whole : Term = instance t (no_items last) in
    read-by-parts Production.NestArguments NEST_REST (73 ∷ []) (last ∷ nothing_there ∷ tree u false ∷ v ∷ [])
    (args ∷ written (69 ∷ []) args.components ∷ comp ∷ rest ∷ [])
    (takes-byte NEST_REST Kind.NestRest Production.NestArguments 73 refl refl (omega arith) refl) tt refl
    (λ s c q. first-reads one s c q before λ s c q. fixed-reads s c q before λ s c q. two false (appended around whole s)
    (appended-same around whole s c) q before λ s c q. three s c q before λ began s. refl)
arguments-and-more false around allowed t last at cs args u v comp rest one two three =
    let whole : Term = instance t (no_items last) in
    read-by-parts Production.NestArguments NEST_REST (73 ∷ []) (last ∷ nothing_there ∷ tree u false ∷ v ∷ [])
    (args ∷ written (69 ∷ []) args.components ∷ comp ∷ rest ∷ [])
    (takes-byte NEST_REST Kind.NestRest Production.NestArguments 73 refl refl (omega arith) refl) tt refl
    (λ s c q. first-reads one (appended around t s) (appended-same around t s c) q before λ s c q. fixed-reads s c q
    before λ s c q. two false (appended around whole s) (appended-same around whole s c) q before λ s c q. three s c q
    before λ began s. refl)

-- arguments and a piece after them: the name so far becomes a component before the arguments, and the instance becomes one
-- before the piece
pub nest-arguments : (around : Around) (allowed : Option ℕ) (t items : Term) (listed : Bool) (last : Value) (place : ℕ) (cs : List Component)
    (w args : Written) → no_items last ≡ items
    → SoFar around allowed t listed 17 place cs w
    → ReadsAt (inside around) allowed (OfKind ARGUMENT_LIST) (Is last) (place + length w.bytes + 1) (listed_now around listed w.components t) args
    → Extends around allowed (instance t items) place cs (written (w.bytes ++ (73 ∷ (args.bytes ++ (69 ∷ []))))
    (more around args.components (instance t items)))
nest-arguments around allowed t items listed last place cs w args are so_far one =
    subst (λ l. Extends around allowed (instance t l) place cs (written (w.bytes ++ (73 ∷ (args.bytes ++ (69 ∷ []))))
    (more around args.components (instance t l)))) are
    (λ u v comp rest third fourth. same-written (joined w.bytes args.bytes (comp.bytes ++ rest.bytes))
    (so_far v (written (73 ∷ (args.bytes ++ (69 ∷ (comp.bytes ++ rest.bytes)))) rest.components)
    (arguments-and-more listed around allowed t last (place + length w.bytes) w.components args u v comp rest one
    (λ own. elsewhere (omega (arith, long)) (third own)) (elsewhere (omega (arith, long)) fourth))))
  where
    long : length (w.bytes ++ (73 ∷ (args.bytes ++ (69 ∷ [])))) ≡ length w.bytes + 1 + length args.bytes + 1
    long = omega (arith, length-append w.bytes (73 ∷ (args.bytes ++ (69 ∷ []))), length-append args.bytes (69 ∷ []))

    joined : (a b c : List ℕ) → a ++ (73 ∷ (b ++ (69 ∷ c))) ≡ (a ++ (73 ∷ (b ++ (69 ∷ [])))) ++ c
    joined a b c = ap (λ l. a ++ (73 ∷ l)) (sym (append_assoc b (69 ∷ []) c)) ∙ sym (append_assoc a (73 ∷ (b ++ (69 ∷ []))) c)
