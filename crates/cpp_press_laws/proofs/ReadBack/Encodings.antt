-- Whole names, local names, encodings and symbols are read as what was pressed, from their parts.
use Rattle.cpp_press_laws.proofs.Basics.{◌≡◌, ℕ, ◌+◌, length, List, [], ◌∷◌, ◌++◌, Option, Bool, true, false, Ok, refl, ap, arith, append-nil, TakesRule, found, Kind, Production, COMPLETE_NAME, MAYBE_REF, NAME_AFTER_S, UNQUALIFIED, NEST, ABBREVIATION, TYPE_AFTER_S, TYPE_IN_STD, SOURCE_OR_LOCAL, MAYBE_ARGUMENTS, ARGUMENTS, abi, rule_of, RefQualifier, any_value, lvalue_only, rvalue_only, explicit_object, Term, in_std, instance, State, Around, Value, nothing_there, letter, tree, piece, named, mark_of, is_listed, is_there, after, applied, named_so_far, listed_so_far, close, Component, Written, written, ReadsAt, Is, mark_letter, IsAbiMark}
use Rattle.sym_shape.specs.declared.rule.Sym.TheVariants.{Kind as OfKind}
use Rattle.cpp_press_laws.proofs.ReadBack.Reading.{takes-byte, takes-none, empty-reads, elsewhere, grammar, read-by-parts, ◌before◌}
use Rattle.cpp_press_laws.proofs.ReadBack.Functions.{mark_value, mark_bytes, mark-reads, maybe-mark-reads}
use Rattle.cpp_press_laws.proofs.ReadBack.Names.{alone-arguments}

-- ## Whole names

-- a name that begins with an S
behind-the-s : (around : Around) (allowed : Option ℕ) (v : Value) (place : ℕ) (cs : List Component) (w : Written)
    → ReadsAt around allowed (OfKind NAME_AFTER_S) (Is v) (place + 1) cs w
    → ReadsAt around allowed (OfKind COMPLETE_NAME) (Is v) place cs (written (83 ∷ w.bytes) w.components)
unfolding grammar
behind-the-s around allowed v place cs w one =
    read-by-parts Production.NameWithS COMPLETE_NAME (83 ∷ []) (v ∷ []) (w ∷ [])
    (takes-byte COMPLETE_NAME Kind.CompleteName Production.NameWithS 83 refl refl (omega arith) refl) tt refl
    (λ s c q. one s c q before λ began s. refl)

-- a piece in std
pub std-name : (around : Around) (allowed : Option ℕ) (p : Term) (last : Value) (place : ℕ) (cs : List Component) (first args : Written)
    → ReadsAt around allowed (OfKind UNQUALIFIED) (Is (piece p)) (place + 1 + 1) cs first
    → ReadsAt (after (in_std p) false around) allowed (OfKind MAYBE_ARGUMENTS) (Is last) (place + 1 + 1 + length first.bytes) first.components args
    → ReadsAt around allowed (OfKind COMPLETE_NAME) (Is (tree (applied (in_std p) last) false)) place cs
    (written (83 ∷ 116 ∷ (first.bytes ++ args.bytes)) args.components)
unfolding grammar named_so_far
std-name around allowed p last place cs first args one two =
    behind-the-s around allowed (tree (applied (in_std p) last) false) place cs (written (116 ∷ (first.bytes ++ args.bytes)) args.components)
    (read-by-parts Production.StdName NAME_AFTER_S (116 ∷ []) (piece p ∷ last ∷ []) (first ∷ args ∷ [])
    (takes-byte NAME_AFTER_S Kind.NameAfterS Production.StdName 116 refl refl (omega arith) refl) tt refl
    (λ s c q. one s c q before λ s c q. two s c q before λ began s. refl))

-- an abbreviation or a reference, and its arguments
pub abbreviated-name : (around : Around) (allowed : Option ℕ) (t items : Term) (place : ℕ) (cs : List Component) (first args : Written)
    → ReadsAt around allowed (OfKind ABBREVIATION) (Is (tree t true)) (place + 1 + 0) cs first
    → ReadsAt (after t true around) allowed (OfKind ARGUMENTS) (Is (tree items true)) (place + 1 + 0 + length first.bytes) first.components args
    → ReadsAt around allowed (OfKind COMPLETE_NAME) (Is (tree (instance t items) false)) place cs (written (83 ∷ (first.bytes ++ args.bytes)) args.components)
unfolding grammar listed_so_far applied
abbreviated-name around allowed t items place cs first args one two =
    behind-the-s around allowed (tree (instance t items) false) place cs (written (first.bytes ++ args.bytes) args.components)
    (read-by-parts Production.AbbreviatedName NAME_AFTER_S [] (tree t true ∷ tree items true ∷ []) (first ∷ args ∷ [])
    (takes-none NAME_AFTER_S Kind.NameAfterS Production.AbbreviatedName 95 refl refl (omega arith) refl) tt refl
    (λ s c q. one s c q before λ s c q. two s c q before λ began s. refl))

-- a mark R or O, or none
abbrev pub ref_value : RefQualifier → Value
ref_value any_value = nothing_there
ref_value lvalue_only = letter 82
ref_value rvalue_only = letter 79
ref_value explicit_object = nothing_there

ref-reads : {around : Around} {allowed : Option ℕ} {place : ℕ} {cs : List Component} (ref : RefQualifier) → IsAbiMark ref
    → ReadsAt around allowed (OfKind MAYBE_REF) (Is (ref_value ref)) place cs (written (mark_letter ref) cs)
unfolding grammar mark_letter
ref-reads any_value good = empty-reads Kind.MaybeRef refl refl
ref-reads lvalue_only good = mark-reads Kind.MaybeRef refl refl (omega arith)
ref-reads rvalue_only good = mark-reads Kind.MaybeRef refl refl (omega arith)
ref-reads explicit_object good = absurd good

-- a name between N and E, with the letters of its encoding
pub nested-name : (k : ℕ) (around : Around) (allowed : Option ℕ) (t : Term) (listed restrict volatile const : Bool) (ref : RefQualifier)
    → IsAbiMark ref → (place : ℕ) (cs : List Component) (w : Written) → TakesRule abi k (rule_of Production.NestedName) (78 ∷ [])
    → ReadsAt around allowed (OfKind NEST) (Is (tree t listed)) (place + 1 + length (mark_bytes restrict 114) + length (mark_bytes volatile 86) +
    length (mark_bytes const 75) + length (mark_letter ref)) cs w
    → ReadsAt around allowed (OfKind k) (Is (named t (record { restrict = restrict; volatile = volatile; const = const }) ref)) place cs
    (written (78 ∷ (mark_bytes restrict 114 ++ (mark_bytes volatile 86 ++ (mark_bytes const 75 ++ (mark_letter ref ++ w.bytes))))) w.components)
unfolding grammar mark_of
nested-name k around allowed t listed restrict volatile const ref good place cs w takes one =
    read-by-parts Production.NestedName k (78 ∷ [])
    (mark_value restrict 114 ∷ mark_value volatile 86 ∷ mark_value const 75 ∷ ref_value ref ∷ tree t listed ∷ [])
    (written (mark_bytes restrict 114) cs ∷ written (mark_bytes volatile 86) cs ∷ written (mark_bytes const 75) cs ∷ written (mark_letter ref) cs ∷ w ∷ [])
    takes tt refl
    (λ s c q. maybe-mark-reads Kind.MaybeRestrict 114 refl refl (omega arith) refl restrict s c q before λ s c q.
    maybe-mark-reads Kind.MaybeVolatile 86 refl refl (omega arith) refl volatile s c q before λ s c q. maybe-mark-reads
    Kind.MaybeConst 75 refl refl (omega arith) refl const s c q before λ s c q. ref-reads ref good s c q before λ s c q. one
    s c q before means restrict volatile const ref good)
  where
    there : (b : Bool) (byte : ℕ) → is_there (mark_value b byte) ≡ b
    there true byte = refl
    there false byte = refl

    marks : (q : RefQualifier) → IsAbiMark q → mark_of (ref_value q) ≡ q
    marks any_value abi = refl
    marks lvalue_only abi = refl
    marks rvalue_only abi = refl
    marks explicit_object abi = absurd abi

    means : (a b d : Bool) (q : RefQualifier) → IsAbiMark q → (began s : State) → close Production.NestedName 78 around place began
        (mark_value a 114 ∷ mark_value b 86 ∷ mark_value d 75 ∷ ref_value q ∷ tree t listed ∷ []) s
        ≡ Ok (found (named t (record { restrict = a; volatile = b; const = d }) q) s)
    means a b d q abi began s = rw (there a 114, there b 86, there d 75, marks q abi) refl

-- a name between N and E as a type
pub nested-type : (k : ℕ) (around : Around) (allowed : Option ℕ) (t : Term) (listed : Bool) (place : ℕ) (cs : List Component) (w : Written)
    → TakesRule abi k (rule_of Production.NestedType) (78 ∷ [])
    → ReadsAt around allowed (OfKind NEST) (Is (tree t listed)) (place + 1) cs w
    → ReadsAt around allowed (OfKind k) (Is (tree t listed)) place cs (written (78 ∷ w.bytes) w.components)
unfolding grammar
nested-type k around allowed t listed place cs w takes one =
    read-by-parts Production.NestedType k (78 ∷ []) (tree t listed ∷ []) (w ∷ []) takes tt refl
    (λ s c q. one s c q before λ began s. refl)

-- a piece in std as a type
pub std-type : (around : Around) (allowed : Option ℕ) (p : Term) (place : ℕ) (cs : List Component) (w : Written)
    → ReadsAt around allowed (OfKind SOURCE_OR_LOCAL) (Is (piece p)) (place + 1) cs w
    → ReadsAt around allowed (OfKind TYPE_AFTER_S) (Is (tree (in_std p) false)) place cs (written (116 ∷ w.bytes) w.components)
unfolding grammar named_so_far applied
std-type around allowed p place cs w one =
    read-by-parts Production.TypeInStd TYPE_AFTER_S [] (tree (in_std p) false ∷ []) (written (116 ∷ w.bytes) w.components ∷ [])
    (takes-none TYPE_AFTER_S Kind.TypeAfterS Production.TypeInStd 116 refl refl (omega arith) refl) tt refl
    (λ s c q. read-by-parts Production.TaggedStdType TYPE_IN_STD (116 ∷ []) (piece p ∷ nothing_there ∷ [])
    (w ∷ written [] w.components ∷ []) (takes-byte TYPE_IN_STD Kind.TypeInStd Production.TaggedStdType 116 refl refl
    (omega arith) refl) tt (ap (λ l. 116 ∷ l) (append-nil w.bytes)) (λ s c q. elsewhere (omega arith) one s c q
    before λ s c q. empty-reads Kind.MaybeTags refl refl s c q before λ began s. refl) s c q before λ began s. refl)

-- what follows an S as a type, and its arguments
pub type-with-arguments : (k : ℕ) (around : Around) (allowed : Option ℕ) (t items : Term) (listed : Bool) (place : ℕ) (cs : List Component)
    (first args : Written) → TakesRule abi k (rule_of Production.TypeWithS) (83 ∷ [])
    → ReadsAt around allowed (OfKind TYPE_AFTER_S) (Is (tree t listed)) (place + 1) cs first
    → ReadsAt (after t listed around) allowed (OfKind MAYBE_ARGUMENTS) (Is (tree items true)) (place + 1 + length first.bytes) first.components args
    → ReadsAt around allowed (OfKind k) (Is (tree (instance t items) false)) place cs (written (83 ∷ (first.bytes ++ args.bytes)) args.components)
unfolding grammar applied is_listed
type-with-arguments k around allowed t items listed place cs first args takes one two =
    read-by-parts Production.TypeWithS k (83 ∷ []) (tree t listed ∷ tree items true ∷ []) (first ∷ args ∷ []) takes tt refl
    (λ s c q. one s c q before λ s c q. alone-arguments two s c q before means listed)
  where
    means : (b : Bool) (began s : State) → close Production.TypeWithS 83 around place began (tree t b ∷ tree items true ∷ []) s
        ≡ Ok (found (tree (instance t items) false) s)
    means true began s = refl
    means false began s = refl
