-- Parameters, qualified types, function types and what follows Dv are read as what was pressed, from their parts.
use Rattle.cpp_press_laws.proofs.Basics.{◌≡◌, ℕ, ◌+◌, ◌<◌, ◌≤◌, length, List, [], ◌∷◌, ◌++◌, Option, Some, Bool, true, false, Ok, refl, ap, arith, ◌∙◌, append-nil, sym, subst, cond, None, nat_lt, slice_get, Result, Err, codes, Decimal, Digits, TakesRule, ◌>>=◌, Next, found, Kind, Production, TYPE, PLAIN, ITEM_BUT_REF, AFTER_D, SOLID, FUNCTION_REST, AFTER_R, AFTER_O, ARGUMENTS_ALONE, choose, kinds, parts_of, is_chain, may_be_empty, abi, rule_of, RefQualifier, any_value, lvalue_only, rvalue_only, Term, parameter, lvalue, rvalue, vector, function_type, qualified, nil, list, explicit_object, count, element, length_if_pack, State, Around, Value, nothing_there, letter, tree, signature, text_of, appended, with_packs, parameter_named, between, after, applied, listed_so_far, parameter_so_far, index_of, Continuation, meaning, listed_value, with_item, signature_or, parameters, close, byte_of, components_of, Component, ordinal, mark_letter, PacksFit, IsAbiMark, AreSpellableDigits, greatest, Written, written, ReadsAt, Is, IsAllowed, Reads, Sym, Refusal, BadReference}
use Rattle.sym_shape.specs.declared.rule.Sym.TheVariants.{Kind as OfKind, Number}
use Rattle.cpp_grammar.specs.Values as value
use Rattle.cpp_grammar.specs.Unfolding as unfolding_
use Rattle.cpp_press_laws.proofs.ReadBack.Tokens.{ordinal_digits, ordinal_token, ordinal-spelled, ordinal-is-token, ordinal-value}
use Rattle.cpp_press_laws.proofs.ReadBack.Reading.{appended-same, takes-byte, takes-none, fixed-reads, empty-reads, number-reads, PartsRead, component-by-parts, digits-read, grammar, read-by-parts, same-written, more, Means, ◌before◌}
use Rattle.cpp_press_laws.proofs.ReadBack.References.{packs-fit}
use Rattle.cpp_press_laws.proofs.ByKind.Rules.{OnGoing}
use Rattle.cpp_press_laws.proofs.ReadBack.Solids.{reference, reference_letter}

-- ## Parameters

-- a parameter that is allowed: it names an argument of the scope, and if the argument is a pack, the pack's length is
-- allowed
pub record IsInScope (around : Around) (allowed : Option ℕ) (k : ℕ) : Type 0 where
  pub arguments : Term
  pub scoped : around.scope ≡ Some arguments
  pub below : nat_lt k (count arguments) ≡ true
  pub small : k ≤ greatest
  pub packs : PacksFit around allowed (length_if_pack (element arguments k))

named-in : (around : Around) (place k : ℕ) (s new : State) (arguments : Term) → around.scope ≡ Some arguments → nat_lt k (count arguments) ≡ true
    → with_packs place around.in_expansion (length_if_pack (element arguments k)) s ≡ Ok new
    → parameter_named around place k s ≡ Ok (appended around (parameter k) new)
unfolding parameter_named
named-in around place k s new arguments scoped below goes =
    ap (λ o. elim o as (λ _. Result State Refusal) [
      | None ↦ Err (BadReference place)
      | Some args ↦ elim (nat_lt k (count args)) as (λ _. Result State Refusal) [
        | false ↦ Err (BadReference place)
        | true ↦ with_packs place around.in_expansion (length_if_pack (element args k)) s >>= λ t. Ok (appended around (parameter k) t)
      ]
    ]) scoped
    ∙ ap (λ b. elim b as (λ _. Result State Refusal) [
      | false ↦ Err (BadReference place)
      | true ↦ with_packs place around.in_expansion (length_if_pack (element arguments k)) s >>= λ t. Ok (appended around (parameter k) t)
    ]) below
    ∙ ap (λ r. r >>= λ t. Ok (appended around (parameter k) t)) goes

-- what is known of a parameter after its number, in a state with these components
pub record ParameterPasses (around : Around) (allowed : Option ℕ) (at k : ℕ) (cs : List Component) (s : State) : Type 0 where
  pub state : State
  pub goes : ◌≡◌ {A = Continuation} (parameter_so_far around at (index_of (value.text (ordinal_digits k))) [] s)
      (Ok (record { context = after (parameter k) true around; values = tree (parameter k) true ∷ []; state = state }))
  pub candidates : components_of state.candidates ≡ more around cs (parameter k)
  pub packs : IsAllowed allowed state.packs

parameter-passes : (around : Around) (allowed : Option ℕ) (at k : ℕ) (cs : List Component) (s : State) → IsInScope around allowed k
    → components_of s.candidates ≡ cs → IsAllowed allowed s.packs → ParameterPasses around allowed at k cs s
unfolding parameter_so_far listed_so_far index_of text_of appended
parameter-passes around allowed at k cs s is same packs =
    let f = packs-fit around allowed (length_if_pack (element is.arguments k)) at s is.packs packs in
    record {
      state = appended around (parameter k) f.state;
      goes = ap (λ n. parameter_named around at n s >>= λ t. listed_so_far around (parameter n) [] t) (ordinal-value k is.small)
          ∙ ap (λ r. r >>= λ t. listed_so_far around (parameter k) [] t) (named-in around at k s f.state is.arguments is.scoped is.below f.goes);
      candidates = appended-same around (parameter k) f.state (ap components_of f.candidates ∙ same);
      packs = f.packs_are;
    }

-- the digits of a parameter, and what follows the parameter in its scope
pub parameter-parts : (p : Production) (around : Around) (allowed : Option ℕ) (at k place : ℕ) (cs : List Component) (End : List Value → Type 0)
    (x : Sym) (v : Value) (w : Written) → IsInScope around allowed k
    → ((s : State) → ◌≡◌ {A = Continuation} (between p around at [] s) (Ok (record { context = around; values = []; state = s })))
    → ((s : State) → between p around at (value.text (ordinal_digits k) ∷ []) s
    ≡ parameter_so_far around at (index_of (value.text (ordinal_digits k))) [] s)
    → ReadsAt (after (parameter k) true around) allowed x (Is v) (place + length (ordinal k)) (more around cs (parameter k)) w
    → End (tree (parameter k) true ∷ v ∷ [])
    → PartsRead p around allowed at End (Number Decimal ∷ x ∷ []) (value.text (ordinal_digits k) ∷ v ∷ []) (written (ordinal k) cs ∷ w ∷ []) [] place cs
parameter-parts p around allowed at k place cs End x v w is first then one end s c q =
    subst (λ m. OnGoing m (Digits s)) (sym (first s)) (
      same-written (ordinal-spelled k) (number-reads Decimal (ordinal_token k) (ordinal-is-token k)) s c q,
      λ u d r.
          let g = parameter-passes around allowed at k cs u is d r in
          subst (λ m. OnGoing m Rest) (sym (then u ∙ g.goes)) (one g.state g.candidates g.packs, end),
    )
  where
    Rest : Next Value State Around → Type 0
    Rest next = Reads next.context allowed x (Is v) (place + length (ordinal k)) next.state w × End (next.values ++ v ∷ [])

    Digits : State → Next Value State Around → Type 0
    Digits s next =
        Reads next.context allowed (Number Decimal) (Is (value.text (ordinal_digits k))) place next.state (written (ordinal k) cs)
        × PartsRead p around allowed at End (x ∷ []) (v ∷ []) (w ∷ []) (next.values ++ value.text (ordinal_digits k) ∷ [])
        (place + length (ordinal k)) cs

pub parameter-solid : (kind : ℕ) (around : Around) (allowed : Option ℕ) (k place : ℕ) (cs : List Component) → IsInScope around allowed k
    → TakesRule abi kind (rule_of Production.Parameter) (84 ∷ [])
    → ReadsAt around allowed (OfKind kind) (Is (tree (parameter k) true)) place cs (written (84 ∷ ordinal k) (more around cs (parameter k)))
unfolding grammar applied parameter_so_far parameter_named listed_so_far
parameter-solid kind around allowed k place cs is takes =
    read-by-parts Production.Parameter kind (84 ∷ []) (value.text (ordinal_digits k) ∷ nothing_there ∷ [])
    (written (ordinal k) cs ∷ written [] (more around cs (parameter k)) ∷ []) takes tt (ap (λ l. 84 ∷ l) (append-nil (ordinal k)))
    (parameter-parts Production.Parameter around allowed place k (place + 1) cs
    (Means Production.Parameter 84 around place (tree (parameter k) true)) (OfKind ARGUMENTS_ALONE) nothing_there _ is (λ s. refl) (λ s. refl)
    (empty-reads Kind.ArgumentsAlone refl refl) (λ began s. refl))

-- ## Marks

pub mark-reads : {around : Around} {allowed : Option ℕ} {k byte place : ℕ} {cs : List Component} (kind : Kind) → slice_get kinds k ≡ Some kind
    → choose kind byte ≡ Some Production.Mark → byte < 256
    → ReadsAt around allowed (OfKind k) (Is (letter byte)) place cs (written (byte ∷ []) cs)
unfolding is_chain parts_of close unfolding_.behind meaning byte_of
mark-reads {k} {byte} kind at chosen small =
    read-by-parts Production.Mark k (byte ∷ []) [] [] (takes-byte k kind Production.Mark byte at chosen small refl) tt refl (λ began s. refl)

-- a mark, if there is one
abbrev pub mark_value : Bool → (byte : ℕ) → Value
mark_value true byte = letter byte
mark_value false byte = nothing_there

abbrev pub mark_bytes : Bool → (byte : ℕ) → List ℕ
mark_bytes b byte = cond b (byte ∷ []) []

pub maybe-mark-reads : {around : Around} {allowed : Option ℕ} {k place : ℕ} {cs : List Component} (kind : Kind) (byte : ℕ) → slice_get kinds k ≡ Some kind
    → choose kind byte ≡ Some Production.Mark → byte < 256 → may_be_empty kind ≡ true
    → (b : Bool) → ReadsAt around allowed (OfKind k) (Is (mark_value b byte)) place cs (written (mark_bytes b byte) cs)
maybe-mark-reads kind byte at chosen small may true = mark-reads kind at chosen small
maybe-mark-reads kind byte at chosen small may false = empty-reads kind at may

-- ## Qualified types

abbrev pub qualified_with : (restrict volatile const : Bool) → Term → Term
qualified_with restrict volatile const t = qualified (record { restrict = restrict; volatile = volatile; const = const }) t

-- a type after the letters of its qualifiers; the production takes the first letter
pub const-reads : (around : Around) (allowed : Option ℕ) (k : ℕ) (t : Term) (place : ℕ) (cs : List Component) (w : Written)
    → TakesRule abi k (rule_of Production.ConstType) (75 ∷ [])
    → ReadsAt around allowed (OfKind PLAIN) (Is (tree t true)) (place + 1) cs w
    → ReadsAt around allowed (OfKind k) (Is (tree (qualified_with false false true t) true)) place cs
    (written (75 ∷ w.bytes) (more around w.components (qualified_with false false true t)))
unfolding grammar listed_value
const-reads around allowed k t place cs w takes one =
    component-by-parts Production.ConstType k (75 ∷ []) (qualified_with false false true t) (tree t true ∷ []) (w ∷ []) takes tt refl
    (λ s c q. one s c q before λ began s. refl)

pub volatile-reads : (around : Around) (allowed : Option ℕ) (k : ℕ) (const : Bool) (t : Term) (place : ℕ) (cs : List Component) (w : Written)
    → TakesRule abi k (rule_of Production.VolatileType) (86 ∷ [])
    → ReadsAt around allowed (OfKind PLAIN) (Is (tree t true)) (place + 1 + length (mark_bytes const 75)) cs w
    → ReadsAt around allowed (OfKind k) (Is (tree (qualified_with false true const t) true)) place cs
    (written (86 ∷ (mark_bytes const 75 ++ w.bytes)) (more around w.components (qualified_with false true const t)))
unfolding grammar listed_value
volatile-reads around allowed k const t place cs w takes one =
    component-by-parts Production.VolatileType k (86 ∷ []) (qualified_with false true const t) (mark_value const 75 ∷ tree t true ∷ [])
    (written (mark_bytes const 75) cs ∷ w ∷ []) takes tt refl
    (λ s c q. maybe-mark-reads Kind.MaybeConst 75 refl refl (omega arith) refl const s c q before λ s c q. one s c q
    before means const)
  where
    means : (b : Bool) (began s : State) → close Production.VolatileType 86 around place began (mark_value b 75 ∷ tree t true ∷ []) s
        ≡ Ok (found (tree (qualified_with false true b t) true) (appended around (qualified_with false true b t) s))
    means true began s = refl
    means false began s = refl

pub restrict-reads : (around : Around) (allowed : Option ℕ) (k : ℕ) (volatile const : Bool) (t : Term) (place : ℕ) (cs : List Component)
    (w : Written) → TakesRule abi k (rule_of Production.RestrictType) (114 ∷ [])
    → ReadsAt around allowed (OfKind PLAIN) (Is (tree t true)) (place + 1 + length (mark_bytes volatile 86) + length (mark_bytes const 75)) cs w
    → ReadsAt around allowed (OfKind k) (Is (tree (qualified_with true volatile const t) true)) place cs
    (written (114 ∷ (mark_bytes volatile 86 ++ (mark_bytes const 75 ++ w.bytes)))
    (more around w.components (qualified_with true volatile const t)))
unfolding grammar listed_value
restrict-reads around allowed k volatile const t place cs w takes one =
    component-by-parts Production.RestrictType k (114 ∷ []) (qualified_with true volatile const t)
    (mark_value volatile 86 ∷ mark_value const 75 ∷ tree t true ∷ []) (written (mark_bytes volatile 86) cs ∷ written (mark_bytes const 75) cs ∷ w ∷ [])
    takes tt refl
    (λ s c q. maybe-mark-reads Kind.MaybeVolatile 86 refl refl (omega arith) refl volatile s c q before λ s c q.
    maybe-mark-reads Kind.MaybeConst 75 refl refl (omega arith) refl const s c q before λ s c q. one s c q before means
    volatile const)
  where
    means : (a b : Bool) (began s : State) → close Production.RestrictType 114 around place began
        (mark_value a 86 ∷ mark_value b 75 ∷ tree t true ∷ []) s
        ≡ Ok (found (tree (qualified_with true a b t) true) (appended around (qualified_with true a b t) s))
    means true true began s = refl
    means true false began s = refl
    means false true began s = refl
    means false false began s = refl

-- ## After Dv

pub vector-behind-d : (around : Around) (allowed : Option ℕ) (digits : List ℕ) (t : Term) (place : ℕ) (cs : List Component) (w : Written)
    → AreSpellableDigits Digits digits
    → ReadsAt around allowed (OfKind TYPE) (Is (tree t true)) (place + 1 + length digits + 1) cs w
    → ReadsAt around allowed (OfKind AFTER_D) (Is (tree (vector digits t) false)) place cs (written (118 ∷ (digits ++ (95 ∷ w.bytes))) w.components)
unfolding grammar
vector-behind-d around allowed digits t place cs w good one =
    read-by-parts Production.Vector AFTER_D (118 ∷ []) (value.text digits ∷ nothing_there ∷ tree t true ∷ [])
    (written digits cs ∷ written (95 ∷ []) cs ∷ w ∷ []) (takes-byte AFTER_D Kind.AfterD Production.Vector 118 refl refl (omega arith) refl) tt refl
    (λ s c q. digits-read digits good.are s c q before λ s c q. fixed-reads s c q before λ s c q. one s c q
    before λ began s. rw good.normal_are refl)

-- ## Function types

-- the rest of a function type's parameters is read as these items and this mark
abbrev pub RestReads : Around → Option ℕ → (items : Term) → RefQualifier → (place : ℕ) → List Component → Written → Type 0
RestReads around allowed items ref place cs w = ReadsAt around allowed (OfKind FUNCTION_REST) (Is (signature items ref)) place cs w

-- the end of a function type, and the mark before it
pub end-reads : (around : Around) (allowed : Option ℕ) (ref : RefQualifier) → IsAbiMark ref → (place : ℕ) (cs : List Component)
    → RestReads around allowed nil ref place cs (written (mark_letter ref ++ codes "E") cs)
unfolding mark_letter grammar signature_or
end-reads around allowed any_value good place cs =
    read-by-parts Production.RestEnd FUNCTION_REST (69 ∷ []) [] []
    (takes-byte FUNCTION_REST Kind.FunctionRest Production.RestEnd 69 refl refl (omega arith) refl) tt refl (λ began s. refl)
end-reads around allowed lvalue_only good place cs =
    read-by-parts Production.RestLvalue FUNCTION_REST (82 ∷ []) (nothing_there ∷ []) (written (69 ∷ []) cs ∷ [])
    (takes-byte FUNCTION_REST Kind.FunctionRest Production.RestLvalue 82 refl refl (omega arith) refl) tt refl
    (λ s c q. read-by-parts Production.RefEnd AFTER_R (69 ∷ []) [] []
    (takes-byte AFTER_R Kind.AfterR Production.RefEnd 69 refl refl (omega arith) refl) tt refl (λ began s. refl) s c q before λ began s. refl)
end-reads around allowed rvalue_only good place cs =
    read-by-parts Production.RestRvalue FUNCTION_REST (79 ∷ []) (nothing_there ∷ []) (written (69 ∷ []) cs ∷ [])
    (takes-byte FUNCTION_REST Kind.FunctionRest Production.RestRvalue 79 refl refl (omega arith) refl) tt refl
    (λ s c q. read-by-parts Production.RefEnd AFTER_O (69 ∷ []) [] []
    (takes-byte AFTER_O Kind.AfterO Production.RefEnd 69 refl refl (omega arith) refl) tt refl (λ began s. refl) s c q before λ began s. refl)
end-reads around allowed explicit_object good place cs = absurd good

-- one more parameter, which doesn't begin with an R or an O
pub rest-item : (around : Around) (allowed : Option ℕ) (t items : Term) (ref : RefQualifier) (place : ℕ) (cs : List Component) (first rest : Written)
    → ReadsAt around allowed (OfKind ITEM_BUT_REF) (Is (tree t true)) (place + 0) cs first
    → ReadsAt around allowed (OfKind FUNCTION_REST) (Is (signature items ref)) (place + 0 + length first.bytes) first.components rest
    → ReadsAt around allowed (OfKind FUNCTION_REST) (Is (signature (list t items) ref)) place cs (written (first.bytes ++ rest.bytes) rest.components)
unfolding grammar with_item
rest-item around allowed t items ref place cs first rest one two =
    read-by-parts Production.RestItem FUNCTION_REST [] (tree t true ∷ signature items ref ∷ []) (first ∷ rest ∷ [])
    (takes-none FUNCTION_REST Kind.FunctionRest Production.RestItem 80 refl refl (omega arith) refl) tt refl
    (λ s c q. one s c q before λ s c q. two s c q before λ began s. refl)

-- a parameter that is a spelled-out reference type becomes a component before the parameters after it are read
pub rest-reference : (r : Bool) (around : Around) (allowed : Option ℕ) (t items : Term) (ref : RefQualifier) (place : ℕ) (cs : List Component)
    (first rest : Written)
    → ReadsAt around allowed (OfKind TYPE) (Is (tree t true)) (place + 1 + 0) cs first
    → ReadsAt around allowed (OfKind FUNCTION_REST) (Is (signature items ref)) (place + 1 + 0 + length first.bytes)
    (more around first.components (reference r t)) rest
    → ReadsAt around allowed (OfKind FUNCTION_REST) (Is (signature (list (reference r t) items) ref)) place cs
    (written (reference_letter r ∷ (first.bytes ++ rest.bytes)) rest.components)
unfolding grammar signature_or with_item appended
rest-reference true around allowed t items ref place cs first rest one two =
    read-by-parts Production.RestLvalue FUNCTION_REST (82 ∷ []) (signature (list (lvalue t) items) ref ∷ [])
    (written (first.bytes ++ rest.bytes) rest.components ∷ [])
    (takes-byte FUNCTION_REST Kind.FunctionRest Production.RestLvalue 82 refl refl (omega arith) refl) tt refl
    (λ s c q. read-by-parts Production.LvalueItem AFTER_R [] (tree t true ∷ signature items ref ∷ [])
    (first ∷ rest ∷ []) (takes-none AFTER_R Kind.AfterR Production.LvalueItem 80 refl refl (omega arith) refl) tt refl
    (λ s c q. one s c q before λ s c q. two (appended around (lvalue t) s) (appended-same around (lvalue t) s c) q
    before λ began s. refl) s c q before λ began s. refl)
rest-reference false around allowed t items ref place cs first rest one two =
    read-by-parts Production.RestRvalue FUNCTION_REST (79 ∷ []) (signature (list (rvalue t) items) ref ∷ [])
    (written (first.bytes ++ rest.bytes) rest.components ∷ [])
    (takes-byte FUNCTION_REST Kind.FunctionRest Production.RestRvalue 79 refl refl (omega arith) refl) tt refl
    (λ s c q. read-by-parts Production.RvalueItem AFTER_O [] (tree t true ∷ signature items ref ∷ [])
    (first ∷ rest ∷ []) (takes-none AFTER_O Kind.AfterO Production.RvalueItem 80 refl refl (omega arith) refl) tt refl
    (λ s c q. one s c q before λ s c q. two (appended around (rvalue t) s) (appended-same around (rvalue t) s c) q
    before λ began s. refl) s c q before λ began s. refl)

-- a function type, from its return type and its parameters
pub function-solid : (around : Around) (allowed : Option ℕ) (c_linkage : Bool) (returned items : Term) (ref : RefQualifier) (place : ℕ)
    (cs : List Component) (first rest : Written)
    → ReadsAt around allowed (OfKind TYPE) (Is (tree returned true)) (place + 1 + length (mark_bytes c_linkage 89)) cs first
    → ReadsAt around allowed (OfKind FUNCTION_REST) (Is (signature items ref)) (place + 1 + length (mark_bytes c_linkage 89) + length first.bytes)
    first.components rest
    → ReadsAt around allowed (OfKind SOLID) (Is (tree (function_type c_linkage false ref returned (parameters items)) false)) place cs
    (written (70 ∷ (mark_bytes c_linkage 89 ++ (first.bytes ++ rest.bytes))) rest.components)
unfolding grammar
function-solid around allowed c_linkage returned items ref place cs first rest one two =
    read-by-parts Production.Function SOLID (70 ∷ []) (mark_value c_linkage 89 ∷ tree returned true ∷ signature items ref ∷ [])
    (written (mark_bytes c_linkage 89) cs ∷ first ∷ rest ∷ []) (takes-byte SOLID Kind.Solid Production.Function 70 refl refl (omega arith) refl) tt refl
    (λ s c q. maybe-mark-reads Kind.MaybeCLinkage 89 refl refl (omega arith) refl c_linkage s c q before λ s c q. one s
    c q before λ s c q. two s c q before means c_linkage)
  where
    means : (b : Bool) (began s : State) → close Production.Function 70 around place began
        (mark_value b 89 ∷ tree returned true ∷ signature items ref ∷ []) s
        ≡ Ok (found (tree (function_type b false ref returned (parameters items)) false) s)
    means true began s = refl
    means false began s = refl

pub noexcept-behind-d : (around : Around) (allowed : Option ℕ) (c_linkage : Bool) (returned items : Term) (ref : RefQualifier) (place : ℕ)
    (cs : List Component) (first rest : Written)
    → ReadsAt around allowed (OfKind TYPE) (Is (tree returned true)) (place + 1 + 1 + length (mark_bytes c_linkage 89)) cs first
    → ReadsAt around allowed (OfKind FUNCTION_REST) (Is (signature items ref)) (place + 1 + 1 + length (mark_bytes c_linkage 89) + length first.bytes)
    first.components rest
    → ReadsAt around allowed (OfKind AFTER_D) (Is (tree (function_type c_linkage true ref returned (parameters items)) false)) place cs
    (written (111 ∷ 70 ∷ (mark_bytes c_linkage 89 ++ (first.bytes ++ rest.bytes))) rest.components)
unfolding grammar
noexcept-behind-d around allowed c_linkage returned items ref place cs first rest one two =
    read-by-parts Production.NoexceptFunction AFTER_D (111 ∷ [])
    (nothing_there ∷ mark_value c_linkage 89 ∷ tree returned true ∷ signature items ref ∷ [])
    (written (70 ∷ []) cs ∷ written (mark_bytes c_linkage 89) cs ∷ first ∷ rest ∷ [])
    (takes-byte AFTER_D Kind.AfterD Production.NoexceptFunction 111 refl refl (omega arith) refl) tt refl
    (λ s c q. fixed-reads s c q before λ s c q. maybe-mark-reads Kind.MaybeCLinkage 89 refl refl (omega arith) refl
    c_linkage s c q before λ s c q. one s c q before λ s c q. two s c q before means c_linkage)
  where
    means : (b : Bool) (began s : State) → close Production.NoexceptFunction 111 around place began
        (nothing_there ∷ mark_value b 89 ∷ tree returned true ∷ signature items ref ∷ []) s
        ≡ Ok (found (tree (function_type b true ref returned (parameters items)) false) s)
    means true began s = refl
    means false began s = refl
