-- Types are read as what was pressed.
use Rattle.cpp_press_laws.proofs.Basics.{◌≡◌, ℕ, ◌+◌, length, List, [], ◌∷◌, ◌++◌, Option, Bool, true, false, Ok, refl, ap, arith, append-nil, ◌&&◌, Result, TakesRule, Refusal, Found, found, Kind, Production, ABBREVIATION, TYPE, PLAIN, ITEM, ITEM_BUT_REF, ITEM_AFTER_D, AFTER_D, SOLID, TYPE_AFTER_S, parts_of, abi, rule_of, Term, State, Around, Value, nothing_there, tree, is_listed, appended, is_function_type, with_type, with_unqualified, after, applied, listed_value, close, byte_of, Component, Written, written, ReadsAt, Is}
use Rattle.sym_shape.specs.declared.rule.Sym.TheVariants.{Kind as OfKind}
use Rattle.cpp_press_laws.proofs.ReadBack.Reading.{takes-byte, takes-none, empty-reads, PartsRead, TestsNothing, component-by-parts, elsewhere, grammar, more, read-by-parts, Means, ◌before◌}

-- ## Types by their kinds

-- A kind reads some bytes and then what kind `inner` reads: the tree becomes a component, unless it is one or never is one.
pub record Wraps (around : Around) (allowed : Option ℕ) (k inner : ℕ) (taken : List ℕ) (t : Term) : Type 0 where
  pub adds : (place : ℕ) (cs : List Component) (w : Written) → ReadsAt around allowed (OfKind inner) (Is (tree t false)) (place + length taken) cs w
      → ReadsAt around allowed (OfKind k) (Is (tree t true)) place cs (written (taken ++ w.bytes) (more around w.components t))
  pub keeps : (place : ℕ) (cs : List Component) (w : Written) → ReadsAt around allowed (OfKind inner) (Is (tree t true)) (place + length taken) cs w
      → ReadsAt around allowed (OfKind k) (Is (tree t true)) place cs (written (taken ++ w.bytes) w.components)

-- A kind of types reads a solid type, which is one with a letter of its own or a name, and a type that begins with a D.
pub record HasTypes (around : Around) (allowed : Option ℕ) (k : ℕ) (t : Term) : Type 0 where
  pub solid : Wraps around allowed k SOLID [] t
  pub with_d : Wraps around allowed k AFTER_D (68 ∷ []) t

-- a production with one part: in whatever state the part is read, the part's tree is the production's value and becomes
-- a component
pub wraps : (p : Production) {around : Around} {allowed : Option ℕ} {k inner : ℕ} {taken : List ℕ} {t : Term} → TakesRule abi k (rule_of p) taken
    → TestsNothing p
    → ((place : ℕ) (cs : List Component) (w : Written)
    → ReadsAt around allowed (OfKind inner) (Is (tree t false)) (place + length taken) cs w
    → PartsRead p around allowed place
    (λ known. (began s : State) → close p (byte_of taken) around place began known s ≡ Ok (found (tree t true) (appended around t s)))
    (parts_of p) (tree t false ∷ []) (w ∷ []) [] (place + length taken) cs)
    → ((place : ℕ) (cs : List Component) (w : Written)
    → ReadsAt around allowed (OfKind inner) (Is (tree t true)) (place + length taken) cs w
    → PartsRead p around allowed place (Means p (byte_of taken) around place (tree t true)) (parts_of p) (tree t true ∷ []) (w ∷ []) []
    (place + length taken) cs)
    → Wraps around allowed k inner taken t
wraps p {k} {taken} {t} takes plain adds keeps = record {
  adds = λ place cs w one. component-by-parts p k taken t (tree t false ∷ []) (w ∷ []) takes plain refl (adds place cs w one);
  keeps = λ place cs w one. read-by-parts p k taken (tree t true ∷ []) (w ∷ []) takes plain refl (keeps place cs w one);
}

-- one production around another, where the inner one adds nothing
wraps-both : (around : Around) (allowed : Option ℕ) (k between_ inner : ℕ) (taken : List ℕ) (t : Term)
    → Wraps around allowed k between_ taken t
    → ((listed : Bool) (place : ℕ) (cs : List Component) (w : Written)
    → ReadsAt around allowed (OfKind inner) (Is (tree t listed)) (place + 0) cs w
    → ReadsAt around allowed (OfKind between_) (Is (tree t listed)) place cs w)
    → Wraps around allowed k inner taken t
wraps-both around allowed k between_ inner taken t outer through = record {
  adds = λ place cs w one. outer.adds place cs w (through false (place + length taken) cs w (elsewhere (omega arith) one));
  keeps = λ place cs w one. outer.keeps place cs w (through true (place + length taken) cs w (elsewhere (omega arith) one));
}

item-is-type : (around : Around) (allowed : Option ℕ) (t : Term) (listed : Bool) (place : ℕ) (cs : List Component) (w : Written)
    → ReadsAt around allowed (OfKind AFTER_D) (Is (tree t listed)) (place + 0) cs w
    → ReadsAt around allowed (OfKind ITEM_AFTER_D) (Is (tree t listed)) place cs w
unfolding grammar
item-is-type around allowed t listed place cs w one =
    read-by-parts Production.ItemIsType ITEM_AFTER_D [] (tree t listed ∷ []) (w ∷ [])
    (takes-none ITEM_AFTER_D Kind.ItemAfterD Production.ItemIsType 118 refl refl (omega arith) refl) tt refl
    (λ s c q. one s c q before λ began s. refl)

plain-wraps : (around : Around) (allowed : Option ℕ) (k : ℕ) (t : Term) → TakesRule abi k (rule_of Production.PlainType) []
    → Wraps around allowed k SOLID [] t
unfolding grammar listed_value with_type is_listed
plain-wraps around allowed k t takes =
    wraps Production.PlainType takes tt (λ place cs w one s c q. (one s c q, λ began s. refl)) (λ place cs w one s c q. (one s c q, λ began s. refl))

pub item-with-d : (around : Around) (allowed : Option ℕ) (k : ℕ) (t : Term) → TakesRule abi k (rule_of Production.ItemWithD) (68 ∷ [])
    → Wraps around allowed k ITEM_AFTER_D (68 ∷ []) t
unfolding grammar listed_value with_type is_listed
item-with-d around allowed k t takes =
    wraps Production.ItemWithD takes tt (λ place cs w one s c q. (one s c q, λ began s. refl)) (λ place cs w one s c q. (one s c q, λ began s. refl))

item-wraps : (around : Around) (allowed : Option ℕ) (k : ℕ) (t : Term) → TakesRule abi k (rule_of Production.ItemWithD) (68 ∷ [])
    → Wraps around allowed k AFTER_D (68 ∷ []) t
item-wraps around allowed k t takes =
    wraps-both around allowed k ITEM_AFTER_D AFTER_D (68 ∷ []) t (item-with-d around allowed k t takes) (item-is-type around allowed t)

pub types-any : (around : Around) (allowed : Option ℕ) (t : Term) → HasTypes around allowed TYPE t
unfolding grammar listed_value with_type is_listed
types-any around allowed t = record {
  solid = plain-wraps around allowed TYPE t (takes-none TYPE Kind.Type Production.PlainType 80 refl refl (omega arith) refl);
  with_d = wraps Production.TypeWithD (takes-byte TYPE Kind.Type Production.TypeWithD 68 refl refl (omega arith) refl) tt
      (λ place cs w one s c q. (one s c q, λ began s. refl)) (λ place cs w one s c q. (one s c q, λ began s. refl));
}

pub types-item : (around : Around) (allowed : Option ℕ) (t : Term) → HasTypes around allowed ITEM t
unfolding grammar
types-item around allowed t = record {
  solid = plain-wraps around allowed ITEM t (takes-none ITEM Kind.Item Production.PlainType 80 refl refl (omega arith) refl);
  with_d = item-wraps around allowed ITEM t (takes-byte ITEM Kind.Item Production.ItemWithD 68 refl refl (omega arith) refl);
}

pub types-parameter : (around : Around) (allowed : Option ℕ) (t : Term) → HasTypes around allowed ITEM_BUT_REF t
unfolding grammar
types-parameter around allowed t = record {
  solid = plain-wraps around allowed ITEM_BUT_REF t (takes-none ITEM_BUT_REF Kind.ItemButRef Production.PlainType 80 refl refl (omega arith) refl);
  with_d = item-wraps around allowed ITEM_BUT_REF t (takes-byte ITEM_BUT_REF Kind.ItemButRef Production.ItemWithD 68 refl refl (omega arith) refl);
}

-- a function type under qualifiers is no component
pub types-bare : (around : Around) (allowed : Option ℕ) (t : Term) → is_function_type t ≡ false → HasTypes around allowed PLAIN t
unfolding grammar listed_value with_unqualified with_type is_listed is_function_type appended
types-bare around allowed t other = record {
  solid = wraps Production.QualifiedPlain (takes-none PLAIN Kind.Plain Production.QualifiedPlain 80 refl refl (omega arith) refl) tt
      (λ place cs w one s c q. (one s c q, λ began s. rw other refl)) (λ place cs w one s c q. (one s c q, λ began s. rw other refl));
  with_d = wraps Production.PlainWithD (takes-byte PLAIN Kind.Plain Production.PlainWithD 68 refl refl (omega arith) refl) tt
      (λ place cs w one s c q. (one s c q, λ began s. rw other refl)) (λ place cs w one s c q. (one s c q, λ began s. rw other refl));
}

-- a function type right under qualifiers
pub function-under-qualifiers : (around : Around) (allowed : Option ℕ) (t : Term) (place : ℕ) (cs : List Component) (w : Written)
    → is_function_type t ≡ true
    → ReadsAt around allowed (OfKind SOLID) (Is (tree t false)) (place + 0) cs w → ReadsAt around allowed (OfKind PLAIN) (Is (tree t true)) place cs w
unfolding grammar listed_value with_unqualified is_function_type
function-under-qualifiers around allowed t place cs w is one =
    read-by-parts Production.QualifiedPlain PLAIN [] (tree t false ∷ []) (w ∷ [])
    (takes-none PLAIN Kind.Plain Production.QualifiedPlain 80 refl refl (omega arith) refl) tt refl
    (λ s c q. one s c q before λ began s. rw is refl)

pub noexcept-under-qualifiers : (around : Around) (allowed : Option ℕ) (t : Term) (place : ℕ) (cs : List Component) (w : Written)
    → is_function_type t ≡ true
    → ReadsAt around allowed (OfKind AFTER_D) (Is (tree t false)) (place + 1) cs w
    → ReadsAt around allowed (OfKind PLAIN) (Is (tree t true)) place cs (written (68 ∷ w.bytes) w.components)
unfolding grammar listed_value with_unqualified is_function_type
noexcept-under-qualifiers around allowed t place cs w is one =
    read-by-parts Production.PlainWithD PLAIN (68 ∷ []) (tree t false ∷ []) (w ∷ [])
    (takes-byte PLAIN Kind.Plain Production.PlainWithD 68 refl refl (omega arith) refl) tt refl
    (λ s c q. one s c q before λ began s. rw is refl)

-- ## What begins with an S

-- a name after S, without arguments
pub solid-with-s : (k : ℕ) (around : Around) (allowed : Option ℕ) (place : ℕ) (t : Term) (listed : Bool) (cs : List Component) (w : Written)
    → TakesRule abi k (rule_of Production.TypeWithS) (83 ∷ [])
    → ReadsAt around allowed (OfKind TYPE_AFTER_S) (Is (tree t listed)) (place + 1) cs w
    → ReadsAt around allowed (OfKind k) (Is (tree t listed)) place cs (written (83 ∷ w.bytes) w.components)
unfolding grammar after applied is_listed
solid-with-s k around allowed place t listed cs w takes one =
    read-by-parts Production.TypeWithS k (83 ∷ []) (tree t listed ∷ nothing_there ∷ []) (w ∷ written [] w.components ∷ []) takes tt
    (ap (λ l. 83 ∷ l) (append-nil w.bytes))
    (λ s c q. one s c q before λ s c q. empty-reads Kind.ArgumentsAlone refl refl s c q before λ began s. listed-kept
    listed s)
  where
    listed-kept : (b : Bool) (s : State) → ◌≡◌ {A = Result (Found Value State) Refusal} (Ok (found (tree t (b && true)) s)) (Ok (found (tree t b) s))
    listed-kept true s = refl
    listed-kept false s = refl

-- an abbreviation or a reference as a type after an S
pub behind-s : (around : Around) (allowed : Option ℕ) (t : Term) (place : ℕ) (cs : List Component) (w : Written)
    → ReadsAt around allowed (OfKind ABBREVIATION) (Is (tree t true)) (place + 0) cs w → ReadsAt around allowed (OfKind TYPE_AFTER_S) (Is (tree t true)) place cs w
unfolding grammar
behind-s around allowed t place cs w one =
    read-by-parts Production.AbbreviatedType TYPE_AFTER_S [] (tree t true ∷ []) (w ∷ [])
    (takes-none TYPE_AFTER_S Kind.TypeAfterS Production.AbbreviatedType 95 refl refl (omega arith) refl) tt refl
    (λ s c q. one s c q before λ began s. refl)

-- an abbreviation or a reference after an S, as a type
pub type-behind-s : (k : ℕ) (around : Around) (allowed : Option ℕ) (place : ℕ) (t : Term) (cs : List Component) (w : Written)
    → HasTypes around allowed k t
    → ReadsAt around allowed (OfKind ABBREVIATION) (Is (tree t true)) (place + 0 + 1 + 0) cs w
    → ReadsAt around allowed (OfKind k) (Is (tree t true)) place cs (written (83 ∷ w.bytes) w.components)
unfolding grammar
type-behind-s k around allowed place t cs w has one =
    has.solid.keeps place cs (written (83 ∷ w.bytes) w.components)
    (solid-with-s SOLID around allowed (place + 0) t true cs w (takes-byte SOLID Kind.Solid Production.TypeWithS 83 refl refl (omega arith) refl)
    (behind-s around allowed t (place + 0 + 1) cs w one))
