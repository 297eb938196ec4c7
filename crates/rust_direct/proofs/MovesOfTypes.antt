-- The moves of types that are made of one other type, of impls, and of back references.
use Rattle.rust_direct.proofs.Basics.{◌≡◌, ℕ, ◌+◌, ◌<◌, ◌≤◌, List, [], ◌∷◌, ◌++◌, length, inl, inr, false, Some, Ok, refl, ap, sym, subst, arith, ◌⊎◌, if◌then◌else◌, le-leb, cases_eq, ne_eqb, Base62, Rule, Kind, Number, TakesRule, standing, opened, StandsAt, basic_texts, need, need_of_type, basic_text, text_at, Production, PATH, TYPE, DISAMBIGUATOR, SOME_LIFETIME, v0_table, taking, Value, State, number, a_path, a_type, a_lifetime, a_disambiguator, as_path, as_type, ended_at, greatest_u64, rust_language, Opened, Comes, ComesAll, Expects, within, behind, with_ended, Wanted, path, other_path, type, kind_of, is_for_type, IsNumberAt, IsDisambiguatorAt, IsType, Ends, TypeGoesOn, ImplementingGoesOn, ImplGoesOn, TraitGoesOn, Erased, unwritten, written, erased_bytes}
use Rattle.sym_shape.specs.declared.rule.Sym.{Sym}
use Rattle.sym_link.specs.Reading.{Open}
use Rattle.sym_direct.proofs.Moves as moves
use Rattle.rust_tree.specs.Symbol as tree
use Rattle.rust_direct.proofs.Moves.{TakesAll, comes-moved, number-comes, byte-there}
use Rattle.rust_direct.proofs.MovesOfArguments.{type-part, no-minus, number_rule, no-digits}

none-more : (n : ℕ) → n + 0 ≡ n
none-more n = omega arith

two-more : (n : ℕ) → n + 1 + 1 ≡ n + 2
two-more n = omega arith

-- ## Basic types

abbrev basic_rule : Rule
basic_rule = taking Production.BasicType []

EachTakes : List (ℕ × List ℕ) → Type 0
EachTakes [] = Unit {0}
EachTakes ((l, bs) ∷ rest) = TakesRule v0_table TYPE basic_rule (l ∷ []) × EachTakes rest

found-in : (xs : List (ℕ × List ℕ)) (b : ℕ) → EachTakes xs → 1 ≤ length (text_at xs b) → TakesRule v0_table TYPE basic_rule (b ∷ [])
unfolding EachTakes
found-in [] b each filled = absurd (omega (arith, filled))
found-in ((l, bs) ∷ rest) b each filled = elim (cases_eq l b) [
  | inl same ↦ subst (λ k. TakesRule v0_table TYPE basic_rule (k ∷ [])) same each.0
  | inr apart ↦ found-in rest b each.1 (subst (λ t. 1 ≤ length (if t then bs else text_at rest b)) (ne_eqb l b apart) filled)
]

takes-basic : (b : ℕ) → 1 ≤ length (basic_text b) → TakesRule v0_table TYPE basic_rule (b ∷ [])
unfolding EachTakes basic_text
takes-basic b filled = found-in basic_texts b all filled
  where
    one : (l : ℕ) → l < 256 → v0_table.rule TYPE l ≡ Some basic_rule → TakesRule v0_table TYPE basic_rule (l ∷ [])
    one l small found = record { byte = l; is_byte = small; found = found; takes = refl }

    all : EachTakes basic_texts
    all = (
      one 97 (omega arith) refl,
      (
        one 98 (omega arith) refl,
        (
          one 99 (omega arith) refl,
          (
            one 100 (omega arith) refl,
            (
              one 101 (omega arith) refl,
              (
                one 102 (omega arith) refl,
                (
                  one 104 (omega arith) refl,
                  (
                    one 105 (omega arith) refl,
                    (
                      one 106 (omega arith) refl,
                      (
                        one 108 (omega arith) refl,
                        (
                          one 109 (omega arith) refl,
                          (
                            one 110 (omega arith) refl,
                            (
                              one 111 (omega arith) refl,
                              (
                                one 112 (omega arith) refl,
                                (
                                  one 115 (omega arith) refl,
                                  (
                                    one 116 (omega arith) refl,
                                    (
                                      one 117 (omega arith) refl,
                                      (
                                        one 118 (omega arith) refl,
                                        (
                                          one 120 (omega arith) refl,
                                          (
                                            one 121 (omega arith) refl,
                                            (one 122 (omega arith) refl, tt),
                                          ),
                                        ),
                                      ),
                                    ),
                                  ),
                                ),
                              ),
                            ),
                          ),
                        ),
                      ),
                    ),
                  ),
                ),
              ),
            ),
          ),
        ),
      ),
    )

-- a basic type is read
pub basic-comes : (s : List ℕ) (os : List Opened) (at : ℕ) (st : State) (b : ℕ) → 1 ≤ length (basic_text b) → Expects s TYPE os at st
    → StandsAt s at (b ∷ []) → Ends s os at (a_type (tree.basic b)) (at + 1) st
basic-comes s os at st b filled expects stands =
    moves.letter-comes rust_language s TYPE basic_rule (b ∷ []) 0 os at st st (a_type (tree.basic b)) (with_ended at (a_type (tree.basic b)) st)
    (takes-basic b filled) (λ f. refl) refl
    (ap (λ c. Ok (record { value = a_type (tree.basic c); state = with_ended at (a_type (tree.basic c)) st })) (byte-there s at b stands)) expects stands

-- ## Types that are made of one other type

-- a rule whose only part is a type
one-type : (s : List ℕ) (os : List Opened) (at : ℕ) (st : State) (p : Production) (byte : ℕ) (made : tree.Ty → tree.Ty)
    → TakesRule v0_table TYPE (taking p (Kind TYPE ∷ [])) (byte ∷ [])
    → (rust_language.reading s).between (standing (taking p (Kind TYPE ∷ [])) (byte ∷ []) at 0 st) [] st ≡ Ok (record { context = 0; values = []; state = within p st })
    → ((v : Value) (t : tree.Ty) (now : State) → IsType v t
    → (rust_language.reading s).close (standing (taking p (Kind TYPE ∷ [])) (byte ∷ []) at 0 st) (v ∷ []) now
    ≡ Ok (record { value = a_type (made t); state = with_ended at (a_type (made t)) now }))
    → Expects s TYPE os at st → StandsAt s at (byte ∷ []) → TypeGoesOn s os at (λ t. a_type (made t)) (at + 1) st
one-type s os at st p byte made takes goes closes expects stands =
    let rule = standing (taking p (Kind TYPE ∷ [])) (byte ∷ []) at 0 st in
    record {
      inner = opened rule [] [] ∷ os;
      production = p;
      awaits = moves.first-of rust_language s TYPE (taking p (Kind TYPE ∷ [])) (byte ∷ []) 0 os at st st (Kind TYPE) []
          (record { context = 0; values = []; state = within p st }) takes (λ f. refl) refl goes expects stands;
      passes = λ v t end now is came.
          moves.last-of rust_language s rule [] (v ∷ []) os end now (a_type (made t)) (with_ended at (a_type (made t)) now) (closes v t now is) came;
    }

pub slice-opens : (s : List ℕ) (os : List Opened) (at : ℕ) (st : State) → Expects s TYPE os at st → StandsAt s at (83 ∷ [])
    → TypeGoesOn s os at (λ t. a_type (tree.slice t)) (at + 1) st
slice-opens s os at st expects stands =
    one-type s os at st Production.Slice 83 tree.slice (record { byte = 83; is_byte = omega arith; found = refl; takes = refl }) refl
    (λ v t now is. rw (type-part v t [] is) refl) expects stands

pub const-opens : (s : List ℕ) (os : List Opened) (at : ℕ) (st : State) → Expects s TYPE os at st → StandsAt s at (80 ∷ [])
    → TypeGoesOn s os at (λ t. a_type (tree.const_pointer t)) (at + 1) st
const-opens s os at st expects stands =
    one-type s os at st Production.ConstPointer 80 tree.const_pointer (record { byte = 80; is_byte = omega arith; found = refl; takes = refl }) refl
    (λ v t now is. rw (type-part v t [] is) refl) expects stands

pub mut-opens : (s : List ℕ) (os : List Opened) (at : ℕ) (st : State) → Expects s TYPE os at st → StandsAt s at (79 ∷ [])
    → TypeGoesOn s os at (λ t. a_type (tree.mut_pointer t)) (at + 1) st
mut-opens s os at st expects stands =
    one-type s os at st Production.MutPointer 79 tree.mut_pointer (record { byte = 79; is_byte = omega arith; found = refl; takes = refl }) refl
    (λ v t now is. rw (type-part v t [] is) refl) expects stands

-- ## References

takes-lifetime : TakesRule v0_table SOME_LIFETIME number_rule (76 ∷ [])
takes-lifetime = record { byte = 76; is_byte = omega arith; found = refl; takes = refl }

-- an erased lifetime is read, where a lifetime may be missing
lifetime-comes : (s : List ℕ) (os : List Opened) (at : ℕ) (st : State) → Expects s SOME_LIFETIME os at st → StandsAt s at (76 ∷ 95 ∷ [])
    → Comes s os (a_lifetime 0) (at + 1 + 1) (behind st)
lifetime-comes s os at st expects stands =
    let places = moves.stands-split s at (76 ∷ []) (95 ∷ []) stands in
    let own = standing number_rule (76 ∷ []) at 0 st in
    let digits = moves.first-of rust_language s SOME_LIFETIME number_rule (76 ∷ []) 0 os at st st (Number Base62) []
    (record { context = 0; values = []; state = within Production.Lifetime st }) takes-lifetime (λ f. refl) refl refl expects places.0 in
    let counted = number-comes s Production.Lifetime (opened own [] [] ∷ os) (at + 1) st 0 (at + 1 + 1) (λ o. refl) digits (no-digits s (at + 1) places.1) in
    moves.last-of rust_language s own [] (number 0 ∷ []) os (at + 1 + 1) (within Production.Lifetime st) (a_lifetime 0) (behind st) refl counted

abbrev reference_rule : Production → Rule
reference_rule p = taking p (Kind SOME_LIFETIME ∷ Kind TYPE ∷ [])

-- a rule whose parts are a lifetime and a type continues after the lifetime
abbrev Goes : (s : List ℕ) → Open State ℕ → Production → List Value → State → Type 0
Goes s rule p known st = (rust_language.reading s).between rule known st ≡ Ok (record { context = 0; values = known; state = within p st })

abbrev Makes : (s : List ℕ) → Open State ℕ → List Value → (tree.Ty → tree.Ty) → Type 0
Makes s rule known made =
    (v : Value) (t : tree.Ty) (now : State) → IsType v t
    → (rust_language.reading s).close rule (known ++ v ∷ []) now ≡ Ok (record { value = a_type (made t); state = with_ended rule.place (a_type (made t)) now })

referring : (s : List ℕ) (os : List Opened) (at : ℕ) (st : State) (p : Production) (byte : ℕ) (made : tree.Ty → tree.Ty) (e : Erased)
    → TakesRule v0_table TYPE (reference_rule p) (byte ∷ [])
    → ((now : State) → Goes s (standing (reference_rule p) (byte ∷ []) at 0 st) p [] now)
    → ((now : State) → Goes s (standing (reference_rule p) (byte ∷ []) at 0 st) p (a_lifetime 0 ∷ []) now)
    → Makes s (standing (reference_rule p) (byte ∷ []) at 0 st) [] made
    → Makes s (standing (reference_rule p) (byte ∷ []) at 0 st) (a_lifetime 0 ∷ []) made
    → Expects s TYPE os at st → StandsAt s at (byte ∷ []) → StandsAt s (at + 1) (erased_bytes e)
    → TypeGoesOn s os at (λ t. a_type (made t)) (at + 1 + length (erased_bytes e)) st
referring s os at st p byte made unwritten takes goes with_lifetime bare behind_lifetime expects stands there =
    let rule = standing (reference_rule p) (byte ∷ []) at 0 st in
    let awaits = moves.first-of rust_language s TYPE (reference_rule p) (byte ∷ []) 0 os at st st (Kind SOME_LIFETIME) (Kind TYPE ∷ [])
    (record { context = 0; values = []; state = within p st }) takes (λ f. refl) refl (goes st) expects stands in
    record {
      inner = opened rule [] [] ∷ os;
      production = p;
      awaits = moves.next-of rust_language s rule [] [] (Kind TYPE) [] os (at + 1 + 0) (within p st)
          (record { context = 0; values = []; state = within p st }) (goes (within p st))
          (comes-moved s (opened rule [] (Kind TYPE ∷ []) ∷ os) [] (at + 1) (at + 1 + 0) (within p st) (sym (none-more (at + 1)))
          (moves.expects-empty rust_language s SOME_LIFETIME 0 (opened rule [] (Kind TYPE ∷ []) ∷ os) (at + 1) (within p st) awaits refl));
      passes = λ v t end now is came.
          moves.last-of rust_language s rule [] (v ∷ []) os end now (a_type (made t)) (with_ended at (a_type (made t)) now) (bare v t now is) came;
    }
referring s os at st p byte made written takes goes with_lifetime bare behind_lifetime expects stands there =
    let rule = standing (reference_rule p) (byte ∷ []) at 0 st in
    let awaits = moves.first-of rust_language s TYPE (reference_rule p) (byte ∷ []) 0 os at st st (Kind SOME_LIFETIME) (Kind TYPE ∷ [])
    (record { context = 0; values = []; state = within p st }) takes (λ f. refl) refl (goes st) expects stands in
    record {
      inner = opened rule (a_lifetime 0 ∷ []) [] ∷ os;
      production = p;
      awaits = moves.next-of rust_language s rule [] (a_lifetime 0 ∷ []) (Kind TYPE) [] os (at + 1 + 2) (behind st)
          (record { context = 0; values = a_lifetime 0 ∷ []; state = within p st }) (with_lifetime (behind st))
          (comes-moved s (opened rule [] (Kind TYPE ∷ []) ∷ os) (a_lifetime 0 ∷ []) (at + 1 + 1 + 1) (at + 1 + 2) (behind st) (two-more (at + 1))
          (lifetime-comes s (opened rule [] (Kind TYPE ∷ []) ∷ os) (at + 1) (within p st) awaits there));
      passes = λ v t end now is came.
          moves.last-of rust_language s rule (a_lifetime 0 ∷ []) (v ∷ []) os end now (a_type (made t)) (with_ended at (a_type (made t)) now)
          (behind_lifetime v t now is) came;
    }

shared-bare : (s : List ℕ) (at : ℕ) (st : State) → Makes s (standing (reference_rule Production.SharedReference) (82 ∷ []) at 0 st) [] (tree.shared_reference 0)
shared-bare s at st (a_path p) t now is = let same : tree.path_type p ≡ t = cc is in rw (← same) refl
shared-bare s at st (a_type u) t now is = let same : u ≡ t = cc is in rw (← same) refl
shared-bare s at st _ t now is = cc is

mutable-bare : (s : List ℕ) (at : ℕ) (st : State) → Makes s (standing (reference_rule Production.MutableReference) (81 ∷ []) at 0 st) [] (tree.mutable_reference 0)
mutable-bare s at st (a_path p) t now is = let same : tree.path_type p ≡ t = cc is in rw (← same) refl
mutable-bare s at st (a_type u) t now is = let same : u ≡ t = cc is in rw (← same) refl
mutable-bare s at st _ t now is = cc is

pub shared-opens : (s : List ℕ) (os : List Opened) (at : ℕ) (st : State) (e : Erased) → Expects s TYPE os at st → StandsAt s at (82 ∷ [])
    → StandsAt s (at + 1) (erased_bytes e) → TypeGoesOn s os at (λ t. a_type (tree.shared_reference 0 t)) (at + 1 + length (erased_bytes e)) st
shared-opens s os at st e expects stands there =
    referring s os at st Production.SharedReference 82 (tree.shared_reference 0) e
    (record { byte = 82; is_byte = omega arith; found = refl; takes = refl }) (λ now. refl) (λ now. refl) (shared-bare s at st)
    (λ v t now is. rw (type-part v t [] is) refl) expects stands there

pub mutable-opens : (s : List ℕ) (os : List Opened) (at : ℕ) (st : State) (e : Erased) → Expects s TYPE os at st → StandsAt s at (81 ∷ [])
    → StandsAt s (at + 1) (erased_bytes e) → TypeGoesOn s os at (λ t. a_type (tree.mutable_reference 0 t)) (at + 1 + length (erased_bytes e)) st
mutable-opens s os at st e expects stands there =
    referring s os at st Production.MutableReference 81 (tree.mutable_reference 0) e
    (record { byte = 81; is_byte = omega arith; found = refl; takes = refl }) (λ now. refl) (λ now. refl) (mutable-bare s at st)
    (λ v t now is. rw (type-part v t [] is) refl) expects stands there

-- ## Back references

abbrev path_reference : Rule
path_reference = taking Production.PathReference (Number Base62 ∷ [])

abbrev type_reference : Rule
type_reference = taking Production.TypeReference (Number Base62 ∷ [])

takes-path : (w : Wanted) → is_for_type w ≡ false → TakesRule v0_table (kind_of w) path_reference (66 ∷ [])
takes-path path e = record { byte = 66; is_byte = omega arith; found = refl; takes = refl }
takes-path other_path e = record { byte = 66; is_byte = omega arith; found = refl; takes = refl }
takes-path type e = cc e

-- a back reference to a path is read
pub path-referred : (s : List ℕ) (w : Wanted) (os : List Opened) (at : ℕ) (st : State) (n end : ℕ) (p : tree.Path) → is_for_type w ≡ false
    → Expects s (kind_of w) os at st → StandsAt s at (66 ∷ []) → IsNumberAt s (at + 1) n end → as_path (ended_at st.ended (n + 2)) ≡ Some p
    → need p ≡ 0 → Ends s os at (a_path p) end st
path-referred s w os at st n end p for_path expects stands is names none =
    let rule = standing path_reference (66 ∷ []) at 0 st in
    let awaits = moves.first-of rust_language s (kind_of w) path_reference (66 ∷ []) 0 os at st st (Number Base62) []
    (record { context = 0; values = []; state = within Production.PathReference st }) (takes-path w for_path) (λ f. refl) refl refl expects stands in
    let counted = number-comes s Production.PathReference (opened rule [] [] ∷ os) (at + 1) st n end (λ o. refl) awaits is in
    moves.last-of rust_language s rule [] (number n ∷ []) os end (within Production.PathReference st) (a_path p) (with_ended at (a_path p) st)
    (rw (names, none) refl) counted

-- a back reference to a type is read
pub type-referred : (s : List ℕ) (os : List Opened) (at : ℕ) (st : State) (n end : ℕ) (t : tree.Ty)
    → Expects s TYPE os at st → StandsAt s at (66 ∷ []) → IsNumberAt s (at + 1) n end → as_type (ended_at st.ended (n + 2)) ≡ Some t
    → need_of_type t ≡ 0 → Ends s os at (a_type t) end st
type-referred s os at st n end t expects stands is names none =
    let rule = standing type_reference (66 ∷ []) at 0 st in
    let awaits = moves.first-of rust_language s TYPE type_reference (66 ∷ []) 0 os at st st (Number Base62) []
    (record { context = 0; values = []; state = within Production.TypeReference st }) (record { byte = 66; is_byte = omega arith; found = refl; takes = refl })
    (λ f. refl) refl refl expects stands in
    let counted = number-comes s Production.TypeReference (opened rule [] [] ∷ os) (at + 1) st n end (λ o. refl) awaits is in
    moves.last-of rust_language s rule [] (number n ∷ []) os end (within Production.TypeReference st) (a_type t) (with_ended at (a_type t) st)
    (rw (names, none) refl) counted

-- ## Impls

abbrev impl_rule : Rule
impl_rule = taking Production.InherentImpl (Kind DISAMBIGUATOR ∷ Kind PATH ∷ Kind TYPE ∷ [])

abbrev trait_rule : Rule
trait_rule = taking Production.TraitImpl (Kind DISAMBIGUATOR ∷ Kind PATH ∷ Kind TYPE ∷ Kind PATH ∷ [])

abbrev counted_rule : Rule
counted_rule = taking Production.Disambiguator (Number Base62 ∷ [])

takes-counted : TakesRule v0_table DISAMBIGUATOR counted_rule (115 ∷ [])
takes-counted = record { byte = 115; is_byte = omega arith; found = refl; takes = refl }

-- an optional disambiguator is read
disambiguator-comes : (s : List ℕ) (os : List Opened) (at : ℕ) (st : State) (count end : ℕ) → IsDisambiguatorAt s at count end
    → Expects s DISAMBIGUATOR os at st
    → ((count ≡ 0) × ComesAll s os [] end st) ⊎ Comes s os (a_disambiguator count) end (behind st)
disambiguator-comes s os at st count end (inl none) expects =
    inl (none.0, comes-moved s os [] at end st (sym none.1) (moves.expects-empty rust_language s DISAMBIGUATOR 0 os at st expects refl))
disambiguator-comes s os at st count end (inr some) expects =
    let n = some.0 in
    let rule = standing counted_rule (115 ∷ []) at 0 st in
    let awaits = moves.first-of rust_language s DISAMBIGUATOR counted_rule (115 ∷ []) 0 os at st st (Number Base62) []
    (record { context = 0; values = []; state = within Production.Disambiguator st }) takes-counted (λ f. refl) refl refl expects some.1 in
    let counted = number-comes s Production.Disambiguator (opened rule [] [] ∷ os) (at + 1) st n end (λ own. refl) awaits some.2 in
    inr (moves.last-of rust_language s rule [] (number n ∷ []) os end (within Production.Disambiguator st) (a_disambiguator count) (behind st)
    (closes n count (within Production.Disambiguator st) at some.3 some.4) counted)
  where
    closes : (n count : ℕ) (now : State) (place : ℕ) → count ≡ n + 1 → count ≤ greatest_u64
        → (rust_language.reading s).close (standing counted_rule (115 ∷ []) place 0 st) (number n ∷ []) now
        ≡ Ok (record { value = a_disambiguator count; state = behind now })
    closes n count now place is few = rw (is, le-leb (n + 1) greatest_u64 (omega (arith, is, few))) refl

takes-impl : TakesAll impl_rule (77 ∷ [])
takes-impl path = record { byte = 77; is_byte = omega arith; found = refl; takes = refl }
takes-impl other_path = record { byte = 77; is_byte = omega arith; found = refl; takes = refl }
takes-impl type = record { byte = 77; is_byte = omega arith; found = refl; takes = refl }

takes-trait : TakesAll trait_rule (88 ∷ [])
takes-trait path = record { byte = 88; is_byte = omega arith; found = refl; takes = refl }
takes-trait other_path = record { byte = 88; is_byte = omega arith; found = refl; takes = refl }
takes-trait type = record { byte = 88; is_byte = omega arith; found = refl; takes = refl }

-- the path of an impl is expected
pub impl-opens : (s : List ℕ) (w : Wanted) (os : List Opened) (at : ℕ) (st : State) (count end : ℕ) → Expects s (kind_of w) os at st
    → StandsAt s at (77 ∷ []) → IsDisambiguatorAt s (at + 1) count end
    → ImplGoesOn s os at (λ q t. a_path (tree.inherent_impl count q t)) end st
impl-opens s w os at st count end expects stands is =
    elim (disambiguator-comes s (opened rule [] todo ∷ os) (at + 1) (within p st) count end is awaits) [
      | inl none ↦ bare none.0 none.1
      | inr some ↦ counted some
    ]
  where
    p : Production
    p = Production.InherentImpl

    rule : Open State ℕ
    rule = standing impl_rule (77 ∷ []) at 0 st

    todo : List Sym
    todo = Kind PATH ∷ Kind TYPE ∷ []

    awaits : Expects s DISAMBIGUATOR (opened rule [] todo ∷ os) (at + 1) (within p st)
    awaits = moves.first-of rust_language s (kind_of w) impl_rule (77 ∷ []) 0 os at st st (Kind DISAMBIGUATOR) todo
        (record { context = 0; values = []; state = within p st }) (takes-impl w) (λ f. refl) refl refl expects stands

    bare : count ≡ 0 → ComesAll s (opened rule [] todo ∷ os) [] end (within p st) → ImplGoesOn s os at (λ q t. a_path (tree.inherent_impl count q t)) end st
    bare none comes = record {
      inner = opened rule [] (Kind TYPE ∷ []) ∷ os;
      production = p;
      awaits = moves.next-of rust_language s rule [] [] (Kind PATH) (Kind TYPE ∷ []) os end (within p st)
          (record { context = 0; values = []; state = within p st }) refl comes;
      onward = λ q here now came. record {
        inner = opened rule (a_path q ∷ []) [] ∷ os;
        production = p;
        awaits = moves.next-of rust_language s rule [] (a_path q ∷ []) (Kind TYPE) [] os here now
            (record { context = 0; values = a_path q ∷ []; state = within p now }) refl came;
        passes = λ v t then_ last is_type here_too.
            let w = a_path (tree.inherent_impl count q t) in
            moves.last-of rust_language s rule (a_path q ∷ []) (v ∷ []) os then_ last w (with_ended at w last)
            (rw (none, type-part v t [] is_type) refl) here_too;
      };
    }

    counted : Comes s (opened rule [] todo ∷ os) (a_disambiguator count) end (behind st) → ImplGoesOn s os at (λ q t. a_path (tree.inherent_impl count q t)) end st
    counted comes =
        let known = a_disambiguator count ∷ [] in
        record {
          inner = opened rule known (Kind TYPE ∷ []) ∷ os;
          production = p;
          awaits = moves.next-of rust_language s rule [] known (Kind PATH) (Kind TYPE ∷ []) os end (behind st)
              (record { context = 0; values = known; state = within p st }) refl comes;
          onward = λ q here now came. record {
            inner = opened rule (a_disambiguator count ∷ a_path q ∷ []) [] ∷ os;
            production = p;
            awaits = moves.next-of rust_language s rule known (a_path q ∷ []) (Kind TYPE) [] os here now
                (record { context = 0; values = a_disambiguator count ∷ a_path q ∷ []; state = within p now }) refl came;
            passes = λ v t then_ last is_type here_too.
                let w = a_path (tree.inherent_impl count q t) in
                moves.last-of rust_language s rule (a_disambiguator count ∷ a_path q ∷ []) (v ∷ []) os then_ last w (with_ended at w last)
                (rw (type-part v t [] is_type) refl) here_too;
          };
        }

-- the path of an impl of a trait is expected
pub trait-opens : (s : List ℕ) (w : Wanted) (os : List Opened) (at : ℕ) (st : State) (count end : ℕ) → Expects s (kind_of w) os at st
    → StandsAt s at (88 ∷ []) → IsDisambiguatorAt s (at + 1) count end
    → TraitGoesOn s os at (λ q t r. a_path (tree.trait_impl count q t r)) end st
trait-opens s w os at st count end expects stands is =
    elim (disambiguator-comes s (opened rule [] todo ∷ os) (at + 1) (within p st) count end is awaits) [
      | inl none ↦ bare none.0 none.1
      | inr some ↦ counted some
    ]
  where
    p : Production
    p = Production.TraitImpl

    rule : Open State ℕ
    rule = standing trait_rule (88 ∷ []) at 0 st

    todo : List Sym
    todo = Kind PATH ∷ Kind TYPE ∷ Kind PATH ∷ []

    awaits : Expects s DISAMBIGUATOR (opened rule [] todo ∷ os) (at + 1) (within p st)
    awaits = moves.first-of rust_language s (kind_of w) trait_rule (88 ∷ []) 0 os at st st (Kind DISAMBIGUATOR) todo
        (record { context = 0; values = []; state = within p st }) (takes-trait w) (λ f. refl) refl refl expects stands

    bare : count ≡ 0 → ComesAll s (opened rule [] todo ∷ os) [] end (within p st)
        → TraitGoesOn s os at (λ q t r. a_path (tree.trait_impl count q t r)) end st
    bare none comes = record {
      inner = opened rule [] (Kind TYPE ∷ Kind PATH ∷ []) ∷ os;
      production = p;
      awaits = moves.next-of rust_language s rule [] [] (Kind PATH) (Kind TYPE ∷ Kind PATH ∷ []) os end (within p st)
          (record { context = 0; values = []; state = within p st }) refl comes;
      onward = λ q here now came. record {
        inner = opened rule (a_path q ∷ []) (Kind PATH ∷ []) ∷ os;
        production = p;
        awaits = moves.next-of rust_language s rule [] (a_path q ∷ []) (Kind TYPE) (Kind PATH ∷ []) os here now
            (record { context = 0; values = a_path q ∷ []; state = within p now }) refl came;
        onward = λ v t then_ last is_type here_too. record {
          inner = opened rule (a_path q ∷ v ∷ []) [] ∷ os;
          production = p;
          awaits = moves.next-of rust_language s rule (a_path q ∷ []) (v ∷ []) (Kind PATH) [] os then_ last
              (record { context = 0; values = a_path q ∷ v ∷ []; state = within p last }) refl here_too;
          passes = λ r end_ final came_last.
              let w = a_path (tree.trait_impl count q t r) in
              moves.last-of rust_language s rule (a_path q ∷ v ∷ []) (a_path r ∷ []) os end_ final w (with_ended at w final)
              (rw (none, type-part v t (a_path r ∷ []) is_type) refl) came_last;
        };
      };
    }

    counted : Comes s (opened rule [] todo ∷ os) (a_disambiguator count) end (behind st)
        → TraitGoesOn s os at (λ q t r. a_path (tree.trait_impl count q t r)) end st
    counted comes =
        let known = a_disambiguator count ∷ [] in
        record {
          inner = opened rule known (Kind TYPE ∷ Kind PATH ∷ []) ∷ os;
          production = p;
          awaits = moves.next-of rust_language s rule [] known (Kind PATH) (Kind TYPE ∷ Kind PATH ∷ []) os end (behind st)
              (record { context = 0; values = known; state = within p st }) refl comes;
          onward = λ q here now came.
              let two = a_disambiguator count ∷ a_path q ∷ [] in
              record {
                inner = opened rule two (Kind PATH ∷ []) ∷ os;
                production = p;
                awaits = moves.next-of rust_language s rule known (a_path q ∷ []) (Kind TYPE) (Kind PATH ∷ []) os here now
                    (record { context = 0; values = two; state = within p now }) refl came;
                onward = λ v t then_ last is_type here_too. record {
                  inner = opened rule (a_disambiguator count ∷ a_path q ∷ v ∷ []) [] ∷ os;
                  production = p;
                  awaits = moves.next-of rust_language s rule two (v ∷ []) (Kind PATH) [] os then_ last
                      (record { context = 0; values = a_disambiguator count ∷ a_path q ∷ v ∷ []; state = within p last }) refl here_too;
                  passes = λ r end_ final came_last.
                      let w = a_path (tree.trait_impl count q t r) in
                      moves.last-of rust_language s rule (a_disambiguator count ∷ a_path q ∷ v ∷ []) (a_path r ∷ []) os end_ final w (with_ended at w final)
                      (rw (type-part v t (a_path r ∷ []) is_type) refl) came_last;
                };
              };
        }

abbrev definition_rule : Rule
definition_rule = taking Production.TraitDefinition (Kind TYPE ∷ Kind PATH ∷ [])

takes-definition : TakesAll definition_rule (89 ∷ [])
takes-definition path = record { byte = 89; is_byte = omega arith; found = refl; takes = refl }
takes-definition other_path = record { byte = 89; is_byte = omega arith; found = refl; takes = refl }
takes-definition type = record { byte = 89; is_byte = omega arith; found = refl; takes = refl }

-- the type that implements a trait is expected
pub definition-opens : (s : List ℕ) (w : Wanted) (os : List Opened) (at : ℕ) (st : State) → Expects s (kind_of w) os at st
    → StandsAt s at (89 ∷ []) → ImplementingGoesOn s os at (λ t r. a_path (tree.trait_definition t r)) (at + 1) st
definition-opens s w os at st expects stands =
    let p = Production.TraitDefinition in
    let rule = standing definition_rule (89 ∷ []) at 0 st in
    record {
      inner = opened rule [] (Kind PATH ∷ []) ∷ os;
      production = p;
      awaits = moves.first-of rust_language s (kind_of w) definition_rule (89 ∷ []) 0 os at st st (Kind TYPE) (Kind PATH ∷ [])
          (record { context = 0; values = []; state = within p st }) (takes-definition w) (λ f. refl) refl refl expects stands;
      onward = λ v t here now is came. record {
        inner = opened rule (v ∷ []) [] ∷ os;
        production = p;
        awaits = moves.next-of rust_language s rule [] (v ∷ []) (Kind PATH) [] os here now
            (record { context = 0; values = v ∷ []; state = within p now }) (rw (no-minus v t is) refl) came;
        passes = λ r end final came_last.
            let w = a_path (tree.trait_definition t r) in
            moves.last-of rust_language s rule (v ∷ []) (a_path r ∷ []) os end final w (with_ended at w final)
            (rw (type-part v t (a_path r ∷ []) is) refl) came_last;
      };
    }
