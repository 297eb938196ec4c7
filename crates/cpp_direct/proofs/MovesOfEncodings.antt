-- The moves in encodings and in whole symbols: a symbol begins and ends, with a suffix or without, an encoding has a name and
-- items, and names are nested or not.
use Rattle.cpp_direct.proofs.AllGround.{unfold_by, ◌≡◌, ◌≢◌, ℕ, ◌+◌, ◌<◌, length, List, [], ◌∷◌, take, ◌++◌, Bool, true, false, nat_le, ◌||◌, ◌&&◌, cond, None, Some, Ok, refl, ap, sym, subst, ◌∙◌, arith, codes, length-append, AllByRecursion, zero-add, take-append_seam, nat_tests, take_all, adjusting, alone, alternatives, among, any_value, applied, between, by_table, byte_of, choose, clone, close, explicit_object, extended, first_around, first_state, first_tree, in_name, in_ranges, in_std, is_chain, is_in, Kind, lvalue_only, may_be_empty, meaning, named_so_far, non_virtual, number_of_kind, opening, operator, parts_of, pick, Production, RefQualifier, rule_of, rvalue_only, source, standing, StandsFor, Sym, SYMBOL, symbol, Term, thunk, State, outermost, Around, Value, nothing_there, letter, piece, tree, tree_of, qualifiers_of, ref_of, signed_of, signed_digits, is_there, mark_of, letter_of, part, piece_of, is_special_letter, is_suffix_byte, mangled_of, special_letters, Symbol, BaseOpened, Comes, EncodingOpened, Expects, GuardOpened, IsNameAt, IsOffsetAt, IsSuffix, Named, NestOpened, Opened, SpecialOpened, StandsAt, SymbolOpened, TableOpened, const_letter, cpp_language, nest_marks, opened, named-by, named-outside, operator-fills, integer-fills, stands-by, unfolding_behind}
use Rattle.cpp_grammar.specs.Values.{text, text_of}
use Rattle.cpp_direct.proofs.Moves.{awaited, digits-fill, Hole, Filled, hole, open_at, fill, filled-at, hole-at, chosen-byte, eats, eats-widely, leaves, is_eaten, is_eaten_widely, byte-opens, chain-opens, byte-fills, next-part, closes, none-fills, fixed-fills, name-fills, first-named, is_left, stands-split}
use Rattle.cpp_direct.proofs.LettersTested.{each_passes, tested, IsOperator}
use Rattle.sym_direct.specs.Holes as direct

-- ## Encodings

-- an encoding begins with its name, after which its items are expected
pub encoding-opens : (s : Symbol) (os : List Opened) (around : Around) (at : ℕ) (st : State)
    → Expects s Kind.Encoding around os at st → EncodingOpened s os at st
unfolding is_eaten is_left number_of_kind parts_of between close unfolding_behind meaning part byte_of tree_of text_of piece_of letter_of is_there
encoding-opens s os around at st expects =
    let p = Production.Encoding in
    let name = chain-opens (leaves s Kind.Encoding p 48 refl) (hole s Kind.Encoding around os at st expects) refl refl in
    awaited name (λ v here now comes.
    let items = next-part p (fill name v here now comes) refl in
    awaited items (λ l there then_ last. (closes p (fill items l there then_ last) refl).comes))

-- expects what follows the T of a special name
special-expected : (s : Symbol) (os : List Opened) (around : Around) (at : ℕ) (st : State) → Expects s Kind.Encoding around os at st → StandsAt s.bytes at (84 ∷ [])
    → Hole s (Sym.Kind (number_of_kind Kind.Special)) (in_name at) (opened (standing (rule_of Production.Special) (84 ∷ []) at around st) [] [] ∷ os) (at + 1) st
unfolding is_eaten number_of_kind parts_of between close unfolding_behind meaning part byte_of tree_of text_of piece_of letter_of is_there
special-expected s os around at st expects stands =
    byte-opens (eats s Kind.Encoding Production.Special 84 refl) (hole s Kind.Encoding around os at st expects) stands refl refl

-- a special object begins with a T and its letter, and expects its type
pub special-opens : (s : Symbol) (os : List Opened) (around : Around) (b at : ℕ) (st : State) → is_special_letter b ≡ true
    → Expects s Kind.Encoding around os at st → StandsAt s.bytes at (84 ∷ b ∷ []) → SpecialOpened s os at b (at + 2) st
unfolding is_eaten number_of_kind parts_of between close unfolding_behind meaning part byte_of tree_of text_of piece_of letter_of is_there is_special_letter each_passes
special-opens s os around b at st is expects stands =
    let p = Production.SpecialType in
    let places = stands-split s.bytes at (84 ∷ []) (b ∷ []) stands in
    let type = byte-opens (eats s Kind.Special p b (tested special_letters (λ c. is_eaten Kind.Special p c) refl b is)) (special-expected s os around at st expects places.0) places.1 refl refl in
    awaited (hole-at (at + 2) type (omega arith))
    (λ t here now comes. (closes Production.Special (closes p (fill type (tree t true) here now comes) refl) refl).comes)

-- in the wide grammar a construction table begins with TC, and expects its derived class
pub table-opens : (s : Symbol) (os : List Opened) (around : Around) (at : ℕ) (st : State) → s.is_wide ≡ true
    → Expects s Kind.Encoding around os at st → StandsAt s.bytes at (84 ∷ 67 ∷ []) → TableOpened s os at (at + 2) st
unfolding is_eaten is_eaten_widely number_of_kind parts_of between close unfolding_behind meaning part byte_of tree_of text_of piece_of letter_of is_there
table-opens s os around at st wide expects stands =
    let p = Production.ConstructionVtable in
    let places = stands-split s.bytes at (84 ∷ []) (67 ∷ []) stands in
    let derived = byte-opens (eats-widely s Kind.Special p 67 wide refl) (special-expected s os around at st expects places.0) places.1 refl refl in
    awaited (hole-at (at + 2) derived (omega arith)) (λ t here now comes digits end is line.
    let number = next-part p (fill derived (tree t true) here now comes) refl in
    let base = next-part p (fixed-fills (next-part p (digits-fill digits end number is) refl) line) refl in
    awaited base (λ u there then_ last. (closes Production.Special (closes p (fill base (tree u true) there then_ last) refl) refl).comes))

-- ## Thunks

-- a thunk begins with a T, an h and an offset, and expects the encoding that it calls
pub thunk-opens : (s : Symbol) (os : List Opened) (around : Around) (at end : ℕ) (st : State) → Expects s Kind.Encoding around os at st
    → StandsAt s.bytes at (84 ∷ []) → StandsAt s.bytes (at + 1) (104 ∷ []) → (is : IsOffsetAt s.bytes (at + 1 + 1) end)
    → BaseOpened s os at (thunk (adjusting (non_virtual (signed_digits is.negative is.digits)))) end st
unfolding is_eaten number_of_kind parts_of between close unfolding_behind meaning part byte_of tree_of text_of piece_of letter_of is_there signed_of
thunk-opens s os around at end st expects first second is =
    let p = Production.NonVirtualThunk in
    let number = byte-opens (eats s Kind.Special p 104 refl) (special-expected s os around at st expects first) second refl refl in
    let line = next-part p (integer-fills is.negative is.digits is.behind number is.minus is.number) refl in
    let encoding = next-part p (filled-at end (fixed-fills line is.line) (sym is.ends)) refl in
    awaited encoding (λ e here now comes. (closes Production.Special (closes p (fill encoding (tree e true) here now comes) refl) refl).comes)

-- a virtual thunk begins with a T, a v and two offsets
pub virtual-thunk-opens : (s : Symbol) (os : List Opened) (around : Around) (at middle end : ℕ) (st : State) → Expects s Kind.Encoding around os at st
    → StandsAt s.bytes at (84 ∷ []) → StandsAt s.bytes (at + 1) (118 ∷ []) → (is : IsOffsetAt s.bytes (at + 1 + 1) middle) (then_ : IsOffsetAt s.bytes middle end)
    → BaseOpened s os at (thunk (adjusting (by_table (signed_digits is.negative is.digits) (signed_digits then_.negative then_.digits)))) end st
unfolding is_eaten number_of_kind parts_of between close unfolding_behind meaning part byte_of tree_of text_of piece_of letter_of is_there signed_of
virtual-thunk-opens s os around at middle end st expects first second is then_ =
    let p = Production.VirtualThunk in
    let number = byte-opens (eats s Kind.Special p 118 refl) (special-expected s os around at st expects first) second refl refl in
    let line = next-part p (integer-fills is.negative is.digits is.behind number is.minus is.number) refl in
    let other = next-part p (filled-at middle (fixed-fills line is.line) (sym is.ends)) refl in
    let other_line = next-part p (integer-fills then_.negative then_.digits then_.behind other then_.minus then_.number) refl in
    let encoding = next-part p (filled-at end (fixed-fills other_line then_.line) (sym then_.ends)) refl in
    awaited encoding (λ e here now comes. (closes Production.Special (closes p (fill encoding (tree e true) here now comes) refl) refl).comes)

-- ## After a G

-- expects what follows the G of a special name
other-expected : (s : Symbol) (os : List Opened) (around : Around) (at : ℕ) (st : State) → Expects s Kind.Encoding around os at st → StandsAt s.bytes at (71 ∷ [])
    → Hole s (Sym.Kind (number_of_kind Kind.SpecialAfterG)) (in_name at)
    (opened (standing (rule_of Production.OtherSpecial) [] at around st) (letter 71 ∷ []) [] ∷ os) (at + 1) st
unfolding is_eaten is_left number_of_kind parts_of between close unfolding_behind meaning part byte_of tree_of text_of piece_of letter_of is_there
other-expected s os around at st expects stands =
    let p = Production.OtherSpecial in
    let mark = chain-opens (leaves s Kind.Encoding p 71 refl) (hole s Kind.Encoding around os at st expects) refl refl in
    next-part p (byte-fills (eats s Kind.SpecialMark Production.Mark 71 refl) mark stands refl refl) refl

-- a guard variable begins with GV, and expects the name of what it guards
pub guard-opens : (s : Symbol) (os : List Opened) (around : Around) (at : ℕ) (st : State)
    → Expects s Kind.Encoding around os at st → StandsAt s.bytes at (71 ∷ 86 ∷ []) → GuardOpened s os at (at + 2) st
unfolding is_eaten number_of_kind parts_of between close unfolding_behind meaning part byte_of tree_of text_of piece_of letter_of is_there qualifiers_of ref_of
guard-opens s os around at st expects stands =
    let q = Production.SpecialName in
    let places = stands-split s.bytes at (71 ∷ []) (86 ∷ []) stands in
    let name = byte-opens (eats s Kind.SpecialAfterG q 86 refl) (other-expected s os around at st expects places.0) places.1 refl refl in
    awaited (hole-at (at + 2) name (omega arith)) (λ v here now comes. (closes Production.OtherSpecial (closes q (fill name v here now comes) refl) refl).comes)

-- in the wide grammar a clone begins with GT and its letter, and expects the encoding that was cloned
pub clone-opens : (s : Symbol) (os : List Opened) (around : Around) (b at : ℕ) (st : State) → s.is_wide ≡ true → is_eaten Kind.CloneLetter Production.Mark b ≡ true
    → Expects s Kind.Encoding around os at st → StandsAt s.bytes at (71 ∷ 84 ∷ b ∷ []) → BaseOpened s os at (clone b) (at + 3) st
unfolding is_eaten is_eaten_widely number_of_kind parts_of between close unfolding_behind meaning part byte_of tree_of text_of piece_of letter_of is_there
clone-opens s os around b at st wide is expects stands =
    let q = Production.Clone in
    let places = stands-split s.bytes at (71 ∷ []) (84 ∷ b ∷ []) stands in
    let two = stands-split s.bytes (at + 1) (84 ∷ []) (b ∷ []) places.1 in
    let kind = byte-opens (eats-widely s Kind.SpecialAfterG q 84 wide refl) (other-expected s os around at st expects places.0) two.0 refl refl in
    let encoding = next-part q (byte-fills (eats s Kind.CloneLetter Production.Mark b is) kind two.1 refl refl) refl in
    awaited (hole-at (at + 3) encoding (omega arith))
    (λ e here now comes. (closes Production.OtherSpecial (closes q (fill encoding (tree e true) here now comes) refl) refl).comes)

-- ## Names

-- the parts of a nested name: the function is const if the third part is present, and the fourth part says what the
-- function is called on
nest-goes : (s : Symbol) (os : List Opened) (around : Around) (q r : Value) (at : ℕ) (st : State) (here : ℕ) (now : State)
    → Filled s (opened (standing (rule_of Production.NestedName) (78 ∷ []) at around st) (nothing_there ∷ nothing_there ∷ q ∷ [])
    (Sym.Kind (number_of_kind Kind.Nest) ∷ []) ∷ os) r here now
    → NestOpened s os around (is_there q) (mark_of r) here now
unfolding is_eaten number_of_kind parts_of between close unfolding_behind meaning part byte_of tree_of text_of piece_of letter_of is_there mark_of
nest-goes s os around q r at st here now f =
    let p = Production.NestedName in
    let nest = next-part p f refl in
    awaited nest (λ t listed there then_ last. (closes p (fill nest (tree t listed) there then_ last) refl).comes)

-- the value of the K that makes a function const, or nothing
abbrev quality : (const : Bool) → Value
quality true = letter 75
quality false = nothing_there

quality-is : (const : Bool) → is_there (quality const) ≡ const
unfolding is_there
quality-is true = refl
quality-is false = refl

-- a nested name begins with an N and its qualifiers, which exclude the H of a function with an explicit object
nested-opens : (s : Symbol) (kind : Kind) (os : List Opened) (around : Around) (const : Bool) (on : RefQualifier) (at : ℕ) (st : State)
    → is_eaten kind Production.NestedName 78 ≡ true → on ≢ explicit_object → Expects s kind around os at st → StandsAt s.bytes at (nest_marks const on)
    → NestOpened s os around const on (at + length (nest_marks const on)) st
unfolding is_eaten number_of_kind parts_of between close unfolding_behind meaning part byte_of tree_of text_of piece_of letter_of is_there mark_of may_be_empty
nested-opens s kind os around const on at st taken other expects stands = go on other stands
  where
    part_of : Kind → Sym
    part_of k = Sym.Kind (number_of_kind k)

    within : (known : List Value) → (todo : List Sym) → List Opened
    within known todo = opened (standing (rule_of Production.NestedName) (78 ∷ []) at around st) known todo ∷ os

    const-awaited : StandsAt s.bytes at (78 ∷ [])
        → Hole s (part_of Kind.MaybeConst) around (within (nothing_there ∷ nothing_there ∷ []) (part_of Kind.MaybeRef ∷ part_of Kind.Nest ∷ [])) (at + 1) st
    const-awaited first =
        let p = Production.NestedName in
        let restrict = byte-opens (eats s kind p 78 taken) (hole s kind around os at st expects) first refl refl in
        next-part p (none-fills Kind.MaybeVolatile (next-part p (none-fills Kind.MaybeRestrict restrict refl) refl) refl) refl

    ref-awaited : (c : Bool) → StandsAt s.bytes at (78 ∷ const_letter c)
        → Hole s (part_of Kind.MaybeRef) around (within (nothing_there ∷ nothing_there ∷ quality c ∷ []) (part_of Kind.Nest ∷ [])) (at + length (78 ∷ const_letter c)) st
    ref-awaited true there =
        let places = stands-split s.bytes at (78 ∷ []) (75 ∷ []) there in
        let const_ = byte-fills (eats s Kind.MaybeConst Production.Mark 75 refl) (const-awaited places.0) places.1 refl refl in
        next-part Production.NestedName (filled-at (at + 2) const_ (omega arith)) refl
    ref-awaited false there = next-part Production.NestedName (none-fills Kind.MaybeConst (const-awaited there) refl) refl

    -- likewise with a ref-qualifier that has this letter
    referred : (byte : ℕ) → is_eaten Kind.MaybeRef Production.Mark byte ≡ true → StandsAt s.bytes at (78 ∷ (const_letter const ++ byte ∷ []))
        → NestOpened s os around const (mark_of (letter byte)) (at + length (78 ∷ (const_letter const ++ byte ∷ []))) st
    referred byte taken there =
        let front : List ℕ = 78 ∷ const_letter const in
        let places = stands-split s.bytes at front (byte ∷ []) there in
        subst (λ n. NestOpened s os around const (mark_of (letter byte)) n st) (omega (arith, length-append front (byte ∷ [])))
        (subst (λ c. NestOpened s os around c (mark_of (letter byte)) (at + length front + 1) st) (quality-is const)
        (nest-goes s os around (quality const) (letter byte) at st (at + length front + 1) st
        (byte-fills (eats s Kind.MaybeRef Production.Mark byte taken) (ref-awaited const places.0) places.1 refl refl)))

    go : (ref : RefQualifier) → ref ≢ explicit_object → StandsAt s.bytes at (nest_marks const ref) → NestOpened s os around const ref (at + length (nest_marks const ref)) st
    go any_value other there =
        subst (λ c. NestOpened s os around c any_value (at + length (78 ∷ const_letter const)) st) (quality-is const)
        (nest-goes s os around (quality const) nothing_there at st (at + length (78 ∷ const_letter const)) st
        (none-fills Kind.MaybeRef (ref-awaited const there) refl))
    go lvalue_only other there = referred 82 refl there
    go rvalue_only other there = referred 79 refl there
    go explicit_object other there = absurd (other refl)

pub name-nested : (s : Symbol) (os : List Opened) (around : Around) (const : Bool) (on : RefQualifier) (at : ℕ) (st : State)
    → on ≢ explicit_object → Expects s Kind.CompleteName around os at st → StandsAt s.bytes at (nest_marks const on)
    → NestOpened s os around const on (at + length (nest_marks const on)) st
unfolding is_eaten
name-nested s os around const on at st other expects stands = nested-opens s Kind.CompleteName os around const on at st refl other expects stands

-- the nested name of a local entity begins in the same way
pub entity-nested : (s : Symbol) (os : List Opened) (around : Around) (const : Bool) (on : RefQualifier) (at : ℕ) (st : State)
    → on ≢ explicit_object → Expects s Kind.Entity around os at st → StandsAt s.bytes at (nest_marks const on)
    → NestOpened s os around const on (at + length (nest_marks const on)) st
unfolding is_eaten
entity-nested s os around const on at st other expects stands = nested-opens s Kind.Entity os around const on at st refl other expects stands

-- a source name as the name of an encoding; arguments may follow it
pub name-source : (s : Symbol) (os : List Opened) (around : Around) (at : ℕ) (name : List ℕ) (end : ℕ) (st : State)
    → Expects s Kind.CompleteName around os at st → around.prefix ≡ outermost → IsNameAt s.bytes at name end
    → Named s os around (alone (source false name)) end st
unfolding is_eaten is_left number_of_kind parts_of between close unfolding_behind meaning part byte_of tree_of text_of piece_of letter_of is_there named_so_far extended
name-source s os around at name end st expects first is =
    let p = Production.SourceName in
    let own = chain-opens (leaves s Kind.CompleteName p 48 refl) (hole s Kind.CompleteName around os at st expects) refl refl in
    named-by p (next-part p (name-fills name end own is) (first-named around (source false name) st first)) (λ byte now began later v. refl)

-- a name with internal linkage, after an L
pub name-internal : (s : Symbol) (os : List Opened) (around : Around) (at : ℕ) (name : List ℕ) (end : ℕ) (st : State)
    → Expects s Kind.CompleteName around os at st → around.prefix ≡ outermost → StandsAt s.bytes at (76 ∷ []) → IsNameAt s.bytes (at + 1) name end
    → Named s os around (alone (source true name)) end st
unfolding is_eaten number_of_kind parts_of between close unfolding_behind meaning part byte_of tree_of text_of piece_of letter_of is_there named_so_far extended
name-internal s os around at name end st expects first stands is =
    let p = Production.InternalName in
    let own = byte-opens (eats s Kind.CompleteName p 76 refl) (hole s Kind.CompleteName around os at st expects) stands refl refl in
    named-by p (next-part p (name-fills name end own is) (first-named around (source true name) st first)) (λ byte now began later v. refl)

-- an operator name
pub name-operator : (s : Symbol) (os : List Opened) (around : Around) (at : ℕ) (st : State) (first second : ℕ) → IsOperator first second
    → Expects s Kind.CompleteName around os at st → around.prefix ≡ outermost → StandsAt s.bytes at (first ∷ second ∷ [])
    → Named s os around (alone (operator first second)) (at + 2) st
unfolding is_eaten is_left number_of_kind parts_of between close unfolding_behind meaning part byte_of tree_of text_of piece_of letter_of is_there named_so_far extended
name-operator s os around at st first second is expects outside stands =
    let p = Production.OperatorName in
    let code = chain-opens (leaves s Kind.CompleteName p 110 refl) (hole s Kind.CompleteName around os at st expects) refl refl in
    named-by p (next-part p (operator-fills Kind.Operator is is.chosen code stands) (first-named around (operator first second) st outside))
    (λ byte now began later v. refl)

-- an operator as the name of an entity
pub operator-piece-comes : (s : Symbol) (os : List Opened) (around : Around) (at : ℕ) (st : State) (first second : ℕ) → IsOperator first second
    → Expects s Kind.Unqualified around os at st → StandsAt s.bytes at (first ∷ second ∷ []) → Comes s os (piece (operator first second)) (at + 2) st
unfolding is_eaten is_left number_of_kind parts_of between close unfolding_behind meaning part byte_of tree_of text_of piece_of letter_of is_there
operator-piece-comes s os around at st first second is expects stands =
    let p = Production.OperatorPiece in
    let code = chain-opens (leaves s Kind.Unqualified p 110 refl) (hole s Kind.Unqualified around os at st expects) refl refl in
    (closes p (operator-fills Kind.Operator is is.chosen code stands) refl).comes

-- an entity of std
pub name-std : (s : Symbol) (os : List Opened) (around : Around) (at : ℕ) (q : Term) (end : ℕ) (st : State)
    → Expects s Kind.CompleteName around os at st → StandsAt s.bytes at (83 ∷ 116 ∷ [])
    → ((inner : List Opened) → Expects s Kind.Unqualified around inner (at + 2) st → Comes s inner (piece q) end st) → Named s os around (in_std q) end st
unfolding is_eaten number_of_kind parts_of between close unfolding_behind meaning part byte_of tree_of text_of piece_of letter_of is_there named_so_far applied
name-std s os around at q end st expects here comes =
    let o = Production.NameWithS in
    let p = Production.StdName in
    let two = stands-split s.bytes at (83 ∷ []) (116 ∷ []) here in
    let rest = byte-opens (eats s Kind.CompleteName o 83 refl) (hole s Kind.CompleteName around os at st expects) two.0 refl refl in
    let entity = byte-opens (eats s Kind.NameAfterS p 116 refl) rest two.1 refl refl in
    let named = fill entity (piece q) end st (comes (open_at entity) (hole-at (at + 2) entity (omega arith)).expects) in
    named-outside s (open_at rest) os around (in_std q) end st (λ v to now came_. (closes o (fill rest v to now came_) refl).comes)
    (named-by p (next-part p named refl) (λ byte now began later v. refl))

-- ## Suffixes

-- a byte of a suffix
suffix-byte : (b : ℕ) → is_suffix_byte b ≡ true
    → (choose Kind.SuffixMore b ≡ Some Production.SuffixByte) × (choose Kind.SuffixFirst b ≡ Some Production.SuffixByte) × (b < 256)
unfolding choose alternatives pick is_in in_ranges among is_suffix_byte
suffix-byte b is =
    let same = in-class (nat_le 48 b && nat_le b 57) (nat_le 65 b && nat_le b 90) (nat_le 97 b && nat_le b 122) (among (codes "$._") b) is in
    (ap (λ x. cond x (Some Production.SuffixByte) None) same, ap (λ x. cond x (Some Production.SuffixByte) None) same, grind (arith, nat_tests))
  where
    in-class : (i j k l : Bool) → (i || j || k || l) ≡ true → ((i || (j || (k || false))) || l) ≡ true
    in-class true j k l h = refl
    in-class false true k l h = refl
    in-class false false true l h = refl
    in-class false false false l h = h

-- the value of some bytes of a suffix, or of none
more-comes : (s : Symbol) (bs : List ℕ) (os : List Opened) (around : Around) (at : ℕ) (st : State)
    → AllByRecursion (λ c. is_suffix_byte c ≡ true) bs → Expects s Kind.SuffixMore around os at st → StandsAt s.bytes at bs
    → (v : Value) × (text_of v ≡ bs) × Comes s os v (at + length bs) st
unfolding is_eaten number_of_kind parts_of may_be_empty between opening close unfolding_behind meaning part byte_of tree_of text_of piece_of letter_of is_there is_chain
more-comes s [] os around at st each expects stands =
    (nothing_there, refl, (filled-at (at + 0) (none-fills Kind.SuffixMore (hole s Kind.SuffixMore around os at st expects) refl) (omega arith)).comes)
more-comes s (b ∷ bs) os around at st each expects stands =
    let p = Production.SuffixByte in
    let is = suffix-byte b each.0 in
    let places = stands-split s.bytes at (b ∷ []) bs stands in
    let more = byte-opens (chosen-byte s Kind.SuffixMore p b is.0 is.2 refl (λ f a z. refl)) (hole s Kind.SuffixMore around os at st expects) places.0 refl refl in
    let rest = more-comes s bs (open_at more) around (at + 1) st each.1 more.expects places.1 in (
      text (b ∷ text_of rest.0),
      ap (λ l. b ∷ l) rest.1,
      (filled-at (at + length (b ∷ bs)) (closes p (fill more rest.0 (at + 1 + length bs) st rest.2) refl) (omega arith)).comes,
    )

-- a suffix is read
pub suffix-comes : (s : Symbol) (suffix : List ℕ) (os : List Opened) (around : Around) (at : ℕ) (st : State)
    → IsSuffix suffix → Expects s Kind.MaybeSuffix around os at st → StandsAt s.bytes at suffix → Comes s os (text suffix) (at + length suffix) st
unfolding is_eaten number_of_kind parts_of between opening close unfolding_behind meaning part byte_of tree_of text_of piece_of letter_of is_there is_chain
suffix-comes s [] os around at st is expects stands = absurd is
suffix-comes s (d ∷ []) os around at st is expects stands = absurd is
suffix-comes s (d ∷ b ∷ bs) os around at st is expects stands =
    let p = Production.Suffix in
    let q = Production.SuffixByte in
    let dot = stands-split s.bytes at (d ∷ []) (b ∷ bs) stands in
    let first = stands-split s.bytes (at + 1) (b ∷ []) bs dot.1 in
    let byte_is = suffix-byte b is.1.0 in
    let byte = byte-opens (eats s Kind.MaybeSuffix p d (ap (is_eaten Kind.MaybeSuffix p) is.0)) (hole s Kind.MaybeSuffix around os at st expects) dot.0 refl refl in
    let more = byte-opens (chosen-byte s Kind.SuffixFirst q b byte_is.1 byte_is.2 refl (λ f a z. refl)) byte first.0 refl refl in
    let rest = more-comes s bs (open_at more) around (at + 1 + 1) st is.1.1 more.expects first.1 in
    let whole = closes p (closes q (fill more rest.0 (at + 1 + 1 + length bs) st rest.2) refl) refl in
    (filled-at (at + length (d ∷ b ∷ bs)) (subst (λ l. Filled s os (text (d ∷ b ∷ l)) (at + 1 + 1 + length bs) st) rest.1 whole) (omega arith)).comes

-- ## Symbols

-- expects a symbol at the front
symbol-expected : (s : Symbol) → Expects s Kind.Symbol first_around [] 0 first_state
unfolding number_of_kind
symbol-expected s bytes vs end reads stands =
    let front : take (0 + length bytes) s.bytes ≡ bytes =
    ap (λ n. take n s.bytes) (zero-add (length bytes)) ∙ ap (take (length bytes)) stands.1 ∙ take-append_seam bytes stands.0 in
    subst (λ l. direct.Reads (cpp_language s) s.bytes (Sym.Kind SYMBOL) first_around 0 l first_state vs end) (sym front) reads

-- the tree that was read is what the symbol denotes
symbol-read : (s : Symbol) (t : Term) (end : State) → Comes s [] (tree t true) (length s.bytes) end → StandsFor (mangled_of s) s.bytes (Ok t)
unfolding unfold_by first_tree tree_of number_of_kind
symbol-read s t end reads =
    stands-by s.is_wide s.bytes reads.shape t reads.shaped (reads.spelled ∙ take_all (length s.bytes) s.bytes (omega arith)) (rw reads.unfolds refl)

-- a symbol begins with _Z and its encoding, and ends after the encoding or after a suffix
pub symbol-starts : (s : Symbol) → StandsAt s.bytes 0 (95 ∷ 90 ∷ []) → SymbolOpened s
unfolding is_eaten number_of_kind parts_of may_be_empty between close unfolding_behind meaning part byte_of tree_of text_of piece_of letter_of is_there
symbol-starts s stands =
    let p = Production.Symbol in
    let places = stands-split s.bytes 0 (95 ∷ []) (90 ∷ []) stands in
    let second = byte-opens (eats s Kind.Symbol p 95 refl) (hole s Kind.Symbol first_around [] 0 first_state (symbol-expected s)) places.0 refl refl in
    let encoding = next-part p (fixed-fills second places.1) refl in
    record {
      inner = open_at encoding;
      awaits = encoding.expects;
      ends = λ e now comes.
          let last = next-part p (fill encoding (tree e true) (length s.bytes) now comes) refl in
          symbol-read s (symbol e []) now (closes p (none-fills Kind.MaybeSuffix last refl) refl).comes;
      ends_in = λ e at suffix now comes there whole is.
          let last = next-part p (fill encoding (tree e true) at now comes) refl in
          let read = fill last (text suffix) (at + length suffix) now (suffix-comes s suffix (open_at last) first_around at now is last.expects there) in
          symbol-read s (symbol e suffix) now (closes p (filled-at (length s.bytes) read whole) refl).comes;
    }
