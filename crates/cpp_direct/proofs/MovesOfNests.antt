-- The parts of a nested name and their tags are read one after another.
use Rattle.cpp_direct.proofs.Basics.{named_by, close_by, ◌≡◌, ℕ, ◌+◌, List, [], ◌∷◌, Ok, Some, true, false, refl, subst, arith, inl, inr, Bool, sym, slice_get, abbreviation, after, alone, appended, applied, between, byte_of, choose, close, constructor, counted_value, destructor, extended, found, in_std, inside, instance, is_chain, Kind, listed_so_far, meaning, named_so_far, no_items, number_of_kind, opening, operator, parts_of, Production, rule_of, source, standing, Term, with_prefix, with_tag, within, State, outermost, Around, Value, nothing_there, tree, piece, is_there, letter_of, part, piece_of, tree_of, prefix_tree, prefix_listed, is_abbreviated, IsConstructorDigit, IsDestructorDigit, Symbol, AwaitsArguments, AwaitsComponent, AwaitsInstance, Comes, Expects, IsFirstRest, IsNameAt, IsRest, IsSeqAt, IsTagAt, Named, NestGoesOn, NestNamed, Opened, SamePasses, StandsAt, bare_name, opened, unless_listed, with_candidate, le-leb, lt-ltb, NumberKind, unfolding_behind}
use Rattle.cpp_grammar.specs.Values.{Candidate, text_of}
use Rattle.cpp_short_reading.proofs.Tables.{lists-by, rests-by}
use Rattle.cpp_direct.proofs.Moves.{awaited, fewer, hole-of, stands-split, Hole, Filled, hole, open_at, fill, filled-at, eats, leaves, byte-opens, chain-opens, next-part, closes, name-fills, first-named, is_eaten, is_left, Taken, eats-widely, chosen-byte, byte-fills, fixed-fills, is_eaten_widely}
use Rattle.cpp_direct.proofs.MovesOfTypes.{abbreviation-fills, substitution-fills}
use Rattle.cpp_direct.proofs.LettersTested.{IsOperator}
use Rattle.sym_shape.specs.declared.rule.Sym.TheVariants.{Kind as OfKind, Byte}

-- ## Pieces

-- a source name is the name of an entity
pub piece-comes : (s : Symbol) (os : List Opened) (around : Around) (at : ℕ) (st : State) (name : List ℕ) (end : ℕ)
    → Expects s Kind.Unqualified around os at st → IsNameAt s.bytes at name end → Comes s os (piece (source false name)) end st
unfolding is_eaten is_left number_of_kind parts_of between close unfolding_behind meaning part byte_of tree_of text_of piece_of letter_of is_there
piece-comes s os around at st name end expects is =
    let p = Production.SourcePiece in
    (closes p (name-fills name end (chain-opens (leaves s Kind.Unqualified p 48 refl) (hole s Kind.Unqualified around os at st expects) refl refl) is) refl).comes

-- ## What a nested name begins with

-- a nested name continues after what is read of it
pub goes-on : {s : Symbol} {kind : Kind} {around : Around} {inner outer : List Opened} {u : Term} {listed : Bool} {at : ℕ} {st : State}
    → Hole s (OfKind (number_of_kind kind)) (after u listed around) inner at st
    → ((v : Value) (to : ℕ) (now : State) → Filled s inner v to now → Filled s outer v to now) → NestGoesOn s kind outer around u listed at st
goes-on {inner = inner} h closed = record { inner = inner; awaits = h.expects; passes = λ v to now comes. (closed v to now (fill h v to now comes)).comes }

-- a name at the front of a nested one
pub nest-source : (s : Symbol) (os : List Opened) (around : Around) (at : ℕ) (st : State) (name : List ℕ) (end : ℕ)
    → around.prefix ≡ outermost → Expects s Kind.Nest around os at st → IsNameAt s.bytes at name end
    → NestGoesOn s Kind.NestRestAlone os around (alone (source false name)) false end st
unfolding is_eaten is_left number_of_kind parts_of between close unfolding_behind meaning part byte_of tree_of text_of piece_of letter_of is_there named_so_far extended
nest-source s os around at st name end first expects is =
    let p = Production.NestSource in
    let own = chain-opens (leaves s Kind.Nest p 48 refl) (hole s Kind.Nest around os at st expects) refl refl in
    let rest = next-part p (name-fills name end own is) (first-named around (source false name) st first) in
    goes-on (fewer (rests-by s.is_wide) rest) (λ v to later f. closes p f refl)

-- expects what follows an S at the front of a nested name
behind-s : (s : Symbol) (os : List Opened) (around : Around) (at : ℕ) (st : State) → Expects s Kind.Nest around os at st → StandsAt s.bytes at (83 ∷ [])
    → Hole s (OfKind (number_of_kind Kind.NestAfterS)) around (opened (standing (rule_of Production.NestWithS) (83 ∷ []) at around st) [] [] ∷ os) (at + 1) st
unfolding is_eaten number_of_kind parts_of between close unfolding_behind meaning part byte_of tree_of text_of piece_of letter_of is_there
behind-s s os around at st expects here = byte-opens (eats s Kind.Nest Production.NestWithS 83 refl) (hole s Kind.Nest around os at st expects) here refl refl

-- a substituted name
nest-known : (s : Symbol) (os : List Opened) (around : Around) (at : ℕ) (st : State) (t : Term) (end : ℕ)
    → Expects s Kind.Nest around os at st → StandsAt s.bytes at (83 ∷ [])
    → ((inner : List Opened) → Hole s (OfKind (number_of_kind Kind.Abbreviation)) around inner (at + 1) st → Filled s inner (tree t true) end st)
    → NestGoesOn s Kind.NestRestOrEnd os around t true end st
unfolding is_eaten is_left number_of_kind parts_of between close unfolding_behind meaning part byte_of tree_of text_of piece_of letter_of is_there listed_so_far
nest-known s os around at st t end expects here fills =
    let p = Production.NestTemplate in
    let short = chain-opens (leaves s Kind.NestAfterS p 97 refl) (behind-s s os around at st expects here) refl refl in
    goes-on (next-part p (fills (open_at short) short) refl) (λ v to later f. closes Production.NestWithS (closes p f refl) refl)

-- a letter for a name of std at the front of a nested name
pub nest-abbreviation : (s : Symbol) (os : List Opened) (around : Around) (at : ℕ) (st : State) (code : ℕ)
    → Expects s Kind.Nest around os at st → StandsAt s.bytes at (83 ∷ code ∷ []) → is_abbreviated code ≡ true
    → NestGoesOn s Kind.NestRestOrEnd os around (abbreviation code) true (at + 2) st
nest-abbreviation s os around at st code expects here is =
    let two = stands-split s.bytes at (83 ∷ []) (code ∷ []) here in
    nest-known s os around at st (abbreviation code) (at + 2) expects two.0 (λ inner h. filled-at (at + 2) (abbreviation-fills code is h two.1) (omega arith))

-- a reference at the front of a nested name
pub nest-substitution : (s : Symbol) (os : List Opened) (around : Around) (at : ℕ) (st : State) (digits : List ℕ) (end : ℕ) (c : Candidate)
    → Expects s Kind.Nest around os at st → StandsAt s.bytes at (83 ∷ []) → IsSeqAt s.bytes (at + 1) digits end
    → slice_get st.candidates (counted_value NumberKind.Seq36 digits) ≡ Some c
    → ((place : ℕ) → named_by s.is_wide around place (Some c) st ≡ Ok (found (tree c.tree true) st)) → NestGoesOn s Kind.NestRestOrEnd os around c.tree true end st
nest-substitution s os around at st digits end c expects here is there so =
    nest-known s os around at st c.tree end expects here (λ inner h. substitution-fills digits end c there so h is)

-- a name of std at the front of a nested name
pub nest-std : (s : Symbol) (os : List Opened) (around : Around) (at : ℕ) (st : State) (name : List ℕ) (end : ℕ)
    → Expects s Kind.Nest around os at st → StandsAt s.bytes at (83 ∷ 116 ∷ []) → IsNameAt s.bytes (at + 2) name end
    → NestNamed s os around (in_std (source false name)) end st
unfolding is_eaten number_of_kind parts_of between close unfolding_behind meaning part byte_of tree_of text_of piece_of letter_of is_there named_so_far applied
nest-std s os around at st name end expects here is =
    let p = Production.NestStd in
    let two = stands-split s.bytes at (83 ∷ []) (116 ∷ []) here in
    let entity = byte-opens (eats s Kind.NestAfterS p 116 refl) (behind-s s os around at st expects two.0) two.1 refl refl in
    let named = piece-comes s (open_at entity) around (at + 1 + 1) st name end entity.expects (subst (λ k. IsNameAt s.bytes k name end) (omega arith) is) in
    let arguments = next-part p (fill entity (piece (source false name)) end st named) refl in
    let goes_on : (last : Value) (to : ℕ) (later : State) → Comes s (open_at arguments) last to later
    → NestGoesOn s Kind.NestTail os around (applied (in_std (source false name)) last) false to later = λ last to later comes.
    goes-on (next-part p (fill arguments last to later comes) refl) (λ v onto newer f. closes Production.NestWithS (closes p f refl) refl) in
    record {
      inner = open_at arguments;
      awaits = arguments.expects;
      bare = goes_on nothing_there;
      argued = λ a. goes_on (tree a true);
      renamed = λ v. goes_on (bare_name v);
    }

-- ## After the name so far

rest-left : (kind : Kind) → IsRest kind → is_left kind Production.NestNext 48 ≡ true
unfolding is_left
rest-left Kind.NestRestAlone is = refl
rest-left Kind.NestRestOrEnd is = refl
rest-left Kind.NestMoreOrEnd is = refl
rest-left Kind.NestTail is = refl
rest-left _ is = absurd is

prefix-appended : (around : Around) (t : Term) (listed : Bool) (st : State) → with_prefix (after t listed around) st ≡ unless_listed listed around t st
unfolding with_prefix appended after prefix_tree prefix_listed
prefix-appended around t true st = refl
prefix-appended around t false st = refl

-- a component is expected after the name so far
component-awaited : {s : Symbol} {os inner : List Opened} {around : Around} {t : Term} {at : ℕ} {st : State} (listed : Bool)
    → Hole s (OfKind (number_of_kind Kind.Component)) (after t listed around) inner at st
    → ((u : Term) (to : ℕ) (now : State) → Comes s inner (tree u false) to now → NestGoesOn s Kind.NestTail os around u false to now)
    → AwaitsComponent s os around t at st
component-awaited {inner = inner} listed h onward = record { listed = listed; inner = inner; awaits = h.expects; onward = onward }

-- a component follows, and the name so far is a candidate before it
pub component-awaits : (s : Symbol) (kind : Kind) (os : List Opened) (around : Around) (t : Term) (listed : Bool) (at : ℕ) (st : State)
    → IsRest kind → Expects s kind (after t listed around) os at st → AwaitsComponent s os around t at (unless_listed listed around t st)
unfolding is_eaten is_left number_of_kind parts_of between close unfolding_behind meaning part byte_of tree_of text_of piece_of letter_of is_there after prefix_tree prefix_listed
component-awaits s kind os around t listed at st is expects =
    let p = Production.NestNext in
    let component : Hole s (OfKind (number_of_kind Kind.Component)) (after t listed around)
    (opened (standing (rule_of p) [] at (after t listed around) st) [] (OfKind (number_of_kind Kind.NestTail) ∷ []) ∷ os) at (unless_listed listed around t st) =
    chain-opens (leaves s kind p 48 (rest-left kind is)) (hole s kind (after t listed around) os at st expects) refl
    (rw (prefix-appended around t listed st) refl) in
    component-awaited listed component
    (λ u to later comes. goes-on (next-part p (fill component (tree u false) to later comes) refl) (λ v onto now f. closes p f refl))

-- arguments of the name so far
first-arguments : (s : Symbol) (os : List Opened) (around : Around) (t : Term) (listed : Bool) (at : ℕ) (st : State)
    → Expects s Kind.NestRestAlone (after t listed around) os at st → StandsAt s.bytes at (73 ∷ []) → AwaitsArguments s os around t listed at st
unfolding is_eaten number_of_kind parts_of between close unfolding_behind meaning part byte_of tree_of text_of piece_of letter_of is_there appended after inside listed_so_far prefix_tree prefix_listed
first-arguments s os around t listed at st expects stands =
    let p = Production.NestArguments in
    let component = OfKind (number_of_kind Kind.Component) in
    let tail = OfKind (number_of_kind Kind.NestTail) in
    let arguments : Hole s (OfKind (number_of_kind Kind.ArgumentsFirst)) (inside around)
    (opened (standing (rule_of p) (73 ∷ []) at (after t listed around) st) [] (Byte 69 ∷ component ∷ tail ∷ []) ∷ os) (at + 1) (unless_listed listed around t st) =
    byte-opens (eats s Kind.NestRestAlone p 73 refl) (hole s Kind.NestRestAlone (after t listed around) os at st expects) stands refl
    (rw (prefix-appended around t listed st) refl) in
    awaited (fewer (lists-by s.is_wide) arguments) (λ l to later comes ended.
    let next = next-part p (fixed-fills (next-part p (fill arguments l to later comes) refl) ended) refl in
    component-awaited false next (λ w onto newer came. goes-on (next-part p (fill next (tree w false) onto newer came) refl) (λ v to now f. closes p f refl)))

-- arguments of a substituted name; in the wide grammar the nested name may end after them
pub instance-arguments : (s : Symbol) (os : List Opened) (around : Around) (t : Term) (listed : Bool) (at : ℕ) (st : State)
    → Expects s Kind.NestRestOrEnd (after t listed around) os at st → StandsAt s.bytes at (73 ∷ []) → AwaitsInstance s os around t listed at st
unfolding is_eaten number_of_kind parts_of between close unfolding_behind meaning part byte_of tree_of text_of piece_of letter_of is_there after inside named_so_far prefix_tree prefix_listed
instance-arguments s os around t listed at st expects stands =
    let p = Production.NestInstance in
    let arguments : Hole s (OfKind (number_of_kind Kind.ArgumentsFirst)) (inside around)
    (opened (standing (rule_of p) (73 ∷ []) at (after t listed around) st) [] (Byte 69 ∷ OfKind (number_of_kind Kind.NestMoreOrEnd) ∷ []) ∷ os) (at + 1)
    (unless_listed listed around t st) =
    byte-opens (eats s Kind.NestRestOrEnd p 73 refl) (hole s Kind.NestRestOrEnd (after t listed around) os at st expects) stands refl
    (rw (prefix-appended around t listed st) refl) in
    awaited (fewer (lists-by s.is_wide) arguments) (λ l to later comes ended.
    goes-on (next-part p (fixed-fills (next-part p (fill arguments l to later comes) refl) ended) refl) (λ v onto now f. closes p f refl))

-- a component that is expected inside is expected outside
pub component-outside : (s : Symbol) (inner outer : List Opened) (around : Around) (t : Term) (at : ℕ) (st : State)
    → SamePasses s inner outer → AwaitsComponent s inner around t at st → AwaitsComponent s outer around t at st
component-outside s inner outer around t at st passes a = record {
  listed = a.listed;
  inner = a.inner;
  awaits = a.awaits;
  onward = λ u to later comes.
      let g = a.onward u to later comes in
      record { inner = g.inner; awaits = g.awaits; passes = λ v onto newer came. passes v onto newer (g.passes v onto newer came) };
}

-- arguments of a substituted name, after which a component follows
known-arguments : (s : Symbol) (os : List Opened) (around : Around) (t : Term) (listed : Bool) (at : ℕ) (st : State)
    → Expects s Kind.NestRestOrEnd (after t listed around) os at st → StandsAt s.bytes at (73 ∷ []) → AwaitsArguments s os around t listed at st
known-arguments s os around t listed at st expects stands =
    let begun = instance-arguments s os around t listed at st expects stands in
    awaited {os = begun.inner} (hole-of begun) (λ l to later comes ended.
    let u : Term = instance t (no_items l) in
    let g = begun.onward l to later comes ended in
    component-outside s g.inner os around u (to + 1) (with_candidate around u later) g.passes
    (component-awaits s Kind.NestMoreOrEnd g.inner around u false (to + 1) later tt g.awaits))

-- arguments of the first piece of a name
pub any-arguments : (s : Symbol) (kind : Kind) (os : List Opened) (around : Around) (t : Term) (listed : Bool) (at : ℕ) (st : State) → IsFirstRest kind
    → Expects s kind (after t listed around) os at st → StandsAt s.bytes at (73 ∷ []) → AwaitsArguments s os around t listed at st
any-arguments s Kind.NestRestAlone os around t listed at st is expects stands = first-arguments s os around t listed at st expects stands
any-arguments s Kind.NestRestOrEnd os around t listed at st is expects stands = known-arguments s os around t listed at st expects stands
any-arguments s _ os around t listed at st is expects stands = absurd is

pub first-is-rest : (kind : Kind) → IsFirstRest kind → IsRest kind
first-is-rest Kind.NestRestAlone is = tt
first-is-rest Kind.NestRestOrEnd is = tt
first-is-rest _ is = absurd is

-- the name ends
pub nest-end : (s : Symbol) (os : List Opened) (around : Around) (t : Term) (listed : Bool) (at : ℕ) (st : State)
    → Expects s Kind.NestTail (after t listed around) os at st → StandsAt s.bytes at (69 ∷ []) → Comes s os (tree t listed) (at + 1) st
unfolding is_eaten number_of_kind parts_of between close unfolding_behind meaning part byte_of tree_of text_of piece_of letter_of is_there after prefix_tree prefix_listed
nest-end s os around t listed at st expects stands =
    (byte-fills (eats s Kind.NestTail Production.NestEnd 69 refl) (hole s Kind.NestTail (after t listed around) os at st expects) stands refl refl).comes

-- ## Components

-- a name was read by a production that expects arguments after it
pub named-by : {s : Symbol} {os : List Opened} (p : Production) {taken : List ℕ} {at0 : ℕ} {around outer : Around} {before : State} {u : Term} {at : ℕ} {st : State}
    → Hole s (OfKind (number_of_kind Kind.MaybeArguments)) (after u false outer) (opened (standing (rule_of p) taken at0 around before) (tree u false ∷ []) [] ∷ os) at st
    → ((byte : ℕ) (here : Around) (began later : State) (v : Value)
    → close_by p s.is_wide byte here at0 began (tree u false ∷ v ∷ []) later ≡ Ok (found (tree (applied u v) false) later)) → Named s os outer u at st
unfolding applied is_there tree_of
named-by p {taken = taken} {around = around} {before = before} {u = u} h closed = record {
  inner = open_at h;
  awaits = h.expects;
  bare = λ to later comes. (closes p (fill h nothing_there to later comes) (closed (byte_of taken) around before later nothing_there)).comes;
  argued = λ a to later comes. (closes p (fill h (tree a true) to later comes) (closed (byte_of taken) around before later (tree a true))).comes;
  renamed = λ w to later comes. (closes p (fill h (bare_name w) to later comes) (closed (byte_of taken) around before later (bare_name w))).comes;
}

-- a name
pub component-source : (s : Symbol) (os : List Opened) (around : Around) (t : Term) (listed : Bool) (at : ℕ) (st : State) (name : List ℕ) (end : ℕ)
    → Expects s Kind.Component (after t listed around) os at st → IsNameAt s.bytes at name end → Named s os around (within t (source false name)) end st
unfolding is_eaten is_left number_of_kind parts_of between close unfolding_behind meaning part byte_of tree_of text_of piece_of letter_of is_there named_so_far extended after
component-source s os around t listed at st name end expects is =
    let p = Production.SourceName in
    let own = chain-opens (leaves s Kind.Component p 48 refl) (hole s Kind.Component (after t listed around) os at st expects) refl refl in
    named-by p (next-part p (name-fills name end own is) refl) (λ byte now began later v. refl)

-- a name of internal linkage
pub component-internal : (s : Symbol) (os : List Opened) (around : Around) (t : Term) (listed : Bool) (at : ℕ) (st : State) (name : List ℕ) (end : ℕ)
    → Expects s Kind.Component (after t listed around) os at st → StandsAt s.bytes at (76 ∷ []) → IsNameAt s.bytes (at + 1) name end
    → Named s os around (within t (source true name)) end st
unfolding is_eaten number_of_kind parts_of between close unfolding_behind meaning part byte_of tree_of text_of piece_of letter_of is_there named_so_far extended after
component-internal s os around t listed at st name end expects stands is =
    let p = Production.InternalName in
    let own = byte-opens (eats s Kind.Component p 76 refl) (hole s Kind.Component (after t listed around) os at st expects) stands refl refl in
    named-by p (next-part p (name-fills name end own is) refl) (λ byte now began later v. refl)

-- the code of an operator
pub operator-fills : {s : Symbol} {around : Around} {os : List Opened} {at : ℕ} {st : State} (kind : Kind) {first second : ℕ} (is : IsOperator first second)
    → choose kind first ≡ Some is.production → Hole s (OfKind (number_of_kind kind)) around os at st → StandsAt s.bytes at (first ∷ second ∷ [])
    → Filled s os (piece (operator first second)) (at + 2) st
unfolding is_eaten number_of_kind parts_of between opening close unfolding_behind meaning part byte_of tree_of text_of piece_of letter_of is_there is_chain
operator-fills {s = s} {around = around} {at = at} {st = st} kind {first = first} {second = second} is chosen h stands =
    let two = stands-split s.bytes at (first ∷ []) (second ∷ []) stands in
    let begun = chosen-byte s kind is.production first chosen is.small is.takes.chain is.takes.begins in
    let rest = byte-opens begun h two.0 is.takes.parts (is.takes.passes around at st) in
    let marked = chosen-byte s is.kind Production.Mark second is.marked is.small_second refl (λ f here now. refl) in
    filled-at (at + 2) (closes is.production (byte-fills marked rest two.1 refl refl) (is.takes.closes s.is_wide first second around at st st)) (omega arith)

-- an operator that begins with no c
other-operator : (s : Symbol) (os : List Opened) (around : Around) (t : Term) (listed : Bool) (at : ℕ) (st : State) (first second : ℕ) (is : IsOperator first second)
    → choose Kind.OtherOperator first ≡ Some is.production → Expects s Kind.Component (after t listed around) os at st → StandsAt s.bytes at (first ∷ second ∷ [])
    → Named s os around (within t (operator first second)) (at + 2) st
unfolding is_eaten is_left number_of_kind parts_of between close unfolding_behind meaning part byte_of tree_of text_of piece_of letter_of is_there named_so_far extended after
other-operator s os around t listed at st first second is chosen expects stands =
    let p = Production.OtherOperatorName in
    let code = chain-opens (leaves s Kind.Component p 110 refl) (hole s Kind.Component (after t listed around) os at st expects) refl refl in
    named-by p (next-part p (operator-fills Kind.OtherOperator is chosen code stands) refl) (λ byte now began later w. refl)

-- what is named inside is named outside
pub named-outside : (s : Symbol) (inner outer : List Opened) (around : Around) (t : Term) (at : ℕ) (st : State)
    → SamePasses s inner outer → Named s inner around t at st → Named s outer around t at st
named-outside s inner outer around t at st passes n = record {
  inner = n.inner;
  awaits = n.awaits;
  bare = λ to later comes. passes (tree t false) to later (n.bare to later comes);
  argued = λ a to later comes. passes (tree (instance t a) false) to later (n.argued a to later comes);
  renamed = λ u to later comes. passes (tree u false) to later (n.renamed u to later comes);
}

-- an operator that begins with a c
operator-behind-c : (s : Symbol) (os : List Opened) (around : Around) (t : Term) (listed : Bool) (at : ℕ) (st : State) (second : ℕ)
    → Taken s Kind.OperatorAfterC Production.Mark (second ∷ [])
    → Expects s Kind.Component (after t listed around) os at st → StandsAt s.bytes at (99 ∷ second ∷ [])
    → Named s os around (within t (operator 99 second)) (at + 2) st
unfolding is_eaten is_left number_of_kind parts_of between close unfolding_behind meaning part byte_of tree_of text_of piece_of letter_of is_there named_so_far extended after
operator-behind-c s os around t listed at st second marked expects stands =
    let p = Production.OperatorNameWithC in
    let q = Production.ComponentWithC in
    let two = stands-split s.bytes at (99 ∷ []) (second ∷ []) stands in
    let rest = byte-opens (eats s Kind.Component q 99 refl) (hole s Kind.Component (after t listed around) os at st expects) two.0 refl refl in
    let code = byte-fills marked (chain-opens (leaves s Kind.ComponentAfterC p 109 refl) rest refl refl) two.1 refl refl in
    named-outside s (open_at rest) os around (within t (operator 99 second)) (at + 2) st (λ v to now comes. (closes q (fill rest v to now comes) refl).comes)
    (named-by p (next-part p (filled-at (at + 2) code (omega arith)) refl) (λ byte now began later w. refl))

-- an operator
pub component-operator : (s : Symbol) (os : List Opened) (around : Around) (t : Term) (listed : Bool) (at : ℕ) (st : State) (first second : ℕ)
    → IsOperator first second → Expects s Kind.Component (after t listed around) os at st → StandsAt s.bytes at (first ∷ second ∷ [])
    → Named s os around (within t (operator first second)) (at + 2) st
unfolding is_eaten number_of_kind parts_of between opening close unfolding_behind meaning part byte_of tree_of text_of piece_of letter_of is_there is_chain
component-operator s os around t listed at st first second is expects stands = elim is.component [
  | inl c ↦ subst (λ f. Named s os around (within t (operator f second)) (at + 2) st) (sym c.0)
      (operator-behind-c s os around t listed at st second (chosen-byte s Kind.OperatorAfterC Production.Mark second c.1 is.small_second refl (λ f at st. refl)) expects (subst (λ f. StandsAt s.bytes at (f ∷ second ∷ [])) c.0 stands))
  | inr other ↦ other-operator s os around t listed at st first second is other expects stands
]

-- the digit of a constructor
constructor-taken : (s : Symbol) (digit : ℕ) → IsConstructorDigit s.is_wide digit → Taken s Kind.ConstructorDigit Production.Mark (digit ∷ [])
unfolding is_eaten is_eaten_widely
constructor-taken s digit (inl (low, high)) =
    eats s Kind.ConstructorDigit Production.Mark digit (rw (le-leb 49 digit low, le-leb digit 51 high, lt-ltb digit 256 (omega (arith, high))) refl)
constructor-taken s digit (inr (wide, is)) =
    eats-widely s Kind.ConstructorDigit Production.Mark digit wide (elim is [ inl four ↦ rw four refl | inr five ↦ rw five refl ])

-- the digit of a destructor
destructor-taken : (s : Symbol) (digit : ℕ) → IsDestructorDigit s.is_wide digit → Taken s Kind.ComponentAfterD Production.Mark (digit ∷ [])
unfolding is_eaten is_eaten_widely
destructor-taken s digit (inl (low, high)) =
    eats s Kind.ComponentAfterD Production.Mark digit (rw (le-leb 48 digit low, le-leb digit 50 high, lt-ltb digit 256 (omega (arith, high))) refl)
destructor-taken s digit (inr (wide, is)) = eats-widely s Kind.ComponentAfterD Production.Mark digit wide (elim is [ inl four ↦ rw four refl | inr five ↦ rw five refl ])

-- a constructor
pub component-constructor : (s : Symbol) (os : List Opened) (around : Around) (t : Term) (listed : Bool) (at : ℕ) (st : State) (digit : ℕ)
    → Expects s Kind.Component (after t listed around) os at st → StandsAt s.bytes at (67 ∷ digit ∷ []) → IsConstructorDigit s.is_wide digit
    → Named s os around (within t (constructor digit)) (at + 2) st
unfolding is_eaten is_left number_of_kind parts_of between close unfolding_behind meaning part byte_of tree_of text_of piece_of letter_of is_there named_so_far extended after
component-constructor s os around t listed at st digit expects stands is =
    let p = Production.Constructor in
    let q = Production.AnyConstructor in
    let two = stands-split s.bytes at (67 ∷ []) (digit ∷ []) stands in
    let rest = byte-opens (eats s Kind.Component q 67 refl) (hole s Kind.Component (after t listed around) os at st expects) two.0 refl refl in
    let code = byte-fills (constructor-taken s digit is) (chain-opens (leaves s Kind.ConstructorAfterC p 49 refl) rest refl refl) two.1 refl refl in
    named-outside s (open_at rest) os around (within t (constructor digit)) (at + 2) st (λ v to now comes. (closes q (fill rest v to now comes) refl).comes)
    (named-by p (next-part p (filled-at (at + 2) code (omega arith)) refl) (λ byte now began later v. refl))

-- a destructor
pub component-destructor : (s : Symbol) (os : List Opened) (around : Around) (t : Term) (listed : Bool) (at : ℕ) (st : State) (digit : ℕ)
    → Expects s Kind.Component (after t listed around) os at st → StandsAt s.bytes at (68 ∷ digit ∷ []) → IsDestructorDigit s.is_wide digit
    → Named s os around (within t (destructor digit)) (at + 2) st
unfolding is_eaten number_of_kind parts_of between close unfolding_behind meaning part byte_of tree_of text_of piece_of letter_of is_there named_so_far extended after
component-destructor s os around t listed at st digit expects stands is =
    let p = Production.Destructor in
    let two = stands-split s.bytes at (68 ∷ []) (digit ∷ []) stands in
    let code = byte-opens (eats s Kind.Component p 68 refl) (hole s Kind.Component (after t listed around) os at st expects) two.0 refl refl in
    named-by p (next-part p (filled-at (at + 2) (byte-fills (destructor-taken s digit is) code two.1 refl refl) (omega arith)) refl)
    (λ byte now began later v. refl)

-- ## Tags

-- A name with a tag was read where a name without one was expected.
pub record Tagged (s : Symbol) (outer : List Opened) (around : Around) (t : Term) (at : ℕ) (st : State) : Type 0 where
  pub inner : List Opened
  pub awaits : Expects s Kind.MaybeArguments (after t false around) inner at st
  pub bare : (at : ℕ) (st : State) → Comes s inner nothing_there at st → Comes s outer (bare_name t) at st
  pub argued : (a : Term) (at : ℕ) (st : State) → Comes s inner (tree a true) at st → Comes s outer (bare_name (instance t a)) at st
  pub renamed : (u : Term) (at : ℕ) (st : State) → Comes s inner (bare_name u) at st → Comes s outer (bare_name u) at st

pub tag-follows : (s : Symbol) (os : List Opened) (around : Around) (t : Term) (at : ℕ) (st : State) (tag : List ℕ) (end : ℕ) → s.is_wide ≡ true
    → Expects s Kind.MaybeArguments (after t false around) os at st → IsTagAt s.bytes at tag end → Tagged s os around (with_tag t tag) end st
unfolding is_eaten is_eaten_widely number_of_kind parts_of between close unfolding_behind meaning part byte_of tree_of text_of piece_of letter_of is_there after named_so_far with_tag prefix_tree applied
tag-follows s os around t at st tag end wide expects (stands, is) =
    let p = Production.Tag in
    let own = byte-opens (eats-widely s Kind.MaybeArguments p 66 wide refl) (hole s Kind.MaybeArguments (after t false around) os at st expects) stands refl refl in
    let rest = next-part p (name-fills tag end own is) refl in
    record {
      inner = open_at rest;
      awaits = rest.expects;
      bare = λ to later comes. (closes p (fill rest nothing_there to later comes) refl).comes;
      argued = λ a to later comes. (closes p (fill rest (tree a true) to later comes) refl).comes;
      renamed = λ v to later comes. (closes p (fill rest (bare_name v) to later comes) refl).comes;
    }
