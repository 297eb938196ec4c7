-- The arguments of the symbol's own name and their texts: types after the name may name them.
use Rattle.cpp_direct.proofs.AllGround.{named_by, arguments_of, Around, Detail, element, found, length_if_pack, State, Term, tree, types_of, ◌≡◌, ◌≢◌, ℕ, ◌-◌, List, take, drop, reverse, Bool, Ok, true, false, Option, Some, None, is_some, nat_lt, not, ◌&&◌, ◌||◌, ◌<◌, refl, ap, sym, ◌∙◌, subst, false≢true, and_parts, lt-ltb, ltb-true, AreCandidates, AreNamed, AreSingle, Argument, argument_of, Arguments, Candidate, detail_of, Direct, encoding_place, HasArguments, HasSingles, IsCandidate, IsGiven, IsMadeIn, IsNameEnded, IsNameScoped, IsNaming, IsPlaced, IsScoped, IsSingle, Keeps, Kept, Mark, Names, no_scope, Open, place_of, Prints, PrintsAs, PrintsGiven, Scope, Symbol, candidates-as, encoded-here, piece-found, no-pack-named, substituted-open, types-given, no-module, arguments-named}
use Rattle.cpp_direct.specs.AllStates.{Named}
use Rattle.cpp_grammar.specs.Values as values

-- ## Their texts

abbrev single_text : (is_single : Bool) → Named → Option Named
single_text true own = Some own
single_text false own = None

-- the argument with this number is known, and is no element of the pack
abbrev is_single : Arguments → (number : ℕ) → Bool
is_single a number = nat_lt number a.count && (not a.has_pack || nat_lt number a.before)

-- the text at an argument's place
abbrev own_at : (text : List ℕ) → Argument → Named
own_at text p = record { bytes = take (p.to - p.from) (drop p.from text); reference = p.is_reference }

-- the text at the place of the argument with this number, if the argument is known and is no element of the pack
abbrev names_at : (text : List ℕ) → Arguments → Names
names_at text a number = single_text (is_single a number) (own_at text (place_of a number))

single-some : (is_single : Bool) (own n : Named) → single_text is_single own ≡ Some n → (is_single ≡ true) × (own ≡ n)
single-some true own n e = (refl, cc e)
single-some false own n e = absurd (false≢true (ap is_some e))

single-by : (k count before : ℕ) (has : Bool) → k < count → (has ≡ true → k < before) → nat_lt k count && (not has || nat_lt k before) ≡ true
single-by k count before false known apart = ap (λ b. b && true) (lt-ltb k count known)
single-by k count before true known apart = ap (λ b. b && nat_lt k before) (lt-ltb k count known) ∙ lt-ltb k before (apart refl)

by-single : (k count before : ℕ) (has : Bool) → nat_lt k count && (not has || nat_lt k before) ≡ true → (k < count) × (has ≡ true → k < before)
by-single k count before has e =
    let h = and_parts (nat_lt k count) (not has || nat_lt k before) e in
    (ltb-true k count h.0, λ is. ltb-true k before (subst (λ b. not b || nat_lt k before ≡ true) is h.1))

-- an argument's text that is at the argument's place is found by the argument's number
text-there : (text : List ℕ) (a : Arguments) (number : ℕ) (bytes : List ℕ) → IsSingle a number → IsPlaced text (place_of a number) bytes
    → names_at text a number ≡ Some (record { bytes = bytes; reference = (place_of a number).is_reference })
text-there text a number bytes single placed =
    let p = place_of a number in
    let found = piece-found text bytes p.from p.to placed in
    let named : List ℕ → Option Named = λ l. Some (record { bytes = l; reference = p.is_reference }) in
    ap (λ b. single_text b (own_at text p)) (single-by number a.count a.before a.has_pack single.0 single.1) ∙ ap named found.2

-- an argument that has a text is known, and is no element of the pack
text-single : (text : List ℕ) (a : Arguments) (number : ℕ) (n : Named) → names_at text a number ≡ Some n
    → IsSingle a number × (own_at text (place_of a number) ≡ n)
text-single text a number n e =
    let h = single-some (is_single a number) (own_at text (place_of a number)) n e in
    (by-single number a.count a.before a.has_pack h.0, h.1)

-- the arguments of a name are given in its types
pub arguments-given : {detail : Detail} (text : List ℕ) (a : Arguments) (own : Term) → HasArguments detail text a own → IsGiven detail (names_at text a) (types_of own)
arguments-given {detail} text a own has number n is =
    let h = has.0 number (text-single text a number n is).0 in
    types-given (names_at text a) own h.all h.all_are (λ k m e. one h.all h.all_are k m e) number n is
  where
    one : (all : Term) → arguments_of own ≡ Some all → (k : ℕ) (m : Named) → names_at text a k ≡ Some m
        → (t : Term) × (element all k ≡ t) × Prints detail t m.bytes m.reference
    one all all_are k m e =
        let p = place_of a k in
        let single = text-single text a k m e in
        let h = has.0 k single.0 in
        let found = piece-found text h.bytes p.from p.to h.placed in
        let same : h.all ≡ all = cc (sym h.all_are ∙ all_are) in (
          h.own,
          subst (λ t. element t k ≡ h.own) same h.there.0,
          subst (λ (x : Named). Prints detail h.own x.bytes x.reference) single.1
              (subst (λ l. Prints detail h.own l p.is_reference) (sym found.2) h.prints),
        )

-- ## Where they may be named from

-- a candidate names no argument if it was made where no argument may be named
candidate-given : (s : Symbol) (scope : Scope) (text : List ℕ) (k : Candidate) (c : values.Candidate) → IsCandidate s no_scope text k c → IsCandidate s scope text k c
candidate-given s scope text k c p = record {
  bytes = p.bytes;
  placed = p.placed;
  prints = go k.is_dependent refl p.prints;
  made_in = λ e. absurd ((p.made_in e).1 refl);
}
  where
    go : (d : Bool) → k.is_dependent ≡ d → PrintsAs (detail_of s) no_scope.names d c.tree p.bytes k.is_reference
        → PrintsAs (detail_of s) scope.names d c.tree p.bytes k.is_reference
    go true e prints = absurd ((p.made_in e).1 refl)
    go false e prints = prints

-- the arguments of a name that was written may be named
abbrev pub scope_at : (text : List ℕ) → Arguments → Scope
scope_at text a = record { arguments = a; names = names_at text a }

pub named-there : {detail : Detail} (text : List ℕ) (a : Arguments) (own : Term) → HasArguments detail text a own → AreNamed text (scope_at text a)
named-there text a own names number single =
    let h = names.0 number single in
    (h.bytes, text-there text a number h.bytes single h.placed, h.placed)

-- what a writer keeps once arguments may be named, if none could be named before
pub scope-kept : (s : Symbol) (old new : Direct) (kept : Kept s old) (a : Arguments) (own : Term) → HasArguments (detail_of s) old.text.list.items a own
    → old.has_scope ≡ false → new.has_scope ≡ true → new.text ≡ old.text → new.candidates ≡ old.candidates
    → Keeps s (scope_at old.text.list.items a) new kept.state.candidates
scope-kept s old new kept a own names first now text candidates =
    let here = old.text.list.items in
    let scope = scope_at here a in
    record {
      candidates = subst (λ v. AreCandidates s scope v.list.items new.candidates.list.items kept.state.candidates) (sym text)
          (subst (λ v. AreCandidates s scope here v.list.items kept.state.candidates) (sym candidates)
          (candidates-as s no_scope scope here here (candidate-given s scope here) old.candidates.list.items kept.state.candidates
          (subst (λ (k : Scope). AreCandidates s k here old.candidates.list.items kept.state.candidates) (kept.keeps.unknown first).0 kept.keeps.candidates)));
      named = subst (λ v. AreNamed v.list.items scope) (sym text) (named-there here a own names);
      single = λ number n e. (text-single here a number n e).0;
      unknown = λ e. absurd (false≢true (sym e ∙ now));
    }

-- The arguments of a name that was read may be named in the types after it.
pub scope-begins : (s : Symbol) (old new : Direct) (mark : Mark) (is_instance : Bool) (argument a : Arguments) (from : ℕ) → IsNameEnded s old mark is_instance argument from
    → a ≡ record argument { encoding = a.encoding } → (a.encoding ≢ 0 → (from ≡ 0) × (a.encoding ≡ encoding_place s.bytes))
    → old.has_scope ≡ false → new ≡ record old { has_scope = true } → IsNameScoped s new mark is_instance a from
scope-begins s old new mark is_instance argument a from p same encoded first new_is =
    subst (λ (w : Direct). IsNameScoped s w mark is_instance a from) (sym new_is) (record {
      ended = record {
        kept = record {
          state = p.state;
          scope = scope_at text a;
          keeps = scope-kept s old (record old { has_scope = true }) p.kept a p.own names first refl refl refl;
        };
        has = p.has;
        no_return = p.no_return;
        returns = p.returns;
        names = names;
        awaits = p.awaits;
      };
      given = arguments-given text a p.own names;
      named = refl;
      items = p.awaits.items (p.keeps.unknown first).1;
      encoded = encoded;
    })
  where
    text : List ℕ
    text = old.text.list.items

    names : HasArguments (detail_of s) text a p.own
    names = subst (λ (k : Arguments). HasArguments (detail_of s) text k p.own) (sym same) (arguments-named text a.encoding argument p.own p.names)

-- ## Where they are named

-- types may name the arguments of the symbol's own name here
pub named-here : (s : Symbol) (w : Direct) (kept : Kept s w) (around : Around) (all : Arguments)
    → IsScoped kept.scope around (reverse w.waiting.list.items) → argument_of (reverse w.waiting.list.items) ≡ Some all → all.encoding ≢ 0
    → IsNaming kept.scope (reverse w.waiting.list.items)
named-here s w kept around all scoped found real =
    let same : kept.scope.arguments ≡ all = (scoped all found).0 in
    (found ∙ ap (λ (a : Arguments). Some a) (sym same), λ none. real (ap (λ (a : Arguments). a.encoding) (sym same) ∙ none))

-- the arguments that may be named are no packs
named-single : (s : Symbol) (scope : Scope) (around : Around) (open_ : List Open) (arguments : Term) → HasSingles scope → IsScoped scope around open_
    → argument_of open_ ≡ Some scope.arguments → around.scope ≡ Some arguments → AreSingle scope.names arguments
named-single s scope around open_ arguments own scoped found is k n e =
    let here = (scoped scope.arguments found).1.1 k (own k n e) in
    let same : here.all ≡ arguments = cc (sym here.scope_is ∙ is) in
    subst (λ l. length_if_pack (element l k) ≡ None) same (ap length_if_pack here.there.0 ∙ here.no_pack)

-- a candidate that names arguments may be named again among the same types
pub again-substituted : (s : Symbol) {scope : Scope} (around : Around) (open_ : List Open) (c : values.Candidate) (st : State) (bytes : List ℕ) (r : Bool)
    → HasSingles scope → IsScoped scope around open_ → IsNaming scope open_ → IsMadeIn scope c.encoding c.in_lambda
    → PrintsGiven (detail_of s) scope.names c.tree bytes r → (place : ℕ) → named_by s.is_wide around place (Some c) st ≡ Ok (found (tree c.tree true) st)
again-substituted s {scope = scope} around open_ c st bytes r own scoped naming made prints place =
    let here = encoded-here scope around open_ scoped naming in
    substituted-open s.is_wide around place c st (no-module c.tree prints.as_prefix) (made.0 ∙ sym here.0) made.2 here.1 (no-pack-named around.scope c.tree
    (λ arguments is. prints.packless arguments (named-single s scope around open_ arguments own scoped naming.0 is)))
