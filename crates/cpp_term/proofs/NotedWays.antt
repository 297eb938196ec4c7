-- Both readings of C++ over trees with arguments, as one; and when such a reading is the annotated form of a reading without
-- arguments.
use Rattle.cpp_term.proofs.Basics.{◌≡◌, refl, ap, ◌∙◌, ℕ, ◌-◌, ◌^◌, List, [], ◌∷◌, Bool, true, false, ◌&&◌, nat_lt, Result, Ok, Err, true≢false, Refusal, Forest, Found, Reading, found, Production, last_token, production_at, byte_of, local_number, BadValue, StaysInside, Way, abi_way, wide_way, differs, noted_around}
use Rattle.cpp_grammar.specs.Values as leaf_
use Rattle.cpp_grammar.specs.Unfolding as leaf_opening
use Rattle.cpp_grammar.specs.Rescoping as leaf_wide
use Rattle.cpp_term.specs.Term.{Term}
use Rattle.cpp_term.specs.Scope.{is_open}
use Rattle.cpp_term.specs.Values.{State, Around, Value, nothing_there, text, tree_of, part}
use Rattle.cpp_term.specs.Between.{Continuation, next, in_name, in_types, between}
use Rattle.cpp_term.specs.Meaning.{meaning}
use Rattle.cpp_term.specs.Unfolding.{number_tested, opening, behind, close}
use Rattle.cpp_term.specs.Rescoping.{is_passed_over, passed_over, name_around, types_around, name_if, opening_wide, between_wide, close_wide}
use Rattle.cpp_term.proofs.MeaningNoted.{Shut}
use Rattle.cpp_term.proofs.AwaitedNoted.{item_noted}
use Rattle.cpp_term.proofs.StatesNoted.{Alongside, Settled, Alike, Same, Moves, moves_none, noting_moves}
use Rattle.cpp_term.proofs.Passing.{Sees, abi_sees, wide_sees}
use Rattle.cpp_term.proofs.BetweenNoted.{MayGo, parts_place}
use Rattle.cpp_term.proofs.DeclaredNoted.{in_first, noted_parts, Onward, Yield, abi_goes, abi_closes, wide_goes, wide_closes}

pub record NotedWay : Type 0 where
  pub passes : Around → Bool
  pub opening : Production → Around → Forest → (place : ℕ) → State → Result State Refusal
  pub between : Production → Around → (place : ℕ) → List Value → State → Continuation
  pub close : Production → (byte : ℕ) → Around → (place : ℕ) → (began : State) → List Value → State → Result (Found Value State) Refusal

unfoldable pub reading_noted_by : NotedWay → Reading Value State Around
reading_noted_by v = record {
  rowless = nothing_there ∷ [];
  token = λ place t state. Ok (found (text t.own) state);
  begin = λ rule parts. v.opening (production_at rule.rule.number) rule.context parts rule.place rule.before;
  between = λ rule known state. v.between (production_at rule.rule.number) rule.context rule.place known state;
  close = λ rule known state. v.close (production_at rule.rule.number) (byte_of rule.taken) rule.context rule.place rule.before known state;
}

unfoldable pub abi_noted : NotedWay
abi_noted = record { passes = λ around. false; opening = λ p around parts place state. opening p parts place state; between = between; close = close }

unfoldable pub wide_noted : NotedWay
wide_noted = record { passes = is_passed_over; opening = opening_wide; between = between_wide; close = close_wide }

-- what surrounds the name of an encoding, and its types
unfoldable pub noted_name_by : (passes : Bool) → (place : ℕ) → Around
noted_name_by passes place = elim passes [ true ↦ passed_over place | false ↦ in_name place ]

unfoldable pub noted_types_by : (passes : Bool) → (place : ℕ) → (name : Term) → Around
noted_types_by passes place name = elim (passes && is_open name) [ true ↦ passed_over place | false ↦ in_types place name ]

-- a reading agrees with that of the ABI's grammar, except for references, constraints and encodings
pub record IsPlainNoted (v : NotedWay) : Type 0 where
  pub name : (around : Around) (place : ℕ) (state : State) → v.between Production.Encoding around place [] state ≡ next [] (noted_name_by (v.passes around) place) state
  pub types : (around : Around) (place : ℕ) (u : Value) (state : State) → v.between Production.Encoding around place (u ∷ []) state ≡ next (u ∷ []) (noted_types_by (v.passes around) place (tree_of u)) state
  pub encoding : (byte : ℕ) (around : Around) (place : ℕ) (began : State) (vs : List Value) (state : State) → v.close Production.Encoding byte around place began vs state
      ≡ Ok (found (name_if (v.passes around && is_open (tree_of (part vs 0))) (part vs 0) (meaning Production.Encoding byte around vs)) state)
  pub between : (p : Production) → differs p ≡ false → (around : Around) (place : ℕ) (vs : List Value) (state : State) → v.between p around place vs state ≡ between p around place vs state
  pub close : (p : Production) → differs p ≡ false → (byte : ℕ) (around : Around) (place : ℕ) (began : State) (vs : List Value) (state : State) →
      v.close p byte around place began vs state ≡ close p byte around place began vs state

-- within an encoding, a reading with arguments agrees with a reading without arguments
pub record IsNotedBy (w : Way) (v : NotedWay) : Type 0 where
  pub plain : IsPlainNoted v
  pub sees : Sees w
  pub passes : (around : leaf_.Around) → v.passes (noted_around w.own around) ≡ w.passes around
  pub begins : (production : Production) (f : Forest) (place : ℕ) (around : leaf_.Around) (x : leaf_.State) (y : State) → Same w.own around x y → Alike (Moves w.own around x y) (w.opening production around f place x) (v.opening production (noted_around w.own around) f place y)
  pub goes : (production : Production) (around : leaf_.Around) (place : ℕ) (vs : List leaf_.Value) (x : leaf_.State) (y : State) → StaysInside production → MayGo production vs → Settled around → Same w.own around x y →
      Alike (Onward w.own production around x y) (w.between production around place vs x) (v.between production (noted_around w.own around) place (noted_parts production w.own (parts_place w.own production around) vs) y)
  pub comes : (production : Production) (byte : ℕ) (around : leaf_.Around) (place : ℕ) (began : leaf_.State) (first : State) (vs : List leaf_.Value) (x : leaf_.State) (y : State) → Shut w.own production around vs →
      Settled around → (w.own ≡ true → in_first production ≡ true → around.in_lambda ≡ true) → Same w.own around x y → Alongside began first →
      Alike (Yield w.own production around x y) (w.close production byte around place began vs x) (v.close production byte (noted_around w.own around) place first (noted_parts production w.own (parts_place w.own production around) vs) y)

-- an opening tests a number, or notes what is expected
opening_moves : (own : Bool) (p : Production) (f : Forest) (place : ℕ) (around : leaf_.Around) (x : leaf_.State) (y : State) → Alongside x y → Alike (Moves own around x y) (leaf_opening.opening p f place x) (opening p f place y)
unfolding leaf_opening.opening opening leaf_opening.number_tested number_tested
opening_moves own Production.Lambda f place around x y packs = tested (nat_lt (local_number (last_token f [])) (2 ^ 64))
  where
    tested : (b : Bool) → Alike (Moves own around x y) (elim b [ true ↦ Ok x | false ↦ Err (BadValue (place - 1)) ]) (elim b [ true ↦ Ok y | false ↦ Err (BadValue (place - 1)) ])
    tested true = moves_none own around x x y y refl refl packs
    tested false = refl
opening_moves own Production.Unnamed f place around x y packs = tested (nat_lt (local_number (last_token f [])) (2 ^ 64))
  where
    tested : (b : Bool) → Alike (Moves own around x y) (elim b [ true ↦ Ok x | false ↦ Err (BadValue (place - 1)) ]) (elim b [ true ↦ Ok y | false ↦ Err (BadValue (place - 1)) ])
    tested true = moves_none own around x x y y refl refl packs
    tested false = refl
opening_moves own _ f place around x y packs = moves_none own around x x y y refl refl packs

wide_opening_moves : (p : Production) (f : Forest) (place : ℕ) (around : leaf_.Around) (x : leaf_.State) (y : State) → Same true around x y →
    Alike (Moves true around x y) (leaf_wide.opening_wide p around f place x) (opening_wide p (noted_around true around) f place y)
unfolding leaf_wide.opening_wide opening_wide
wide_opening_moves Production.NestTemplate f place around x y same = noting_moves true around _ _ x y (ap (leaf_wide.expecting (leaf_.prefix_at (place - 1))) same.packs.1) same
wide_opening_moves Production.QualifiedPlain f place around x y same = noting_moves true around _ _ x y (ap (leaf_wide.expecting (leaf_.qualified_at place)) same.packs.1) same
wide_opening_moves Production.Items f place around x y same =
    noting_moves true around _ _ x y (item_noted true around place y.counting ∙ ap (leaf_wide.expecting_item around place) same.packs.1) same
wide_opening_moves Production.NestNext f place around x y same = noting_moves true around _ _ x y (ap leaf_wide.calling same.packs.1) same
wide_opening_moves Production.NestEnd f place around x y same = noting_moves true around _ _ x y (ap leaf_wide.ending same.packs.1) same
wide_opening_moves p f place around x y same = opening_moves true p f place around x y same.packs

pub abi_is_noted : IsNotedBy abi_way abi_noted
unfolding abi_way abi_noted noted_name_by noted_types_by name_if between close behind
abi_is_noted = record {
  plain = record {
    name = λ around place state. refl;
    types = λ around place u state. refl;
    encoding = λ byte around place began vs state. refl;
    between = λ p apart around place vs state. refl;
    close = λ p apart byte around place began vs state. refl;
  };
  sees = abi_sees;
  passes = λ around. refl;
  begins = λ production f place around x y same. opening_moves false production f place around x y same.packs;
  goes = abi_goes;
  comes = λ production byte around place began first vs x y h settled inside same e. abi_closes production byte around place began first vs x y h settled same e;
}

plain_between : (p : Production) → differs p ≡ false → (around : Around) (place : ℕ) (vs : List Value) (state : State) → between_wide p around place vs state ≡ between p around place vs state
unfolding differs between_wide
plain_between Production.Parameter apart around place vs state = absurd (true≢false apart)
plain_between _ apart around place vs state = cc

plain_close : (p : Production) → differs p ≡ false → (byte : ℕ) (around : Around) (place : ℕ) (began : State) (vs : List Value) (state : State) →
    close_wide p byte around place began vs state ≡ close p byte around place began vs state
unfolding differs close_wide
plain_close Production.Substitution apart byte around place began vs state = absurd (true≢false apart)
plain_close _ apart byte around place began vs state = cc

pub wide_is_noted : IsNotedBy wide_way wide_noted
unfolding wide_way wide_noted between_wide close_wide name_around types_around noted_name_by noted_types_by is_passed_over leaf_wide.is_passed_over noted_around
wide_is_noted = record {
  plain = record {
    name = λ around place state. refl;
    types = λ around place u state. refl;
    encoding = λ byte around place began vs state. refl;
    between = plain_between;
    close = plain_close;
  };
  sees = wide_sees;
  passes = λ around. refl;
  begins = wide_opening_moves;
  goes = wide_goes;
  comes = λ production byte around place began first vs x y h settled inside same e. wide_closes production byte around place began first vs x y h settled (inside refl) same e;
}
