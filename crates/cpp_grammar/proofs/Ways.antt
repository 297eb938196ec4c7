-- The two readings of C++ as one, whose parameters are what is done before, between and after the parts of a production.
use Rattle.cpp_grammar.proofs.Basics.{◌≡◌, refl, ℕ, List, [], ◌∷◌, Bool, true, false, Result, Ok, ◌&&◌, true≢false, false≢true, Refusal, Forest, Found, Reading, found, Production, is_at_literal, State, Around, Value, nothing_there, text, tree_of, part, Term, is_open, Continuation, next, in_name, in_types, between, meaning, opening, close, production_at, byte_of, is_passed_over, passed_over, name_around, types_around, name_if, opening_wide, between_wide, close_wide}
use Rattle.cpp_grammar.specs.Unfolding as unfolding_
use Rattle.cpp_grammar.proofs.Steps.{first_of_both}

-- `own` says whether the parameters in a lambda's signature are the lambda's own, and `passes` whether an encoding here is passed over
pub record Way : Type 0 where
  pub own : Bool
  pub passes : Around → Bool
  pub opening : Production → Around → Forest → (place : ℕ) → State → Result State Refusal
  pub between : Production → Around → (place : ℕ) → List Value → State → Continuation
  pub close : Production → (byte : ℕ) → Around → (place : ℕ) → (began : State) → List Value → State → Result (Found Value State) Refusal

unfoldable pub reading_by : Way → Reading Value State Around
reading_by w = record {
  rowless = nothing_there ∷ [];
  token = λ place t state. Ok (found (text t.own) state);
  begin = λ rule parts. w.opening (production_at rule.rule.number) rule.context parts rule.place rule.before;
  between = λ rule known state. w.between (production_at rule.rule.number) rule.context rule.place known state;
  close = λ rule known state. w.close (production_at rule.rule.number) (byte_of rule.taken) rule.context rule.place rule.before known state;
}

unfoldable pub abi_way : Way
abi_way = record { own = false; passes = λ around. false; opening = λ p around parts place state. opening p parts place state; between = between; close = close }

unfoldable pub wide_way : Way
wide_way = record { own = true; passes = is_passed_over; opening = opening_wide; between = between_wide; close = close_wide }

-- the only productions that differ: those of references, lambdas, inherited constructors, constraints, encodings and their literals,
-- and modules that a substitution names
unfoldable pub differs : Production → Bool
differs Production.Lambda = true
differs Production.Parameter = true
differs Production.NestParameter = true
differs Production.Substitution = true
differs Production.ParameterArgument = true
differs Production.ParameterExpression = true
differs Production.HeldArguments = true
differs Production.Inheriting = true
differs Production.Holder = true
differs Production.NamedModule = true
differs Production.DeclaredFirst = true
differs Production.Constraint = true
differs Production.EncodingLiteral = true
differs Production.Encoding = true
differs _ = false

-- the productions whose parts are in a signature, or which are always in one themselves: lambdas, declarations of parameters,
-- constraints on arguments
unfoldable pub has_signature : Production → Bool
has_signature Production.Lambda = true
has_signature Production.ValueOf = true
has_signature Production.OfConcept = true
has_signature Production.Constraint = true
has_signature Production.TemplateOf = true
has_signature Production.PackOf = true
has_signature Production.Declarations = true
has_signature Production.DeclaredFirst = true
has_signature Production.FirstWithT = true
has_signature _ = false

-- what surrounds the name of an encoding, and its types
unfoldable pub name_by : (passes : Bool) → (place : ℕ) → Around
name_by passes place = elim passes [ true ↦ passed_over place | false ↦ in_name place ]

unfoldable pub types_by : (passes : Bool) → (place : ℕ) → (name : Term) → Around
types_by passes place name = elim (passes && is_open name) [ true ↦ passed_over place | false ↦ in_types place name ]

-- all other productions agree with the reading of the ABI's grammar
pub record IsPlain (w : Way) : Type 0 where
  -- an encoding is passed over only in a lambda's signature or in a constraint, and `name_by` says what surrounds its name
  pub passing : (around : Around) → w.passes around ≡ true → (w.own ≡ true) × (around.in_lambda ≡ true)
  pub name : (around : Around) (place : ℕ) (state : State) → w.between Production.Encoding around place [] state ≡ next [] (name_by (w.passes around) place) state
  pub types : (around : Around) (place : ℕ) (v : Value) (state : State) → w.between Production.Encoding around place (v ∷ []) state ≡ next (v ∷ []) (types_by (w.passes around) place (tree_of v)) state
  pub encoding : (byte : ℕ) (around : Around) (place : ℕ) (began : State) (vs : List Value) (state : State) → w.close Production.Encoding byte around place began vs state
      ≡ Ok (found (name_if (w.passes around && is_open (tree_of (part vs 0))) (part vs 0) (meaning Production.Encoding byte around vs)) state)
  pub between : (p : Production) → differs p ≡ false → (around : Around) (place : ℕ) (vs : List Value) (state : State) → w.between p around place vs state ≡ between p around place vs state
  pub close : (p : Production) → differs p ≡ false → (byte : ℕ) (around : Around) (place : ℕ) (began : State) (vs : List Value) (state : State) →
      w.close p byte around place began vs state ≡ close p byte around place began vs state

pub abi_plain : IsPlain abi_way
unfolding abi_way name_by types_by name_if between close unfolding_.behind
abi_plain = record {
  passing = λ around is. absurd (false≢true is);
  name = λ around place state. refl;
  types = λ around place v state. refl;
  encoding = λ byte around place began vs state. refl;
  between = λ p apart around place vs state. refl;
  close = λ p apart byte around place began vs state. refl;
}

plain_between : (p : Production) → differs p ≡ false → (around : Around) (place : ℕ) (vs : List Value) (state : State) → between_wide p around place vs state ≡ between p around place vs state
unfolding differs between_wide
plain_between Production.Parameter apart around place vs state = absurd (true≢false apart)
plain_between _ apart around place vs state = cc

plain_close : (p : Production) → differs p ≡ false → (byte : ℕ) (around : Around) (place : ℕ) (began : State) (vs : List Value) (state : State) →
    close_wide p byte around place began vs state ≡ close p byte around place began vs state
unfolding differs close_wide
plain_close Production.Substitution apart byte around place began vs state = absurd (true≢false apart)
plain_close _ apart byte around place began vs state = cc

pub wide_plain : IsPlain wide_way
unfolding wide_way between_wide close_wide name_around types_around name_by types_by is_passed_over
wide_plain = record {
  passing = λ around is. (refl, first_of_both around.in_lambda (is_at_literal around.showing) is);
  name = λ around place state. refl;
  types = λ around place v state. refl;
  encoding = λ byte around place began vs state. refl;
  between = plain_between;
  close = plain_close;
}
