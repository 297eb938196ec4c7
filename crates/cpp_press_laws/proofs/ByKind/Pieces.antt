-- A piece of a name that was read fits: a name, an operator, a constructor, a destructor, an unnamed type, or a lambda, whose
-- signature has surroundings of its own.
use Rattle.cpp_press_laws.proofs.Basics.{◌≡◌, ℕ, ◌-◌, ◌<◌, ◌⊎◌, inl, inr, List, [], ◌∷◌, ◌++◌, Option, Some, None, Bool, true, false, refl, sym, subst, ◌∙◌, arith, cond, codes, Kind, Production, choose, Term, source, operator, literal_operator, constructor, destructor, lambda, unnamed, string_literal, is_open, Candidate, State, Around, in_signature, counted, ordinal, Spelling, no_ways, piece_ways, ways_of, Fitting, item_type, begins_name, names_type, names_function, names_member, names_entity, IsLocalNumber, piece_fits, fits_nowhere, fits_of, IsSpellableName, IsOperator, and-true}
use Rattle.cpp_press_laws.proofs.Fits.Read.{pressed_at, FunctionsStand, Fitted, refitted, text-fitted, bytes-fitted, fitted-bytes}
use Rattle.cpp_press_laws.proofs.Fits.Types.{may-closed}
use Rattle.cpp_press_laws.proofs.Fits.Lists.{ParametersFit}
use Rattle.cpp_press_laws.proofs.Fits.Names.{PieceFits}
use Rattle.cpp_press_laws.proofs.Fits.Encodings.{stands-moved, functions-bare}

-- ## Pieces without parts

pub source-fits : (around : Around) (internal : Bool) (name : List ℕ) (state : State) → IsSpellableName name
    → PieceFits around (source internal name) state state
unfolding fits_of piece_fits fits_nowhere ways_of piece_ways no_ways is_open
source-fits around internal name state good =
    text-fitted around ((fits_of (source internal name)).as_piece) (cond internal (codes "L") [] ++ counted name) (source internal name)
    state
    (λ n allowed place cs. good) (λ n allowed. may-closed (pressed_at n around) allowed (source internal name) refl)

pub operator-fits : (around : Around) (a b : ℕ) (state : State) → a < 256 → b < 256 → IsOperator a b
    → PieceFits around (operator a b) state state
unfolding fits_of piece_fits fits_nowhere ways_of piece_ways no_ways is_open
operator-fits around a b state small also is =
    text-fitted around ((fits_of (operator a b)).as_piece) (a ∷ b ∷ []) (operator a b) state (λ n allowed place cs. (small, also, is))
    (λ n allowed. may-closed (pressed_at n around) allowed (operator a b) refl)

pub literal-operator-fits : (around : Around) (name : List ℕ) (state : State) → IsSpellableName name
    → PieceFits around (literal_operator name) state state
unfolding fits_of piece_fits fits_nowhere ways_of piece_ways no_ways is_open
literal-operator-fits around name state good =
    text-fitted around ((fits_of (literal_operator name)).as_piece) (codes "li" ++ counted name) (literal_operator name) state
    (λ n allowed place cs. good) (λ n allowed. may-closed (pressed_at n around) allowed (literal_operator name) refl)

pub constructor-fits : (around : Around) (digit : ℕ) (state : State) → digit < 256
    → choose Kind.ConstructorDigit digit ≡ Some Production.Mark
    → PieceFits around (constructor digit) state state
unfolding fits_of piece_fits fits_nowhere ways_of piece_ways no_ways is_open
constructor-fits around digit state small chosen =
    text-fitted around ((fits_of (constructor digit)).as_piece) (codes "C" ++ digit ∷ []) (constructor digit) state
    (λ n allowed place cs. (small, chosen)) (λ n allowed. may-closed (pressed_at n around) allowed (constructor digit) refl)

pub destructor-fits : (around : Around) (digit : ℕ) (state : State) → digit < 256 → choose Kind.ComponentAfterD digit ≡ Some Production.Mark
    → PieceFits around (destructor digit) state state
unfolding fits_of piece_fits fits_nowhere ways_of piece_ways no_ways is_open
destructor-fits around digit state small chosen =
    text-fitted around ((fits_of (destructor digit)).as_piece) (codes "D" ++ digit ∷ []) (destructor digit) state
    (λ n allowed place cs. (small, chosen)) (λ n allowed. may-closed (pressed_at n around) allowed (destructor digit) refl)

pub string-literal-fits : (around : Around) (state : State) → PieceFits around string_literal state state
unfolding fits_of piece_fits fits_nowhere ways_of piece_ways no_ways is_open
string-literal-fits around state =
    text-fitted around ((fits_of string_literal).as_piece) (codes "s") string_literal state
    (λ n allowed place cs. tt) (λ n allowed. may-closed (pressed_at n around) allowed string_literal refl)

pub unnamed-fits : (around : Around) (k : ℕ) (state : State) → IsLocalNumber k → PieceFits around (unnamed k) state state
unfolding fits_of piece_fits fits_nowhere ways_of piece_ways no_ways is_open
unnamed-fits around k state good =
    text-fitted around ((fits_of (unnamed k)).as_piece) (codes "Ut" ++ ordinal (k - 1)) (unnamed k) state
    (λ n allowed place cs. good) (λ n allowed. may-closed (pressed_at n around) allowed (unnamed k) refl)

-- ## Lambdas

-- each candidate has no free parameters, or was made in an encoding that begins later
abbrev pub ShutOrInside : ℕ → List Candidate → Type 0
ShutOrInside encoding [] = Unit {0}
ShutOrInside encoding (c ∷ cs) = ((is_open c.tree ≡ false) ⊎ (encoding < c.encoding)) × ShutOrInside encoding cs

functions-shut : (scope : Option Term) (read : ℕ) (olds more : List Candidate) → ShutOrInside read more → FunctionsStand scope read olds
    → FunctionsStand None read (olds ++ more) → FunctionsStand scope read (olds ++ more)
functions-shut scope read [] [] shut before inner = tt
functions-shut scope read [] (c ∷ cs) shut before inner = (
  λ may. (
      let closed : is_open c.tree ≡ false = go may shut.0 in
      stands-moved None scope c.tree (inr closed) (inner.0 (inl closed))),
  functions-shut scope read [] cs shut.1 before inner.1,
)
  where
    go : (is_open c.tree ≡ false) ⊎ (c.encoding ≡ read) → (is_open c.tree ≡ false) ⊎ (read < c.encoding) → is_open c.tree ≡ false
    go (inl closed) other = closed
    go (inr here) (inl closed) = closed
    go (inr here) (inr later) = absurd (omega (arith, here, later))
functions-shut scope read (c ∷ cs) more shut before inner = (before.0, functions-shut scope read cs more shut before.1 inner.1)

-- what fits in a lambda's signature fits in the lambda; no candidate of the lambda's encoding with free parameters is added
pub signature-fitted : (around : Around) (F : Fitting) (s : ℕ → Spelling) (t whole : Term) (old new : State) (more : List Candidate)
    → is_open whole ≡ is_open t → new.candidates ≡ old.candidates ++ more → ShutOrInside around.encoding more
    → Fitted (in_signature around) F s t old new → Fitted around (λ inner. F (in_signature inner)) s whole old new
unfolding in_signature
signature-fitted around F s t whole old new more same grows shut one = record {
  stay = one.stay;
  fits = λ n place cs allowed front allows. (
      let p = one.fits n place cs allowed (record {
        later = front.later;
        complete = front.complete;
        among = front.among;
        functions = functions-bare around.scope around.encoding old.candidates front.functions;
      }) allows in
      record {
        fits = p.fits;
        may = may-closed (pressed_at n around) allowed whole (same ∙ sym (and-true (is_open t)) ∙ p.may.lambda);
        complete = p.complete;
        among = p.among;
        functions = subst (FunctionsStand around.scope around.encoding) (sym grows)
            (functions-shut around.scope around.encoding old.candidates more shut front.functions
            (subst (FunctionsStand None around.encoding) grows p.functions));
      });
}

pub lambda-fits : (around : Around) (t : Term) (k : ℕ) (old new : State) (more : List Candidate) → new.candidates ≡ old.candidates ++ more
    → ShutOrInside around.encoding more → IsLocalNumber k → ParametersFit (in_signature around) item_type t old new
    → PieceFits around (lambda t k) old new
unfolding fits_of piece_fits fits_nowhere ways_of piece_ways no_ways is_open
lambda-fits around t k old new more grows shut good one =
    let whole : Term = lambda t k in
    let end : List ℕ = codes "E" ++ ordinal (k - 1) in
    let s : ℕ → Spelling = λ n. (ways_of n t).as_parameters in
    refitted (bytes-fitted (codes "Ul") (fitted-bytes end
    (signature-fitted around ((fits_of t).as_parameters item_type) s t whole old new more refl grows shut one)))
    (λ n allowed place cs fits. (fits, good))

-- ## Which pieces are where

pub type-begins : (p : Term) → names_type p ≡ true → begins_name p ≡ true
unfolding names_type begins_name
type-begins (source internal name) names = refl
type-begins p names = names

pub begins-function : (p : Term) → begins_name p ≡ true → names_function p ≡ true
unfolding names_function begins_name
begins-function (operator a b) names = refl
begins-function (literal_operator name) names = refl
begins-function p names = names

pub function-member : (p : Term) → names_function p ≡ true → names_member p ≡ true
unfolding names_function names_member
function-member (constructor digit) names = refl
function-member (destructor digit) names = refl
function-member p names = names

pub begins-entity : (p : Term) → begins_name p ≡ true → names_entity p ≡ true
unfolding names_entity begins_name
begins-entity string_literal names = refl
begins-entity p names = names
