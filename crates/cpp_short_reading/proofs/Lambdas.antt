-- A lambda whose parameters are closed, and declare nothing, is the same by either grammar.
use Rattle.cpp_grammar.proofs.Basics.{◌≡◌, ap, ◌∙◌, ℕ, nil, Result, Ok, Refusal, Found, found, State, Value, piece, Bool, true, false, ◌||◌, refl, Term, lambda, generic_lambda, is_open, is_declaring, lambda_with}
use Rattle.cpp_short_reading.specs.Reading.{lambda_by}

pub closed-lambda : (is_wide : Bool) (parameters : Term) (number : ℕ) → is_declaring parameters ≡ false → is_open parameters ≡ false
    → lambda_by is_wide parameters number ≡ lambda parameters number
unfolding lambda_by lambda_with
closed-lambda false parameters number plain closed = refl
closed-lambda true parameters number plain closed =
    ap (λ b. elim b [ true ↦ generic_lambda parameters number | false ↦ lambda parameters number ]) (ap (λ b. b || is_open parameters) plain ∙ closed)

-- so is one without parameters
pub alone-closes : (is_wide : Bool) (number : ℕ) (state : State)
    → ◌≡◌ {A = Result (Found Value State) Refusal} (Ok (found (piece (lambda_by is_wide nil number)) state)) (Ok (found (piece (lambda nil number)) state))
unfolding lambda_by lambda_with is_declaring is_open
alone-closes true number state = refl
alone-closes false number state = refl
