-- Impossible answers of a move.
use Rattle.sym_link.proofs.Basics.{◌≡◌, ◌∙◌, ℕ, List, [], ◌∷◌, ◌++◌, length, length-append, Option, Some, Result, Ok, Err, ap, sym, arith, None, IsErrAnd, Refusal, never_ok}

-- an answer with a next row isn't the answer that nothing is left to do
pub never_some : (next : ℕ) → ◌≡◌ {A = Result (Option ℕ) Refusal} (Ok (Some next)) (Ok None) → ⊥
never_some next is =
    let some : ◌≡◌ {A = Option ℕ} (Some next) None = cc in
    cc

-- a refusal isn't the answer that nothing is left to do
pub refused_still : (P : Refusal → Type 0) (result : Result (Option ℕ) Refusal) → IsErrAnd result P → result ≡ Ok None → ⊥
refused_still P (Ok behind) is none = is
refused_still P (Err refusal) is none = never_ok (Option ℕ) refusal None none

-- a list with an innermost frame isn't empty
pub some_open : {F : Type 0} (lower : List F) (frame : F) (frames : List F) → frames ≡ lower ++ frame ∷ [] → frames ≡ [] → ⊥
some_open lower frame frames is none = omega (arith, ap (λ fs. length fs) (sym is ∙ none), length-append lower (frame ∷ []))
