-- A printer answers the text, if the text costs at most the limit.
use Rattle.sym_print.proofs.Basics.{◌≡◌, ℕ, ◌<◌, ◌≤◌, Bool, true, false, List, Result, Ok, Err, ap, ◌∙◌, sym, le-leb, lt-leb, Refusal, Unshared, text_of, cost_of}
use Rattle.sym_print.specs.Answer.{text_within}

chosen : Bool → Unshared → Result (List ℕ) Refusal
chosen b parts = elim b [ true ↦ Ok (text_of parts) | false ↦ Err Refusal.TooLong ]

-- `print` answers the text, if it costs at most the limit
pub text_within-ok : (limit : ℕ) (parts : Unshared) (text : List ℕ) → text ≡ text_of parts → cost_of parts ≤ limit → text_within limit parts ≡ Ok text
unfolding chosen
text_within-ok limit parts text e h =
    let answered : List ℕ → Result (List ℕ) Refusal = λ t. Ok t in
    ap (λ b. chosen b parts) (le-leb (cost_of parts) limit h) ∙ ap answered (sym e)

-- `print` answers that the text is too long, if it costs more
pub text_within-too_long : (limit : ℕ) (parts : Unshared) → limit < cost_of parts → text_within limit parts ≡ Err Refusal.TooLong
unfolding chosen
text_within-too_long limit parts h = ap (λ b. chosen b parts) (lt-leb (cost_of parts) limit h)
