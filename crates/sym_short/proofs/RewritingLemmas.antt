-- A text that was appended and then rewritten is the text of the rewritten answer.
use Rattle.std.proofs.Common.{◌≡◌, ◌∙◌, ap, ap₂, refl, ℕ, List, ◌++◌, length, take, drop, Result, Ok, Err}
use Rattle.std.proofs.Math.Seq.{drop-append_seam, take-append_seam}
use Rattle.sym_core.specs.declared.refusal.Refusal.{Refusal}
use Rattle.sym_short.specs.Rewriting.{with_text}

take-front : (old text mid : List ℕ) (from : ℕ) → mid ≡ old ++ text → from ≡ length old → take from mid ≡ old
take-front old text mid from is at = ap₂ (λ (n : ℕ) (l : List ℕ). take n l) at is ∙ take-append_seam old text

drop-front : (old text mid : List ℕ) (from : ℕ) → mid ≡ old ++ text → from ≡ length old → drop from mid ≡ text
drop-front old text mid from is at = ap₂ (λ (n : ℕ) (l : List ℕ). drop n l) at is ∙ drop-append_seam old text

-- a text that was appended and then rewritten is the answer's rewritten text
pub is-rewritten : (answer : Result (List ℕ) Refusal) (rewritten : List ℕ → List ℕ) (old text mid new : List ℕ) (from : ℕ) → answer ≡ Ok text → mid ≡ old ++ text → from ≡ length old
    → new ≡ take from mid ++ rewritten (drop from mid)
    → (made : List ℕ) × (with_text rewritten answer ≡ Ok made) × (new ≡ old ++ made)
is-rewritten answer rewritten old text mid new from answered is at made = (
  rewritten text,
  ap (with_text rewritten) answered,
  made ∙ ap₂ (λ (f b : List ℕ). f ++ rewritten b) (take-front old text mid from is at) (drop-front old text mid from is at),
)

-- where each text stays, so does the answer
pub is-kept : (answer : Result (List ℕ) Refusal) (rewritten : List ℕ → List ℕ) → ((text : List ℕ) → rewritten text ≡ text) → with_text rewritten answer ≡ answer
is-kept (Ok text) rewritten stays = ap Ok (stays text)
is-kept (Err refusal) rewritten stays = refl
