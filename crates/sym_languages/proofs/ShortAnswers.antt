-- The answers of pressing are short if each tree's pressed spelling is short.
use Rattle.sym_languages.proofs.Basics.{◌≡◌, ℕ, ◌*◌, ◌≤◌, inl, inr, length, List, Result, Ok, refl, sym, subst, ◌∙◌, Err, Refusal, Malformed, Decided, decided, Mangled, IsReading, misshapen, well_shaped, AnswersAreShort, reading_pressed}
use Rattle.sym_core.specs.Number.{FitsSymbol}

pub answers-short : {W : Type 0} (m : Mangled W) (pressed : W → List ℕ) (a_byte : ℕ)
    → ((whole : W) (s : List ℕ) → FitsSymbol s → IsReading m s (Ok whole) → length (pressed whole) ≤ a_byte * length s) → AnswersAreShort m pressed a_byte
answers-short {W = W} m pressed a_byte short s text fits bytes answered = go (decided m.table m.lawful s bytes)
  where
    one-text : {a b : List ℕ} → ◌≡◌ {A = Result (List ℕ) Refusal} (Ok a) (Ok b) → a ≡ b
    one-text h = cc

    refused : {a : List ℕ} {e : Refusal} → ◌≡◌ {A = Result (List ℕ) Refusal} (Ok a) (Err e) → ⊥
    refused h = cc

    read : (result : Result W Refusal) → IsReading m s result → length text ≤ a_byte * length s
    read (Ok whole) is = subst (λ l. length l ≤ a_byte * length s) (sym (one-text (sym answered ∙ reading_pressed m pressed s (Ok whole) bytes is))) (short whole s fits is)
    read (Err e) is = absurd (refused (sym answered ∙ reading_pressed m pressed s (Err e) bytes is))

    go : Decided m.table s → length text ≤ a_byte * length s
    go (inl (shape, is, spelled)) = read (m.unfolded shape) (well_shaped (shape, is, spelled, refl))
    go (inr (at, bad)) = read (Err (Malformed at)) (misshapen at bad refl)
