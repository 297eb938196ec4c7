-- What is answered where the pressed spelling of a symbol is requested.
use Rattle.std.specs.Prelude.{◌≡◌, ℕ, ◌*◌, ◌≤◌, List, length, Result, Ok, Err}
use Rattle.std.proofs.Common.{sym, ap, ◌∙◌}
use Rattle.sym_core.specs.declared.refusal.Refusal.{Refusal}
use Rattle.sym_core.specs.declared.refusal.Refusal.TheVariants.{Malformed}
use Rattle.sym_core.specs.Number.{FitsSymbol}
use Rattle.sym_shape.specs.Decided.{AreBytes}
use Rattle.sym_shape.proofs.Deciding.{outcome, outcome_shaped, outcome_malformed}
use Rattle.sym_demangle.specs.Mangled.{Mangled, IsReading, misshapen, well_shaped}

-- the answer that follows from what a symbol is read as: the pressed spelling of its tree, or the reason why the symbol
-- isn't read
abbrev pub pressed_if_read : {W : Type 0} → (pressed : W → List ℕ) → Result W Refusal → Result (List ℕ) Refusal
pressed_if_read pressed (Ok whole) = Ok (pressed whole)
pressed_if_read pressed (Err refusal) = Err refusal

-- The answer to a symbol of a mangling whose trees have these pressed spellings: the answer for what its shape denotes, or the refusal at
-- its first bad byte. There is no limit. A list of numbers that aren't all bytes is refused at once.
unfoldable pub pressed_answer : {W : Type 0} → Mangled W → (pressed : W → List ℕ) → List ℕ → Result (List ℕ) Refusal
pressed_answer m pressed s =
    outcome m.table m.lawful (λ shape. pressed_if_read pressed (m.unfolded shape)) (λ at. Err (Malformed at)) (Err (Malformed 0)) s

-- the tree or the refusal that a symbol is read as decides the symbol's answer
abbrev pub ReadingIsPressed : {W : Type 0} → Mangled W → (pressed : W → List ℕ) → Type 0
ReadingIsPressed {W = W} m pressed =
    (s : List ℕ) (result : Result W Refusal) → AreBytes s → IsReading m s result → pressed_answer m pressed s ≡ pressed_if_read pressed result

pub reading_pressed : {W : Type 0} (m : Mangled W) (pressed : W → List ℕ) → ReadingIsPressed m pressed
unfolding pressed_answer
reading_pressed m pressed s result bytes (misshapen at bad e) =
    outcome_malformed m.table m.lawful (λ shape. pressed_if_read pressed (m.unfolded shape)) (λ at. Err (Malformed at)) (Err (Malformed 0)) s at bytes bad
    ∙ ap (pressed_if_read pressed) (sym e)
reading_pressed m pressed s result bytes (well_shaped (shape, is, text, e)) =
    outcome_shaped m.table m.lawful (λ shape. pressed_if_read pressed (m.unfolded shape)) (λ at. Err (Malformed at)) (Err (Malformed 0)) s shape bytes is text
    ∙ ap (pressed_if_read pressed) (sym e)

-- The answer to a symbol that fits has at most this many bytes for each byte of the symbol.
abbrev pub AnswersAreShort : {W : Type 0} → Mangled W → (pressed : W → List ℕ) → (a_byte : ℕ) → Type 0
AnswersAreShort m pressed a_byte =
    (s text : List ℕ) → FitsSymbol s → AreBytes s → pressed_answer m pressed s ≡ Ok text → length text ≤ a_byte * length s
