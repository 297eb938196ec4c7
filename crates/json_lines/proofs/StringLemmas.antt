-- How the bytes of a text without control characters are written in a string.
use Rattle.json_lines.proofs.Basics.{◌≡◌, ◌≢◌, ◌∙◌, ◌<◌, refl, ap, ap₂, ℕ, suc, arith, Bool, List, [], ◌∷◌, ◌++◌, ◌==◌, ◌||◌, false, inl, inr, cond, codes, nat_lt, All, escape, escape_byte, escape_letter, escaped, escaped_byte, IsPrinted, code_escape}
use Rattle.std.proofs.lemmas.Bool.{cases_Bool, le-ltb, lt-ltb, ne_eqb}

-- a byte whose escape has no letter
no-letter : (byte : ℕ) → (byte == 34 || byte == 92) ≡ false → (byte == 8) ≡ false → (byte == 12) ≡ false → (byte == 10) ≡ false → (byte == 13) ≡ false → (byte == 9) ≡ false → escape_letter byte ≡ 0
no-letter byte plain b f n r t = rw plain (rw b (rw f (rw n (rw r (rw t refl)))))

printed-letter : (byte : ℕ) → 31 < byte → (byte == 34 || byte == 92) ≡ false → escape_letter byte ≡ 0
printed-letter byte printed plain =
    no-letter byte plain (ne_eqb byte 8 (λ e. omega (arith, e, printed))) (ne_eqb byte 12 (λ e. omega (arith, e, printed))) (ne_eqb byte 10 (λ e. omega (arith, e, printed)))
    (ne_eqb byte 13 (λ e. omega (arith, e, printed))) (ne_eqb byte 9 (λ e. omega (arith, e, printed)))

-- a byte whose escape has the byte itself as its letter
with-letter : (byte letter : ℕ) (other : List ℕ) → letter ≡ byte → 31 < byte → cond (nat_lt 0 letter) (92 ∷ letter ∷ []) other ≡ 92 ∷ byte ∷ []
with-letter byte letter other is printed = rw is (ap (λ (b : Bool). cond b (92 ∷ byte ∷ []) other) (lt-ltb 0 byte (omega (arith, printed))))

-- a byte without an escape
without-letter : (byte letter : ℕ) (first other : List ℕ) → letter ≡ 0 → 31 < byte → cond (nat_lt 0 letter) first (cond (nat_lt byte 32) other (byte ∷ [])) ≡ byte ∷ []
without-letter byte letter first other is printed =
    ap (λ (n : ℕ). cond (nat_lt 0 n) first (cond (nat_lt byte 32) other (byte ∷ []))) is ∙ ap (λ (b : Bool). cond b other (byte ∷ [])) (le-ltb byte 32 (omega (arith, printed)))

pub escape-byte : (byte : ℕ) → 31 < byte → escape_byte byte ≡ escaped_byte byte
unfolding escape_byte
escape-byte byte printed = elim (cases_Bool (byte == 34 || byte == 92)) [
  | inl is ↦ with-letter byte (escape_letter byte) _ (rw is refl) printed ∙ rw is refl
  | inr not ↦ without-letter byte (escape_letter byte) _ _ (printed-letter byte printed not) printed ∙ rw not refl
]

-- a control character whose escape has no letter
pub control-code : (byte : ℕ) → byte < 32 → byte ≢ 8 → byte ≢ 9 → byte ≢ 10 → byte ≢ 12 → byte ≢ 13 → escape_byte byte ≡ code_escape byte
unfolding escape_byte
control-code byte control b t n f r =
    let plain : (byte == 34 || byte == 92) ≡ false =
    ap₂ (λ (x y : Bool). x || y) (ne_eqb byte 34 (λ e. omega (arith, e, control))) (ne_eqb byte 92 (λ e. omega (arith, e, control))) in
    ap (λ (letter : ℕ). cond (nat_lt 0 letter) (92 ∷ letter ∷ []) (cond (nat_lt byte 32) (code_escape byte) (byte ∷ [])))
    (no-letter byte plain (ne_eqb byte 8 b) (ne_eqb byte 12 f) (ne_eqb byte 10 n) (ne_eqb byte 13 r) (ne_eqb byte 9 t))
    ∙ ap (λ (b : Bool). cond b (code_escape byte) (byte ∷ [])) (lt-ltb byte 32 control)

-- control characters whose escape has a letter
pub backspace : escape_byte 8 ≡ codes "\\b"
unfolding escape_byte
backspace = refl

pub tab : escape_byte 9 ≡ codes "\\t"
unfolding escape_byte
tab = refl

pub newline : escape_byte 10 ≡ codes "\\n"
unfolding escape_byte
newline = refl

pub feed : escape_byte 12 ≡ codes "\\f"
unfolding escape_byte
feed = refl

pub return : escape_byte 13 ≡ codes "\\r"
unfolding escape_byte
return = refl

pub escape-text : (text : List ℕ) → All IsPrinted text → escape text ≡ escaped text
escape-text [] all = refl
escape-text (byte ∷ text) all =
    ap₂ (λ (first rest : List ℕ). first ++ rest) (escape-byte byte (all 0 byte (omega arith))) (escape-text text (λ k d lt. all (suc k) d (omega (arith, lt))))
