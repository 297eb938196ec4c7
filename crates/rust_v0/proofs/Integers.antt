-- An integer's digits, and how long its decimal is.
use Rattle.rust_v0.proofs.Basics.{◌≡◌, refl, ap, sym, ◌∙◌, ℕ, zero, suc, ◌+◌, ◌-◌, ◌*◌, ◌<◌, ◌≤◌, List, [], ◌∷◌, length, length-append, take, drop, Bool, true, false, arith, ◌^◌, decimal, drop-take, drop-drop, AreDigits, signed_text, Hex}
use Rattle.sym_core.specs.Value.{value_of}
use Rattle.sym_core.proofs.Horner.{hex-decimal-few}

pub digits_behind : (from to zeros : ℕ) (s : List ℕ) → zeros ≤ to - from
    → take (to - (from + zeros)) (drop (from + zeros) s) ≡ drop zeros (take (to - from) (drop from s))
digits_behind from to zeros s within =
    let split : to - from ≡ zeros + (to - (from + zeros)) = omega (arith, within) in
    sym (
    ap (λ k. drop zeros (take k (drop from s))) split
    ∙ drop-take zeros (to - (from + zeros)) (drop from s)
    ∙ ap (λ l. take (to - (from + zeros)) l) (drop-drop zeros from s)
    )

-- the digits after the first ones are digits, too
pub digits_left : (n : ℕ) (ds : List ℕ) → AreDigits Hex ds → AreDigits Hex (drop n ds)
digits_left zero ds are = are
digits_left (suc n) [] are = are
digits_left (suc n) (d ∷ ds) are = digits_left n ds are.1

pub text_few : (minus : Bool) (ds : List ℕ) → AreDigits Hex ds → value_of Hex ds < 2 ^ 128 → 0 < value_of Hex ds
    → length (signed_text minus (value_of Hex ds)) ≤ 4 * length ds
text_few minus [] are wide more = absurd (omega (arith, more))
text_few true (d ∷ ds) are wide more = omega (arith, hex-decimal-few (d ∷ ds) are wide, length-append (45 ∷ []) (decimal (value_of Hex (d ∷ ds))))
text_few false (d ∷ ds) are wide more = omega (arith, hex-decimal-few (d ∷ ds) are wide)

-- the digits pay for the decimal; the decimal of zero costs nothing
pub digits_pay : (old new v n : ℕ) (minus : Bool) (ds : List ℕ) → AreDigits Hex ds → v ≡ value_of Hex ds → v < 2 ^ 128 → length ds ≡ n
    → (v ≡ 0 → new ≡ old) → new ≤ old + length (signed_text minus v) → new ≤ old + 4 * n
digits_pay old new zero n minus ds are is wide count none few = omega (arith, none refl)
digits_pay old new (suc v) n minus ds are is wide count none few =
    let same : length (signed_text minus (suc v)) ≡ length (signed_text minus (value_of Hex ds)) = ap (λ k. length (signed_text minus k)) is in
    omega (arith, few, count, same, text_few minus ds are (omega (arith, is, wide)) (omega (arith, is)))
