-- The table agrees with the definition at each of the 256 bytes, by computing.
use Rattle.short_names.proofs.Basics.{◌≡◌, ℕ, ◌==◌, ◌<◌, Bool, true, false, map, cond, get_or, refl, ap, ◌∙◌, arith, range_with_len, is_letter}
use Rattle.std.proofs.lemmas.List.FromFn.{get_or-map-range_with_len}
use Rattle.short_names.specs.declared.runs.TheConstants.{LETTERS}
use Rattle.short_names.proofs.runs.is_letter.Goals as goal

abbrev mark : ℕ → ℕ
mark byte = cond (is_letter byte) 49 48

table_is : LETTERS ≡ map mark (range_with_len 0 256)
unfolding is_letter
table_is = refl

marked : (b : Bool) → (cond b 49 48 == 49) ≡ b
marked true = refl
marked false = refl

read : (byte : ℕ) → byte < 256 → (get_or LETTERS byte 0 == 49) ≡ is_letter byte
read byte h =
    ap (λ (n : ℕ). n == 49) (ap (λ t. get_or t byte 0) table_is ∙ get_or-map-range_with_len mark 0 256 byte byte 0 h (omega arith))
    ∙ marked (is_letter byte)

pub returns : goal.returns
returns c = read c.args.byte (omega arith)
