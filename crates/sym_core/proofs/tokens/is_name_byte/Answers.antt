-- The table is compared with the definition at each of the 256 bytes, by computing.
use Rattle.sym_core.proofs.Basics.{◌≡◌, ℕ, ◌==◌, ◌<◌, Bool, true, false, map, cond, get_or, refl, sym, ap, ◌∙◌, arith, get_or-map-range_with_len, range_with_len, is_name_byte, Rust}
use Rattle.sym_core.specs.declared.tokens.TheConstants.{RUST_NAME_BYTES}
use Rattle.sym_core.proofs.tokens.is_name_byte.Goals as goal

abbrev mark : ℕ → ℕ
mark byte = cond (is_name_byte Rust byte) 49 48

table_is : RUST_NAME_BYTES ≡ map mark (range_with_len 0 256)
table_is = refl

marked : (b : Bool) → (cond b 49 48 == 49) ≡ b
marked true = refl
marked false = refl

read : (byte : ℕ) → byte < 256 → (get_or RUST_NAME_BYTES byte 0 == 49) ≡ is_name_byte Rust byte
read byte h =
    ap (λ (n : ℕ). n == 49) (ap (λ t. get_or t byte 0) table_is ∙ get_or-map-range_with_len mark 0 256 byte byte 0 h (omega arith))
    ∙ marked (is_name_byte Rust byte)

pub returns-in-Rust : goal.returns-in-Rust
returns-in-Rust c = read c.args.byte (omega arith) ∙ ap (λ names. is_name_byte names c.args.byte) (sym c.in-Rust.is)
