-- The table is compared with the definition at each of the 256 bytes, by computing.
use Rattle.rust_direct.proofs.Basics.{◌≡◌, ℕ, ◌<◌, Bool, true, false, map, cond, get_or, refl, ap, ◌∙◌, arith, not, ◌==◌, get_or-map-range_with_len, range_with_len, is_namespace}
use Rattle.rust_direct.specs.declared.tokens.TheConstants.{LETTERS}
use Rattle.rust_direct.proofs.tokens.is_namespace.Goals as goal

-- the table's entry for a byte, by whether the byte passes
unfoldable entry : Bool → ℕ
entry b = cond b 1 0

abbrev mark : ℕ → ℕ
mark byte = entry (is_namespace byte)

table_is : LETTERS ≡ map mark (range_with_len 0 256)
unfolding entry is_namespace
table_is = refl

read : (byte : ℕ) → byte < 256 → get_or LETTERS byte 0 ≡ mark byte
read byte h = ap (λ t. get_or t byte 0) table_is ∙ get_or-map-range_with_len mark 0 256 byte byte 0 h (omega arith)

some : (b : Bool) → not (entry b == 0) ≡ b
unfolding entry
some true = refl
some false = refl

pub returns : goal.returns
returns c = ap (λ n. not (n == 0)) (read c.args.byte (omega arith)) ∙ some (is_namespace c.args.byte)
