-- The table is compared with the definition at each of the 256 bytes, by computing.
use Rattle.rust_direct.proofs.Basics.{◌≡◌, ◌≤◌, ℕ, ◌<◌, Bool, true, false, map, cond, get_or, refl, sym, ap, ◌∙◌, arith, subst, get_or-map-range_with_len, range_with_len, is_name_byte, Rust, BARRED}
use Rattle.rust_direct.proofs.names.barred.Goals as goal

-- the table's entry for a byte, by whether the byte may be in a name
unfoldable entry : Bool → ℕ
entry b = cond b 0 1

abbrev mark : ℕ → ℕ
mark byte = entry (is_name_byte Rust byte)

table_is : BARRED ≡ map mark (range_with_len 0 256)
unfolding entry
table_is = refl

few : (b : Bool) → entry b ≤ 1
unfolding entry
few true = omega arith
few false = omega arith

none : (b : Bool) → entry b ≡ 0 → b ≡ true
unfolding entry
none true e = refl
none false e = absurd (omega (arith, e))

read : (byte : ℕ) → byte < 256 → get_or BARRED byte 0 ≡ mark byte
read byte h = ap (λ t. get_or t byte 0) table_is ∙ get_or-map-range_with_len mark 0 256 byte byte 0 h (omega arith)

pub returns-clause-few : goal.returns-clause-few
returns-clause-few c = subst (λ n. n ≤ 1) (sym (read c.args.byte (omega arith))) (few (is_name_byte Rust c.args.byte))

pub returns-clause-none : goal.returns-clause-none
returns-clause-none c = λ e. none (is_name_byte Rust c.args.byte) (sym (read c.args.byte (omega arith)) ∙ e)
