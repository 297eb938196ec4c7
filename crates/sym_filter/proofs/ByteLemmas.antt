-- The table of bytes agrees with the definitions at each of the 256 bytes, by computing.
use Rattle.sym_filter.proofs.Basics.{◌≡◌, ℕ, ◌<◌, Bool, true, false, ◌&&◌, not, map, cond, get_or, leb, refl, sym, ap, ◌∙◌, arith, and-true, range_with_len, Any, Ascii, Within, is_run_byte, is_byte_of, closes, is_divider, RUN_BYTES}
use Rattle.std.proofs.lemmas.List.FromFn.{get_or-map-range_with_len}

abbrev pub mark : ℕ → ℕ
mark byte = cond (closes Within byte) 51 (cond (is_byte_of Ascii byte) 50 (cond (is_byte_of Any byte) 49 48))

table_is : RUN_BYTES ≡ map mark (range_with_len 0 256)
unfolding is_run_byte
table_is = refl

pub read : (byte : ℕ) → byte < 256 → get_or RUN_BYTES byte 0 ≡ mark byte
read byte h = ap (λ t. get_or t byte 0) table_is ∙ get_or-map-range_with_len mark 0 256 byte byte 0 h (omega arith)

-- a byte of runs, from 0x80 or not, a divider or not
of_any : (belongs high dot : Bool) → leb 49 (cond ((belongs && not high) && not dot) 51 (cond (belongs && not high) 50 (cond belongs 49 48))) ≡ belongs
of_any true true true = refl
of_any true true false = refl
of_any true false true = refl
of_any true false false = refl
of_any false high dot = refl

of_ascii : (belongs high dot : Bool) → leb 50 (cond ((belongs && not high) && not dot) 51 (cond (belongs && not high) 50 (cond belongs 49 48))) ≡ (belongs && not high)
of_ascii true true true = refl
of_ascii true true false = refl
of_ascii true false true = refl
of_ascii true false false = refl
of_ascii false high dot = refl

of_closing : (belongs high dot : Bool) → leb 51 (cond ((belongs && not high) && not dot) 51 (cond (belongs && not high) 50 (cond belongs 49 48))) ≡ ((belongs && not high) && not dot)
of_closing true true true = refl
of_closing true true false = refl
of_closing true false true = refl
of_closing true false false = refl
of_closing false high dot = refl

pub is_any : (byte : ℕ) → byte < 256 → leb 49 (get_or RUN_BYTES byte 0) ≡ is_byte_of Any byte
is_any byte h = ap (leb 49) (read byte h) ∙ of_any (is_run_byte byte) (leb 128 byte) (is_divider byte)

pub is_ascii : (byte : ℕ) → byte < 256 → leb 50 (get_or RUN_BYTES byte 0) ≡ is_byte_of Ascii byte
is_ascii byte h = ap (leb 50) (read byte h) ∙ of_ascii (is_run_byte byte) (leb 128 byte) (is_divider byte)

-- the table says which bytes close a word, where words are runs
pub any_closes : (byte : ℕ) → byte < 256 → leb 49 (get_or RUN_BYTES byte 0) ≡ closes Any byte
any_closes byte h = is_any byte h ∙ sym (and-true (is_byte_of Any byte))

pub ascii_closes : (byte : ℕ) → byte < 256 → leb 50 (get_or RUN_BYTES byte 0) ≡ closes Ascii byte
ascii_closes byte h = is_ascii byte h ∙ sym (and-true (is_byte_of Ascii byte))

pub is_closing : (byte : ℕ) → byte < 256 → leb 51 (get_or RUN_BYTES byte 0) ≡ closes Within byte
is_closing byte h = ap (leb 51) (read byte h) ∙ of_closing (is_run_byte byte) (leb 128 byte) (is_divider byte)
