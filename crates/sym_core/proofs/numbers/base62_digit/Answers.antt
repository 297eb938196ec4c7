-- The table is compared with the definitions at each of the 256 bytes, by computing.
use Rattle.sym_core.proofs.Basics.{◌≡◌, ℕ, ◌<◌, Bool, true, false, map, cond, get_or, nat_lt, refl, sym, ap, ◌∙◌, arith, nat_tests, get_or-map-range_with_len, range_with_len, is_digit_of, digit_value, Base62}
use Rattle.sym_core.specs.declared.numbers.TheConstants.{BASE62_DIGITS}
use Rattle.sym_core.proofs.numbers.base62_digit.Goals as goal

abbrev count : ℕ → ℕ
count byte = cond (is_digit_of Base62 byte) (digit_value Base62 byte) 62

abbrev is_below : ℕ → Bool
is_below byte = nat_lt (get_or BASE62_DIGITS byte 0) 62

table_is : BASE62_DIGITS ≡ map count (range_with_len 0 256)
table_is = refl

digits_are : map is_below (range_with_len 0 256) ≡ map (is_digit_of Base62) (range_with_len 0 256)
digits_are = refl

read : (byte : ℕ) → byte < 256 → get_or BASE62_DIGITS byte 0 ≡ count byte
read byte h = ap (λ t. get_or t byte 0) table_is ∙ get_or-map-range_with_len count 0 256 byte byte 0 h (omega arith)

told : (byte : ℕ) → byte < 256 → nat_lt (get_or BASE62_DIGITS byte 0) 62 ≡ is_digit_of Base62 byte
told byte h =
    sym (get_or-map-range_with_len is_below 0 256 byte byte false h (omega arith))
    ∙ ap (λ t. get_or t byte false) digits_are
    ∙ get_or-map-range_with_len (is_digit_of Base62) 0 256 byte byte false h (omega arith)

below : (n : ℕ) → nat_lt n 62 ≡ true → n < 62
below n h = grind (arith, nat_tests)

pub returns-clause-digit : goal.returns-clause-digit
returns-clause-digit c = told c.args.byte (omega arith)

pub returns-clause-value : goal.returns-clause-value
returns-clause-value c = λ is. read c.args.byte (omega arith) ∙ ap (λ b. cond b (digit_value Base62 c.args.byte) 62) is

pub returns-clause-below : goal.returns-clause-below
returns-clause-below c = λ is. below (get_or BASE62_DIGITS c.args.byte 0) (told c.args.byte (omega arith) ∙ is)
