-- Classes of bytes that are examined while a symbol is read from left to right.
use Rattle.std.specs.Prelude.{ℕ, Bool, ◌||◌, ◌&&◌, nat_le, codes}
use Rattle.cpp_grammar.specs.Grammar.{among}
use Rattle.cpp_direct.specs.Letters.{integer_letters, special_letters}

-- the letter of a builtin type that an integer in an argument may have
unfoldable pub is_integer_letter : ℕ → Bool
is_integer_letter byte = among integer_letters byte

-- the letter of a special object that belongs to a type, after a T
unfoldable pub is_special_letter : ℕ → Bool
is_special_letter byte = among special_letters byte

-- a byte of a suffix, after its dot
unfoldable pub is_suffix_byte : ℕ → Bool
is_suffix_byte byte =
    (nat_le 48 byte && nat_le byte 57) || (nat_le 65 byte && nat_le byte 90) || (nat_le 97 byte && nat_le byte 122) || among (codes "$._") byte
