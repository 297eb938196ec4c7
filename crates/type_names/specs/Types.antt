-- Names that are C++ types, as `typeid(x).name()` gives them.
use Rattle.std.specs.Prelude.{ℕ, List, ◌++◌, ◌-◌, length, take, drop, Bool, not, ◌==◌, ◌&&◌, nat_eq, nat_le, Option, None, Result, Ok, Err, codes, if◌then◌else◌}
use Rattle.std.specs.Cmp.Lexicographic.{pointwise}
use Rattle.std.specs.List.{list_all}
use Rattle.std.specs.Result.{result_ok}
use Rattle.sym_core.specs.declared.refusal.Refusal.{Refusal}
use Rattle.sym_core.specs.declared.refusal.Refusal.TheVariants.{Malformed, BadReference, BadValue, TooLong, Memory}
use Rattle.sym_filter.specs.declared.kinds.Lang.TheVariants.{Cpp}
use Rattle.sym_filter.specs.declared.kinds.Letters.TheVariants.{Any}
use Rattle.sym_filter.specs.declared.kinds.TheConstants.{LONGEST_WORD}
use Rattle.sym_filter.specs.Bytes.{is_byte_of}
use Rattle.sym_filter.specs.Runs.{Answering}

-- the bytes of a type: the bytes of words, except the dot, which begins a symbol's suffix
abbrev pub is_type_byte : ℕ → Bool
is_type_byte byte = is_byte_of Any byte && not (byte == 46)

-- a name that can be a type is at most as long as a word may be
abbrev pub is_type_word : List ℕ → Bool
is_type_word name = nat_le (length name) LONGEST_WORD && list_all is_type_byte name

-- the beginning of the text of each typeinfo symbol
abbrev pub information_words : List ℕ
information_words = codes "typeinfo for "

-- the text after `information_words`, with which the text of each typeinfo symbol begins
abbrev pub after_words : List ℕ → Result (List ℕ) Refusal
after_words text =
    if pointwise nat_eq (take (length information_words) text) information_words then Ok (drop (length information_words) text) else Err (Malformed 0)

-- the refusal of a type, given that of its typeinfo symbol: the place is counted from the type, which begins after the
-- four bytes `_ZTI`
abbrev pub before_front : Refusal → Refusal
before_front (Malformed at) = Malformed (at - 4)
before_front (BadReference at) = BadReference (at - 4)
before_front (BadValue at) = BadValue (at - 4)
before_front TooLong = TooLong
before_front Memory = Memory

-- the answer for a type, given the answer for its typeinfo symbol
abbrev pub type_by : Result (List ℕ) Refusal → Result (List ℕ) Refusal
type_by (Ok text) = after_words text
type_by (Err refusal) = Err (before_front refusal)

-- The text of a type: that of its typeinfo symbol without the words at its front. Where that symbol is refused, the type is refused
-- for the same reason, at a place that is counted from the type's own first byte. Limit and references are those of the symbol.
abbrev pub type_answer : Answering → List ℕ → Result (List ℕ) Refusal
type_answer answers name = type_by (answers (record { lang = Cpp; skip = 0 }) (codes "_ZTI" ++ name))

-- the text of a type, if it has one
abbrev pub type_text : Answering → List ℕ → Option (List ℕ)
type_text answers name = result_ok (type_answer answers name)

-- the text of a name as a type, if types are read and the name is one
unfoldable pub type_for : (types : Bool) → Answering → List ℕ → Option (List ℕ)
type_for types answers name = if types && is_type_word name then type_text answers name else None
