-- A suffix that a compiler added to a symbol, as GNU's demangler spells it.
use Rattle.std.specs.Prelude.{ℕ, List, [], ◌∷◌, ◌++◌, ◌-◌, Bool, not, ◌&&◌, nat_eq, length, take, drop, get_or, codes, if◌then◌else◌}
use Rattle.std.specs.List.{starts_with, ends_with, list_all}
use Rattle.short_names.specs.Runs.{is_letter, is_between}

-- the suffix with its dot, between ` (` and `)` at the end of a text
abbrev pub suffix_of : List ℕ → List ℕ
suffix_of text = take (length text - 3) (drop 2 text)

-- a text is a suffix between ` (` and `)`
unfoldable pub is_suffix : List ℕ → Bool
is_suffix text = starts_with nat_eq text (codes " (.") && ends_with nat_eq text (codes ")") && list_all is_letter (suffix_of text)

-- a text begins with a part of a suffix: with a dot that no digit follows
unfoldable pub begins_part : List ℕ → Bool
begins_part text = starts_with nat_eq text (codes ".") && not (is_between 48 57 (get_or text 1 0))

-- what is written for the first byte of a text: each part has brackets of its own
abbrev pub letter_bytes : List ℕ → List ℕ
letter_bytes text = if begins_part text then codes "] [clone ." else take 1 text

-- what is written for the bytes after a suffix's first byte
unfoldable pub parted : List ℕ → List ℕ
parted [] = []
parted (byte ∷ text) = letter_bytes (byte ∷ text) ++ parted text

-- all that is written for a suffix
abbrev pub clones : List ℕ → List ℕ
clones suffix = codes " [clone ." ++ parted (drop 1 suffix) ++ codes "]"
