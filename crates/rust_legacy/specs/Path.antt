-- Which symbols are legacy Rust names, and which path each of them denotes.
use Rattle.std.specs.Prelude.{◌≡◌, ℕ, zero, suc, ◌+◌, ◌-◌, ◌<◌, ◌≤◌, ◌==◌, ◌&&◌, ◌||◌, not, nat_le, nat_lt, nat_eq, Bool, true, false, List, [], ◌∷◌, ◌++◌, length, take, drop, codes, Option, Some, None, if◌then◌else◌}
use Rattle.std.specs.List.{list_all, starts_with, prefix_len}
use Rattle.sym_core.specs.Number.{is_decimal_digit, is_upper_letter, is_lower_letter, is_digit_of}
use Rattle.sym_core.specs.Value.{value_of}
use Rattle.sym_core.specs.declared.NumberKind.TheVariants.{Length, Hex}
use Rattle.rust_legacy.specs.declared.path.PathPlace.{PathPlace}

abbrev pub begins_with : List ℕ → List ℕ → Bool
begins_with front bytes = starts_with nat_eq bytes front

-- the bytes of legacy names: letters, digits, _, . and $
abbrev pub is_legacy_byte : ℕ → Bool
is_legacy_byte byte = is_decimal_digit byte || is_upper_letter byte || is_lower_letter byte || (byte == 95) || (byte == 46) || (byte == 36)

-- ## Names

-- a name in a symbol: its bytes, and how many bytes of the symbol it takes, its length included
pub record Name : Type 0 where
  pub bytes : List ℕ
  pub size : ℕ

-- The name at the front: its length, which has one to nine digits and no zero in front, and then that many bytes. The length
-- takes all the digits, so the name's first byte isn't a digit.
abbrev pub name_in : List ℕ → Option Name
name_in s =
    let count = prefix_len is_decimal_digit s in
    let size = value_of Length (take count s) in
    if not (begins_with (codes "0") s) && nat_le count 9 && nat_lt 0 size && nat_le (count + size) (length s)
    then Some (record { bytes = take size (drop count s); size = count + size })
    else None

-- a path: its names, and the bytes after it
pub record Path : Type 0 where
  pub names : List (List ℕ)
  pub suffix : List ℕ

abbrev pub with_name : List ℕ → Option Path → Option Path
with_name name None = None
with_name name (Some path) = Some (record { names = name ∷ path.names; suffix = path.suffix })

-- the names at the front, and what follows the E that ends them. `depth` bounds their count; the number of bytes is enough, since
-- there are fewer names than bytes
abbrev pub names_in : (depth : ℕ) → List ℕ → Option Path
names_in zero s = None
names_in (suc depth) s =
    if begins_with (codes "E") s then Some (record { names = []; suffix = drop 1 s })
    else elim (name_in s) [ Some name ↦ with_name name.bytes (names_in depth (drop name.size s)) | None ↦ None ]

-- ## Paths

-- an h and sixteen digits, in lower case
abbrev pub is_hash : List ℕ → Bool
is_hash name = begins_with (codes "h") name && (length name == 17) && (prefix_len (is_digit_of Hex) (drop 1 name) == 16)

-- the names before the last one, if the last one is a hash
abbrev pub before_hash : List (List ℕ) → Option (List (List ℕ))
before_hash [] = None
before_hash (name ∷ []) = if is_hash name then Some [] else None
before_hash (name ∷ next ∷ rest) = elim (before_hash (next ∷ rest)) [ Some names ↦ Some (name ∷ names) | None ↦ None ]

-- the path that has these names before its hash; there has to be at least one name
abbrev pub path_before_hash : (suffix : List ℕ) → Option (List (List ℕ)) → Option Path
path_before_hash suffix (Some (name ∷ rest)) = Some (record { names = name ∷ rest; suffix = suffix })
path_before_hash suffix _ = None

abbrev pub path_in : (all : Option Path) → Option Path
path_in (Some all) = path_before_hash all.suffix (before_hash all.names)
path_in None = None

-- nothing, or a suffix: a dot and at least one more byte
abbrev pub is_suffix : List ℕ → Bool
is_suffix suffix = (length suffix == 0) || (begins_with (codes ".") suffix && nat_lt 1 (length suffix))

abbrev pub with_suffix : Option Path → Option Path
with_suffix (Some path) = if is_suffix path.suffix then Some path else None
with_suffix None = None

-- The path that a symbol denotes, if it is a legacy name: _ZN, one or more names, a hash, E, and a suffix or nothing; each byte
-- a letter, a digit, _, . or $.
unfoldable pub legacy_of : List ℕ → Option Path
legacy_of s = if begins_with (codes "_ZN") s && list_all is_legacy_byte s then with_suffix (path_in (names_in (length s) (drop 3 s))) else None

-- ## Places

-- these are the names from one place to another
abbrev pub AreNames : (s : List ℕ) → (from to : ℕ) → List (List ℕ) → Type 0
AreNames s from to [] = from ≡ to
AreNames s from to (name ∷ rest) = (size : ℕ) × (name_in (drop from s) ≡ Some (record { bytes = name; size = size })) × AreNames s (from + size) to rest

-- where a path is: its names extend from the symbol's fourth byte to its hash, and its suffix begins after its E
abbrev pub StandsAt : (s : List ℕ) → Path → PathPlace → Type 0
StandsAt s path place =
    AreNames s 3 place.hash path.names × (drop place.end s ≡ path.suffix) × (place.hash < place.end) × (place.end ≤ length s)

-- the symbol is a legacy name, and its path is at this place
abbrev pub IsPlaced : (s : List ℕ) → PathPlace → Type 0
IsPlaced s place = (path : Path) × (legacy_of s ≡ Some path) × StandsAt s path place

-- ## Lengths

-- the digits of a length are from one place to another, and denote a value. If that many bytes follow, they are the name at the
-- first place; otherwise no name is at that place. No E is at that place, either
abbrev pub HasLength : (s : List ℕ) → (at to value : ℕ) → Type 0
HasLength s at to value =
    (at < to) × (to ≤ length s) × (0 < value) × (begins_with (codes "E") (drop at s) ≡ false)
    × (to + value ≤ length s → name_in (drop at s) ≡ Some (record { bytes = take value (drop to s); size = to - at + value }))
    × (length s < to + value → name_in (drop at s) ≡ None)

-- what ends names: an E, and a suffix or nothing
abbrev pub is_end : List ℕ → Bool
is_end s = begins_with (codes "E") s && is_suffix (drop 1 s)

-- the names of a symbol are two or more, the last is at a place, and a suffix or nothing follows their E
abbrev pub AreRead : (s : List ℕ) → PathPlace → Type 0
AreRead s place =
    (names : List (List ℕ)) × (last : List ℕ) × (names_in (length s) (drop 3 s) ≡ Some (record { names = names ++ last ∷ []; suffix = drop place.end s }))
    × AreNames s 3 place.hash names × (0 < length names)
    × (name_in (drop place.hash s) ≡ Some (record { bytes = last; size = place.end - 1 - place.hash }))
    × (is_suffix (drop place.end s) ≡ true) × (place.hash < place.end) × (place.end ≤ length s)
