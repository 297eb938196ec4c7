-- Where in a word the name of a symbol begins.
use Rattle.std.specs.Prelude.{ℕ, List, [], ◌∷◌, codes, drop, get_or, length, take, Option, Some, None, Bool, true, false, nat_eq, ◌==◌, ◌-◌, ◌||◌, ◌&&◌, if◌then◌else◌}
use Rattle.std.specs.List.{starts_with}
use Rattle.sym_filter.specs.declared.kinds.Kind.{Kind}
use Rattle.sym_filter.specs.declared.kinds.Lang.{Lang}
use Rattle.sym_filter.specs.declared.kinds.Lang.TheVariants.{Cpp, Rust}
use Rattle.sym_filter.specs.declared.kinds.Letters.TheVariants.{Within}
use Rattle.sym_filter.specs.declared.places.Place.{Place}
use Rattle.sym_filter.specs.declared.places.Stretch.{Stretch}
use Rattle.sym_filter.specs.declared.places.Stretch.TheVariants.{Empty, Section, Other}
use Rattle.sym_filter.specs.Bytes.{is_between}
use Rattle.sym_filter.specs.Kinds.{kind_by_beginning, symbol_of}
use Rattle.sym_filter.specs.Places.{is_divider, place_after}

-- what compilers and linkers put before a symbol for an import's address, and for a function that runs at a program's start or end
abbrev pub front_length : List ℕ → ℕ
front_length word =
    if starts_with nat_eq word (codes "__imp_") then 6
    else (if starts_with nat_eq word (codes "_GLOBAL__sub_I_") then 15
    else (if starts_with nat_eq word (codes "_GLOBAL__sub_D_") then 15
    else (if starts_with nat_eq word (codes "_GLOBAL__I_") then 11
    else (if starts_with nat_eq word (codes "_GLOBAL__D_") then 11
    else 0))))

abbrev pub after_front : List ℕ → List ℕ
after_front word = drop (front_length word) word

-- the bytes that may follow `_Z` or `_R`: those with which a name, a number or a special name begins, or those with
-- which a path does
abbrev pub begins_name : Lang → ℕ → Bool
begins_name Cpp byte = is_between 65 90 byte || is_between 48 57 byte
begins_name Rust byte = byte == 73 || byte == 77 || byte == 78 || byte == 88 || byte == 89

-- Whether a symbol of this kind may begin in a stretch after a byte. Within a name that is no section's, the symbol's third
-- byte has to be one with which names of symbols begin.
abbrev pub is_taken : Stretch → (last : ℕ) → Kind → List ℕ → Bool
is_taken Empty last kind rest = true
is_taken Section last kind rest = is_divider last
is_taken Other last kind rest = last == 46 && begins_name kind.lang (get_or (symbol_of kind rest) 2 0)

abbrev pub is_kind_taken : Place → Option Kind → List ℕ → Bool
is_kind_taken place None rest = false
is_kind_taken place (Some kind) rest = is_taken place.stretch place.last kind rest

-- whether the name of a symbol begins at a place with these bytes
abbrev pub is_mark : Place → List ℕ → Bool
is_mark place rest = is_kind_taken place (kind_by_beginning rest) rest

-- the bytes from the name of the first symbol on, or none where no name begins; a front may come before the name
abbrev pub from_mark : Place → List ℕ → List ℕ
from_mark place [] = []
from_mark place (byte ∷ word) =
    if is_mark place (after_front (byte ∷ word)) then after_front (byte ∷ word) else from_mark (place_after Within place byte) word

-- the bytes before the name of the first symbol
abbrev pub before_mark : Place → List ℕ → List ℕ
before_mark place word = take (length word - length (from_mark place word)) word
