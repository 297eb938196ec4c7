-- Places in the stretches of a run, and whether a word may begin there.
use Rattle.std.specs.Prelude.{ℕ, List, [], ◌∷◌, Bool, true, false, not, ◌==◌, ◌||◌, ◌&&◌, if◌then◌else◌}
use Rattle.sym_filter.specs.declared.kinds.Letters.{Letters}
use Rattle.sym_filter.specs.declared.kinds.Letters.TheVariants.{Any, Ascii, Within}
use Rattle.sym_filter.specs.declared.places.Place.{Place}
use Rattle.sym_filter.specs.declared.places.Stretch.{Stretch}
use Rattle.sym_filter.specs.declared.places.Stretch.TheVariants.{Empty, Section, Other}
use Rattle.sym_filter.specs.Bytes.{is_byte_of}

-- whether words begin within runs
abbrev pub begins_within : Letters → Bool
begins_within Any = false
begins_within Ascii = false
begins_within Within = true

-- The bytes of stretches. A run is one stretch, unless words begin within runs: then a stretch is a longest part of a
-- run that is ASCII.
abbrev pub in_stretch : Letters → ℕ → Bool
in_stretch Any byte = is_byte_of Any byte
in_stretch Ascii byte = is_byte_of Ascii byte
in_stretch Within byte = is_byte_of Ascii byte

-- where a stretch begins
abbrev pub START : Place
START = record { stretch = Empty; last = 0 }

-- a stretch with one more byte
abbrev pub stretch_after : Stretch → ℕ → Stretch
stretch_after Empty byte = if byte == 46 then Section else Other
stretch_after Section byte = Section
stretch_after Other byte = Other

-- the place after a byte
abbrev pub place_after : Letters → Place → ℕ → Place
place_after letters place byte = if in_stretch letters byte then record { stretch = stretch_after place.stretch byte; last = byte } else START

-- the place after some bytes
abbrev pub place_of : Letters → Place → List ℕ → Place
place_of letters place [] = place
place_of letters place (byte ∷ bytes) = place_of letters (place_after letters place byte) bytes

-- a dot or a `$`, which separate parts of names
abbrev pub is_divider : ℕ → Bool
is_divider byte = byte == 46 || byte == 36

-- whether a word may begin in a stretch after a byte
abbrev pub opens : Letters → Stretch → ℕ → Bool
opens letters Empty last = true
opens letters Section last = begins_within letters && is_divider last
opens letters Other last = begins_within letters && is_divider last

-- whether a word may begin at a place
abbrev pub may_begin : Letters → Place → Bool
may_begin letters place = opens letters place.stretch place.last

-- whether no word begins right after the byte
abbrev pub closes : Letters → ℕ → Bool
closes letters byte = in_stretch letters byte && not (begins_within letters && is_divider byte)

-- A run whose bytes from the first underscore at which a word may begin are changed by a function. The function also
-- gets the place of this underscore.
abbrev pub with_word : Letters → (Place → List ℕ → List ℕ) → Place → List ℕ → List ℕ
with_word letters change place [] = []
with_word letters change place (byte ∷ run) =
    if may_begin letters place && byte == 95 then change place (byte ∷ run) else byte ∷ with_word letters change (place_after letters place byte) run

-- what a function finds in a run from the first underscore at which a word may begin, or nothing if there is no such
-- underscore
abbrev pub from_word : Letters → (Place → List ℕ → List ℕ) → Place → List ℕ → List ℕ
from_word letters find place [] = []
from_word letters find place (byte ∷ run) =
    if may_begin letters place && byte == 95 then find place (byte ∷ run) else from_word letters find (place_after letters place byte) run
