-- The first thing with each of some keys, found at the place that the key's mark gives, or in a map.
use Rattle.std.specs.Prelude.{◌≡◌, ℕ, zero, suc, ◌+◌, ◌*◌, ◌-◌, ◌/◌, ◌%◌, ◌<◌, ◌≤◌, List, length, slice_get, get_or, cond, Option, Some, None}
use Rattle.std.specs.Ordering.{is_eq}
use Rattle.std.specs.declared.cmp.Ordering.{Ordering}
use Rattle.sym_spell.specs.declared.firsts.Seen.{Seen}

-- a number for a text, by its length and three of its bytes
unfoldable pub text_mark : List ℕ → ℕ
text_mark text =
    length text % 65536 * 151 + get_or text 0 0 * 11 + get_or text (length text / 2) 0 * 37 + get_or text (length text - 1) 0 * 83

-- the place of a key
abbrev pub place_of : {K : Type 0} → (mark : K → ℕ) → K → ℕ
place_of mark key = mark key % 509

-- the thing with this number, counted from 1; no thing has the number 0
abbrev pub numbered : {A : Type 0} → List A → ℕ → Option A
numbered things zero = None
numbered things (suc k) = slice_get things k

-- the thing at a place
abbrev pub seen_at : {K : Type 0} → (places : List ℕ) → List (Seen K) → (place : ℕ) → Option (Seen K)
seen_at places seen place = numbered seen (get_or places place 0)

-- the first thing with a key: that of the entry at the key's place, if the entry has the key, or else the one in the map
abbrev pub first_or : {K : Type 0} → (cmp : K → K → Ordering) → Option (Seen K) → (more : K → Option ℕ) → K → Option ℕ
first_or cmp None more key = more key
first_or cmp (Some seen) more key = cond (is_eq (cmp seen.key key)) (Some seen.node) (more key)

abbrev pub first_in : {K : Type 0} → (cmp : K → K → Ordering) → (mark : K → ℕ) → (places : List ℕ) → List (Seen K) → (more : K → Option ℕ) → K → Option ℕ
first_in cmp mark places seen more key = first_or cmp (seen_at places seen (place_of mark key)) more key

-- As long as there is room, the map has only keys whose place has another key. If an entry is at a place, the mark of
-- its key gives that place.
pub record IsIndex {K : Type 0} (mark : K → ℕ) (places : List ℕ) (seen : List (Seen K)) (more : K → Option ℕ) : Type 0 where
  pub long : length places ≡ 509
  pub within : (place : ℕ) → get_or places place 0 ≤ length seen
  pub own : (place : ℕ) (one : Seen K) → seen_at places seen place ≡ Some one → place_of mark one.key ≡ place
  pub empty : length seen < 65535 → (key : K) → seen_at places seen (place_of mark key) ≡ None → more key ≡ None
