-- A grammar as a sheet of rules with byte ranges, and a test of its laws that computes.
use Rattle.sym_shape.specs.declared.rule.TheConstants.{TOKEN}
use Rattle.std.specs.Prelude.{ℕ, List, [], ◌∷◌, ◌++◌, length, take, get_or, Bool, true, false, not, ◌&&◌, ◌||◌, nat_le, nat_lt, Option, Some, None, if◌then◌else◌}
use Rattle.std.specs.List.{list_any}
use Rattle.sym_core.specs.declared.NumberKind.{NumberKind}
use Rattle.sym_core.specs.declared.NumberKind.TheVariants.{Length, Decimal, Seq36, Base62, Hex, Digits}
use Rattle.sym_shape.specs.declared.rule.Rule.{Rule}
use Rattle.sym_core.specs.declared.NameClass.{NameClass}
use Rattle.sym_core.specs.declared.NameClass.TheVariants.{Cpp, Rust}
use Rattle.sym_shape.specs.declared.rule.Sym.{Sym}
use Rattle.sym_shape.specs.declared.rule.Sym.TheVariants.{Kind, Name, Number, Byte}
use Rattle.sym_shape.specs.declared.sheet.ByteRange.{ByteRange}
use Rattle.sym_shape.specs.declared.sheet.Choice.{Choice}
use Rattle.sym_shape.specs.Table.{Table, symbols_of}

-- the ranges of a choice
abbrev pub classes_of : Choice → List ByteRange
classes_of c = take c.ranges c.bytes

-- The rules of a kind, whether it may be empty, what may follow it, its rank and its height.
pub record KindSheet : Type 0 where
  pub choices : List Choice
  pub may_be_empty : Bool
  pub after : List ByteRange
  pub rank : ℕ
  pub height : ℕ

abbrev pub in_range : ByteRange → ℕ → Bool
in_range r b = nat_le r.from b && nat_le b r.to

abbrev pub in_ranges : List ByteRange → ℕ → Bool
in_ranges rs b = list_any (λ r. in_range r b) rs

-- the rule that is taken at a byte
abbrev pub choice_at : List Choice → ℕ → Option Rule
choice_at [] b = None
choice_at (c ∷ cs) b = if in_ranges (classes_of c) b then Some c.rule else choice_at cs b

-- the grammar of a sheet; `blank` is the default
abbrev pub table_of : KindSheet → List KindSheet → NameClass → Table
table_of blank sheet names = record {
  kinds = length sheet;
  rule = λ k b. choice_at (get_or sheet k blank).choices b;
  may_be_empty = λ k. (get_or sheet k blank).may_be_empty;
  after = λ k b. in_ranges (get_or sheet k blank).after b;
  rank = λ k. (get_or sheet k blank).rank;
  height = λ k. (get_or sheet k blank).height;
  names = names;
}

-- a range within some other one; ranges each within some other one; ranges without a common byte
abbrev pub is_covered : ByteRange → List ByteRange → Bool
is_covered r [] = false
is_covered r (s ∷ ss) = (nat_le s.from r.from && nat_le r.to s.to) || is_covered r ss

abbrev pub are_covered : List ByteRange → List ByteRange → Bool
are_covered [] ss = true
are_covered (r ∷ rs) ss = is_covered r ss && are_covered rs ss

abbrev pub is_apart : ByteRange → List ByteRange → Bool
is_apart r [] = true
is_apart r (s ∷ ss) = (nat_lt r.to s.from || nat_lt s.to r.from) && is_apart r ss

abbrev pub are_apart : List ByteRange → List ByteRange → Bool
are_apart [] ss = true
are_apart (r ∷ rs) ss = is_apart r ss && are_apart rs ss

abbrev pub range : ℕ → ℕ → ByteRange
range from to = record { from = from; to = to }

abbrev pub begin_ranges : List Choice → List ByteRange
begin_ranges [] = []
begin_ranges (c ∷ cs) = (classes_of c) ++ begin_ranges cs

abbrev pub number_ranges : NumberKind → List ByteRange
number_ranges Length = range 48 57 ∷ []
number_ranges Digits = range 48 57 ∷ []
number_ranges Decimal = range 48 57 ∷ range 95 95 ∷ []
number_ranges Seq36 = range 48 57 ∷ range 65 90 ∷ range 95 95 ∷ []
number_ranges Base62 = range 48 57 ∷ range 65 90 ∷ range 97 122 ∷ range 95 95 ∷ []
number_ranges Hex = range 48 57 ∷ range 97 102 ∷ range 95 95 ∷ []

abbrev pub name_followers : NameClass → List ByteRange
name_followers Cpp = range 0 255 ∷ []
name_followers Rust = range 0 94 ∷ range 96 255 ∷ []

abbrev pub number_followers : NumberKind → List ByteRange
number_followers Length = range 0 47 ∷ range 58 255 ∷ []
number_followers Digits = range 0 47 ∷ range 58 255 ∷ []
number_followers Decimal = range 0 255 ∷ []
number_followers Seq36 = range 0 255 ∷ []
number_followers Base62 = range 0 255 ∷ []
number_followers Hex = range 0 255 ∷ []

module _ (blank : KindSheet) (sheet : List KindSheet) (names : NameClass) where
  abbrev pub ranges_of : Sym → List ByteRange
  ranges_of (Kind k) = begin_ranges (get_or sheet k blank).choices
  ranges_of Name = range 48 57 ∷ []
  ranges_of (Number kind) = number_ranges kind
  ranges_of (Byte c) = range c c ∷ []

  abbrev pub may_be_nothing : Sym → Bool
  may_be_nothing (Kind k) = (get_or sheet k blank).may_be_empty
  may_be_nothing Name = false
  may_be_nothing (Number kind) = false
  may_be_nothing (Byte c) = false

  abbrev pub followers_of : Sym → List ByteRange
  followers_of (Kind k) = (get_or sheet k blank).after
  followers_of Name = name_followers names
  followers_of (Number kind) = number_followers kind
  followers_of (Byte c) = range 0 255 ∷ []

  abbrev pub next_ranges : KindSheet → List Sym → List ByteRange
  next_ranges kind [] = kind.after
  next_ranges kind (x ∷ xs) = ranges_of x ++ (if may_be_nothing x then next_ranges kind xs else [])

  abbrev pub keeps_after : KindSheet → List Sym → Bool
  keeps_after kind [] = true
  keeps_after kind (x ∷ xs) = are_covered (next_ranges kind xs) (followers_of x) && keeps_after kind xs

  abbrev pub is_known : Sym → Bool
  is_known (Kind k) = nat_lt k (length sheet)
  is_known Name = true
  is_known (Number kind) = true
  is_known (Byte c) = nat_lt c 256

  abbrev pub are_known : List Sym → Bool
  are_known [] = true
  are_known (x ∷ xs) = is_known x && are_known xs

  abbrev pub sheet_rank : Sym → ℕ
  sheet_rank (Kind k) = (get_or sheet k blank).rank
  sheet_rank Name = 0
  sheet_rank (Number kind) = 0
  sheet_rank (Byte c) = 0

  abbrev pub is_chain : KindSheet → Choice → List Sym → Bool
  is_chain kind c [] = false
  is_chain kind c (x ∷ xs) = not (may_be_nothing x) && nat_lt (sheet_rank x) kind.rank && nat_le (length xs) 2 && are_covered (ranges_of x) (classes_of c)

  abbrev pub is_lawful_choice : KindSheet → Choice → Bool
  is_lawful_choice kind c =
      nat_le c.rule.count 5 && nat_lt c.rule.number TOKEN && are_known (symbols_of c.rule) && keeps_after kind (symbols_of c.rule) && (c.rule.eats || is_chain kind c (symbols_of c.rule))

  -- each choice is lawful, and shares no byte with those after it
  abbrev pub are_lawful_choices : KindSheet → List Choice → Bool
  are_lawful_choices kind [] = true
  are_lawful_choices kind (c ∷ cs) = is_lawful_choice kind c && are_apart (classes_of c) (begin_ranges cs) && are_lawful_choices kind cs

  abbrev pub is_below : ℕ → Sym → Bool
  is_below h (Kind k) = nat_lt (get_or sheet k blank).height h
  is_below h Name = true
  is_below h (Number kind) = true
  is_below h (Byte c) = true

  abbrev pub are_below : ℕ → List Sym → Bool
  are_below h [] = true
  are_below h (x ∷ xs) = is_below h x && are_below h xs

  abbrev pub has_byte : List ByteRange → Bool
  has_byte [] = false
  has_byte (r ∷ rs) = nat_le r.from r.to && nat_lt r.from 256

  abbrev pub has_low_choice : ℕ → List Choice → Bool
  has_low_choice h [] = false
  has_low_choice h (c ∷ cs) = (has_byte (classes_of c) && are_below h (symbols_of c.rule)) || has_low_choice h cs

  abbrev pub is_lawful_kind : KindSheet → Bool
  is_lawful_kind kind =
      nat_le kind.rank 3
      && (not kind.may_be_empty || are_apart (begin_ranges kind.choices) kind.after)
      && (kind.may_be_empty || has_low_choice kind.height kind.choices)
      && are_lawful_choices kind kind.choices

  abbrev pub are_lawful_kinds : List KindSheet → Bool
  are_lawful_kinds [] = true
  are_lawful_kinds (kind ∷ kinds) = is_lawful_kind kind && are_lawful_kinds kinds

abbrev pub is_lawful_sheet : KindSheet → List KindSheet → NameClass → Bool
is_lawful_sheet blank sheet names = nat_lt 0 (length sheet) && are_lawful_kinds blank sheet names sheet
