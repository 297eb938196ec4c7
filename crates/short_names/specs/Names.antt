-- Names of the table.
use Rattle.std.specs.Prelude.{ℕ, List, [], ◌∷◌, Bool, true, not, ◌==◌, ◌-◌, ◌+◌, ◌||◌, ◌&&◌, ◌*◌, nat_eq, nat_le, nat_lt, length, get_or, drop, codes, Option, None, Some, if◌then◌else◌}
use Rattle.std.specs.Cmp.Lexicographic.{pointwise}
use Rattle.std.specs.List.{starts_with, list_all}
use Rattle.short_names.specs.declared.table.Place.{Place}
use Rattle.short_names.specs.declared.table.Alias.{Alias}
use Rattle.short_names.specs.declared.table.Template.{Template}
use Rattle.short_names.specs.declared.table.TheConstants.{TEMPLATES, WHOLES, PARTS}
use Rattle.short_names.specs.declared.names.Named.{Named}
use Rattle.short_names.specs.Runs.{is_letter, is_name_byte}
use Rattle.short_names.specs.Texts.{text_of}

-- the first of some texts with which a text begins
unfoldable pub row_in : List Place → List ℕ → Option Place
row_in [] text = None
row_in (row ∷ rows) text = if starts_with nat_eq text (text_of row) then Some row else row_in rows text

abbrev pub size_of : Option Place → ℕ
size_of None = 0
size_of (Some row) = length (text_of row)

-- ## A name of std

-- A name of std, in two parts: its `std::`, and what comes after that. The first part has the inline namespace that holds all of `std`,
-- if there is one. The second part lacks the inline namespace that holds a part of `std`.
pub record StdName : Type 0 where
  pub whole : Place
  pub name : List ℕ

-- a name without the inline namespace that holds a part of `std`, if the name begins with one
abbrev pub behind_part : List ℕ → List ℕ
behind_part name = drop (size_of (row_in PARTS name)) name

abbrev pub behind_whole : List ℕ → Option Place → Option StdName
behind_whole run None = None
behind_whole run (Some whole) = Some (record { whole = whole; name = behind_part (drop (length (text_of whole)) run) })

-- the name of std that a run is
unfoldable pub std_name : List ℕ → Option StdName
std_name run = behind_whole run (row_in WHOLES run)

-- ## A name of the table: its `std::`, and its template

-- what templates are looked up by: the first byte of a name and the third from its end, as one number
unfoldable pub mark_of : List ℕ → ℕ
mark_of name = if nat_lt (length name) 3 then 0 else get_or name 0 0 + get_or name (length name - 3) 0 * 256

-- the template of a name
unfoldable pub template_in : List Template → List ℕ → Option Template
template_in [] name = None
template_in (row ∷ rows) name = if pointwise nat_eq (text_of row.name) name then Some row else template_in rows name

abbrev pub with_template : Place → Option Template → Option Named
with_template whole None = None
with_template whole (Some template) = Some (record { whole = whole; template = template })

abbrev pub table_name : Option StdName → Option Named
table_name None = None
table_name (Some std) = with_template std.whole (template_in TEMPLATES std.name)

-- the name of the table that a run is
unfoldable pub named_in : List ℕ → Option Named
named_in run = table_name (std_name run)

-- ## Constructors and destructors

-- the longest end of a text whose bytes all pass a test
unfoldable pub end_by : (ℕ → Bool) → List ℕ → List ℕ
end_by test [] = []
end_by test (byte ∷ text) = if list_all test (byte ∷ text) then byte ∷ text else end_by test text

-- a byte is no colon, and the last part of a name has only such bytes
abbrev pub is_no_colon : ℕ → Bool
is_no_colon byte = not (byte == 58)

abbrev pub last_part : List ℕ → List ℕ
last_part name = end_by is_no_colon name

-- what comes before a member's name: `::`, or `::~`
abbrev pub front_size : List ℕ → ℕ
front_size text = if starts_with nat_eq text (codes "::~") then 3 else 2

-- a text begins with the name of a constructor or destructor of a class
unfoldable pub is_constructor : (text class : List ℕ) → Bool
is_constructor text class =
    starts_with nat_eq text (codes "::") && starts_with nat_eq (drop (front_size text) text) class
    && not (is_letter (get_or text (front_size text + length class) 0))

-- The name of the constructors of a usual name's class: the last part of the usual name, unless the last part of the template's
-- name is shorter.
unfoldable pub class_of : Alias → List ℕ
class_of alias =
    if nat_le (length (last_part (text_of alias.name))) (length (last_part (text_of alias.template))) then last_part (text_of alias.name)
    else last_part (text_of alias.template)

-- a name ends before the rest of a text: neither a byte of a longer name nor a list comes next
unfoldable pub ends_name : (rest : List ℕ) → Bool
ends_name [] = true
ends_name (byte ∷ rest) = starts_with nat_eq (byte ∷ rest) (codes "::") || not (is_name_byte byte || byte == 60)

-- ## A usual name that was written already

-- the row of the usual name with which a name begins, if a constructor or destructor by the template's name follows;
-- `behind` is the text from the name on
unfoldable pub member_in : List Alias → (name behind : List ℕ) → Option Alias
member_in [] name text = None
member_in (row ∷ rows) name text =
    if starts_with nat_eq name (text_of row.name) && is_constructor (drop (length (text_of row.name)) text) (last_part (text_of row.template))
    then Some row else member_in rows name text
