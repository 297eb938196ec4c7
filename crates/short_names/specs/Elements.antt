-- What is left of the elements of a list, by the name of the table that precedes the list.
use Rattle.std.specs.Prelude.{◌≡◌, ℕ, zero, suc, List, [], ◌∷◌, ◌++◌, ◌-◌, Bool, not, ◌==◌, ◌&&◌, nat_le, nat_eq, length, take, drop, get_or, slice_get, codes, Option, None, Some, if◌then◌else◌}
use Rattle.std.specs.Cmp.Lexicographic.{pointwise}
use Rattle.short_names.specs.declared.table.Place.{Place}
use Rattle.short_names.specs.declared.table.Alias.{Alias}
use Rattle.short_names.specs.declared.table.Template.{Template}
use Rattle.short_names.specs.declared.table.TheConstants.{ALIASES, DEFAULTS}
use Rattle.short_names.specs.declared.names.Named.{Named}
use Rattle.short_names.specs.declared.patterns.Holes.{Holes}
use Rattle.short_names.specs.Patterns.{filled}
use Rattle.short_names.specs.Texts.{text_of}

-- elements with `, ` between them
unfoldable pub joined : List (List ℕ) → List ℕ
joined [] = []
joined (element ∷ []) = element
joined (element ∷ next ∷ elements) = element ++ codes ", " ++ joined (next ∷ elements)

-- an argument list
abbrev pub listed : List (List ℕ) → List ℕ
listed elements = 60 ∷ joined elements ++ 62 ∷ []

-- the element at a place; nothing where there is no such element
abbrev pub element : List (List ℕ) → ℕ → List ℕ
element elements place = get_or elements place []

-- ## Defaults

-- a pattern of a name of the table, with the arguments of its list in the holes
abbrev pub filled_for : Named → List (List ℕ) → (pattern : List ℕ) → List ℕ
filled_for named elements pattern = filled (element elements 0) (element elements 1) (text_of named.whole) pattern

-- the pattern of the default at a place; empty if there is no default
abbrev pub pattern_at : Option Place → List ℕ
pattern_at None = []
pattern_at (Some place) = text_of place

-- the defaults that the table has for the places of a template
abbrev pub defaults_of : Template → List Place
defaults_of template = take template.count (drop template.first_default DEFAULTS)

abbrev pub default_pattern : Named → ℕ → List ℕ
default_pattern named place = pattern_at (slice_get (defaults_of named.template) place)

-- what fills the holes of a name's patterns: the first two elements, and the name's `std::`
abbrev pub AreHoles : Named → List (List ℕ) → Holes → Type 0
AreHoles named elements holes =
    (holes.first.now ≡ element elements 0) × (holes.second.now ≡ element elements 1) × (holes.whole.now ≡ text_of named.whole)

-- a pattern isn't empty, and a text is this pattern with its holes filled
abbrev pub is_given : Named → List (List ℕ) → (text pattern : List ℕ) → Bool
is_given named elements text pattern = not (length pattern == 0) && pointwise nat_eq text (filled_for named elements pattern)

-- the element at a place is the default
abbrev pub is_default : Named → List (List ℕ) → ℕ → Bool
is_default named elements place = is_given named elements (element elements place) (default_pattern named place)

-- how many of the first elements are left once the defaults at their end are left out
unfoldable pub left_of : Named → List (List ℕ) → ℕ → ℕ
left_of named elements zero = zero
left_of named elements (suc count) = if is_default named elements count then left_of named elements count else suc count

-- how many of all elements are left; none is left out if there are more than the template has
abbrev pub left : Named → List (List ℕ) → ℕ
left named elements = if nat_le (length elements) named.template.count then left_of named elements (length elements) else length elements

-- ## Usual names

-- the elements are all that the template has, and the last is the allocator of `std::pmr`
abbrev pub is_polymorphic : Named → List (List ℕ) → Bool
is_polymorphic named elements =
    length elements == named.template.count && is_given named elements (element elements (length elements - 1)) (text_of named.template.polymorphic)

-- the row, among these rows, of the usual name of the template with the first elements; none where there is no such row
unfoldable pub alias_in : List Alias → Named → List (List ℕ) → ℕ → Option Alias
alias_in [] named elements count = None
alias_in (row ∷ rows) named elements count =
    if pointwise nat_eq (joined (take count elements)) (filled_for named elements (text_of row.arguments)) then Some row
    else alias_in rows named elements count

-- the rows of a template
abbrev pub aliases_of : Named → List Alias
aliases_of named = take (named.template.end_alias - named.template.first_alias) (drop named.template.first_alias ALIASES)
