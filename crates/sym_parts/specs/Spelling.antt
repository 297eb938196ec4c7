-- Which bytes of a symbol spell which part of its text.
use Rattle.std.specs.Prelude.{ℕ, zero, suc, ◌+◌, List, [], ◌∷◌, ◌++◌, map, Option, Some, None, slice_get, nat_eq, nat_lt, nat_le, if◌then◌else◌}
use Rattle.sym_parts.specs.Words.{role_number}
use Rattle.sym_parts.specs.declared.part.Part.{Part}
use Rattle.sym_parts.specs.declared.role.Role.{Role}
use Rattle.sym_parts.specs.declared.role.Role.TheVariants as role
use Rattle.sym_parts.specs.declared.spelling.Item.{Item}
use Rattle.sym_parts.specs.declared.spelling.Ordinal.{Ordinal}
use Rattle.sym_parts.specs.declared.spelling.Span.{Span}
use Rattle.sym_parts.specs.declared.spelling.Spelled.{Spelled}
use Rattle.sym_parts.specs.declared.stretch.Stretch.{Stretch}

-- What spells the parts of a symbol's text: bytes for parts in none of the lists; parts that come once; words of special names,
-- the outermost first; tags, the last one first; lists of generic arguments, the last one first; items of lists; and elements of
-- items.
pub record Spelling : Type 0 where
  pub others : Span
  pub spans : List Spelled
  pub specials : List Span
  pub tags : List Span
  pub argument_lists : List Span
  pub arguments : List Item
  pub parameters : List Item
  pub elements : List Span

-- the bytes from one place up to another; none where the second isn't after the first
abbrev pub span : (from to : ℕ) → Span
span from to = record { from = from; to = if nat_le from to then to else from }

-- the span that was found in a list; if none was, `others`
unfoldable pub or_others : Span → Option Span → Span
or_others others None = others
or_others others (Some found) = found

-- what spells a part that comes once
unfoldable pub once : Span → Role → List Spelled → Span
once others role [] = others
once others role (spelled ∷ rest) = if nat_eq (role_number spelled.role) (role_number role) then spelled.span else once others role rest

-- what spells an element of an item; if the item has no element with this number, what spells the item
unfoldable pub element_of : List Span → Item → ℕ → Span
element_of elements item zero = item.span
element_of elements item (suc n) = if nat_lt n item.count then or_others item.span (slice_get elements (item.first + n)) else item.span

-- what spells an item of a list, or one of the item's elements
unfoldable pub item_of : Span → List Span → Option Item → ℕ → Span
item_of others elements None n = others
item_of others elements (Some item) n = element_of elements item n

-- what spells a part of this role
unfoldable pub span_of : Spelling → Role → Ordinal → Span
span_of s role.Special ordinal = or_others s.others (slice_get s.specials ordinal.item)
span_of s role.AbiTag ordinal = or_others s.others (slice_get s.tags ordinal.item)
span_of s role.GenericArguments ordinal = or_others s.others (slice_get s.argument_lists ordinal.item)
span_of s role.GenericArgument ordinal = item_of s.others s.elements (slice_get s.arguments ordinal.item) ordinal.element
span_of s role.Parameter ordinal = item_of s.others s.elements (slice_get s.parameters ordinal.item) ordinal.element
span_of s r ordinal = once s.others r s.spans

-- a part of a text with the bytes that spell it
unfoldable pub part_of : Spelling → Stretch → Part
part_of s stretch = record {
  role = stretch.role;
  start = stretch.start;
  length = stretch.length;
  from = (span_of s stretch.role stretch.ordinal).from;
  to = (span_of s stretch.role stretch.ordinal).to;
}

-- parts that aren't in the text: they come last, with no bytes of the text
unfoldable pub unprinted : (end : ℕ) → List Spelled → List Part
unprinted end [] = []
unprinted end (spelled ∷ rest) =
    if nat_le (role_number role.Hash) (role_number spelled.role)
    then record { role = spelled.role; start = end; length = 0; from = spelled.span.from; to = spelled.span.to } ∷ unprinted end rest
    else unprinted end rest

-- the parts of a text of this length, with the bytes that spell them
abbrev pub parts_spelled : Spelling → (length : ℕ) → List Stretch → List Part
parts_spelled s length stretches = map (part_of s) stretches ++ unprinted length s.spans
