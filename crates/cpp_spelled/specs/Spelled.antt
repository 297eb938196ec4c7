-- Which bytes of a C++ symbol spell which part of its text.
use Rattle.std.specs.Prelude.{ℕ, ◌+◌, Bool, true, List, [], ◌∷◌, map, reverse, nat_lt, if◌then◌else◌}
use Rattle.sym_shape.specs.declared.rule.Row.{Row}
use Rattle.sym_parts.specs.declared.role.Role.{Role}
use Rattle.sym_parts.specs.declared.role.Role.TheVariants as role
use Rattle.sym_parts.specs.declared.spelling.Item.{Item}
use Rattle.sym_parts.specs.declared.spelling.Span.{Span}
use Rattle.sym_parts.specs.declared.spelling.Spelled.{Spelled}
use Rattle.sym_parts.specs.Spelling.{Spelling, span}
use Rattle.cpp_spelled.specs.Sorts.{is}
use Rattle.cpp_spelled.specs.Outline.{outline_of, from_first, from_last, bytes_of_all, begin_or}
use Rattle.cpp_spelled.specs.declared.outline.Reached.{Reached}
use Rattle.cpp_spelled.specs.declared.sought.TheConstants.{SUFFIX, OBJECT, TEMPORARY, SPECIAL, ANY_ENCODING, ENCODING, LOCAL, NESTED, BEGIN, COMPONENT, IN_STD, WHOLE, AFTER_BASE, TAG, ARGUMENT_LIST, ARGUMENT, ELEMENT, PARAMETER}

-- ## Special names

-- what a special name belongs to: for a temporary, the name
unfoldable pub object_in : List Reached → Span
object_in [] = span 0 0
object_in (x ∷ xs) = span x.first.from (if is TEMPORARY x.sort then x.first.to else x.row.to)

-- the words of each special name, up to the encoding or the object that it belongs to
unfoldable pub words_in : (object : ℕ) → List Reached → List Span
words_in object [] = []
words_in object (x ∷ xs) =
    if is SPECIAL x.sort then span x.row.from (begin_or (from_first ANY_ENCODING xs) object) ∷ words_in object xs
    else words_in object xs

-- ## Names

-- where the base begins: after an `St`; where the name begins, if one reference is the whole name; and otherwise where the
-- base's component begins
unfoldable pub base_begin : Reached → (outline : List Reached) → ℕ
base_begin x outline =
    if is IN_STD x.sort then x.first.from
    else if is WHOLE x.sort then begin_or (from_first BEGIN outline) x.row.from
    else x.row.from

-- the base: the last component without its tags and arguments; for a special name, what it belongs to
unfoldable pub base_in : (outline : List Reached) → (name : List Reached) → Span
base_in outline [] = object_in (from_first OBJECT outline)
base_in outline (x ∷ xs) = span (base_begin x outline) (begin_or (from_first AFTER_BASE xs) x.row.to)

-- where a scope ends: before the base, or with the base where one reference is both scope and base
unfoldable pub scope_end : List Reached → Span → ℕ
scope_end [] base = base.from
scope_end (x ∷ xs) base = if is WHOLE x.sort then base.to else base.from

-- where the scope of a local name ends: before the base of a nested name, or with the function
unfoldable pub local_end : Reached → (begin : List Reached) → Span → ℕ
local_end x [] base = x.first.to
local_end x (y ∷ ys) base = base.from

-- the scope: what precedes the base, from the name's first component on, or from the function that a local name is in
unfoldable pub scope_in : (local outline name : List Reached) → (base : Span) → Span
scope_in [] outline name base = span (begin_or (from_first BEGIN outline) base.from) (scope_end name base)
scope_in (x ∷ xs) outline name base = span x.first.from (local_end x (from_first BEGIN outline) base)

-- the qualifiers of a nested name: what precedes its first component
unfoldable pub qualifiers_in : (nested outline : List Reached) → (base : Span) → Span
qualifiers_in [] outline base = base
qualifiers_in (x ∷ xs) outline base = span x.first.from (begin_or (from_first BEGIN outline) x.first.from)

-- ## Arguments

-- how many elements precede the next argument
unfoldable pub elements_ahead : List Reached → ℕ
elements_ahead [] = 0
elements_ahead (x ∷ xs) = if is ARGUMENT x.sort then 0 else (if is ELEMENT x.sort then 1 + elements_ahead xs else elements_ahead xs)

-- the arguments, each with its elements; `before` is how many elements precede them
unfoldable pub arguments_in : (before : ℕ) → List Reached → List Item
arguments_in before [] = []
arguments_in before (x ∷ xs) =
    if is ARGUMENT x.sort then record { span = x.own; first = before; count = elements_ahead xs } ∷ arguments_in before xs
    else arguments_in (if is ELEMENT x.sort then before + 1 else before) xs

-- ## Types

-- the first of these spans; where there are none, the other span
unfoldable pub first_or : List Span → Span → Span
first_or [] other = other
first_or (s ∷ ss) other = s

-- where the last of these spans ends; the given end if there are none
unfoldable pub last_end : ℕ → List Span → ℕ
last_end end [] = end
last_end end (s ∷ ss) = last_end s.to ss

-- all the parameters, or the end of the function if there are none
unfoldable pub parameters_in : List Span → (function : List Reached) → (base : Span) → Span
parameters_in [] [] base = base
parameters_in [] (x ∷ xs) base = span x.row.to x.row.to
parameters_in (s ∷ ss) function base = span s.from (last_end s.to ss)

-- an item without elements
unfoldable pub alone : Span → Item
alone s = record { span = s; first = 0; count = 0 }

-- the types of a function without its return type
unfoldable pub without_return : Bool → List Span → List Span
without_return true (s ∷ ss) = ss
without_return _ ss = ss

-- ## All parts

-- these bytes, or those of the base where there are none
unfoldable pub or_base : Span → (base : Span) → Span
or_base s base = if nat_lt s.from s.to then s else base

-- the bytes that spell a part that comes once
abbrev spelled : Role → Span → Spelled
spelled r s = record { role = r; span = s }

-- the row after the first
unfoldable pub rest_of : List Reached → List Reached
rest_of [] = []
rest_of (x ∷ xs) = xs

-- the suffix
unfoldable pub suffix_in : List Reached → (base : Span) → Span
suffix_in [] base = base
suffix_in (x ∷ xs) base = span x.row.from x.row.to

-- what spells the parts that come once, by a name's outline and by `name`, which is the outline from the last component on
unfoldable pub once_in : (outline name : List Reached) → (base : Span) → (types : List Span) → (returns : Bool) → List Spelled
once_in outline name base types returns =
    spelled role.ReturnType (first_or types base)
    ∷ spelled role.Scope (or_base (scope_in (from_first LOCAL outline) outline name base) base)
    ∷ spelled role.Qualifiers (or_base (qualifiers_in (from_first NESTED outline) outline base) base)
    ∷ spelled role.Parameters (parameters_in (without_return returns types) (from_first ENCODING outline) base)
    ∷ spelled role.Object (object_in (from_first OBJECT outline))
    ∷ spelled role.Suffix (suffix_in (from_first SUFFIX outline) base)
    ∷ []

-- what spells all parts, by a name's outline and by `name`, which is the outline from the last component on
unfoldable pub spelling_in : (outline name : List Reached) → (returns : Bool) → Spelling
spelling_in outline name returns =
    let base : Span = base_in outline name in
    let types : List Span = bytes_of_all PARAMETER outline in
    record {
      others = base;
      spans = once_in outline name base types returns;
      specials = words_in (object_in (from_first OBJECT outline)).from outline;
      tags = reverse (bytes_of_all TAG (rest_of name));
      argument_lists = bytes_of_all ARGUMENT_LIST (rest_of name);
      arguments = arguments_in 0 (rest_of name);
      parameters = map alone (without_return returns types);
      elements = bytes_of_all ELEMENT (rest_of name);
    }

-- What spells each part of a symbol's text, by the symbol's rows. `returns` says whether the function has a return type. Rows
-- don't show this for a name that ends in a substitution and arguments.
abbrev pub spelling_of : List Row → (returns : Bool) → Spelling
spelling_of rows returns = spelling_in (outline_of rows) (from_last COMPONENT (outline_of rows)) returns
