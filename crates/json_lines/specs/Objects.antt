-- The objects of JSON that say what names are, and the lines that they are written as.
use Rattle.std.specs.Prelude.{◌≡◌, ◌<◌, ◌^◌, ℕ, List, [], ◌∷◌, ◌++◌, Bool, Option, Some, None, codes}
use Rattle.std.specs.Fmt.{decimal}
use Rattle.std.specs.List.{All, flat_map, list_any}
use Rattle.std.specs.Str.Lossy.{utf8_lossy}
use Rattle.json.specs.Json.{Json, string, number, array, object, Items, no_items, item, Members, no_members, member, document}
use Rattle.json.specs.Print.{escape, print}
use Rattle.json.specs.Tree.{json_tokens}
use Rattle.sym_core.specs.declared.refusal.Refusal.{Refusal}
use Rattle.sym_core.specs.declared.refusal.Refusal.TheVariants.{Malformed, BadReference, BadValue, TooLong, Memory}
use Rattle.sym_filter.specs.Runs.{Answering}
use Rattle.sym_parts.specs.Words.{kind_name, role_name}
use Rattle.sym_parts.specs.declared.part.Part.{Part}
use Rattle.demangle_names.specs.Escaped.{escaped}
use Rattle.demangle_names.specs.Saying.{Saying}
use Rattle.text_details.specs.declared.manglings.Mangling.{Mangling}
use Rattle.text_details.specs.Details.{Details, Detailing}
use Rattle.text_details.specs.Manglings.{language_of, mangling_name}
use Rattle.json_lines.specs.Meanings.{Meaning, has_text, refused, no_symbol, meaning_of, named_by, stays, symbol_meaning}

-- ## Objects

-- a string for some bytes, with U+FFFD in the place of each sequence that isn't UTF-8
abbrev pub text_of : List ℕ → Json
text_of bytes = string (utf8_lossy bytes)

-- the members that say why a symbol has no text, and at which of its bytes
abbrev pub at_place : List ℕ → ℕ → Members
at_place reason at = member (codes "error") (string reason) (member (codes "at") (number (decimal at)) no_members)

abbrev pub without_place : List ℕ → Members
without_place reason = member (codes "error") (string reason) no_members

abbrev pub refusal_members : Refusal → Members
refusal_members (Malformed at) = at_place (codes "malformed") at
refusal_members (BadReference at) = at_place (codes "bad-reference") at
refusal_members (BadValue at) = at_place (codes "bad-value") at
refusal_members TooLong = without_place (codes "too-long")
refusal_members Memory = no_members

-- two members that are numbers, before other members
abbrev pub two_numbers : (first : List ℕ) → (one : ℕ) → (second : List ℕ) → (other : ℕ) → Members → Members
two_numbers first one second other others = member first (number (decimal one)) (member second (number (decimal other)) others)

-- a part of a text: its role, its stretch of the text's bytes, and the bytes of the name that spell it
abbrev pub part_object : Part → Json
part_object part =
    object (member (codes "role") (string (role_name part.role)) (two_numbers (codes "start") part.start (codes "length") part.length
    (two_numbers (codes "from") part.from (codes "to") part.to no_members)))

abbrev pub part_items : List Part → Items
part_items [] = no_items
part_items (part ∷ parts) = item (part_object part) (part_items parts)

-- the members that say what a symbol is and which parts its text has, if these are known
abbrev pub detail_members : Option Details → Members
detail_members None = no_members
detail_members (Some details) = member (codes "kind") (string (kind_name details.kind)) (member (codes "parts") (array (part_items details.parts)) no_members)

-- the members that say how a name is mangled, before others
abbrev pub mangling_members : Mangling → Members → Members
mangling_members mangling others =
    member (codes "language") (string (language_of mangling)) (member (codes "mangling") (string (mangling_name mangling)) others)

-- the members that say what a name is
abbrev pub meaning_members : Meaning → Members
meaning_members (has_text mangling text details) = member (codes "text") (text_of text) (mangling_members mangling (detail_members details))
meaning_members (refused refusal) = refusal_members refusal
meaning_members no_symbol = without_place (codes "not-a-symbol")

-- the member that says in which line a word is
abbrev pub line_members : Option ℕ → Members
line_members None = no_members
line_members (Some line) = member (codes "line") (number (decimal line)) no_members

-- the members of a name
abbrev pub name_members : List ℕ → Meaning → Members
name_members name meaning = member (codes "symbol") (text_of name) (meaning_members meaning)

-- the object of a name; the object of a text's word also has the number of the word's line
abbrev pub object_of : (line : Option ℕ) → List ℕ → Meaning → Json
object_of None name meaning = object (name_members name meaning)
object_of (Some line) name meaning = object (member (codes "line") (number (decimal line)) (name_members name meaning))

-- ## Lines

-- the line of an object: its text, which has no newline, and a newline
abbrev pub json_line : Json → List ℕ
json_line json = print (json_tokens json) ++ 10 ∷ []

-- the line of a name
abbrev pub name_line : (types reads_paths : Bool) → Answering → Detailing → List ℕ → List ℕ
name_line types reads_paths answers details name = json_line (object_of None name (meaning_of types reads_paths answers details name))

-- whether a name has no text
abbrev pub name_stays : (types reads_paths : Bool) → Answering → Detailing → List ℕ → Bool
name_stays types reads_paths answers details name = stays (meaning_of types reads_paths answers details name)

-- the lines of names, one after the other
abbrev pub name_lines : (types reads_paths : Bool) → Answering → Detailing → List (List ℕ) → List ℕ
name_lines types reads_paths answers details names = flat_map (name_line types reads_paths answers details) names

-- whether one of some names has no text
abbrev pub names_stay : (types reads_paths : Bool) → Answering → Detailing → List (List ℕ) → Bool
names_stay types reads_paths answers details names = list_any (name_stays types reads_paths answers details) names

-- What is said of a word of a text: a line with the object of the name that the word is. The object has the number of the word's line in
-- the text.
abbrev pub objects_of : (reads_paths : Bool) → Answering → Detailing → Saying
objects_of reads_paths answers details = record {
  says = λ line word. json_line (object_of (Some line) (named_by answers word) (symbol_meaning reads_paths answers details (named_by answers word)));
  stays = λ word. stays (symbol_meaning reads_paths answers details (named_by answers word));
}

-- ## Laws

-- a number of at most 64 bits, like the program's places and numbers of lines
abbrev pub FitsWord : ℕ → Type 0
FitsWord n = n < 2 ^ 64

abbrev pub HasPlace : Refusal → Type 0
HasPlace (Malformed at) = FitsWord at
HasPlace (BadReference at) = FitsWord at
HasPlace (BadValue at) = FitsWord at
HasPlace TooLong = Unit {0}
HasPlace Memory = Unit {0}

abbrev pub IsPart : Part → Type 0
IsPart part = FitsWord part.start × FitsWord part.length × FitsWord part.from × FitsWord part.to

abbrev pub AreDetails : Option Details → Type 0
AreDetails None = Unit {0}
AreDetails (Some details) = All IsPart details.parts

abbrev pub IsMeaning : Meaning → Type 0
IsMeaning (has_text mangling text details) = AreDetails details
IsMeaning (refused refusal) = HasPlace refusal
IsMeaning no_symbol = Unit {0}

abbrev pub IsLine : Option ℕ → Type 0
IsLine None = Unit {0}
IsLine (Some line) = FitsWord line

-- A reader of JSON gets the object from its line, whatever the bytes of a name and of its text are.
abbrev pub LinesAreObjects : Type 0
LinesAreObjects = (line : Option ℕ) (name : List ℕ) (meaning : Meaning) → IsLine line → IsMeaning meaning →
    document (print (json_tokens (object_of line name meaning))) ≡ Some (object_of line name meaning)

-- a byte that isn't a control character, like each byte of a text
abbrev pub IsPrinted : ℕ → Type 0
IsPrinted byte = 31 < byte

-- For a text without control characters, the bytes between the quotes of its string are those that `--escape` writes.
abbrev pub StringsAreEscaped : Type 0
StringsAreEscaped = (text : List ℕ) → All IsPrinted text → escape text ≡ escaped text
