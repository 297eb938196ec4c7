-- Members of an object, and objects in an array, as the text of their tokens.
use Rattle.std.specs.Prelude.{ℕ, ◌/◌, ◌%◌, List, [], ◌∷◌, ◌++◌, Bool}
use Rattle.std.specs.Char.{digit_char}
use Rattle.json.specs.Json.{Members, no_members, member}
use Rattle.json.specs.Print.{print, print_from}
use Rattle.json.specs.Token.{Token}
use Rattle.json.specs.Tree.{json_tokens}
use Rattle.std.specs.List.{flat_map}
use Rattle.sym_parts.specs.declared.part.Part.{Part}
use Rattle.json_lines.specs.Objects.{part_object}

-- the tokens of members, without the bracket that closes their object
abbrev pub front_of : Members → List Token
front_of no_members = []
front_of (member name json members) = Token.key name ∷ (json_tokens json ++ front_of members)

-- the text of members, after other members or as the first ones
abbrev pub members_text : (has_some : Bool) → Members → List ℕ
members_text has_some members = print_from has_some (front_of members)

-- the text of a part's object after another object
abbrev pub later_part : Part → List ℕ
later_part part = 44 ∷ print (json_tokens (part_object part))

-- the text of parts' objects
abbrev pub parts_text : List Part → List ℕ
parts_text [] = []
parts_text (part ∷ parts) = print (json_tokens (part_object part)) ++ flat_map later_part parts

-- the escape of a control character by its number
abbrev pub code_escape : ℕ → List ℕ
code_escape byte = 92 ∷ 117 ∷ 48 ∷ 48 ∷ digit_char (byte / 16) ∷ digit_char (byte % 16) ∷ []
