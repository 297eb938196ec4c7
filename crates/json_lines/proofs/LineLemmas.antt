-- The tokens of objects, and the objects' lines.
use Rattle.json_lines.proofs.Basics.{◌≡◌, ◌∙◌, ◌≤◌, refl, ap, sym, ℕ, suc, arith, Bool, true, false, List, [], ◌∷◌, ◌++◌, append_assoc, append-nil, Option, Some, None, is_some, cond, decimal, All, flat_map, Members, no_members, member, array, number, object, string, max_depth, utf8_lossy, ends, print, print_from, quoted, Token, json_tokens, items_tokens, members_tokens, depth, items_depth, HasNumbers, ItemsHaveNumbers, MembersHaveNumbers, Refusal, codes, fold, Mangling, Details, language_of, mangling_name, Meaning, has_text, refused, no_symbol, role_name, Part, AreDetails, HasPlace, IsLine, IsMeaning, IsPart, LinesAreObjects, detail_members, line_members, mangling_members, meaning_members, name_members, object_of, part_items, part_object, refusal_members, text_of, two_numbers, front_of, later_part, members_text, parts_text}
use Rattle.json.proofs.Printed.Decimals.{IsNumber-decimal}
use Rattle.json.proofs.Printed.Tokens.{print_from-append}
use Rattle.json.proofs.Printed.Trees.{document-print}
use Rattle.sym_core.specs.declared.refusal.Refusal.TheVariants.{Malformed, BadReference, BadValue, TooLong, Memory}

pub tokens-front : (members : Members) → members_tokens members ≡ front_of members ++ Token.end_object ∷ []
tokens-front no_members = refl
tokens-front (member name json members) =
    ap (λ (ts : List Token). Token.key name ∷ ts)
    (ap (λ (ts : List Token). json_tokens json ++ ts) (tokens-front members) ∙ sym (append_assoc (json_tokens json) (front_of members) (Token.end_object ∷ [])))

end-text : (has_some : Bool) → print_from has_some (Token.end_object ∷ []) ≡ 125 ∷ []
unfolding print_from
end-text true = refl
end-text false = refl

-- ## The text of members, one after the other

-- no members
pub no-text : (has_some : Bool) → members_text has_some no_members ≡ []
unfolding print_from
no-text has_some = refl

-- the other members follow a member that is a string or a number
pub text-word : (has_some : Bool) (name word : List ℕ) (members : Members) → members_text has_some (member name (string word) members) ≡ members_text has_some (member name (string word) no_members) ++ members_text true members
text-word has_some name word members = print_from-append has_some (Token.key name ∷ Token.string word ∷ []) (front_of members)

pub text-number : (has_some : Bool) (name digits : List ℕ) (members : Members) → members_text has_some (member name (number digits) members) ≡ members_text has_some (member name (number digits) no_members) ++ members_text true members
text-number has_some name digits members = print_from-append has_some (Token.key name ∷ Token.number digits ∷ []) (front_of members)

-- a name, and its string or number
pub word-text : (has_some : Bool) (name word : List ℕ) → members_text has_some (member name (string word) no_members) ≡ print_from has_some (Token.key name ∷ []) ++ quoted word
unfolding print_from
word-text has_some name word = print_from-append has_some (Token.key name ∷ []) (Token.string word ∷ []) ∙ ap (λ (t : List ℕ). print_from has_some (Token.key name ∷ []) ++ t) (append-nil (quoted word))

pub number-text : (has_some : Bool) (name digits : List ℕ) → members_text has_some (member name (number digits) no_members) ≡ print_from has_some (Token.key name ∷ []) ++ digits
unfolding print_from
number-text has_some name digits = print_from-append has_some (Token.key name ∷ []) (Token.number digits ∷ []) ∙ ap (λ (t : List ℕ). print_from has_some (Token.key name ∷ []) ++ t) (append-nil digits)

-- a name without its value
pub name-after : (name : List ℕ) → print_from true (Token.key name ∷ []) ≡ 44 ∷ (quoted name ++ 58 ∷ [])
unfolding print_from
name-after name = ap (λ (t : List ℕ). 44 ∷ t) (append-nil (quoted name ++ 58 ∷ []))

pub name-first : (name : List ℕ) → print_from false (Token.key name ∷ []) ≡ quoted name ++ 58 ∷ []
unfolding print_from
name-first name = append-nil (quoted name ++ 58 ∷ [])

-- the members that say how a name is mangled, and others
pub text-mangling : (mangling : Mangling) (members : Members) → members_text true (mangling_members mangling members) ≡ members_text true (mangling_members mangling no_members) ++ members_text true members
text-mangling mangling members =
    let language = members_text true (member (codes "language") (string (language_of mangling)) no_members) in
    let named : Members → Members = λ others. member (codes "mangling") (string (mangling_name mangling)) others in
    text-word true (codes "language") (language_of mangling) (named members) ∙ ap (λ (t : List ℕ). language ++ t) (text-word true (codes "mangling") (mangling_name mangling) members)
    ∙ sym (append_assoc language (members_text true (named no_members)) (members_text true members))
    ∙ ap (λ (t : List ℕ). t ++ members_text true members) (sym (text-word true (codes "language") (language_of mangling) (named no_members)))

-- ## The text of parts

-- the text of parts after other parts
later-text : (parts : List Part) → print_from true (items_tokens (part_items parts)) ≡ flat_map later_part parts ++ 93 ∷ []
unfolding print_from
later-text [] = refl
later-text (part ∷ parts) =
    print_from-append true (json_tokens (part_object part)) (items_tokens (part_items parts)) ∙ ap (λ (t : List ℕ). later_part part ++ t) (later-text parts)
    ∙ sym (append_assoc (later_part part) (flat_map later_part parts) (93 ∷ []))

items-text : (parts : List Part) → print_from false (items_tokens (part_items parts)) ≡ parts_text parts ++ 93 ∷ []
unfolding print_from
items-text [] = refl
items-text (part ∷ parts) =
    let first = print (json_tokens (part_object part)) in
    print_from-append false (json_tokens (part_object part)) (items_tokens (part_items parts)) ∙ ap (λ (t : List ℕ). first ++ t) (later-text parts)
    ∙ sym (append_assoc first (flat_map later_part parts) (93 ∷ []))

-- a name and the parts
pub parts-member : (name : List ℕ) (parts : List Part) → members_text true (member name (array (part_items parts)) no_members) ≡ print_from true (Token.key name ∷ []) ++ 91 ∷ (parts_text parts ++ 93 ∷ [])
unfolding print_from
parts-member name parts =
    print_from-append true (Token.key name ∷ []) (json_tokens (array (part_items parts)) ++ [])
    ∙ ap (λ (ts : List Token). print_from true (Token.key name ∷ []) ++ print_from false ts) (append-nil (json_tokens (array (part_items parts))))
    ∙ ap (λ (t : List ℕ). print_from true (Token.key name ∷ []) ++ 91 ∷ t) (items-text parts)

-- ## Bytes that are appended in turn

pub put-two : (old mid new first second both : List ℕ) → mid ≡ old ++ first → new ≡ mid ++ second → both ≡ first ++ second → new ≡ old ++ both
put-two old mid new first second both e f is = f ∙ ap (λ (t : List ℕ). t ++ second) e ∙ append_assoc old first second ∙ ap (λ (t : List ℕ). old ++ t) (sym is)

-- a name and its string
pub put-word : (has_some : Bool) (name word bytes old mid new : List ℕ) → bytes ≡ word → mid ≡ old ++ print_from has_some (Token.key name ∷ []) → new ≡ mid ++ quoted bytes → new ≡ old ++ members_text has_some (member name (string word) no_members)
put-word has_some name word bytes old mid new is named pushed =
    put-two old mid new (print_from has_some (Token.key name ∷ [])) (quoted word) (members_text has_some (member name (string word) no_members)) named (pushed ∙ ap (λ (t : List ℕ). mid ++ quoted t) is) (word-text has_some name word)

-- a name and parts
pub put-parts : (name : List ℕ) (parts : List Part) (old mid begun all new : List ℕ) → mid ≡ old ++ print_from true (Token.key name ∷ []) → begun ≡ mid ++ 91 ∷ [] → all ≡ begun ++ parts_text parts → new ≡ all ++ 93 ∷ []
    → new ≡ old ++ members_text true (member name (array (part_items parts)) no_members)
put-parts name parts old mid begun all new d e f g =
    let key = print_from true (Token.key name ∷ []) in
    let text = parts_text parts in
    g ∙ ap (λ (t : List ℕ). t ++ 93 ∷ []) (f ∙ ap (λ (t : List ℕ). t ++ text) (e ∙ ap (λ (t : List ℕ). t ++ 91 ∷ []) d))
    ∙ append_assoc ((old ++ key) ++ 91 ∷ []) text (93 ∷ []) ∙ append_assoc (old ++ key) (91 ∷ []) (text ++ 93 ∷ []) ∙ append_assoc old key (91 ∷ (text ++ 93 ∷ []))
    ∙ ap (λ (t : List ℕ). old ++ t) (sym (parts-member name parts))

-- the members of a part's object
pub put-part : (role stretch spelling old begun with_role with_stretch all new : List ℕ) → begun ≡ old ++ 123 ∷ [] → with_role ≡ begun ++ role → with_stretch ≡ with_role ++ stretch → all ≡ with_stretch ++ spelling → new ≡ all ++ 125 ∷ []
    → new ≡ old ++ (123 ∷ (((role ++ stretch) ++ spelling) ++ 125 ∷ []))
put-part role stretch spelling old begun with_role with_stretch all new d e f g h =
    let first = old ++ 123 ∷ [] in
    h ∙ ap (λ (t : List ℕ). t ++ 125 ∷ []) (g ∙ ap (λ (t : List ℕ). t ++ spelling) (f ∙ ap (λ (t : List ℕ). t ++ stretch) (e ∙ ap (λ (t : List ℕ). t ++ role) d) ∙ append_assoc first role stretch) ∙ append_assoc first (role ++ stretch) spelling)
    ∙ append_assoc first ((role ++ stretch) ++ spelling) (125 ∷ []) ∙ append_assoc old (123 ∷ []) (((role ++ stretch) ++ spelling) ++ 125 ∷ [])

-- two members that are numbers
pub put-numbers : (first : List ℕ) (one : ℕ) (second : List ℕ) (other : ℕ) (given also : ℕ) (old mid new : List ℕ) → given ≡ one → also ≡ other
    → mid ≡ old ++ members_text true (member first (number (decimal given)) no_members) → new ≡ mid ++ members_text true (member second (number (decimal also)) no_members)
    → new ≡ old ++ members_text true (two_numbers first one second other no_members)
put-numbers first one second other given also old mid new is same e f =
    let before : ℕ → List ℕ = λ n. members_text true (member first (number (decimal n)) no_members) in
    let after : ℕ → List ℕ = λ n. members_text true (member second (number (decimal n)) no_members) in
    put-two old mid new (before one) (after other) (members_text true (two_numbers first one second other no_members)) (e ∙ ap (λ n. old ++ before n) is) (f ∙ ap (λ n. mid ++ after n) same)
    (text-number true first (decimal one) (member second (number (decimal other)) no_members))

-- a name, after a comma or not
pub put-name : (has_some : Bool) (name old begun mid new : List ℕ) → begun ≡ old ++ cond has_some (44 ∷ []) [] → mid ≡ begun ++ quoted name → new ≡ mid ++ 58 ∷ [] → new ≡ old ++ print_from has_some (Token.key name ∷ [])
put-name true name old begun mid new d e f =
    f ∙ ap (λ (t : List ℕ). t ++ 58 ∷ []) (e ∙ ap (λ (t : List ℕ). t ++ quoted name) d) ∙ append_assoc (old ++ 44 ∷ []) (quoted name) (58 ∷ []) ∙ append_assoc old (44 ∷ []) (quoted name ++ 58 ∷ [])
    ∙ ap (λ (t : List ℕ). old ++ t) (sym (name-after name))
put-name false name old begun mid new d e f =
    f ∙ ap (λ (t : List ℕ). t ++ 58 ∷ []) (e ∙ ap (λ (t : List ℕ). t ++ quoted name) (d ∙ append-nil old)) ∙ append_assoc old (quoted name) (58 ∷ []) ∙ ap (λ (t : List ℕ). old ++ t) (sym (name-first name))

pub put-line : (line symbol meaning begun with_line with_symbol with_meaning all : List ℕ) → begun ≡ 123 ∷ [] → with_line ≡ begun ++ line → with_symbol ≡ with_line ++ symbol → with_meaning ≡ with_symbol ++ meaning → all ≡ with_meaning ++ 125 ∷ 10 ∷ []
    → all ≡ (123 ∷ (((line ++ symbol) ++ meaning) ++ 125 ∷ [])) ++ 10 ∷ []
put-line line symbol meaning begun with_line with_symbol with_meaning all d e f g h =
    h ∙ ap (λ (t : List ℕ). t ++ 125 ∷ 10 ∷ []) (g ∙ ap (λ (t : List ℕ). t ++ meaning) (f ∙ ap (λ (t : List ℕ). t ++ symbol) (e ∙ ap (λ (t : List ℕ). t ++ line) d)))
    ∙ ap (λ (t : List ℕ). 123 ∷ t) (sym (append_assoc ((line ++ symbol) ++ meaning) (125 ∷ []) (10 ∷ [])))

-- ## The text of an object

pub object-text : (members : Members) → print (json_tokens (object members)) ≡ 123 ∷ (members_text false members ++ 125 ∷ [])
unfolding print_from
object-text members =
    ap (λ (ts : List Token). 123 ∷ print_from false ts) (tokens-front members)
    ∙ ap (λ (t : List ℕ). 123 ∷ t) (print_from-append false (front_of members) (Token.end_object ∷ []) ∙ ap (λ (t : List ℕ). members_text false members ++ t) (end-text (fold (λ _ u. ends u) false (front_of members))))

-- two members that are numbers
pub two-text : (first : List ℕ) (one : ℕ) (second : List ℕ) (other : ℕ) (others : Members)
    → members_text true (two_numbers first one second other others) ≡ members_text true (two_numbers first one second other no_members) ++ members_text true others
two-text first one second other others =
    let before = members_text true (member first (number (decimal one)) no_members) in
    let after = members_text true (member second (number (decimal other)) no_members) in
    text-number true first (decimal one) (member second (number (decimal other)) others)
    ∙ ap (λ (t : List ℕ). before ++ t) (text-number true second (decimal other) others) ∙ sym (append_assoc before after (members_text true others))
    ∙ ap (λ (t : List ℕ). t ++ members_text true others) (sym (text-number true first (decimal one) (member second (number (decimal other)) no_members)))

-- the text of a part's object
pub part-text : (part : Part) → print (json_tokens (part_object part)) ≡ 123 ∷ (((members_text false (member (codes "role") (string (role_name part.role)) no_members)
    ++ members_text true (two_numbers (codes "start") part.start (codes "length") part.length no_members))
    ++ members_text true (two_numbers (codes "from") part.from (codes "to") part.to no_members)) ++ 125 ∷ [])
part-text part =
    let last : Members = two_numbers (codes "from") part.from (codes "to") part.to no_members in
    let later : Members = two_numbers (codes "start") part.start (codes "length") part.length last in
    let role = members_text false (member (codes "role") (string (role_name part.role)) no_members) in
    let stretch = members_text true (two_numbers (codes "start") part.start (codes "length") part.length no_members) in
    object-text (member (codes "role") (string (role_name part.role)) later)
    ∙ ap (λ (t : List ℕ). 123 ∷ (t ++ 125 ∷ [])) (text-word false (codes "role") (role_name part.role) later
    ∙ ap (λ (t : List ℕ). role ++ t) (two-text (codes "start") part.start (codes "length") part.length last) ∙ sym (append_assoc role stretch (members_text true last)))

-- the members of a name after those of its line
pub all-members : (line : Option ℕ) (name : List ℕ) (meaning : Meaning) → print (json_tokens (object_of line name meaning))
    ≡ 123 ∷ (((members_text false (line_members line) ++ members_text (is_some line) (member (codes "symbol") (text_of name) no_members)) ++ members_text true (meaning_members meaning)) ++ 125 ∷ [])
unfolding print_from
all-members None name meaning =
    object-text (name_members name meaning) ∙ ap (λ (t : List ℕ). 123 ∷ (t ++ 125 ∷ [])) (text-word false (codes "symbol") (utf8_lossy name) (meaning_members meaning))
all-members (Some line) name meaning =
    let first = members_text false (line_members (Some line)) in
    let symbol = members_text true (member (codes "symbol") (text_of name) no_members) in
    object-text (member (codes "line") (number (decimal line)) (name_members name meaning))
    ∙ ap (λ (t : List ℕ). 123 ∷ (t ++ 125 ∷ [])) (text-number false (codes "line") (decimal line) (name_members name meaning)
    ∙ ap (λ (t : List ℕ). first ++ t) (text-word true (codes "symbol") (utf8_lossy name) (meaning_members meaning)) ∙ sym (append_assoc first symbol (members_text true (meaning_members meaning))))

-- ## Laws

refusal-numbers : (refusal : Refusal) → HasPlace refusal → MembersHaveNumbers (refusal_members refusal)
refusal-numbers (Malformed at) fits = (tt, (IsNumber-decimal at fits, tt))
refusal-numbers (BadReference at) fits = (tt, (IsNumber-decimal at fits, tt))
refusal-numbers (BadValue at) fits = (tt, (IsNumber-decimal at fits, tt))
refusal-numbers TooLong fits = (tt, tt)
refusal-numbers Memory fits = tt

part-numbers : (parts : List Part) → All IsPart parts → ItemsHaveNumbers (part_items parts)
part-numbers [] all = tt
part-numbers (part ∷ parts) all =
    let first = all 0 part (omega arith) in (
      (tt, (IsNumber-decimal part.start first.0, (IsNumber-decimal part.length first.1, (IsNumber-decimal part.from first.2, (IsNumber-decimal part.to first.3, tt))))),
      part-numbers parts (λ k d lt. all (suc k) d (omega (arith, lt))),
    )

detail-numbers : (details : Option Details) → AreDetails details → MembersHaveNumbers (detail_members details)
detail-numbers None fits = tt
detail-numbers (Some details) fits = (tt, (part-numbers details.parts fits, tt))

meaning-numbers : (meaning : Meaning) → IsMeaning meaning → MembersHaveNumbers (meaning_members meaning)
meaning-numbers (has_text mangling text details) fits = (tt, (tt, (tt, detail-numbers details fits)))
meaning-numbers (refused refusal) fits = refusal-numbers refusal fits
meaning-numbers no_symbol fits = (tt, tt)

object-numbers : (line : Option ℕ) (name : List ℕ) (meaning : Meaning) → IsLine line → IsMeaning meaning → HasNumbers (object_of line name meaning)
object-numbers None name meaning fits is = (tt, meaning-numbers meaning is)
object-numbers (Some line) name meaning fits is = (IsNumber-decimal line fits, (tt, meaning-numbers meaning is))

parts-shallow : (parts : List Part) → items_depth (part_items parts) ≤ 1
parts-shallow [] = omega arith
parts-shallow (part ∷ parts) = omega (arith, parts-shallow parts)

object-shallow : (line : Option ℕ) (name : List ℕ) (meaning : Meaning) → depth (object_of line name meaning) ≤ max_depth
object-shallow None name (has_text mangling text None) = omega arith
object-shallow None name (has_text mangling text (Some details)) = omega (arith, parts-shallow details.parts)
object-shallow None name (refused (Malformed at)) = omega arith
object-shallow None name (refused (BadReference at)) = omega arith
object-shallow None name (refused (BadValue at)) = omega arith
object-shallow None name (refused TooLong) = omega arith
object-shallow None name (refused Memory) = omega arith
object-shallow None name no_symbol = omega arith
object-shallow (Some line) name (has_text mangling text None) = omega arith
object-shallow (Some line) name (has_text mangling text (Some details)) = omega (arith, parts-shallow details.parts)
object-shallow (Some line) name (refused (Malformed at)) = omega arith
object-shallow (Some line) name (refused (BadReference at)) = omega arith
object-shallow (Some line) name (refused (BadValue at)) = omega arith
object-shallow (Some line) name (refused TooLong) = omega arith
object-shallow (Some line) name (refused Memory) = omega arith
object-shallow (Some line) name no_symbol = omega arith

pub line-read : LinesAreObjects
line-read line name meaning fits is = document-print (object_of line name meaning) (object-numbers line name meaning fits is) (object-shallow line name meaning)
