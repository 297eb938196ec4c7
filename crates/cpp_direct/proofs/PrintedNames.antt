-- Names, types and arguments that are one text: source names, abbreviations, builtin types, booleans and integers.
use Rattle.cpp_direct.proofs.Basics.{◌≡◌, ◌≢◌, refl, ap, Option, None, sym, ◌∙◌, ℕ, ◌+◌, ◌*◌, ◌≤◌, List, [], ◌∷◌, ◌++◌, length, drop, Bool, true, false, arith, codes, length-append, append-nil, subst, nat_eq, ◌||◌, inl, inr, cond, append_assoc, eqb-true, false≢true, abbreviation, abbreviation_texts, alone, as_item, base_parts, boolean, builtin, builtin_code, builtin_texts, component_parts, Detail, has_arguments, in_std, integer, integer_parts, is_function_type, is_open, is_plain_integer, is_void, last_piece, left_parts, length_if_pack, literal_endings, look_up, normal, not_empty, opening_text, operator, operator_texts, pack_length, parts_in, piece_parts, prefix_item, right_parts, same_bytes, says, sign_part, Signed, source, source_text, Term, text_part, PartOf, text, text_of, cost_of, Item, left, right, base, closed, Context, head_with, head, is_reference, is_funarr, is_empty, EndsAsInteger, is_angle, IsUnmarked, joined_to, NamesClass, operator_text, Prints, PrintsIn, PrintsName, sign_text, unmarked_parts, written_in, written_of}
use Rattle.cpp_grammar.specs.Items.{piece}
use Rattle.cpp_direct.proofs.Unmarked.{source-unmarked, operator-unmarked, abbreviation-unmarked, builtin-unmarked, truth-unmarked, ending-unmarked, rest-unmarked}
use Rattle.cpp_direct.proofs.PrintedParts.{text_shown, cost_shown, alone_shown, first_cost_shown, length-filled, shown_by, first_shown, text_append, cost_append, part-text, part-cost}
use Rattle.cpp_direct.proofs.PrintedTypes.{made-prints}

-- what a tree has apart from its text at the left
pub record Besides : Type 0 where
  pub behind : List (PartOf Item)
  pub reference : Bool
  pub function_or_array : Bool
  pub empty : Bool
  pub function : Bool
  pub pack : Option ℕ
  pub before : (p : Term) → List (PartOf Item)
  pub void : Bool
  pub integer : Bool

unfoldable pub besides : Context → Term → Besides
unfolding right_parts head head_with is_reference is_funarr is_empty is_function_type length_if_pack prefix_item component_parts is_void is_plain_integer
besides c t = record {
  behind = right_parts c t;
  reference = is_reference (head c t);
  function_or_array = is_funarr (head c t);
  empty = is_empty c t;
  function = is_function_type t;
  pack = length_if_pack t;
  before = λ p. component_parts c t p;
  void = is_void t;
  integer = is_plain_integer t;
}

-- a tree that has only its text at the left
abbrev pub nothing_besides : Context → Term → Besides
nothing_besides c t = record {
  behind = [];
  reference = false;
  function_or_array = false;
  empty = false;
  function = false;
  pack = None;
  before = λ p. joined_to left c c t p;
  void = false;
  integer = false;
}

-- a tree that is just a name or a value prints its text in a context
pub own-in : {detail : Detail} (c : Context) (extra : ℕ) (t : Term) (bytes : List ℕ) → text_of (written_of detail left c t) ≡ bytes
    → 1 + cost_of (written_of detail left c t) + cost_of (written_of detail right c t) ≤ extra + 4 * length bytes → 1 ≤ length bytes
    → besides c t ≡ nothing_besides c t → PrintsIn detail c extra t bytes false
unfolding besides parts_in not_empty right_parts head head_with is_reference is_funarr is_empty is_function_type is_void
own-in {detail} c extra t bytes left_text cost some is = record {
  left_text = left_text;
  right_text = text_shown detail right c t [] (ap (λ b. b.behind) is) refl;
  cost = cost;
  is_reference_head = ap (λ b. b.reference) is;
  is_funarr_head = ap (λ b. b.function_or_array) is;
  filled = ap (λ b. b.empty) is;
  no_function = ap (λ b. b.function) is;
  void = λ e. absurd (false≢true (sym (ap (λ b. b.void) is) ∙ e));
  some = some;
}

-- a tree that is just a name or a value prints its text anywhere
pub own-prints : {detail : Detail} (t : Term) (bytes : List ℕ) → PrintsName detail t bytes → is_open t ≡ false → ((scope : Term) → pack_length scope t ≡ None)
    → opening_text (last_piece t) ≡ codes "<" → ((c : Context) → besides c t ≡ nothing_besides c t) → Prints detail t bytes false
unfolding besides length_if_pack prefix_item component_parts is_plain_integer
own-prints t bytes n is_closed packless opening is =
    made-prints t bytes false (λ c. own-in c 0 t bytes (n.left_text c) (omega (arith, n.cost c)) (omega (arith, n.cost c)) (is c)) is_closed packless (ap (λ b. b.pack) (is closed))
    (λ c p. ap (λ b. b.before p) (is c)) opening (λ e. absurd (false≢true (sym (ap (λ b. b.integer) (is closed)) ∙ e))) (λ e. cc e)

-- a tree that writes one text at the left, and nothing at the right, names something by it
one-text-names : {detail : Detail} (t : Term) (b : List ℕ) → ((c : Context) → parts_in detail c left t ≡ text b ∷ [])
    → ((c : Context) → written_in detail c left t ≡ unmarked_parts (has_arguments detail) (parts_in detail c left t))
    → ((c : Context) → parts_in detail c right t ≡ []) → IsUnmarked b → 1 ≤ length b → PrintsName detail t b
unfolding not_empty
one-text-names {detail} t b left_is written right_is plain some = record {
  left_text = λ c. text_shown detail left c t (text b ∷ []) (left_is c) (written c) ∙ alone_shown detail b plain;
  cost = λ c. omega (
    arith,
    some,
    first_cost_shown detail b [],
    cost_shown detail left c t (text b ∷ []) (left_is c) (written c),
    cost_shown detail right c t [] (right_is c) refl,
  );
}

-- the text of a source name isn't empty
pub source-filled : (name : List ℕ) → name ≢ [] → 1 ≤ length (source_text name)
unfolding source_text
source-filled name filled = go _
  where
    go : (anonymous : Bool) → 1 ≤ length {A = ℕ} (elim anonymous [ true ↦ codes "(anonymous namespace)" | false ↦ name ])
    go true = omega arith
    go false = length-filled name filled

-- a tree that prints a text names something by it
pub as-name : {detail : Detail} (t : Term) (b : List ℕ) (reference : Bool) → Prints detail t b reference → PrintsName detail t b
as-name t b reference p = record { left_text = p.left_text; cost = p.cost }

-- A tree that names something, and has one text at the base, names its class by that text.
pub base-names : {detail : Detail} (t : Term) (b class : List ℕ) → PrintsName detail t b → ((c : Context) → parts_in detail c base t ≡ text class ∷ [])
    → ((c : Context) → written_in detail c base t ≡ unmarked_parts (has_arguments detail) (parts_in detail c base t)) → IsUnmarked class
    → NamesClass detail t class
unfolding not_empty
base-names {detail} t b class n base_is written plain = record {
  base_text = λ c. text_shown detail base c t (text class ∷ []) (base_is c) (written c) ∙ alone_shown detail class plain;
  base_cost = λ c. omega (
    arith,
    n.cost c,
    ap length (n.left_text c),
    cost_shown detail base c t (text class ∷ []) (base_is c) (written c),
    first_cost_shown detail class [],
  );
}

-- a property that holds for some letters and for one more holds for each of them
at-letter : (P : ℕ → Type 0) (letter c : ℕ) (before : Bool) → (before ≡ true → P letter) → P c → (before || nat_eq letter c) ≡ true → P letter
at-letter P letter c before others there e = go before refl e
  where
    go : (b : Bool) → before ≡ b → (b || nat_eq letter c) ≡ true → P letter
    go true is h = others is
    go false is h = subst P (sym (eqb-true letter c h)) there

-- the name of a type whose integers omit the type ends in `int` or `long`
builtin-ends : (letter : ℕ) → is_plain_integer (builtin (letter ∷ [])) ≡ true → EndsAsInteger (look_up (letter ∷ []) builtin_texts)
unfolding is_plain_integer look_up builtin_texts same_bytes
builtin-ends letter e =
    let P : ℕ → Type 0 = λ c. EndsAsInteger (look_up (c ∷ []) builtin_texts) in
    at-letter P letter 121 _ (at-letter P letter 120 _ (at-letter P letter 109 _ (at-letter P letter 108 _ (at-letter P letter 106 _
    (λ h. subst P (sym (eqb-true letter 105 h)) ([], inl refl)) (codes "unsigned", inr (inl refl))) ([], inr (inr (inl refl))))
    (codes "unsigned", inr (inr (inr refl)))) (codes "long", inr (inr (inr refl)))) (codes "unsigned long", inr (inr (inr refl))) e

-- A source name prints itself.
pub source-prints : {detail : Detail} (internal : Bool) (name : List ℕ) → name ≢ [] → IsUnmarked name → Prints detail (alone (source internal name)) (source_text name) false
unfolding parts_in left_parts right_parts piece_parts not_empty is_open pack_length last_piece opening_text besides
source-prints {detail} internal name filled plain =
    let t = alone (source internal name) in
    own-prints t (source_text name)
    (one-text-names t (source_text name) (λ c. refl) (λ c. refl) (λ c. refl) (source-unmarked name plain) (source-filled name filled)) refl (λ scope. refl) refl (λ c. refl)

-- A source name names its class by itself.
pub source-class : {detail : Detail} (internal : Bool) (name : List ℕ) → name ≢ [] → IsUnmarked name → NamesClass detail (alone (source internal name)) (source_text name)
unfolding parts_in base_parts piece_parts
source-class internal name filled plain =
    let t = alone (source internal name) in
    let b = source_text name in
    base-names t b b (as-name t b false (source-prints internal name filled plain)) (λ c. refl) (λ c. refl) (source-unmarked name plain)

-- a source name as a piece
pub piece-text : (d : Detail) (c : Context) (internal : Bool) (name : List ℕ) → IsUnmarked name → text_of (written_of d piece c (source internal name)) ≡ source_text name
unfolding parts_in piece_parts
piece-text d c internal name plain = text_shown d piece c (source internal name) (text (source_text name) ∷ []) refl refl ∙ alone_shown d (source_text name) (source-unmarked name plain)

-- the cost of a source name as a piece
pub piece-cost : (d : Detail) (c : Context) (internal : Bool) (name : List ℕ) → cost_of (written_of d piece c (source internal name)) ≡ 1 + length (source_text name)
unfolding parts_in piece_parts not_empty
piece-cost d c internal name = omega (
  arith,
  cost_shown d piece c (source internal name) (text (source_text name) ∷ []) refl refl,
  first_cost_shown d (source_text name) [],
)

-- an operator as a piece
pub operator-text : (detail : Detail) (c : Context) (first second : ℕ)
    → text_of (written_of detail piece c (operator first second)) ≡ operator_text first second
unfolding parts_in piece_parts
operator-text detail c first second =
    let x = operator_text first second in
    text_shown detail piece c (operator first second) (text x ∷ []) refl refl ∙ alone_shown detail x (operator-unmarked first second)

-- the cost of an operator as a piece
pub operator-cost : (detail : Detail) (c : Context) (first second : ℕ)
    → cost_of (written_of detail piece c (operator first second)) ≡ 1 + length (operator_text first second)
unfolding parts_in piece_parts not_empty
operator-cost detail c first second =
    let x = operator_text first second in
    omega (arith, cost_shown detail piece c (operator first second) (text x ∷ []) refl refl, first_cost_shown detail x [])

-- ## In std

std-left : (detail : Detail) (c : Context) (p : Term) (x : List ℕ) → text_of (written_of detail piece c p) ≡ x
    → text_of (written_of detail left c (in_std p)) ≡ codes "std::" ++ x
unfolding parts_in left_parts not_empty
std-left detail c p x is =
    text_shown detail left c (in_std p) (says "std::" ∷ as_item piece c p ∷ []) refl refl ∙ ap (λ s. codes "std::" ++ (s ++ [])) is
    ∙ ap (λ s. codes "std::" ++ s) (append-nil x)

std-cost : (detail : Detail) (c : Context) (p : Term) (x : List ℕ) → cost_of (written_of detail piece c p) ≡ 1 + length x
    → cost_of (written_of detail left c (in_std p)) ≡ 7 + length x
unfolding parts_in left_parts not_empty
std-cost detail c p x is = omega (arith, cost_shown detail left c (in_std p) (says "std::" ∷ as_item piece c p ∷ []) refl refl, is)

std-names : {detail : Detail} (p : Term) (x : List ℕ) → ((c : Context) → text_of (written_of detail piece c p) ≡ x)
    → ((c : Context) → cost_of (written_of detail piece c p) ≡ 1 + length x) → 1 ≤ length x → PrintsName detail (in_std p) (codes "std::" ++ x)
unfolding parts_in right_parts not_empty
std-names {detail} p x texts costs some = record {
  left_text = λ c. std-left detail c p x (texts c);
  cost = λ c. omega (arith, some, std-cost detail c p x (costs c), cost_shown detail right c (in_std p) [] refl refl, length-append (codes "std::") x);
}

-- A source name in std prints `std::` and itself.
pub std-prints : {detail : Detail} (internal : Bool) (name : List ℕ) → name ≢ [] → IsUnmarked name
    → Prints detail (in_std (source internal name)) (codes "std::" ++ source_text name) false
unfolding parts_in left_parts right_parts piece_parts not_empty is_open pack_length last_piece opening_text besides
std-prints {detail} internal name filled plain =
    let names = std-names (source internal name) (source_text name) (λ c. piece-text detail c internal name plain) (λ c. piece-cost detail c internal name)
    (source-filled name filled) in
    own-prints (in_std (source internal name)) (codes "std::" ++ source_text name) names refl (λ scope. refl) refl (λ c. refl)

-- An operator names something by its text.
pub operator-names : {detail : Detail} (a b : ℕ) → PrintsName detail (alone (operator a b)) (operator_text a b)
unfolding parts_in left_parts right_parts piece_parts not_empty
operator-names {detail} a b =
    let filled : 1 ≤ length (operator_text a b) = omega (arith, length-append (codes "operator") (look_up (a ∷ b ∷ []) operator_texts)) in
    one-text-names (alone (operator a b)) (operator_text a b) (λ c. refl) (λ c. refl) (λ c. refl) (operator-unmarked a b) filled

-- An operator prints its text, unless a blank separates the operator from its arguments.
pub operator-prints : {detail : Detail} (a b : ℕ) → is_angle a b ≡ false → Prints detail (alone (operator a b)) (operator_text a b) false
unfolding parts_in left_parts right_parts piece_parts not_empty is_open pack_length last_piece opening_text besides
operator-prints {detail} a b plain = own-prints (alone (operator a b)) (operator_text a b) (operator-names a b) refl (λ scope. refl) (rw plain refl) (λ c. refl)

-- An operator in std names something by its text after `std::`.
pub std-operator-names : {detail : Detail} (a b : ℕ) → PrintsName detail (in_std (operator a b)) (codes "std::" ++ operator_text a b)
std-operator-names {detail} a b =
    let filled : 1 ≤ length (operator_text a b) = omega (arith, length-append (codes "operator") (look_up (a ∷ b ∷ []) operator_texts)) in
    std-names (operator a b) (operator_text a b) (λ c. operator-text detail c a b) (λ c. operator-cost detail c a b) filled

pub std-operator-prints : {detail : Detail} (a b : ℕ) → is_angle a b ≡ false → Prints detail (in_std (operator a b)) (codes "std::" ++ operator_text a b) false
unfolding parts_in left_parts right_parts piece_parts not_empty is_open pack_length last_piece opening_text besides
std-operator-prints {detail} a b plain =
    own-prints (in_std (operator a b)) (codes "std::" ++ operator_text a b) (std-operator-names a b) refl (λ scope. refl) (rw plain refl) (λ c. refl)

-- A source name in std names its class without `std::`.
pub std-class : {detail : Detail} (internal : Bool) (name : List ℕ) → name ≢ [] → IsUnmarked name → NamesClass detail (in_std (source internal name)) (source_text name)
unfolding parts_in base_parts piece_parts
std-class internal name filled plain =
    let t = in_std (source internal name) in
    let b = codes "std::" ++ source_text name in
    base-names t b (source_text name) (as-name t b false (std-prints internal name filled plain)) (λ c. refl) (λ c. refl) (source-unmarked name plain)

-- An abbreviation prints its text.
pub abbreviation-prints : {detail : Detail} (letter : ℕ) → look_up (letter ∷ []) abbreviation_texts ≢ []
    → Prints detail (abbreviation letter) (look_up (letter ∷ []) abbreviation_texts) false
unfolding parts_in left_parts right_parts piece_parts not_empty is_open pack_length last_piece opening_text besides
abbreviation-prints {detail} letter filled =
    let t = abbreviation letter in
    let b = look_up (letter ∷ []) abbreviation_texts in
    own-prints t (look_up (letter ∷ []) abbreviation_texts)
    (one-text-names t b (λ c. refl) (λ c. refl) (λ c. refl) (abbreviation-unmarked (letter ∷ [])) (length-filled b filled)) refl (λ scope. refl) refl (λ c. refl)

-- An abbreviation names its class by what follows `std::`.
pub abbreviation-class : {detail : Detail} (letter : ℕ) → look_up (letter ∷ []) abbreviation_texts ≢ []
    → IsUnmarked (drop 5 (look_up (letter ∷ []) abbreviation_texts))
    → NamesClass detail (abbreviation letter) (drop 5 (look_up (letter ∷ []) abbreviation_texts))
unfolding parts_in base_parts
abbreviation-class letter there plain =
    let b = look_up (letter ∷ []) abbreviation_texts in
    base-names (abbreviation letter) b (drop 5 b) (as-name (abbreviation letter) b false (abbreviation-prints letter there)) (λ c. refl) (λ c. refl) plain

void-text : (letter : ℕ) → letter ≡ 118 → look_up (letter ∷ []) builtin_texts ≡ codes "void"
unfolding look_up builtin_texts same_bytes
void-text letter same = subst (λ l. look_up (l ∷ []) builtin_texts ≡ codes "void") (sym same) refl

-- A builtin type prints its text.
pub builtin-prints : {detail : Detail} (letter : ℕ) → look_up (letter ∷ []) builtin_texts ≢ []
    → Prints detail (builtin (letter ∷ [])) (look_up (letter ∷ []) builtin_texts) false
unfolding parts_in left_parts right_parts piece_parts not_empty is_open pack_length last_piece opening_text head head_with is_reference is_funarr is_empty is_function_type length_if_pack prefix_item component_parts is_void is_plain_integer
builtin-prints {detail} letter filled = let t = builtin (letter ∷ []) in let b = look_up (letter ∷ []) builtin_texts in record {
  left_text = λ c. text_shown detail left c t (text b ∷ []) refl refl ∙ alone_shown detail b (builtin-unmarked (letter ∷ []));
  right_text = λ c. text_shown detail right c t [] refl refl;
  cost = λ c. omega (arith, length-filled b filled, first_cost_shown detail b [], cost_shown detail left c t (text b ∷ []) refl refl, cost_shown detail right c t [] refl refl);
  is_reference_head = λ c. refl;
  is_funarr_head = λ c. refl;
  filled = λ c. refl;
  is_closed = refl;
  packless = λ scope. refl;
  no_function = refl;
  no_pack = refl;
  reference_cost = λ e. cc e;
  as_prefix = λ c p. refl;
  opening = refl;
  void = λ e. void-text letter (eqb-true letter 118 e);
  integer = λ e. builtin-ends letter e;
}

-- A builtin type with a code of two letters prints its text.
pub builtin-with-d-prints : {detail : Detail} (letter : ℕ) → look_up (68 ∷ letter ∷ []) builtin_texts ≢ []
    → Prints detail (builtin (68 ∷ letter ∷ [])) (look_up (68 ∷ letter ∷ []) builtin_texts) false
unfolding parts_in left_parts right_parts piece_parts not_empty is_open pack_length last_piece opening_text besides
builtin-with-d-prints {detail} letter filled =
    let t = builtin (68 ∷ letter ∷ []) in
    let b = look_up (68 ∷ letter ∷ []) builtin_texts in
    own-prints t (look_up (68 ∷ letter ∷ []) builtin_texts)
    (one-text-names t b (λ c. refl) (λ c. refl) (λ c. refl) (builtin-unmarked (68 ∷ letter ∷ [])) (length-filled b filled)) refl (λ scope. refl) refl (λ c. refl)

-- ## Arguments that are no types

boolean-filled : (b : Bool) → 1 ≤ length {A = ℕ} (cond b (codes "true") (codes "false"))
boolean-filled true = omega arith
boolean-filled false = omega arith

-- A boolean prints its word.
pub boolean-prints : {detail : Detail} (b : Bool) → Prints detail (boolean b) (cond b (codes "true") (codes "false")) false
unfolding parts_in left_parts right_parts piece_parts not_empty is_open pack_length last_piece opening_text besides
boolean-prints {detail} b =
    let t = boolean b in
    let w : List ℕ = cond b (codes "true") (codes "false") in
    own-prints t (cond b (codes "true") (codes "false"))
    (one-text-names t w (λ c. refl) (λ c. refl) (λ c. refl) (truth-unmarked b) (boolean-filled b)) refl (λ scope. refl) refl (λ c. refl)

-- ## Signs and digits

sign-text : (detail : Detail) (n : Signed) → text_of (shown_by detail (sign_part n)) ≡ sign_text n
unfolding sign_part not_empty
sign-text detail n = go n.negative
  where
    go : (b : Bool) → text_of (shown_by detail (cond b (says "-" ∷ []) [])) ≡ cond b (codes "-") []
    go true = refl
    go false = refl

sign-cost : (detail : Detail) (n : Signed) → cost_of (shown_by detail (sign_part n)) ≡ 1 + length (sign_text n)
unfolding sign_part not_empty
sign-cost detail n = go n.negative
  where
    go : (b : Bool) → cost_of (shown_by detail (cond b (says "-" ∷ []) [])) ≡ 1 + length {A = ℕ} (cond b (codes "-") [])
    go true = omega arith
    go false = omega arith

-- Digits without leading zeros aren't empty if the digits with them aren't.
pub normal-filled : (digits : List ℕ) → digits ≢ [] → normal digits ≢ []
unfolding normal
normal-filled [] e = e
normal-filled (d ∷ []) e = λ f. cc f
normal-filled (d ∷ c ∷ ds) e = go (nat_eq d 48) (normal-filled (c ∷ ds) (λ f. cc f))
  where
    go : (zero_first : Bool) → normal (c ∷ ds) ≢ [] → ◌≢◌ {A = List ℕ} (elim zero_first [ true ↦ normal (c ∷ ds) | false ↦ d ∷ c ∷ ds ]) []
    go true behind = behind
    go false behind = λ f. cc f

-- Digits without leading zeros have no marks if the digits with them have none.
pub normal-unmarked : (digits : List ℕ) → IsUnmarked digits → IsUnmarked (normal digits)
unfolding normal
normal-unmarked [] plain = plain
normal-unmarked (d ∷ []) plain = plain
normal-unmarked (d ∷ c ∷ ds) plain = go (nat_eq d 48) (normal-unmarked (c ∷ ds) (rest-unmarked d (c ∷ ds) plain))
  where
    go : (zero_first : Bool) → IsUnmarked (normal (c ∷ ds)) → IsUnmarked (elim zero_first [ true ↦ normal (c ∷ ds) | false ↦ d ∷ c ∷ ds ])
    go true behind = behind
    go false behind = plain

-- ## Integers

plain-is : (c : Context) (t : Term) (n : Signed) → is_plain_integer t ≡ true
    → integer_parts c t n ≡ sign_part n ++ (text n.digits ∷ text_part (look_up (builtin_code t) literal_endings))
unfolding integer_parts
plain-is c t n e = rw (e, integer_parts) refl

cast-is : (c : Context) (t : Term) (n : Signed) → is_plain_integer t ≡ false
    → integer_parts c t n ≡ (says "(" ∷ as_item left c t ∷ as_item right c t ∷ says ")" ∷ []) ++ sign_part n ++ (text n.digits ∷ [])
unfolding integer_parts
cast-is c t n e = rw (e, integer_parts) refl

three : (x y z s d e : List ℕ) → x ≡ s → y ≡ d ++ z → z ≡ e → x ++ y ≡ s ++ d ++ e
three x y z s d e f g h = rw (f, g, h) (sym (append_assoc s d e))

-- An integer of a type that needs no cast prints its sign, its digits and the ending of its type.
pub plain-integer-prints : {detail : Detail} (letter : ℕ) → is_plain_integer (builtin (letter ∷ [])) ≡ true → (n : Signed) → n.digits ≢ [] → IsUnmarked n.digits
    → Prints detail (integer (builtin (letter ∷ [])) n) (sign_text n ++ n.digits ++ look_up (letter ∷ []) literal_endings) false
unfolding parts_in left_parts right_parts piece_parts not_empty is_open pack_length last_piece opening_text besides builtin_code
plain-integer-prints {detail} letter plain n filled digits_plain =
    let t = builtin (letter ∷ []) in
    let i = integer t n in
    let ending = look_up (letter ∷ []) literal_endings in
    let behind = text n.digits ∷ text_part ending in
    own-prints i (sign_text n ++ n.digits ++ look_up (letter ∷ []) literal_endings) (record {
      left_text = λ c. text_shown detail left c i (sign_part n ++ behind) (plain-is c t n plain) refl ∙ text_append detail (sign_part n) behind
          ∙ three (text_of (shown_by detail (sign_part n))) (text_of (shown_by detail behind)) (text_of (shown_by detail (text_part ending)))
          (sign_text n) n.digits ending (sign-text detail n) (first_shown detail n.digits (text_part ending) digits_plain) (part-text detail ending (ending-unmarked (letter ∷ [])));
      cost = λ c. omega (
        arith,
        cost_shown detail left c i (sign_part n ++ behind) (plain-is c t n plain) refl,
        cost_append detail (sign_part n) behind,
        sign-cost detail n,
        first_cost_shown detail n.digits (text_part ending),
        part-cost detail ending,
        cost_shown detail right c i [] refl refl,
        length-filled n.digits filled,
        length-append {A = ℕ},
      );
    }) refl (λ scope. refl) refl (λ c. refl)

cast_text : (x r y z b s d : List ℕ) → x ≡ b → r ≡ [] → y ≡ s → z ≡ d
    → ((codes "(" ++ (x ++ (r ++ codes ")"))) ++ y) ++ z ≡ codes "(" ++ b ++ codes ")" ++ s ++ d
cast_text x r y z b s d e f g h = rw (e, f, g, h) (ap (λ u. u ++ s ++ d) (sym (append_assoc (codes "(") b (codes ")"))))

-- An integer of another type prints its type in front.
pub enumerator-prints : {detail : Detail} (t : Term) (b : List ℕ) (r : Bool) → Prints detail t b r → is_plain_integer t ≡ false → (n : Signed) → n.digits ≢ [] → IsUnmarked n.digits
    → Prints detail (integer t n) (codes "(" ++ b ++ codes ")" ++ sign_text n ++ n.digits) false
unfolding parts_in left_parts right_parts piece_parts not_empty is_open pack_length last_piece opening_text besides
enumerator-prints {detail} t b r p cast n filled digits_plain =
    let i = integer t n in
    let front : Context → List (PartOf Item) = λ c. says "(" ∷ as_item left c t ∷ as_item right c t ∷ says ")" ∷ [] in
    own-prints i (codes "(" ++ b ++ codes ")" ++ sign_text n ++ n.digits) (record {
      left_text = λ c. text_shown detail left c i (front c ++ sign_part n ++ (text n.digits ∷ [])) (cast-is c t n cast) refl
          ∙ text_append detail (front c ++ sign_part n) (text n.digits ∷ [])
          ∙ ap (λ u. u ++ text_of (shown_by detail (text n.digits ∷ []))) (text_append detail (front c) (sign_part n))
          ∙ cast_text (text_of (written_of detail left c t)) (text_of (written_of detail right c t)) (text_of (shown_by detail (sign_part n)))
          (text_of (shown_by detail (text n.digits ∷ []))) b (sign_text n) n.digits (p.left_text c) (p.right_text c) (sign-text detail n) (alone_shown detail n.digits digits_plain);
      cost = λ c. omega (
        arith,
        p.cost c,
        cost_shown detail left c i (front c ++ sign_part n ++ (text n.digits ∷ [])) (cast-is c t n cast) refl,
        cost_append detail (front c ++ sign_part n) (text n.digits ∷ []),
        cost_append detail (front c) (sign_part n),
        sign-cost detail n,
        first_cost_shown detail n.digits [],
        cost_shown detail right c i [] refl refl,
        length-filled n.digits filled,
        length-append (codes "(" ++ b ++ codes ")" ++ sign_text n) n.digits,
        length-append (codes "(" ++ b ++ codes ")") (sign_text n),
        length-append (codes "(" ++ b) (codes ")"),
        length-append (codes "(") b,
      );
    }) p.is_closed (λ scope. p.packless scope) refl (λ c. refl)

-- An integer of a builtin type that needs a cast prints its type in front, too.
pub cast-integer-prints : {detail : Detail} (letter : ℕ) → is_plain_integer (builtin (letter ∷ [])) ≡ false → look_up (letter ∷ []) builtin_texts ≢ []
    → (n : Signed) → n.digits ≢ [] → IsUnmarked n.digits
    → Prints detail (integer (builtin (letter ∷ [])) n) (codes "(" ++ look_up (letter ∷ []) builtin_texts ++ codes ")" ++ sign_text n ++ n.digits) false
cast-integer-prints letter cast there n filled digits_plain =
    enumerator-prints (builtin (letter ∷ [])) (look_up (letter ∷ []) builtin_texts) false (builtin-prints letter there) cast n filled digits_plain

-- a type whose name doesn't end in `int` or `long` isn't one whose integers omit the type
pub not-integer : {detail : Detail} (t : Term) (b : List ℕ) (r : Bool) → Prints detail t b r → (EndsAsInteger b → ⊥) → is_plain_integer t ≡ false
not-integer t b r p other = go (is_plain_integer t) refl
  where
    go : (is : Bool) → is_plain_integer t ≡ is → is_plain_integer t ≡ false
    go true e = absurd (other (p.integer e))
    go false e = e
