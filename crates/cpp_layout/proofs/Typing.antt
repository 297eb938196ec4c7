-- The parts of types and of other template arguments.
use Rattle.cpp_layout.proofs.Basics.{◌≡◌, refl, sym, ◌∙◌, ap, subst, arith, ℕ, ◌+◌, ◌*◌, ◌<◌, ◌≤◌, List, [], ◌∷◌, ◌++◌, length, Bool, true, false, cond, codes, if◌then◌else◌, append-nil, Option, PartOf, text, qualifier_text, ref_text, encoding_text, blank_last, look_up, literal_endings, builtin_texts, operator_texts, abbreviation_texts, special_texts, named_special_texts, Term, as_item, text_part, says, qualified_left, reference_parts, marked_parts, sign_part, is_plain_integer, builtin_code, integer_parts, Node, Thunk, Mark, Qualifiers, reargued, true≢false, tree_of, signed_of, qualifiers_of, is_again, bit, qualifiers_number, fixed_text, suffix_of, BLANKED, FALSE, LEFT, MINUS, RIGHT, TRUE, marked, referred, text_if, qualifiers_behind, IsNoType}
use Prim.Native.String.{String}
use Rattle.cpp_grammar.specs.Items as heads
use Rattle.cpp_grammar.specs.Term as values
use Rattle.cpp_term.specs.Term as term
use Rattle.cpp_term.specs.Items as items
use Rattle.cpp_tree.specs.declared.node.Signed.{Signed}

-- ## Qualifiers

blanked : (r v k : Bool) → BLANKED < BLANKED + (bit r + 2 * bit v + 4 * bit k) → (fixed_text (BLANKED + (bit r + 2 * bit v + 4 * bit k)) ≡ blank_last (qualifier_text (record { restrict = r; volatile = v; const = k }))) × (0 < length (fixed_text (BLANKED + (bit r + 2 * bit v + 4 * bit k))))
unfolding bit blank_last qualifier_text builtin_texts operator_texts abbreviation_texts special_texts named_special_texts literal_endings
blanked false false false more = absurd (omega (arith, more))
blanked true false false more = (refl, omega arith)
blanked false true false more = (refl, omega arith)
blanked true true false more = (refl, omega arith)
blanked false false true more = (refl, omega arith)
blanked true false true more = (refl, omega arith)
blanked false true true more = (refl, omega arith)
blanked true true true more = (refl, omega arith)

not-blanked : (r v k : Bool) → BLANKED + (bit r + 2 * bit v + 4 * bit k) ≤ BLANKED → blank_last (qualifier_text (record { restrict = r; volatile = v; const = k })) ≡ []
unfolding bit blank_last qualifier_text
not-blanked false false false few = refl
not-blanked true _ _ few = absurd (omega (arith, few))
not-blanked false true _ few = absurd (omega (arith, few))
not-blanked false false true few = absurd (omega (arith, few))

module _ (q : Qualifiers) (a : ℕ) (p : a ≡ qualifiers_number (qualifiers_of q)) where
  pub blanked-some : BLANKED < BLANKED + a → (fixed_text (BLANKED + a) ≡ blank_last (qualifier_text (qualifiers_of q))) × (0 < length (fixed_text (BLANKED + a)))
  blanked-some = rw p (blanked q.restrict q.volatile q.const_)

  pub blanked-none : BLANKED + a ≤ BLANKED → blank_last (qualifier_text (qualifiers_of q)) ≡ []
  blanked-none = rw p (not-blanked q.restrict q.volatile q.const_)

module _ (reference function : Bool) (q : values.Qualifiers) (others : List (PartOf items.Item)) where
  pub qualifiers-none : reference ≡ true → others ≡ qualifiers_behind reference function q ++ others
  qualifiers-none e = rw e refl

  pub qualifiers-bracket : reference ≡ false → function ≡ true → text_part (blank_last (qualifier_text q)) ++ others ≡ qualifiers_behind reference function q ++ others
  qualifiers-bracket e f = rw (e, f) refl

  plain-suffix : suffix_of q values.any_value false ≡ qualifier_text q
  unfolding suffix_of encoding_text ref_text
  plain-suffix = append-nil (qualifier_text q ++ []) ∙ append-nil (qualifier_text q)

  pub qualifiers-plain : reference ≡ false → function ≡ false → text_part (suffix_of q values.any_value false) ++ others ≡ qualifiers_behind reference function q ++ others
  qualifiers-plain e f = rw (e, f) (ap (λ t. text_part t ++ others) plain-suffix)

pub qualified-function-left : (c : items.Context) (q : values.Qualifiers) (t : Term) (l n : Bool) (m : values.RefQualifier) (r p : Term) → t ≡ term.function_type l n m r p → as_item heads.left c t ∷ [] ≡ qualified_left c q t
unfolding qualified_left
qualified-function-left c q t l n m r p e = rw e refl

behind-whole : (c : items.Context) (i : PartOf items.Item) (reference function : Bool) (q : values.Qualifiers)
    → i ∷ (qualifiers_behind reference function q ++ []) ≡ elim reference [ true ↦ i ∷ [] | false ↦ elim function [ true ↦ i ∷ text_part (blank_last (qualifier_text q)) | false ↦ i ∷ text_part (qualifier_text q) ] ]
behind-whole c i true function q = refl
behind-whole c i false true q = ap (λ l. i ∷ l) (append-nil (text_part (blank_last (qualifier_text q))))
behind-whole c i false false q = ap (λ l. i ∷ l) (append-nil (text_part (qualifier_text q)))

qualified-node : (s : List ℕ) (us : List Thunk) (ts : List Term) (given : Option Term) (c : items.Context) (q : values.Qualifiers) (k : Node) (flat : is_again k ≡ false) → ((l n : Bool) (m : Mark) (r p : ℕ) → k ≡ Node.FunctionType l n m r p → ⊥)
    → as_item heads.left c (reargued given (tree_of s us ts k)) ∷ (qualifiers_behind (heads.is_reference (items.head c (reargued given (tree_of s us ts k)))) (heads.is_funarr (items.head c (reargued given (tree_of s us ts k)))) q ++ []) ≡ qualified_left c q (reargued given (tree_of s us ts k))
unfolding tree_of qualified_left reargued is_again
qualified-node s us ts given c q (Node.FunctionType l n m r p) flat other = absurd (other l n m r p refl)
qualified-node s us ts given c q (Node.Reargued x z) flat other = absurd (true≢false flat)
qualified-node s us ts given c q _ flat other = behind-whole c _ _ _ q

pub qualified-other-left : (s : List ℕ) (us : List Thunk) (ts : List Term) (given : Option Term) (c : items.Context) (q : values.Qualifiers) (k : Node) (flat : is_again k ≡ false) (t : Term) → t ≡ reargued given (tree_of s us ts k) → ((l n : Bool) (m : Mark) (r p : ℕ) → k ≡ Node.FunctionType l n m r p → ⊥)
    → as_item heads.left c t ∷ (qualifiers_behind (heads.is_reference (items.head c t)) (heads.is_funarr (items.head c t)) q ++ []) ≡ qualified_left c q t
qualified-other-left s us ts given c q k flat t e other = subst (λ u. as_item heads.left c u ∷ (qualifiers_behind (heads.is_reference (items.head c u)) (heads.is_funarr (items.head c u)) q ++ []) ≡ qualified_left c q u) (sym e) (qualified-node s us ts given c q k flat other)

-- ## References and pointers

pub marked-whole : (c : items.Context) (t : Term) (mark : String) (b : Bool) → heads.is_funarr (items.head c t) ≡ b → marked b (as_item heads.left c t) (codes "(" ++ codes mark) (codes mark) ≡ marked_parts c t mark
unfolding marked_parts
marked-whole c t mark true e = rw (marked_parts, e) refl
marked-whole c t mark false e = rw (marked_parts, e) refl

pub reference-whole : (c : items.Context) (form : heads.Form) (t : Term) (mark : String) (b : Bool) → heads.is_reference (items.head c t) ≡ b
    → referred b (as_item form c t) (marked (heads.is_funarr (items.head c t)) (as_item heads.left c t) (codes "(" ++ codes mark) (codes mark)) ≡ reference_parts c form t mark
unfolding reference_parts
reference-whole c form t mark true e = rw (reference_parts, e) refl
reference-whole c form t mark false e = rw (reference_parts, e) (marked-whole c t mark (heads.is_funarr (items.head c t)) refl)

-- ## Integers

abbrev builtin_of : ℕ → Term
builtin_of l = term.builtin (l ∷ [])

pub other-plain : (s : List ℕ) (us : List Thunk) (ts : List Term) (given : Option Term) (n : Node) (flat : is_again n ≡ false) (t : Term) → t ≡ reargued given (tree_of s us ts n) → ((l : ℕ) → n ≡ Node.Builtin l → ⊥) → is_plain_integer t ≡ false
unfolding tree_of is_plain_integer reargued is_again
other-plain s us ts given n flat t is other = ap is_plain_integer is ∙ by n flat other
  where
    by : (n : Node) → is_again n ≡ false → ((l : ℕ) → n ≡ Node.Builtin l → ⊥) → is_plain_integer (reargued given (tree_of s us ts n)) ≡ false
    by (Node.Builtin l) flat other = absurd (other l refl)
    by (Node.Reargued x z) flat other = absurd (true≢false flat)
    by _ flat other = refl

sign-is : (b : Bool) (l : List (PartOf items.Item)) → text_if b (fixed_text MINUS) l ≡ cond b (says "-" ∷ []) [] ++ l
sign-is true l = refl
sign-is false l = refl

pub plain-whole : (s : List ℕ) (v : Signed) (digits ending : List ℕ) (n : ℕ) → fixed_text n ≡ ending → text_if v.negative (fixed_text MINUS) (text digits ∷ (text_part (fixed_text n) ++ [])) ≡ sign_part (signed_of s v) ++ (text digits ∷ text_part ending)
unfolding sign_part
plain-whole s v digits ending n e = sign-is v.negative _ ∙ ap (λ l. cond v.negative (says "-" ∷ []) [] ++ (text digits ∷ l)) (append-nil (text_part (fixed_text n)) ∙ ap text_part e)

pub cast-whole : (c : items.Context) (s : List ℕ) (v : Signed) (t : Term) (digits : List ℕ) → text (fixed_text LEFT) ∷ as_item heads.left c t ∷ as_item heads.right c t ∷ text (fixed_text RIGHT) ∷ text_if v.negative (fixed_text MINUS) (text digits ∷ [])
    ≡ (says "(" ∷ as_item heads.left c t ∷ as_item heads.right c t ∷ says ")" ∷ []) ++ sign_part (signed_of s v) ++ (text digits ∷ [])
unfolding sign_part
cast-whole c s v t digits = by v.negative
  where
    by : (b : Bool) → text (fixed_text LEFT) ∷ as_item heads.left c t ∷ as_item heads.right c t ∷ text (fixed_text RIGHT) ∷ text_if b (fixed_text MINUS) (text digits ∷ [])
        ≡ (says "(" ∷ as_item heads.left c t ∷ as_item heads.right c t ∷ says ")" ∷ []) ++ cond b (says "-" ∷ []) [] ++ (text digits ∷ [])
    by true = refl
    by false = refl

integer-so : (c : items.Context) (l : ℕ) (v : values.Signed) → is_plain_integer (builtin_of l) ≡ true → sign_part v ++ (text v.digits ∷ text_part (look_up (l ∷ []) literal_endings)) ≡ integer_parts c (builtin_of l) v
unfolding integer_parts builtin_code
integer-so c l v e = rw (integer_parts, e) refl

pub integer-plain : (c : items.Context) (l : ℕ) (t : Term) (v : values.Signed) → t ≡ builtin_of l → is_plain_integer (builtin_of l) ≡ true → sign_part v ++ (text v.digits ∷ text_part (look_up (l ∷ []) literal_endings)) ≡ integer_parts c t v
integer-plain c l t v is e = integer-so c l v e ∙ ap (λ u. integer_parts c u v) (sym is)

pub integer-cast : (c : items.Context) (t : Term) (v : values.Signed) → is_plain_integer t ≡ false
    → (says "(" ∷ as_item heads.left c t ∷ as_item heads.right c t ∷ says ")" ∷ []) ++ sign_part v ++ (text v.digits ∷ []) ≡ integer_parts c t v
unfolding integer_parts
integer-cast c t v e = rw (integer_parts, e) refl

pub boolean-whole : (b : Bool) → ◌≡◌ {A = List (PartOf items.Item)} (text (fixed_text (if b then TRUE else FALSE)) ∷ []) (text (cond b (codes "true") (codes "false")) ∷ [])
boolean-whole true = refl
boolean-whole false = refl

-- ## What has no parts

pub no-type-flat : (n : Node) → IsNoType n → is_again n ≡ false
unfolding is_again
no-type-flat (Node.Reargued t a) k = elim k [ ]
no-type-flat _ k = refl
