-- The code's operations are those of the table.
use Rattle.cpp_layout.proofs.Basics.{◌≡◌, refl, ap, ◌∙◌, subst, arith, append-nil, ℕ, zero, suc, ◌+◌, ◌*◌, ◌<◌, ◌≤◌, List, [], ◌∷◌, ◌++◌, length, drop, get_or, slice_get, Bool, true, false, nat_eq, nat_lt, ◌&&◌, ◌||◌, Option, Some, None, inl, inr, nat_le, and_parts, or_parts, eq-eqb, ne_eqb, ltb-true, eqb_tells, slice_get_within, same_bytes, builtin_texts, operator_texts, abbreviation_texts, special_texts, named_special_texts, literal_endings, printed, no_operation, PartOf, Term, text_part, as_item, says, precedence_of, operand_parts, operation_parts, most_of, fixed_text, COUNT, LEFT, RIGHT, text_if}
use Rattle.cpp_grammar.specs.Operations as table
use Rattle.cpp_grammar.specs.declared.operand.Operand.{Operand}
use Rattle.cpp_grammar.specs.Operations.{operations, operation_of_code}
use Rattle.cpp_grammar.specs.Items as heads
use Rattle.cpp_layout.specs.declared.operation_rows.Operation.{Operation}
use Rattle.cpp_layout.specs.declared.operation_rows.TheConstants.{OPERATIONS}
use Rattle.cpp_layout.specs.Operations.{with_code, number_of, place_of, HasTexts}
use Rattle.cpp_layout.proofs.Coding.{all_below, holds_below}
use Rattle.cpp_term.specs.Items as items

-- ## The places of codes

abbrev pub any_number : List table.Operation → ℕ → Bool
any_number [] n = false
any_number (o ∷ os) n = nat_eq n (number_of o.code) || any_number os n

-- a code that no operation has is placed after the last operation
pub none_placed : (n : ℕ) (os : List table.Operation) → any_number os n ≡ false → length os ≡ place_of n os
unfolding place_of
none_placed n [] none = refl
none_placed n (o ∷ os) none =
    let others = or_parts (nat_eq n (number_of o.code)) (any_number os n) none in
    rw (place_of, others.0) (ap suc (none_placed n os others.1))

-- ## The rows of code

-- the operations of the table, and then the operation of unknown codes
abbrev rows : List table.Operation
rows = operations ++ no_operation ∷ []

-- operations of the code as operations of the table, with the codes of the first list
abbrev coded : List table.Operation → List Operation → List table.Operation
coded (p ∷ ps) (o ∷ os) = with_code p.code o ∷ coded ps os
coded _ _ = []

-- a code has two letters
abbrev is_pair : List ℕ → Bool
is_pair (first ∷ second ∷ []) = nat_lt second 256
is_pair _ = false

abbrev all_pairs : List table.Operation → Bool
all_pairs [] = true
all_pairs (o ∷ os) = is_pair o.code && all_pairs os

same-test : (a b : ℕ) (code : List ℕ) → b < 256 → is_pair code ≡ true → nat_eq (a * 256 + b) (number_of code) ≡ same_bytes (a ∷ b ∷ []) code
unfolding same_bytes
same-test a b (c ∷ d ∷ []) less pair = elim (eqb_tells (a * 256 + b) (c * 256 + d)) [
  | inl same ↦ rw (same.0, eq-eqb a c (omega (arith, same.1, less, small)), eq-eqb b d (omega (arith, same.1, less, small))) refl
  | inr other ↦ elim (eqb_tells a c) [
    | inl first ↦ rw (other.0, first.0, ne_eqb b d (λ second. other.1 (omega (arith, first.1, second)))) refl
    | inr first ↦ rw (other.0, first.0) refl
  ]
]
  where
    small : d < 256
    small = ltb-true d 256 pair
same-test a b [] less pair = cc pair
same-test a b (c ∷ []) less pair = cc pair
same-test a b (c ∷ d ∷ e ∷ l) less pair = cc pair

-- the operation at a code's place is the operation of that code
found-at : (a b : ℕ) (os : List table.Operation) → b < 256 → all_pairs os ≡ true
    → slice_get (os ++ no_operation ∷ []) (place_of (a * 256 + b) os) ≡ Some (elim (operation_of_code (a ∷ b ∷ []) os) [ Some o ↦ o | None ↦ no_operation ])
unfolding operation_of_code place_of
found-at a b [] less pairs = refl
found-at a b (o ∷ os) less pairs =
    let parts = and_parts (is_pair o.code) (all_pairs os) pairs in
    by (nat_eq (a * 256 + b) (number_of o.code)) (same_bytes (a ∷ b ∷ []) o.code) (same-test a b o.code less parts.0) (found-at a b os less parts.1)
  where
    by : (s t : Bool) → s ≡ t → slice_get (os ++ no_operation ∷ []) (place_of (a * 256 + b) os) ≡ Some (elim (operation_of_code (a ∷ b ∷ []) os) [ Some o ↦ o | None ↦ no_operation ])
        → slice_get (o ∷ (os ++ no_operation ∷ [])) (elim s [ true ↦ 0 | false ↦ suc (place_of (a * 256 + b) os) ])
        ≡ Some (elim (elim t as (λ _. Option table.Operation) [ true ↦ Some o | false ↦ operation_of_code (a ∷ b ∷ []) os ]) [ Some o ↦ o | None ↦ no_operation ])
    by true true e rest = refl
    by false false e rest = rest
    by true false e rest = cc e
    by false true e rest = cc e

row-at : (ps : List table.Operation) (os : List Operation) (k : ℕ) (p : table.Operation) (d : Operation) → coded ps os ≡ ps → slice_get ps k ≡ Some p → with_code p.code (get_or os k d) ≡ p
row-at [] os k p d same is = cc is
row-at (q ∷ ps) [] k p d same is = cc same
row-at (q ∷ ps) (o ∷ os) zero p d same is =
    let here : q ≡ p = cc is in
    subst (λ x. with_code x.code o ≡ x) here (ap (λ l. get_or l 0 q) same)
row-at (q ∷ ps) (o ∷ os) (suc k) p d same is = row-at ps os k p d (ap (λ l. drop 1 l) same) is

all-pairs : all_pairs operations ≡ true
unfolding operations
all-pairs = refl

pub operation_placed : (a b k : ℕ) → b < 256 → k ≡ place_of (a * 256 + b) operations → slice_get rows k ≡ Some (printed a b)
unfolding printed
operation_placed a b k less is = ap (λ n. slice_get rows n) is ∙ found-at a b operations less all-pairs

pub row_there : (k : ℕ) (p : table.Operation) → slice_get rows k ≡ Some p → k < length OPERATIONS
unfolding operations
row_there k p is = slice_get_within rows k p is

all-coded : coded rows OPERATIONS ≡ rows
unfolding operations builtin_texts operator_texts abbreviation_texts special_texts named_special_texts literal_endings
all-coded = refl

pub row_coded : (k : ℕ) (p : table.Operation) (d : Operation) → slice_get rows k ≡ Some p → with_code p.code (get_or OPERATIONS k d) ≡ p
row_coded k p d is = row-at rows OPERATIONS k p d all-coded is

-- a number of each row is below the bound, if a test of all rows answers true
each-below : (number : Operation → ℕ) (bound k : ℕ) (d : Operation) → all_below (λ n. nat_lt (number (get_or OPERATIONS n d)) bound) (length OPERATIONS) ≡ true
    → k < length OPERATIONS → number (get_or OPERATIONS k d) < bound
each-below number bound k d all less = ltb-true (number (get_or OPERATIONS k d)) bound (holds_below (λ n. nat_lt (number (get_or OPERATIONS n d)) bound) (length OPERATIONS) k all less)

pub row_texts : (k : ℕ) (d : Operation) → k < length OPERATIONS → HasTexts (get_or OPERATIONS k d)
row_texts k d less = (each-below (λ o. o.front) COUNT k d refl less, each-below (λ o. o.between) COUNT k d refl less, each-below (λ o. o.back) COUNT k d refl less)

pub row_few : (k : ℕ) (d : Operation) → k < length OPERATIONS → most_of (with_code [] (get_or OPERATIONS k d)) ≤ 7
unfolding text_part builtin_texts operator_texts abbreviation_texts special_texts named_special_texts literal_endings
row_few k d less = omega (arith, each-below (λ o. most_of (with_code [] o)) 8 k d refl less)

-- ## Parts

pub one-part : (b : List ℕ) → 0 < length b → length (text_part b) ≡ 1
unfolding text_part
one-part [] some = absurd (omega (arith, some))
one-part (x ∷ xs) some = refl

-- ## Operands

-- an operand as it is, or in parentheses, by its precedence
pub enclosed-by : (c : items.Context) (least p : ℕ) (t : Term) (others : List (PartOf items.Item)) → p ≡ precedence_of t
    → text_if (nat_le least p) (fixed_text LEFT) (as_item heads.left c t ∷ text_if (nat_le least p) (fixed_text RIGHT) others) ≡ operand_parts c (Operand.From least) t ++ others
unfolding operand_parts
enclosed-by c least p t others asked = rw asked (by (nat_le least (precedence_of t)))
  where
    by : (b : Bool) → text_if b (fixed_text LEFT) (as_item heads.left c t ∷ text_if b (fixed_text RIGHT) others)
        ≡ elim b as (λ _. List (PartOf items.Item)) [ true ↦ says "(" ∷ as_item heads.left c t ∷ says ")" ∷ [] | false ↦ as_item heads.left c t ∷ [] ] ++ others
    by true = refl
    by false = refl

-- ## An operation's parts one after the other

pub operation-whole : (c : items.Context) (o : Operation) (p : table.Operation) (t u : Term) → with_code p.code o ≡ p
    → text_part (fixed_text o.front) ++ (operand_parts c o.left t ++ (text_part (fixed_text o.between) ++ (operand_parts c o.right u ++ (text_part (fixed_text o.back) ++ [])))) ≡ operation_parts c p t u
unfolding operation_parts
operation-whole c o p t u is =
    ap (λ l. text_part (fixed_text o.front) ++ (operand_parts c o.left t ++ (text_part (fixed_text o.between) ++ (operand_parts c o.right u ++ l)))) (append-nil (text_part (fixed_text o.back)))
    ∙ ap (λ o. operation_parts c o t u) is
