-- Parts that are split into the first one and the others.
use Rattle.cpp_parts.proofs.Basics.{◌≡◌, ℕ, ◌+◌, ◌≤◌, List, ◌∷◌, length, refl, sym, ap, ◌∙◌, arith, length-append, All-head, All-tail, All-same, Context, ReadSymbol, unshared_of, bytes_of_part, MayBeAsked, Item, Part, Sub, IsText, Unshared, item, bytes, text_of, cost_of, cost_of_parts, length_of_text, printed_by, ArePayable, IsPayable}

-- a part that isn't an item is a text
text_unless : (part : Part Context) → ((x : Item Context) → part ≡ Sub x → ⊥) → IsText part
text_unless (Sub x) no_item = absurd (no_item x refl)
text_unless _ no_item = tt

-- if the first part is a text, its bytes come first in what is printed
printed-text : (y : ReadSymbol) (part : Part Context) (rest : List (Part Context)) → IsText part → printed_by y (part ∷ rest) ≡ bytes (bytes_of_part y part) (printed_by y rest)
printed-text y (Sub x) rest is_text = elim is_text [ ]
printed-text y _ rest is_text = refl

-- where parts cost at most this much, so do their first item and the rest after it
costs-item : (u : Unshared) (most : ℕ) (one rest : Unshared) → u ≡ item one rest → cost_of_parts u ≤ most → (1 + cost_of_parts one ≤ most) × ((1 + cost_of_parts one) + cost_of_parts rest ≤ most) × (cost_of_parts rest ≤ most)
costs-item u most one rest is within =
    let costs : cost_of_parts u ≡ (1 + cost_of_parts one) + cost_of_parts rest = ap cost_of_parts is in
    (omega (arith, costs, within), omega (arith, costs, within), omega (arith, costs, within))

costs-text : (u : Unshared) (most : ℕ) (b : List ℕ) (rest : Unshared) → u ≡ bytes b rest → cost_of_parts u ≤ most → (length b + cost_of_parts rest ≤ most) × (cost_of_parts rest ≤ most)
costs-text u most b rest is within =
    let costs : cost_of_parts u ≡ length b + cost_of_parts rest = ap cost_of_parts is in
    (omega (arith, costs, within), omega (arith, costs, within))

-- parts that begin with an item are split into this item and the rest
pub split-item : (y : ReadSymbol) (most : ℕ) (parts rest : List (Part Context)) (first : Part Context) (i : Item Context) → parts ≡ first ∷ rest → first ≡ Sub i → ArePayable y most parts
    → (printed_by y parts ≡ item (unshared_of y i) (printed_by y rest)) × IsPayable y most i × (cost_of (unshared_of y i) + cost_of_parts (printed_by y rest) ≤ most) × ArePayable y most rest
split-item y most parts rest first i is first_is payable =
    let all : parts ≡ Sub i ∷ rest = is ∙ ap (λ p. p ∷ rest) first_is in
    let may = All-same (MayBeAsked y) (Sub i ∷ rest) parts (sym all) payable.0 in
    let prints : printed_by y parts ≡ item (unshared_of y i) (printed_by y rest) = ap (printed_by y) all in
    let costs = costs-item (printed_by y parts) most (unshared_of y i) (printed_by y rest) prints payable.1 in
    (prints, (All-head (MayBeAsked y) (Sub i) rest may, costs.0), costs.1, (All-tail (MayBeAsked y) (Sub i) rest may, costs.2))

-- parts that begin with a text are split into this text and the rest
pub split-text : (y : ReadSymbol) (most : ℕ) (parts rest : List (Part Context)) (first : Part Context) → parts ≡ first ∷ rest → ((x : Item Context) → first ≡ Sub x → ⊥) → ArePayable y most parts
    → (printed_by y parts ≡ bytes (bytes_of_part y first) (printed_by y rest)) × IsText first × MayBeAsked y first × (length (bytes_of_part y first) + cost_of_parts (printed_by y rest) ≤ most) × ArePayable y most rest
split-text y most parts rest first is no_item payable =
    let may = All-same (MayBeAsked y) (first ∷ rest) parts (sym is) payable.0 in
    let is_text = text_unless first no_item in
    let prints : printed_by y parts ≡ bytes (bytes_of_part y first) (printed_by y rest) = ap (printed_by y) is ∙ printed-text y first rest is_text in
    let costs = costs-text (printed_by y parts) most (bytes_of_part y first) (printed_by y rest) prints payable.1 in
    (prints, is_text, All-head (MayBeAsked y) first rest may, costs.0, (All-tail (MayBeAsked y) first rest may, costs.1))

-- once the length of an item's text is added to a sum, the sum and the length of the rest's text make the whole length, and the sum and the
-- rest's cost are at most `most`
pub adds-item : (u one rest : Unshared) (total n all most : ℕ) → u ≡ item one rest → total + length (text_of u) ≡ all → total + cost_of_parts u ≤ most → n ≡ length (text_of one)
    → ((total + n) + length (text_of rest) ≡ all) × ((total + n) + cost_of_parts rest ≤ most)
adds-item u one rest total n all most is sum paid long =
    let texts : length (text_of u) ≡ length (text_of one) + length (text_of rest) = ap (λ v. length (text_of v)) is ∙ length-append (text_of one) (text_of rest) in
    let costs : cost_of_parts u ≡ (1 + cost_of_parts one) + cost_of_parts rest = ap cost_of_parts is in
    (omega (arith, texts, sum, long), omega (arith, costs, paid, long, length_of_text one))
