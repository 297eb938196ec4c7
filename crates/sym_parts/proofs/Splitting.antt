-- Parts that are split into the first one and the others.
use Rattle.sym_parts.proofs.Basics.{◌≡◌, ℕ, ◌+◌, ◌≤◌, List, ◌∷◌, length, refl, sym, ap, ◌∙◌, arith, length-append, All-head, All-tail, All-same, joined, IsText, text_of_part, cost_of_part, ArePayable, IsPayable}
use Rattle.sym_print.specs.declared.layout.Item.{Item}
use Rattle.sym_print.specs.declared.layout.Part.{Part}
use Rattle.sym_print.specs.declared.layout.Part.TheVariants.{Sub}
use Rattle.sym_print.specs.Unshared.{Unshared, item, bytes, text_of, cost_of, cost_of_parts}
use Rattle.sym_print.proofs.Noting.{length_of_text}

-- if parts cost at most this much, so do their first item and the rest after it
costs-item : (u : Unshared) (most : ℕ) (one rest : Unshared) → u ≡ item one rest → cost_of_parts u ≤ most → (1 + cost_of_parts one ≤ most) × ((1 + cost_of_parts one) + cost_of_parts rest ≤ most) × (cost_of_parts rest ≤ most)
costs-item u most one rest is within =
    let costs : cost_of_parts u ≡ (1 + cost_of_parts one) + cost_of_parts rest = ap cost_of_parts is in
    (omega (arith, costs, within), omega (arith, costs, within), omega (arith, costs, within))

costs-text : (u : Unshared) (most : ℕ) (b : List ℕ) (rest : Unshared) → u ≡ bytes b rest → cost_of_parts u ≤ most → (length b + cost_of_parts rest ≤ most) × (cost_of_parts rest ≤ most)
costs-text u most b rest is within =
    let costs : cost_of_parts u ≡ length b + cost_of_parts rest = ap cost_of_parts is in
    (omega (arith, costs, within), omega (arith, costs, within))

-- once an item is added to a sum of lengths, the sum includes the item's text, and the rest may cost what is left
pub adds-item : (u one rest : Unshared) (total n all most : ℕ) → u ≡ item one rest → total + length (text_of u) ≡ all → total + cost_of_parts u ≤ most → n ≡ length (text_of one)
    → ((total + n) + length (text_of rest) ≡ all) × ((total + n) + cost_of_parts rest ≤ most)
adds-item u one rest total n all most is sum paid long =
    let texts : length (text_of u) ≡ length (text_of one) + length (text_of rest) = ap (λ v. length (text_of v)) is ∙ length-append (text_of one) (text_of rest) in
    let costs : cost_of_parts u ≡ (1 + cost_of_parts one) + cost_of_parts rest = ap cost_of_parts is in
    (omega (arith, texts, sum, long), omega (arith, costs, paid, long, length_of_text one))

-- likewise for a text
pub adds-text : (u : Unshared) (b : List ℕ) (rest : Unshared) (total n all most : ℕ) → u ≡ bytes b rest → total + length (text_of u) ≡ all → total + cost_of_parts u ≤ most → n ≡ length b
    → ((total + n) + length (text_of rest) ≡ all) × ((total + n) + cost_of_parts rest ≤ most)
adds-text u b rest total n all most is sum paid long =
    let texts : length (text_of u) ≡ length b + length (text_of rest) = ap (λ v. length (text_of v)) is ∙ length-append b (text_of rest) in
    let costs : cost_of_parts u ≡ length b + cost_of_parts rest = ap cost_of_parts is in
    (omega (arith, texts, sum, long), omega (arith, costs, paid, long))

module _ {C : Type 0} (unshared : Item C → Unshared) (bytes_of : Part C → List ℕ) where
  -- a part that is no item is a text
  text_unless : (part : Part C) → ((x : Item C) → part ≡ Sub x → ⊥) → IsText part
  text_unless (Sub x) no_item = absurd (no_item x refl)
  text_unless _ no_item = tt

  -- a text comes first in what is printed
  printed-text : (part : Part C) (rest : List (Part C)) → IsText part → joined unshared bytes_of (part ∷ rest) ≡ bytes (bytes_of part) (joined unshared bytes_of rest)
  printed-text (Sub x) rest is_text = elim is_text [ ]
  printed-text _ rest is_text = refl

  -- the text of a part that is no item
  text-of-text : (part : Part C) → IsText part → text_of_part unshared bytes_of part ≡ bytes_of part
  text-of-text (Sub x) is_text = elim is_text [ ]
  text-of-text _ is_text = refl

  pub length-of-text : (part : Part C) (n : ℕ) → IsText part → n ≡ length (text_of_part unshared bytes_of part) → n ≡ length (bytes_of part)
  length-of-text part n is_text long = long ∙ ap length (text-of-text part is_text)

  pub cost-of-text : (part : Part C) (most : ℕ) → IsText part → length (bytes_of part) ≤ most → cost_of_part unshared bytes_of part ≤ most
  cost-of-text (Sub x) most is_text paid = elim is_text [ ]
  cost-of-text _ most is_text paid = paid

module _ {C : Type 0} (unshared : Item C → Unshared) (bytes_of : Part C → List ℕ) (MayCome : Part C → Type 0) (most : ℕ) where
  -- parts that begin with an item are split into this item and the rest
  pub split-item : (parts rest : List (Part C)) (first : Part C) (i : Item C) → parts ≡ first ∷ rest → first ≡ Sub i → ArePayable unshared bytes_of MayCome most parts
      → (joined unshared bytes_of parts ≡ item (unshared i) (joined unshared bytes_of rest)) × IsPayable unshared bytes_of MayCome most i
      × (cost_of (unshared i) + cost_of_parts (joined unshared bytes_of rest) ≤ most) × ArePayable unshared bytes_of MayCome most rest
  split-item parts rest first i is first_is payable =
      let all : parts ≡ Sub i ∷ rest = is ∙ ap (λ p. p ∷ rest) first_is in
      let may = All-same MayCome (Sub i ∷ rest) parts (sym all) payable.0 in
      let prints : joined unshared bytes_of parts ≡ item (unshared i) (joined unshared bytes_of rest) = ap (joined unshared bytes_of) all in
      let costs = costs-item (joined unshared bytes_of parts) most (unshared i) (joined unshared bytes_of rest) prints payable.1 in
      (prints, (All-head MayCome (Sub i) rest may, costs.0), costs.1, (All-tail MayCome (Sub i) rest may, costs.2))

  -- parts that begin with a text are split into this text and the rest
  pub split-text : (parts rest : List (Part C)) (first : Part C) → parts ≡ first ∷ rest → ((x : Item C) → first ≡ Sub x → ⊥) → ArePayable unshared bytes_of MayCome most parts
      → (joined unshared bytes_of parts ≡ bytes (bytes_of first) (joined unshared bytes_of rest)) × IsText first × MayCome first
      × (length (bytes_of first) + cost_of_parts (joined unshared bytes_of rest) ≤ most) × ArePayable unshared bytes_of MayCome most rest
  split-text parts rest first is no_item payable =
      let may = All-same MayCome (first ∷ rest) parts (sym is) payable.0 in
      let is_text = text_unless unshared bytes_of first no_item in
      let prints : joined unshared bytes_of parts ≡ bytes (bytes_of first) (joined unshared bytes_of rest) = ap (joined unshared bytes_of) is ∙ printed-text unshared bytes_of first rest is_text in
      let costs = costs-text (joined unshared bytes_of parts) most (bytes_of first) (joined unshared bytes_of rest) prints payable.1 in
      (prints, is_text, All-head MayCome first rest may, costs.0, (All-tail MayCome first rest may, costs.1))
