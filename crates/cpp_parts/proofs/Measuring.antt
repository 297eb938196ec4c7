-- The lengths of marked texts, by the lengths of what is printed.
use Rattle.cpp_parts.proofs.Basics.{◌≡◌, ℕ, ◌+◌, ◌≤◌, List, [], ◌++◌, length, refl, ap, ◌∙◌, arith, length-append, Term, Context, ReadSymbol, unshared_of, bytes_of_part, Part, Sub, IsText, text_of_part, cost_of_part, Unshared, text_of, Marked, text, marked, ◌before◌, Role, Numbering, text_of-before, plain, elements}
use Rattle.sym_parts.specs.Marked as marks
use Rattle.cpp_parts.proofs.Texts.{text-elements}

-- the text of a part that is no item
pub text-of-text : (y : ReadSymbol) (part : Part Context) → IsText part → text_of_part (unshared_of y) (bytes_of_part y) part ≡ bytes_of_part y part
text-of-text y (Sub x) is_text = elim is_text [ ]
text-of-text y _ is_text = refl

pub length-of-text : (y : ReadSymbol) (part : Part Context) (n : ℕ) → IsText part → n ≡ length (text_of_part (unshared_of y) (bytes_of_part y) part) → n ≡ length (bytes_of_part y part)
length-of-text y part n is_text long = long ∙ ap length (text-of-text y part is_text)

pub cost-of-text : (y : ReadSymbol) (part : Part Context) (most : ℕ) → IsText part → length (bytes_of_part y part) ≤ most → cost_of_part (unshared_of y) (bytes_of_part y) part ≤ most
cost-of-text y (Sub x) most is_text paid = elim is_text [ ]
cost-of-text y _ most is_text paid = paid

-- the length of the end of a text, followed by what is printed
pub length-base : (b : List ℕ) (u : Unshared) (back n : ℕ) → back ≡ length b → n ≡ length (text_of u) → back + n ≡ length (marks.text_of (text b (plain u)))
unfolding marks.text_of
length-base b u back n first rest = omega (arith, first, rest, length-append b (text_of u ++ []), length-append (text_of u) [])

-- the length of two texts
pub length-two : (b c : List ℕ) (n m : ℕ) → n ≡ length b → m ≡ length c → n + m ≡ length (marks.text_of (text b (text c marks.done)))
unfolding marks.text_of
length-two b c n m first second = omega (arith, first, second, length-append b (c ++ []), length-append c [])

-- the length of a list in brackets
pub length-listed : (r : Role) (o : Numbering) (t : Term) (opening close : List ℕ) (u : Unshared) (n inside closing : ℕ) → length opening ≡ n → inside ≡ length (text_of u) → closing ≡ length close
    → (n + inside) + closing ≡ length (marks.text_of (text opening (elements r o t u before text close marks.done)))
unfolding marks.text_of
length-listed r o t opening close u n inside closing first list last =
    omega (
      arith,
      first,
      list,
      last,
      length-append opening (marks.text_of (elements r o t u before text close marks.done)),
      ap length (text_of-before (elements r o t u) (text close marks.done)),
      length-append (marks.text_of (elements r o t u)) (close ++ []),
      ap length (text-elements r o t u),
      length-append close [],
    )
