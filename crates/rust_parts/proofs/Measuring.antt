-- Lengths of what is marked, by the lengths of what is printed.
use Rattle.rust_parts.proofs.Basics.{◌≡◌, ℕ, ◌+◌, List, [], ◌++◌, length, ap, ◌∙◌, arith, length-append, sym, Path, Unshared, text_of, Marked, text, plain, listed, of_type, scope}
use Rattle.sym_parts.specs.Marked as marks
use Rattle.rust_parts.proofs.Texts.{text-listed, text-of_type, text-scope}

-- the length of a text and of what follows it in a part
pub length-first : (b : List ℕ) (m : Marked) (t : List ℕ) (front n : ℕ) → marks.text_of m ≡ t → front ≡ length b → n ≡ length t → front + n ≡ length (marks.text_of (text b m))
unfolding marks.text_of
length-first b m t front n same first rest = omega (arith, first, rest, ap length same, length-append b (marks.text_of m))

-- the length of the rest of a text and of what is printed after it
pub length-base : (b : List ℕ) (u : Unshared) (front n : ℕ) → front ≡ length b → n ≡ length (text_of u) → front + n ≡ length (marks.text_of (text b (plain u)))
unfolding marks.text_of
length-base b u front n first rest = omega (arith, first, rest, length-append b (text_of u ++ []), length-append (text_of u) [])

-- the length of a bracket and of the arguments after it
pub length-listed : (list number : ℕ) (b : List ℕ) (u : Unshared) (front n : ℕ) → front ≡ length b → n ≡ length (text_of u) → front + n ≡ length (marks.text_of (text b (listed list number u)))
length-listed list number b u front n first rest = length-first b (listed list number u) (text_of u) front n (text-listed list number u) first rest

-- the length of what is in an implementation
pub length-type : (u : Unshared) (n : ℕ) → n ≡ length (text_of u) → n ≡ length (marks.text_of (of_type u))
length-type u n long = long ∙ ap length (sym (text-of_type u))

-- the length of the scope of a name
pub length-scope : (lists : ℕ) (p : Path) (u : Unshared) (n : ℕ) → n ≡ length (text_of u) → n ≡ length (marks.text_of (scope lists p u))
length-scope lists p u n long = long ∙ ap length (sym (text-scope lists p u))
