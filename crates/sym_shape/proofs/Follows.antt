-- What follows the symbols on the reader's stack.
use Rattle.sym_shape.proofs.Basics.{◌≡◌, ℕ, true, ◌&&◌, inl, inr, List, [], ◌∷◌, ◌++◌, refl, or_left, or_right, and_from, or_cases, and_parts, Sym, Kind, Table, Forest, spell_all, AreTrees, begins, can_be_empty, comes_next, KeepsAfter, AreSymbols, IsLawful, first_of, IsFollowed}
use Rattle.sym_shape.proofs.Tokens.{MayFollow}
use Rattle.sym_shape.proofs.Firsts.{forest_first}

pub symbols_pushed : (g : Table) (xs ys : List Sym) → AreSymbols g xs → AreSymbols g ys → AreSymbols g (xs ++ ys)
symbols_pushed g [] ys p q = q
symbols_pushed g (x ∷ xs) ys p q = (p.0, symbols_pushed g xs ys p.1 q)

pub next_from_first : (g : Table) (k : ℕ) (xs ys : List Sym) (b : ℕ) → (first_of g ys b ≡ true → g.after k b ≡ true) → first_of g (xs ++ ys) b ≡ true → comes_next g k xs b ≡ true
next_from_first g k [] ys b after h = after h
next_from_first g k (x ∷ xs) ys b after h =
    elim (or_cases (begins g x b) (can_be_empty g x && first_of g (xs ++ ys) b) h) [
      | inl here ↦ or_left _ _ here
      | inr later ↦ (
          let both = and_parts (can_be_empty g x) (first_of g (xs ++ ys) b) later in
          or_right _ _ (and_from _ _ both.0 (next_from_first g k xs ys b after both.1)))
    ]

-- the symbols of a rule may take the place of their kind
pub followed_pushed : (g : Table) (k : ℕ) (xs ys : List Sym) → KeepsAfter g k xs → IsFollowed g (Kind k ∷ ys) → IsFollowed g (xs ++ ys)
followed_pushed g k [] ys keeps h = h.1
followed_pushed g k (x ∷ xs) ys keeps h =
    (λ b lt first. keeps.0 b lt (next_from_first g k xs ys b (h.0 b lt) first), followed_pushed g k xs ys keeps.1 h)

follow_at : (g : Table) (lawful : IsLawful g) (x : Sym) (xs : List Sym) (f : Forest) (w : List ℕ) → AreSymbols g xs → IsFollowed g (x ∷ xs) → AreTrees g xs f → spell_all f ≡ w → MayFollow g x w
follow_at g lawful x xs f [] known followed h e = tt
follow_at g lawful x xs f (b ∷ w) known followed h e =
    let first = forest_first g lawful xs f b w known h e in
    followed.0 b first.0 first.1

-- the bytes spelled by the symbols after a symbol may follow that symbol
pub forest_follows : (g : Table) (lawful : IsLawful g) (x : Sym) (xs : List Sym) (f : Forest) → AreSymbols g xs → IsFollowed g (x ∷ xs) → AreTrees g xs f → MayFollow g x (spell_all f)
forest_follows g lawful x xs f known followed h = follow_at g lawful x xs f (spell_all f) known followed h refl
