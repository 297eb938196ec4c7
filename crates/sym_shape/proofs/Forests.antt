-- Forests: joined, taken apart, and their rows.
use Rattle.sym_shape.proofs.Basics.{◌≡◌, ℕ, ◌+◌, List, [], ◌∷◌, ◌++◌, length, refl, ap, sym, ◌∙◌, arith, append_assoc, length-append, Sym, Table, Tree, branch, empty, token, fixed, Forest, nothing, grown, spell, spell_all, AreTrees, row_count, row_count_all, tree_count, rows_of, rows_of_all}

-- one forest after another
abbrev pub joined : Forest → Forest → Forest
joined nothing f = f
joined (grown t rest) f = grown t (joined rest f)

pub spell_all-joined : (a b : Forest) → spell_all (joined a b) ≡ spell_all a ++ spell_all b
spell_all-joined nothing b = refl
spell_all-joined (grown t a) b = ap (λ x. spell t ++ x) (spell_all-joined a b) ∙ sym (append_assoc (spell t) (spell_all a) (spell_all b))

pub AreTrees-joined : (g : Table) (xs ys : List Sym) (a b : Forest) → AreTrees g xs a → AreTrees g ys b → AreTrees g (xs ++ ys) (joined a b)
AreTrees-joined g [] ys nothing b p q = q
AreTrees-joined g (x ∷ xs) ys (grown t a) b p q = (p.0, AreTrees-joined g xs ys a b p.1 q)
AreTrees-joined g [] ys (grown t a) b p q = absurd p
AreTrees-joined g (x ∷ xs) ys nothing b p q = absurd p

-- a forest has as many trees as there are symbols
pub count_trees : (g : Table) (xs : List Sym) (f : Forest) → AreTrees g xs f → tree_count f ≡ length xs
count_trees g [] nothing p = refl
count_trees g (x ∷ xs) (grown t f) p = omega (arith, count_trees g xs f p.1)
count_trees g [] (grown t f) p = absurd p
count_trees g (x ∷ xs) nothing p = absurd p

-- a forest for two lists of symbols
pub record Halves (g : Table) (xs ys : List Sym) (f : Forest) : Type 0 where
  pub front : Forest
  pub back : Forest
  pub is : f ≡ joined front back
  pub fronts : AreTrees g xs front
  pub backs : AreTrees g ys back

pub halves : (g : Table) (xs ys : List Sym) (f : Forest) → AreTrees g (xs ++ ys) f → Halves g xs ys f
halves g [] ys f p = record { front = nothing; back = f; is = refl; fronts = tt; backs = p }
halves g (x ∷ xs) ys (grown t f) p =
    let h = halves g xs ys f p.1 in
    record { front = grown t h.front; back = h.back; is = ap (λ v. grown t v) h.is; fronts = (p.0, h.fronts); backs = h.backs }
halves g (x ∷ xs) ys nothing p = absurd p

pub same_halves : (g : Table) (xs : List Sym) (a b v w : Forest) → AreTrees g xs a → AreTrees g xs b → joined a v ≡ joined b w → (a ≡ b) × (v ≡ w)
same_halves g [] nothing nothing v w p q e = (refl, e)
same_halves g (x ∷ xs) (grown s a) (grown t b) v w p q e =
    let heads : s ≡ t = cc in
    let tails = same_halves g xs a b v w p.1 q.1 cc in
    (cc, tails.1)
same_halves g [] nothing (grown t b) v w p q e = absurd q
same_halves g [] (grown s a) b v w p q e = absurd p
same_halves g (x ∷ xs) nothing b v w p q e = absurd p
same_halves g (x ∷ xs) (grown s a) nothing v w p q e = absurd q

mutual
  pub length-rows_of : (t : Tree) (after at number : ℕ) → length (rows_of t after at number) ≡ row_count t
  length-rows_of (branch rule taken parts) after at number = omega (arith, length-rows_of_all parts (at + length taken) (number + 1))
  length-rows_of empty after at number = refl
  length-rows_of (token t) after at number = refl
  length-rows_of (fixed byte) after at number = refl

  pub length-rows_of_all : (f : Forest) (at number : ℕ) → length (rows_of_all f at number) ≡ row_count_all f
  length-rows_of_all nothing at number = refl
  length-rows_of_all (grown t f) at number =
      omega (arith, length-append (rows_of t (tree_count f) at number) (rows_of_all f (at + length (spell t)) (number + row_count t)), length-rows_of t (tree_count f) at number, length-rows_of_all f (at + length (spell t)) (number + row_count t))
