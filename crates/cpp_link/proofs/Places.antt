-- Parts by their numbers.
use Rattle.cpp_link.proofs.Basics.{◌≡◌, refl, ap, arith, lit≤, ℕ, zero, suc, ◌<◌, ◌≤◌, Bool, true, false, not, ◌&&◌, List, [], ◌∷◌, length, get_or, nat_eq, false≢true, eqb-true, eqb-false, Term, instance, applied, Value, tree, part, tree_of, is_there, tree_at, Part, one_if_there, one_if_arguments, name_closes, value_of, values_of, IsThere, AreThere}
use Rattle.cpp_tree.specs.declared.node.Qualifiers.{Qualifiers}
use Rattle.cpp_tree.specs.declared.node.Mark.{Mark}

pub part_at : (s : List ℕ) (ts : List Term) (ps : List Part) (k : ℕ) → value_of s ts (get_or ps k Part.Nothing) ≡ part (values_of s ts ps) k
unfolding value_of values_of part
part_at s _ [] k = refl
part_at s _ (q ∷ ps) zero = refl
part_at s vs (q ∷ ps) (suc k) = part_at s vs ps k

pub part_there : (s : List ℕ) (n : ℕ) (ps : List Part) (k : ℕ) → AreThere s n ps → IsThere s n (get_or ps k Part.Nothing)
part_there s n [] k there = tt
part_there s n (q ∷ ps) zero there = there.0
part_there s n (q ∷ ps) (suc k) there = part_there s n ps k there.1

-- ## Parts by how many there are

pub values_length : (s : List ℕ) (ts : List Term) (ps : List Part) → length (values_of s ts ps) ≡ length ps
unfolding values_of
values_length s ts [] = refl
values_length s ts (p ∷ ps) = omega (arith, values_length s ts ps)

pub none_are : (vs : List Value) → length vs ≡ 0 → vs ≡ []
none_are [] none = refl
none_are (v ∷ vs) none = absurd (omega (arith, none))

pub one_is : (vs : List Value) → length vs ≡ 1 → vs ≡ part vs 0 ∷ []
unfolding part
one_is [] one = absurd (omega (arith, one))
one_is (v ∷ vs) one = ap (λ xs. v ∷ xs) (none_are vs (omega (arith, one)))

pub two_are : (vs : List Value) → length vs ≡ 2 → vs ≡ part vs 0 ∷ part vs 1 ∷ []
unfolding part
two_are [] two = absurd (omega (arith, two))
two_are (v ∷ vs) two = ap (λ xs. v ∷ xs) (one_is vs (omega (arith, two)))

pub three_are : (vs : List Value) → length vs ≡ 3 → vs ≡ part vs 0 ∷ part vs 1 ∷ part vs 2 ∷ []
unfolding part
three_are [] three = absurd (omega (arith, three))
three_are (v ∷ vs) three = ap (λ xs. v ∷ xs) (two_are vs (omega (arith, three)))

pub record Later (vs : List Value) : Type 0 where
  pub second : Value
  pub third : Value
  pub fourth : Value
  pub rest : List Value
  pub are : vs ≡ part vs 0 ∷ second ∷ third ∷ fourth ∷ rest

pub later_are : (vs : List Value) → 3 < length vs → Later vs
unfolding part
later_are (v ∷ w ∷ x ∷ y ∷ vs) more = record { second = w; third = x; fourth = y; rest = vs; are = refl }
later_are (v ∷ w ∷ x ∷ []) more = absurd (omega (arith, more))
later_are (v ∷ w ∷ []) more = absurd (omega (arith, more))
later_are (v ∷ []) more = absurd (omega (arith, more))
later_are [] more = absurd (omega (arith, more))

pub empty_length : (ps : List Part) → nat_eq (length ps) 0 ≡ true → length ps ≡ 0
empty_length ps none = eqb-true (length ps) 0 none

pub many_more : (n : ℕ) → nat_eq n 0 ≡ false → (n ≡ 1 → ⊥) → (n ≡ 2 → ⊥) → (n ≡ 3 → ⊥) → 3 < n
many_more zero some one two three = absurd (eqb-false zero zero some refl)
many_more (suc zero) some one two three = absurd (one refl)
many_more (suc (suc zero)) some one two three = absurd (two refl)
many_more (suc (suc (suc zero))) some one two three = absurd (three refl)
many_more (suc (suc (suc (suc n)))) some one two three = omega arith

-- ## A name with arguments

-- a name with arguments makes a node at its end
pub there_closes : (s : List ℕ) (ts : List Term) (ps : List Part) → is_there (part (values_of s ts ps) 1) ≡ true → 1 ≤ name_closes ps
unfolding name_closes value_of values_of part is_there
there_closes s ts [] there = absurd (false≢true there)
there_closes s ts (p ∷ []) there = absurd (false≢true there)
there_closes s ts (p ∷ Part.Nothing ∷ ps) there = absurd (false≢true there)
there_closes s ts (p ∷ q ∷ ps) there = lit≤ tt

-- ## What follows a name

-- the part after a name is the name's arguments: it is neither absent nor a tagged name that takes the name's place
pub record AreArguments (s : List ℕ) (ts : List Term) (t : Term) (p : Part) : Type 0 where
  pub instance_of : applied t (value_of s ts p) ≡ instance t (tree_of (value_of s ts p))
  pub there : is_there (value_of s ts p) ≡ true
  pub makes : one_if_arguments (value_of s ts p) ≡ 1

pub are_arguments : (s : List ℕ) (ts : List Term) (t : Term) (p : Part) → (p ≡ Part.Nothing → ⊥) → ((n : ℕ) (q : Qualifiers) (m : Mark) → p ≡ Part.Named n q m → ⊥) → AreArguments s ts t p
unfolding value_of applied is_there one_if_arguments one_if_there
are_arguments s ts t Part.Nothing some other = absurd (some refl)
are_arguments s ts t (Part.Named n q m) some other = absurd (other n q m refl)
are_arguments s ts t p some other = record { instance_of = refl; there = refl; makes = refl }

none-and : (b : Bool) → b && false ≡ false
none-and true = refl
none-and false = refl

all-and : (b : Bool) → b && true ≡ b
all-and true = refl
all-and false = refl

-- a name with nothing after it
pub nothing_behind : (s : List ℕ) (ts : List Term) (t : Term) (b : Bool)
    → tree (applied t (value_of s ts Part.Nothing)) (b && not (is_there (value_of s ts Part.Nothing))) ≡ tree t b
unfolding value_of applied is_there tree_of
nothing_behind s ts t b = ap (λ c. tree t c) (all-and b)

-- a name followed by one that takes its place
pub name_behind : (s : List ℕ) (ts : List Term) (t : Term) (b : Bool) (n : ℕ) (q : Qualifiers) (m : Mark)
    → tree (applied t (value_of s ts (Part.Named n q m))) (b && not (is_there (value_of s ts (Part.Named n q m)))) ≡ tree (tree_at ts n) false
unfolding value_of applied is_there tree_of
name_behind s ts t b n q m = ap (λ c. tree (tree_at ts n) c) (none-and b)

-- a name with its arguments after it
pub arguments_behind : (s : List ℕ) (ts : List Term) (t : Term) (b : Bool) (p : Part) → AreArguments s ts t p
    → tree (applied t (value_of s ts p)) (b && not (is_there (value_of s ts p))) ≡ tree (instance t (tree_of (value_of s ts p))) false
arguments_behind s ts t b p a = rw a.instance_of (rw a.there (ap (λ c. tree (instance t (tree_of (value_of s ts p))) c) (none-and b)))
