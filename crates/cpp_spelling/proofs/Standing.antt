-- What follows from how a tree compares with the components before it.
use Rattle.cpp_spelling.proofs.Basics.{◌≡◌, ℕ, Bool, true, false, Option, Some, None, refl, ap, sym, Term, Way, is_compared, is_name, compared, standing_of, template_standing_of}
use Rattle.cpp_spelling.specs.declared.steps.Standing.{Standing}

abbrev standing_by : Bool → Option ℕ → Standing
standing_by b first = elim b [ true ↦ compared first | false ↦ Standing.Apart ]

apart-by : (b : Bool) (first : Option ℕ) → Standing.Apart ≡ standing_by b first → b ≡ false
unfolding compared
apart-by false first is = refl
apart-by true (Some k) is = cc
apart-by true None is = cc

known-by : (b : Bool) (first : Option ℕ) (k : ℕ) → Standing.Known k ≡ standing_by b first → (b ≡ true) × (first ≡ Some k)
unfolding compared
known-by false first k is = cc
known-by true (Some j) k is = (refl, cc)
known-by true None k is = cc

fresh-by : (b : Bool) (first : Option ℕ) → Standing.Fresh ≡ standing_by b first → (b ≡ true) × (first ≡ None)
unfolding compared
fresh-by false first is = cc
fresh-by true (Some k) is = cc
fresh-by true None is = (refl, refl)

pub apart-way : (way : Way) (t : Term) (first : Option ℕ) → Standing.Apart ≡ standing_of way t first → is_compared way t ≡ false
unfolding standing_of
apart-way way t first is = apart-by (is_compared way t) first is

pub known-way : (way : Way) (t : Term) (first : Option ℕ) (k : ℕ) → Standing.Known k ≡ standing_of way t first → (is_compared way t ≡ true) × (first ≡ Some k)
unfolding standing_of
known-way way t first k is = known-by (is_compared way t) first k is

pub fresh-way : (way : Way) (t : Term) (first : Option ℕ) → Standing.Fresh ≡ standing_of way t first → (is_compared way t ≡ true) × (first ≡ None)
unfolding standing_of
fresh-way way t first is = fresh-by (is_compared way t) first is

pub apart-name : (t : Term) (first : Option ℕ) → Standing.Apart ≡ template_standing_of t first → is_name t ≡ false
unfolding template_standing_of
apart-name t first is = apart-by (is_name t) first is

pub known-name : (t : Term) (first : Option ℕ) (k : ℕ) → Standing.Known k ≡ template_standing_of t first → (is_name t ≡ true) × (first ≡ Some k)
unfolding template_standing_of
known-name t first k is = known-by (is_name t) first k is

pub fresh-name : (t : Term) (first : Option ℕ) → Standing.Fresh ≡ template_standing_of t first → (is_name t ≡ true) × (first ≡ None)
unfolding template_standing_of
fresh-name t first is = fresh-by (is_name t) first is

pub compared-way : (way : Way) (t : Term) (first : Option ℕ) → is_compared way t ≡ true → compared first ≡ standing_of way t first
unfolding standing_of
compared-way way t first is = ap (λ b. standing_by b first) (sym is)

pub uncompared-way : (way : Way) (t : Term) (first : Option ℕ) → is_compared way t ≡ false → Standing.Apart ≡ standing_of way t first
unfolding standing_of
uncompared-way way t first is = ap (λ b. standing_by b first) (sym is)

pub compared-name : (t : Term) (first : Option ℕ) → is_name t ≡ true → compared first ≡ template_standing_of t first
unfolding template_standing_of
compared-name t first is = ap (λ b. standing_by b first) (sym is)

pub uncompared-name : (t : Term) (first : Option ℕ) → is_name t ≡ false → Standing.Apart ≡ template_standing_of t first
unfolding template_standing_of
uncompared-name t first is = ap (λ b. standing_by b first) (sym is)
