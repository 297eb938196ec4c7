-- The rule in the table is the rule of the production that a kind takes.
use Rattle.cpp_grammar.proofs.Basics.{◌≡◌, ◌≢◌, ℕ, zero, suc, ◌+◌, ◌<◌, ◌≤◌, List, [], ◌∷◌, ◌++◌, length, map, get_or, slice_get, Bool, true, false, not, cond, Option, ◌&&◌, ◌||◌, leb, nat_eq, nat_le, Some, None, inl, inr, refl, ap, sym, ◌∙◌, arith, option_map, take_all, slice_get-map, get_or_from_slice_get, slice_get_cases, true≢false, le-leb, lt-leb, eqb-true, and_parts, cases_Bool, cases_order, leb_tells, eqb_tells, Rule, TakesRule, range, in_range, classes_of, choice_at, Production, Alternative, in_ranges, among, is_in, pick, alternatives, choose, kinds, number_of_kind, may_be_empty, wide_alternatives, wide_choose, rule_of, rule_taken, ranges_of, class_of, choice_of, sheet_with, blank, sheet, abi, wide_sheet, wide}
use Rattle.std.proofs.lemmas.List.Folds.{list_any-append}
use Rattle.sym_shape.specs.Sheet as sheets
use Rattle.cpp_grammar.specs.declared.kind.Kind.{Kind}
use Rattle.cpp_grammar.proofs.Chosen.{either_cond}

is_above : (c byte : ℕ) → c ≤ byte → byte ≢ c → c < byte
is_above c byte le other = elim (cases_order byte c) [ inl same ↦ absurd (other same) | inr apart ↦ elim apart [ inl below ↦ absurd (omega (arith, le, below)) | inr above ↦ above ] ]

is_single : (c byte : ℕ) → in_range (range c c) byte ≡ nat_eq byte c
is_single c byte = elim (eqb_tells byte c) [
  | inl same ↦ ap (λ b. b && leb byte c) (le-leb c byte (omega (arith, same.1))) ∙ le-leb byte c (omega (arith, same.1)) ∙ sym same.0
  | inr other ↦ elim (leb_tells c byte) [
    | inl above ↦ ap (λ b. b && leb byte c) above.0 ∙ lt-leb byte c (is_above c byte above.1 other.1) ∙ sym other.0
    | inr below ↦ ap (λ b. b && leb byte c) below.0 ∙ sym other.0
  ]
]

in_all_ranges : (ranges : List ℕ) (byte : ℕ) → sheets.in_ranges (ranges_of ranges) byte ≡ in_ranges ranges byte
unfolding ranges_of in_ranges
in_all_ranges [] byte = refl
in_all_ranges (low ∷ []) byte = refl
in_all_ranges (low ∷ dash ∷ []) byte = refl
in_all_ranges (low ∷ dash ∷ high ∷ rest) byte = ap (λ b. (nat_le low byte && nat_le byte high) || b) (in_all_ranges rest byte)

in_singles : (singles : List ℕ) (byte : ℕ) → sheets.in_ranges (map (λ c. range c c) singles) byte ≡ among singles byte
unfolding among
in_singles [] byte = refl
in_singles (c ∷ cs) byte = ap (λ b. b || sheets.in_ranges (map (λ d. range d d) cs) byte) (is_single c byte) ∙ ap (λ b. nat_eq byte c || b) (in_singles cs byte)

in_class : (a : Alternative) (byte : ℕ) → sheets.in_ranges (classes_of (choice_of a)) byte ≡ is_in a byte
unfolding choice_of class_of is_in
in_class a byte =
    let ranges = ranges_of a.ranges in
    let singles = map (λ c. range c c) a.singles in
    ap (λ class. sheets.in_ranges class byte) (take_all (length (ranges ++ singles)) (ranges ++ singles) (omega arith))
    ∙ list_any-append (λ r. in_range r byte) ranges singles
    ∙ ap (λ b. b || sheets.in_ranges singles byte) (in_all_ranges a.ranges byte)
    ∙ ap (λ b. in_ranges a.ranges byte || b) (in_singles a.singles byte)

pub picked : (all : List Alternative) (byte : ℕ) → choice_at (map choice_of all) byte ≡ rule_taken (pick all byte)
unfolding pick rule_taken choice_of rule_of
picked [] byte = refl
picked (a ∷ rest) byte = elim (cases_Bool (is_in a byte)) [
  | inl here ↦ ap (λ b. cond b (Some (rule_of a.production)) (choice_at (map choice_of rest) byte)) (in_class a byte ∙ here) ∙ sym (ap (λ b. rule_taken (cond b (Some a.production) (pick rest byte))) here)
  | inr later ↦ ap (λ b. cond b (Some (rule_of a.production)) (choice_at (map choice_of rest) byte)) (in_class a byte ∙ later) ∙ picked rest byte ∙ sym (ap (λ b. rule_taken (cond b (Some a.production) (pick rest byte))) later)
]

pub sheet_at : (begins : Kind → List Alternative) (k : ℕ) (kind : Kind) → slice_get kinds k ≡ Some kind → get_or (map (sheet_with begins) kinds) k blank ≡ sheet_with begins kind
sheet_at begins k kind at =
    get_or_from_slice_get (map (sheet_with begins) kinds) k (sheet_with begins kind) blank
    (slice_get-map (sheet_with begins) kinds k ∙ ap (option_map (sheet_with begins)) at)

pub rule_at_kind : (k : ℕ) (kind : Kind) (byte : ℕ) → slice_get kinds k ≡ Some kind → abi.rule k byte ≡ rule_taken (choose kind byte)
unfolding abi sheet sheet_with choose
rule_at_kind k kind byte at = ap (λ s. choice_at s.choices byte) (sheet_at alternatives k kind at) ∙ picked (alternatives kind) byte

pub empty_at_kind : (k : ℕ) (kind : Kind) → slice_get kinds k ≡ Some kind → abi.may_be_empty k ≡ may_be_empty kind
unfolding abi sheet sheet_with
empty_at_kind k kind at = ap (λ s. s.may_be_empty) (sheet_at alternatives k kind at)

kind_count : abi.kinds ≡ length kinds
unfolding abi sheet kinds
kind_count = refl

-- each number below the table's count of kinds is that of a kind
pub is_kind : (k : ℕ) → k < abi.kinds → slice_get kinds k ≡ None → ⊥
is_kind k lt none = elim (slice_get_cases kinds k).1 [
  | inl there ↦ (let clash : None ≡ Some there.0 = sym none ∙ there.2 in absurd cc)
  | inr past ↦ absurd (omega (arith, past.0, lt, kind_count))
]

-- the kinds are in the order of their numbers
unfoldable pub numbered_from : ℕ → List Kind → Bool
numbered_from n [] = true
numbered_from n (kind ∷ rest) = nat_eq (number_of_kind kind) n && numbered_from (suc n) rest

pub kinds_numbered : numbered_from 0 kinds ≡ true
unfolding numbered_from kinds number_of_kind
kinds_numbered = refl

pub number_at : (n : ℕ) (all : List Kind) (k : ℕ) (kind : Kind) → numbered_from n all ≡ true → slice_get all k ≡ Some kind → number_of_kind kind ≡ n + k
unfolding numbered_from
number_at n [] k kind all at = absurd cc
number_at n (first ∷ rest) zero kind all at =
    let same : first ≡ kind = cc in
    let both = and_parts (nat_eq (number_of_kind first) n) (numbered_from (suc n) rest) all in
    omega (arith, ap number_of_kind same, eqb-true (number_of_kind first) n both.0)
number_at n (first ∷ rest) (suc k) kind all at =
    let both = and_parts (nat_eq (number_of_kind first) n) (numbered_from (suc n) rest) all in
    omega (arith, number_at (suc n) rest k kind both.1 at)

pub wide_rule_at : (k : ℕ) (kind : Kind) (byte : ℕ) → slice_get kinds k ≡ Some kind → wide.rule k byte ≡ rule_taken (wide_choose kind byte)
unfolding wide wide_sheet sheet_with wide_choose
wide_rule_at k kind byte at = ap (λ s. choice_at s.choices byte) (sheet_at wide_alternatives k kind at) ∙ picked (wide_alternatives kind) byte

pub wide_empty_at : (k : ℕ) (kind : Kind) → slice_get kinds k ≡ Some kind → wide.may_be_empty k ≡ may_be_empty kind
unfolding wide wide_sheet sheet_with
wide_empty_at k kind at = ap (λ s. s.may_be_empty) (sheet_at wide_alternatives k kind at)

wide_count : wide.kinds ≡ length kinds
unfolding wide wide_sheet kinds
wide_count = refl

pub is_wide_kind : (k : ℕ) → k < wide.kinds → slice_get kinds k ≡ None → ⊥
is_wide_kind k lt none = elim (slice_get_cases kinds k).1 [
  | inl there ↦ (let clash : None ≡ Some there.0 = sym none ∙ there.2 in absurd cc)
  | inr past ↦ absurd (omega (arith, past.0, lt, wide_count))
]

-- ## The production of a tree

-- whether a condition holds for each of these productions
unfoldable pub each_passes : (Production → Bool) → List Alternative → Bool
each_passes passes [] = true
each_passes passes (a ∷ rest) = passes a.production && each_passes passes rest

picked_passes : (passes : Production → Bool) (all : List Alternative) (byte : ℕ) (p : Production) → each_passes passes all ≡ true → pick all byte ≡ Some p → passes p ≡ true
unfolding pick each_passes
picked_passes passes [] byte p h e = absurd cc
picked_passes passes (a ∷ rest) byte p h e =
    let both = and_parts (passes a.production) (each_passes passes rest) h in
    either_cond (λ x. x ≡ Some p → passes p ≡ true) (is_in a byte) (Some a.production) (pick rest byte) (λ is i. let same : a.production ≡ p = cc in sym (ap passes same) ∙ both.0)
    (λ is i. picked_passes passes rest byte p both.1 i) e

-- a kind of this number takes this rule, at some byte
pub record Chosen (k : ℕ) (rule : Rule) : Type 0 where
  pub kind : Kind
  pub number : k ≡ number_of_kind kind
  pub production : Production
  pub is : rule ≡ rule_of production
  pub byte : ℕ
  pub chosen : wide_choose kind byte ≡ Some production

pub chosen_rule : (k : ℕ) (rule : Rule) (taken : List ℕ) → k < wide.kinds → TakesRule wide k rule taken → Chosen k rule
unfolding rule_taken
chosen_rule k rule taken lt takes = go (slice_get kinds k) refl
  where
    by : (kind : Kind) → slice_get kinds k ≡ Some kind → (o : Option Production) → wide_choose kind takes.byte ≡ o → rule_taken o ≡ Some rule → Chosen k rule
    by kind at None is h = let clash : ◌≡◌ {A = Option Rule} None (Some rule) = h in absurd cc
    by kind at (Some p) is h = record { kind = kind; number = omega (arith, number_at 0 kinds k kind kinds_numbered at); production = p; is = cc; byte = takes.byte; chosen = is }

    go : (o : Option Kind) → slice_get kinds k ≡ o → Chosen k rule
    go None none = absurd (is_wide_kind k lt none)
    go (Some kind) at = by kind at (wide_choose kind takes.byte) refl (sym (wide_rule_at k kind takes.byte at) ∙ takes.found)

-- what holds for each production of a kind holds for the productions of the kind's trees
pub taken_passes : (passes : ℕ → Production → Bool) → ((kind : Kind) → each_passes (passes (number_of_kind kind)) (wide_alternatives kind) ≡ true) → (k : ℕ) (rule : Rule) (c : Chosen k rule) →
    passes k c.production ≡ true
unfolding wide_choose
taken_passes passes each k rule c =
    ap (λ n. passes n c.production) c.number ∙ picked_passes (passes (number_of_kind c.kind)) (wide_alternatives c.kind) c.byte c.production (each c.kind) c.chosen

pub implied : (a b : Bool) → not a || b ≡ true → a ≡ true → b ≡ true
implied true b h k = h
implied false b h k = absurd (true≢false (sym k))
