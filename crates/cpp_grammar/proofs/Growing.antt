-- Each tree of the earlier grammar is a tree of the ABI's grammar, and each tree of the ABI's grammar is one of the
-- wide grammar.
use Rattle.cpp_grammar.proofs.Basics.{◌≡◌, ℕ, zero, suc, ◌<◌, List, [], ◌∷◌, map, get_or, slice_get, Bool, true, false, ◌&&◌, nat_eq, Option, Some, None, inl, inr, refl, ap, sym, ◌∙◌, subst, arith, eqb-true, and_parts, false≢true, cases_lt, slice_get_cases, slice_get-map, unwrap_or-slice_get, option_map, unwrap_or, Rule, Sym, Kind as OfKind, Name, Number, Byte, choice_at, table_of, Table, symbols_of, Tree, Forest, branch, empty, token, fixed, nothing, grown, TakesRule, IsTree, AreTrees, Cpp, Production, Operation, Alternative, in_ranges, among, is_in, pick, alternatives, choose, kinds, productions, number_of, wide_alternatives, wide_choose, rule_taken, sheet_with, sheet, blank, abi, sheet_before, abi_before, wide_sheet, wide}
use Rattle.cpp_grammar.specs.declared.kind.Kind.{Kind}
use Rattle.cpp_grammar.specs.Before.{alternatives_before}
use Rattle.cpp_grammar.proofs.Choosing.{sheet_at, picked}

-- if there is an earlier choice, the later one is the same
unfoldable pub same_choice : (earlier later : Option Production) → Bool
same_choice None later = true
same_choice (Some p) None = false
same_choice (Some p) (Some q) = nat_eq (number_of p) (number_of q)

unfoldable pub each_below : ℕ → (ℕ → Bool) → Bool
each_below zero p = true
each_below (suc n) p = p n && each_below n p

-- the later alternatives choose what the earlier ones choose
unfoldable keeps_choices : (earlier later : List Alternative) → Bool
keeps_choices earlier later = each_below 256 (λ b. same_choice (pick earlier b) (pick later b))

before_kept : (kind : Kind) → keeps_choices (alternatives_before kind) (alternatives kind) ≡ true
unfolding in_ranges among is_in pick alternatives number_of alternatives_before same_choice each_below keeps_choices
before_kept Kind.Symbol = refl
before_kept _ = refl

abi_kept : (kind : Kind) → keeps_choices (alternatives kind) (wide_alternatives kind) ≡ true
unfolding in_ranges among is_in pick alternatives number_of wide_alternatives same_choice each_below keeps_choices
abi_kept Kind.Symbol = refl
abi_kept _ = refl

numbered : (p : Production) → slice_get productions (number_of p) ≡ Some p
unfolding productions number_of
numbered Production.Mark = refl
numbered (Production.Operation Operation.ExpressionC) = refl
numbered _ = refl

pub below : (n : ℕ) (p : ℕ → Bool) (b : ℕ) → each_below n p ≡ true → b < n → p b ≡ true
unfolding each_below
below zero p b each lt = absurd (omega (arith, lt))
below (suc n) p b each lt =
    let both = and_parts (p n) (each_below n p) each in
    elim (cases_lt b n) [
      | inl under ↦ below n p b both.1 under
      | inr at ↦ subst (λ k. p k ≡ true) (omega (arith, at, lt)) both.0
    ]

-- productions with the same number are the same
pub same_production : (p q : Production) → nat_eq (number_of p) (number_of q) ≡ true → p ≡ q
same_production p q same = same_some p q (sym (numbered p) ∙ ap (slice_get productions) (eqb-true (number_of p) (number_of q) same) ∙ numbered q)
  where
    same_some : (p q : Production) → ◌≡◌ {A = Option Production} (Some p) (Some q) → p ≡ q
    same_some p q h = cc

pub kept : (earlier later : Option Production) (p : Production) → same_choice earlier later ≡ true → earlier ≡ Some p → later ≡ Some p
unfolding same_choice
kept None later p same is = absurd cc
kept (Some q) None p same is = absurd (false≢true same)
kept (Some q) (Some r) p same is = ap Some (sym (same_production q r same)) ∙ is

kept_choice : (earlier later : List Alternative) (byte : ℕ) (p : Production) → keeps_choices earlier later ≡ true → byte < 256 → pick earlier byte ≡ Some p → pick later byte ≡ Some p
unfolding keeps_choices
kept_choice earlier later byte p each lt at =
    kept (pick earlier byte) (pick later byte) p (below 256 (λ b. same_choice (pick earlier b) (pick later b)) byte each lt) at

-- the wide grammar chooses what the ABI's grammar chooses
pub wide_kept : (kind : Kind) (byte : ℕ) (p : Production) → byte < 256 → choose kind byte ≡ Some p → wide_choose kind byte ≡ Some p
unfolding choose wide_choose
wide_kept kind byte p lt at = kept_choice (alternatives kind) (wide_alternatives kind) byte p (abi_kept kind) lt at

-- the table of some alternatives
abbrev pub table_with : (Kind → List Alternative) → Table
table_with begins = table_of blank (map (sheet_with begins) kinds) Cpp

pub rule_with : (begins : Kind → List Alternative) (k : ℕ) (kind : Kind) (byte : ℕ) → slice_get kinds k ≡ Some kind → (table_with begins).rule k byte ≡ rule_taken (pick (begins kind) byte)
unfolding sheet_with
rule_with begins k kind byte at = ap (λ s. choice_at s.choices byte) (sheet_at begins k kind at) ∙ picked (begins kind) byte

-- the sheet of a number past the last kind is blank
past_kinds : (begins : Kind → List Alternative) (k : ℕ) → slice_get kinds k ≡ None → get_or (map (sheet_with begins) kinds) k blank ≡ blank
past_kinds begins k past =
    sym (unwrap_or-slice_get (map (sheet_with begins) kinds) k blank)
    ∙ ap (λ o. unwrap_or o blank) (slice_get-map (sheet_with begins) kinds k ∙ ap (option_map (sheet_with begins)) past)

none_past : (begins : Kind → List Alternative) (k byte : ℕ) → slice_get kinds k ≡ None → (table_with begins).rule k byte ≡ None
unfolding blank
none_past begins k byte past = ap (λ s. choice_at s.choices byte) (past_kinds begins k past)

full_past : (begins : Kind → List Alternative) (k : ℕ) → slice_get kinds k ≡ None → (table_with begins).may_be_empty k ≡ false
unfolding blank
full_past begins k past = ap (λ s. s.may_be_empty) (past_kinds begins k past)

-- each kind keeps what it chose
abbrev Keeps : (was now : Kind → List Alternative) → Type 0
Keeps was now = (kind : Kind) → keeps_choices (was kind) (now kind) ≡ true

empty_keeps : (was now : Kind → List Alternative) (k : ℕ) → (table_with was).may_be_empty k ≡ true → (table_with now).may_be_empty k ≡ true
unfolding sheet_with
empty_keeps was now k is = elim (slice_get_cases kinds k).1 [
  | inl there ↦ ap (λ s. s.may_be_empty) (sheet_at now k there.0 there.2) ∙ sym (ap (λ s. s.may_be_empty) (sheet_at was k there.0 there.2)) ∙ is
  | inr past ↦ absurd (false≢true (sym (full_past was k past.1) ∙ is))
]

rule_kept : (was now : Kind → List Alternative) (k byte : ℕ) (rule : Rule) → Keeps was now → byte < 256 → (table_with was).rule k byte ≡ Some rule → (table_with now).rule k byte ≡ Some rule
unfolding rule_taken
rule_kept was now k byte rule each lt found = elim (slice_get_cases kinds k).1 [
  | inl there ↦ by there.0 there.2 (pick (was there.0) byte) refl (sym (rule_with was k there.0 byte there.2) ∙ found)
  | inr past ↦ (let clash : None ≡ Some rule = sym (none_past was k byte past.1) ∙ found in absurd cc)
]
  where
    by : (kind : Kind) → slice_get kinds k ≡ Some kind → (chosen : Option Production) → pick (was kind) byte ≡ chosen → rule_taken chosen ≡ Some rule → (table_with now).rule k byte ≡ Some rule
    by kind at None is h = let clash : None ≡ Some rule = h in absurd cc
    by kind at (Some p) is h = rule_with now k kind byte at ∙ ap rule_taken (kept_choice (was kind) (now kind) byte p (each kind) lt is) ∙ h

takes : (was now : Kind → List Alternative) (k : ℕ) (rule : Rule) (taken : List ℕ) → Keeps was now → TakesRule (table_with was) k rule taken → TakesRule (table_with now) k rule taken
takes was now k rule taken each t = record { byte = t.byte; is_byte = t.is_byte; found = rule_kept was now k t.byte rule each t.is_byte t.found; takes = t.takes }

mutual
  tree_keeps : (was now : Kind → List Alternative) → Keeps was now → (x : Sym) (t : Tree) → IsTree (table_with was) x t → IsTree (table_with now) x t
  tree_keeps was now each (OfKind k) (branch rule taken parts) is = (takes was now k rule taken each is.0, trees_keep was now each (symbols_of rule) parts is.1)
  tree_keeps was now each (OfKind k) empty is = empty_keeps was now k is
  tree_keeps was now each Name (token t) is = is
  tree_keeps was now each (Number kind) (token t) is = is
  tree_keeps was now each (Byte b) (fixed c) is = is
  tree_keeps was now each _ _ is = absurd is

  trees_keep : (was now : Kind → List Alternative) → Keeps was now → (xs : List Sym) (f : Forest) → AreTrees (table_with was) xs f → AreTrees (table_with now) xs f
  trees_keep was now each [] nothing is = is
  trees_keep was now each (x ∷ xs) (grown t f) is = (tree_keeps was now each x t is.0, trees_keep was now each xs f is.1)
  trees_keep was now each _ _ is = absurd is

pub earlier_tree : (x : Sym) (t : Tree) → IsTree abi_before x t → IsTree abi x t
unfolding abi_before abi sheet_before sheet
earlier_tree x t is = tree_keeps alternatives_before alternatives before_kept x t is

pub abi_wide : (x : Sym) (t : Tree) → IsTree abi x t → IsTree wide x t
unfolding abi wide sheet wide_sheet
abi_wide x t is = tree_keeps alternatives wide_alternatives abi_kept x t is
