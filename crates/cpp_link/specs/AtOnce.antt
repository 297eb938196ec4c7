-- A rule that begins and closes in one step adds at most two nodes, together with the nodes that the rule around it adds in
-- this step. This is a test of the grammar's rules, by computing.
use Rattle.std.proofs.Common.{◌≡◌, refl, sym, ◌∙◌, ap, subst, arith, ℕ, zero, suc, ◌+◌, ◌<◌, ◌≤◌, List, [], ◌∷◌, length, drop, get_or, Bool, true, false, not, ◌&&◌, ◌||◌, cond, if◌then◌else◌, Some, inl, inr}
use Rattle.std.specs.Prelude.{nat_le}
use Rattle.std.proofs.lemmas.Bool.{false≢true, and_parts, leb-true, cases_Bool, cases_eq, cases_lt}
use Rattle.std.proofs.lemmas.List.{drop_all}
use Rattle.sym_shape.specs.declared.rule.Rule.{Rule}
use Rattle.sym_shape.specs.declared.rule.Sym.{Sym}
use Rattle.sym_shape.specs.declared.rule.Sym.TheVariants.{Kind, Name, Number, Byte}
use Rattle.sym_shape.specs.declared.sheet.Choice.{Choice}
use Rattle.sym_shape.specs.Sheet.{classes_of, in_ranges, choice_at}
use Rattle.sym_shape.specs.Table.{symbols_of}
use Rattle.sym_shape.specs.Tree.{Tree, Forest, branch, empty, token, fixed, nothing, grown, AreTrees}
use Rattle.sym_link.specs.Stepping.{no_part_has_row, closes_at_once}
use Rattle.sym_link.specs.Parts.{skipped, passed_by, joined, values_in, Stands}
use Rattle.sym_link.specs.Reading.{Open}
use Rattle.cpp_grammar.specs.declared.production.Production.{Production}
use Rattle.cpp_grammar.specs.declared.production.Operation.{Operation}
use Rattle.cpp_grammar.specs.Grammar.{in_ranges as in_class, among, is_in, pick, number_of_kind, parts_of, is_chain, may_be_empty, kinds, productions, number_of}
use Rattle.cpp_grammar.specs.Wide.{wide_alternatives, wide_choose}
use Rattle.cpp_grammar.specs.Follow.{after_ranges, rank, height}
use Rattle.cpp_grammar.specs.Table.{padded, rule_of, ranges_of, class_of, choice_of, sheet_with, blank, wide_sheet, wide}
use Rattle.cpp_grammar.specs.Unfolding.{production_at}
use Rattle.cpp_grammar.proofs.ClosedTrees.{at_number, its_symbols, taken_rule}
use Rattle.cpp_term.specs.Values.{State, Around}
use Rattle.cpp_link.specs.declared.part.Part.{Part}
use Rattle.cpp_link.specs.Owed.{made_before, made_at_end, sum_all, owes_of, owes}
use Rattle.cpp_link.specs.Closes.{pack_closes, closes_of, closes}
use Rattle.cpp_link.specs.ClosesLaws.{name_one, closes_owed}

-- ## The test

-- the most that a pack adds where it closes after n parts; then the most that any production adds
unfoldable pack_most_at : (held : ℕ) → ℕ
pack_most_at zero = 1
pack_most_at (suc held) = owes_of Production.PackArgument (suc held)

unfoldable closes_most : Production → (held : ℕ) → ℕ
closes_most Production.InternalName held = 1
closes_most Production.SourceName held = 1
closes_most Production.Tag held = 1
closes_most Production.TypeTag held = 1
closes_most Production.PackArgument held = pack_most_at held
closes_most p held = owes_of p held

-- if a production closes after n parts, its rule and the one around it add at most two nodes
abbrev adds_two : (before behind : ℕ) → Production → (held : ℕ) → Bool
adds_two before behind p held = nat_le (before + owes_of p 0 + closes_most p held) (behind + owes_of p held + 2)

-- these symbols may be parts without a row
abbrev may_be_rowless : List Sym → Bool
may_be_rowless [] = true
may_be_rowless (Kind k ∷ ss) = wide.may_be_empty k && may_be_rowless ss
may_be_rowless (Byte b ∷ ss) = may_be_rowless ss
may_be_rowless (Name ∷ ss) = false
may_be_rowless (Number kind ∷ ss) = false

-- a production with n parts and these symbols left adds at most two nodes, wherever it closes in the step that begins it
abbrev closes_two : (before behind : ℕ) → Production → (held : ℕ) → List Sym → Bool
closes_two before behind p held [] = adds_two before behind p 0
closes_two before behind p held (Kind k ∷ ss) = not (wide.may_be_empty k) || closes_two before behind p (held + 1) ss
closes_two before behind p held (Byte b ∷ ss) = closes_two before behind p (held + 1) ss
closes_two before behind p held (Name ∷ ss) = not (may_be_rowless ss) || (adds_two before behind p (held + 1) && adds_two before behind p 0)
closes_two before behind p held (Number kind ∷ ss) = not (may_be_rowless ss) || (adds_two before behind p (held + 1) && adds_two before behind p 0)

-- likewise for each rule of a kind
abbrev choices_two : (before behind : ℕ) → List Choice → Bool
choices_two before behind [] = true
choices_two before behind (c ∷ cs) = closes_two before behind (production_at c.rule.number) 0 (symbols_of c.rule) && choices_two before behind cs

-- likewise for each rule that may begin in a production with n parts and these symbols left
abbrev begins_two : Production → (before held : ℕ) → List Sym → Bool
begins_two p before held [] = true
begins_two p before held (Kind k ∷ ss) = choices_two before (owes_of p (held + 1)) (get_or wide_sheet k blank).choices && (not (wide.may_be_empty k) || begins_two p before (held + 1) ss)
begins_two p before held (Byte b ∷ ss) = begins_two p before (held + 1) ss
begins_two p before held (Name ∷ ss) = true
begins_two p before held (Number kind ∷ ss) = true

abbrev begins_behind : Production → (held : ℕ) → Bool
begins_behind p held = begins_two p (owes_of p held) held (drop held (parts_of p))

abbrev all_below : (ℕ → Bool) → ℕ → Bool
all_below is zero = true
all_below is (suc n) = is n && all_below is n

each_begins : (p : Production) → all_below (begins_behind p) 5 ≡ true
unfolding in_class among is_in pick wide_alternatives wide_choose number_of_kind parts_of is_chain may_be_empty kinds productions number_of after_ranges rank height padded rule_of ranges_of class_of choice_of sheet_with blank wide_sheet wide production_at made_before made_at_end sum_all owes_of pack_most_at closes_most
each_begins Production.Mark = refl
each_begins (Production.Operation Operation.ExpressionC) = refl
each_begins _ = refl

one_below : (is : ℕ → Bool) (n k : ℕ) → all_below is n ≡ true → k < n → is k ≡ true
one_below is zero k all less = absurd (omega (arith, less))
one_below is (suc n) k all less = elim (cases_eq k n) [
  | inl same ↦ ap is same ∙ (and_parts (is n) (all_below is n) all).0
  | inr other ↦ one_below is n k (and_parts (is n) (all_below is n) all).1 (omega (arith, less, other))
]

-- a production has five parts at most
few_parts : (p : Production) → nat_le (length (parts_of p)) 5 ≡ true
unfolding parts_of
few_parts Production.Mark = refl
few_parts (Production.Operation Operation.ExpressionC) = refl
few_parts _ = refl

begins_at : (p : Production) (held : ℕ) → begins_behind p held ≡ true
begins_at p held = elim (cases_lt held 5) [
  | inl less ↦ one_below (begins_behind p) 5 held (each_begins p) less
  | inr past ↦ ap (λ ss. begins_two p (owes_of p held) held ss) (drop_all held (parts_of p) (omega (arith, leb-true (length (parts_of p)) 5 (few_parts p), past)))
]

-- ## Trees

passes : (a b : Bool) → a ≡ true → (not a || b) ≡ true → b ≡ true
passes true b is h = h
passes false b is h = absurd (false≢true is)

both : (a b : Bool) → a ≡ true → b ≡ true → (a && b) ≡ true
both true b is h = h
both false b is h = is

rowless : (ss : List Sym) (left : Forest) → AreTrees wide ss left → no_part_has_row left ≡ true → may_be_rowless ss ≡ true
rowless [] nothing trees none = refl
rowless (Kind k ∷ ss) (grown empty f) trees none = both (wide.may_be_empty k) (may_be_rowless ss) trees.0 (rowless ss f trees.1 none)
rowless (Byte b ∷ ss) (grown (fixed d) f) trees none = rowless ss f trees.1 none
rowless (s ∷ ss) (grown (token t) f) trees none = absurd (false≢true none)
rowless (s ∷ ss) (grown (branch r x i) f) trees none = absurd (false≢true none)
rowless [] (grown t f) trees none = absurd trees
rowless (s ∷ ss) nothing trees none = absurd trees
rowless (Kind k ∷ ss) (grown (fixed d) f) trees none = absurd trees.0
rowless (Byte b ∷ ss) (grown empty f) trees none = absurd trees.0
rowless (Name ∷ ss) (grown empty f) trees none = absurd trees.0
rowless (Name ∷ ss) (grown (fixed d) f) trees none = absurd trees.0
rowless (Number kind ∷ ss) (grown empty f) trees none = absurd trees.0
rowless (Number kind ∷ ss) (grown (fixed d) f) trees none = absurd trees.0

module _ (before behind : ℕ) (p : Production) where
  abbrev Both : ℕ → Type 0
  Both held = (adds_two before behind p held ≡ true) × (adds_two before behind p 0 ≡ true)

  shifted : (b : Bool) (t x y : ℕ) → x ≡ y → t ≡ (if b then 0 else x) → t ≡ (if b then 0 else y)
  shifted b t x y same is = is ∙ ap (λ k. if b then 0 else k) same

  closing : (held : ℕ) (ss : List Sym) (left : Forest) → AreTrees wide ss left → closes_two before behind p held ss ≡ true → closes_at_once left ≡ true
      → (t : ℕ) → t ≡ (if no_part_has_row left then 0 else (held + values_in 1 (passed_by left) + 1)) → Both t
  closing held [] nothing trees two once t is = rw is (two, two)
  closing held (Kind k ∷ ss) (grown empty f) trees two once t is =
      closing (held + 1) ss f trees.1 (passes (wide.may_be_empty k) (closes_two before behind p (held + 1) ss) trees.0 two) once t
      (shifted (no_part_has_row f) t (held + (1 + values_in 1 (passed_by f)) + 1) (held + 1 + values_in 1 (passed_by f) + 1) (omega arith) is)
  closing held (Byte b ∷ ss) (grown (fixed d) f) trees two once t is =
      closing (held + 1) ss f trees.1 two once t
      (shifted (no_part_has_row f) t (held + (1 + values_in 1 (passed_by f)) + 1) (held + 1 + values_in 1 (passed_by f) + 1) (omega arith) is)
  closing held (Name ∷ ss) (grown (token x) f) trees two once t is =
      let ends = and_parts (adds_two before behind p (held + 1)) (adds_two before behind p 0)
      (passes (may_be_rowless ss) (adds_two before behind p (held + 1) && adds_two before behind p 0) (rowless ss f trees.1 once) two) in
      let same : t ≡ held + 1 = omega (arith, is) in
      rw same ends
  closing held (Number kind ∷ ss) (grown (token x) f) trees two once t is =
      let ends = and_parts (adds_two before behind p (held + 1)) (adds_two before behind p 0)
      (passes (may_be_rowless ss) (adds_two before behind p (held + 1) && adds_two before behind p 0) (rowless ss f trees.1 once) two) in
      let same : t ≡ held + 1 = omega (arith, is) in
      rw same ends
  closing held ss (grown (branch r x i) f) trees two once t is = absurd (false≢true once)
  closing held [] (grown y f) trees two once t is = absurd trees
  closing held (s ∷ ss) nothing trees two once t is = absurd trees
  closing held (Kind k ∷ ss) (grown (fixed d) f) trees two once t is = absurd trees.0
  closing held (Kind k ∷ ss) (grown (token x) f) trees two once t is = absurd trees.0
  closing held (Byte b ∷ ss) (grown empty f) trees two once t is = absurd trees.0
  closing held (Byte b ∷ ss) (grown (token x) f) trees two once t is = absurd trees.0
  closing held (Name ∷ ss) (grown empty f) trees two once t is = absurd trees.0
  closing held (Name ∷ ss) (grown (fixed d) f) trees two once t is = absurd trees.0
  closing held (Number kind ∷ ss) (grown empty f) trees two once t is = absurd trees.0
  closing held (Number kind ∷ ss) (grown (fixed d) f) trees two once t is = absurd trees.0

choice_two : (before behind : ℕ) (cs : List Choice) (b : ℕ) (rule : Rule) → choices_two before behind cs ≡ true → choice_at cs b ≡ Some rule
    → closes_two before behind (production_at rule.number) 0 (symbols_of rule) ≡ true
choice_two before behind [] b rule h found = cc
choice_two before behind (c ∷ cs) b rule h found =
    let parts = and_parts (closes_two before behind (production_at c.rule.number) 0 (symbols_of c.rule)) (choices_two before behind cs) h in
    elim (cases_Bool (in_ranges (classes_of c) b)) [
      | inl here ↦ subst (λ r. closes_two before behind (production_at r.number) 0 (symbols_of r) ≡ true) (some_same c.rule rule (sym (ap (λ v. cond v (Some c.rule) (choice_at cs b)) here) ∙ found)) parts.0
      | inr later ↦ choice_two before behind cs b rule parts.1 (sym (ap (λ v. cond v (Some c.rule) (choice_at cs b)) later) ∙ found)
    ]
  where
    some_same : (x y : Rule) → Some x ≡ Some y → x ≡ y
    some_same x y e = cc

module _ (p : Production) (before : ℕ) (rule : Rule) (taken : List ℕ) (inner rest : Forest) where
  abbrev Begun : (held : ℕ) → Type 0
  Begun held = (closes_two before (owes_of p (held + 1)) (production_at rule.number) 0 (symbols_of rule) ≡ true) × AreTrees wide (symbols_of rule) inner

  begun : (held : ℕ) (ss : List Sym) (left : Forest) → AreTrees wide ss left → begins_two p before held ss ≡ true → skipped left ≡ grown (branch rule taken inner) rest
      → (t : ℕ) → t ≡ held + values_in 1 (passed_by left) → Begun t
  unfolding wide
  begun held (Kind k ∷ ss) (grown (branch r x i) f) trees two is t there =
      let parts = and_parts (choices_two before (owes_of p (held + 1)) (get_or wide_sheet k blank).choices) (not (wide.may_be_empty k) || begins_two p before (held + 1) ss) two in
      let same_rule : r ≡ rule = cc in
      let same_inner : i ≡ inner = cc in
      let same : t ≡ held = omega (arith, there) in
      rw (same, ← same_rule, ← same_inner) (choice_two before (owes_of p (held + 1)) (get_or wide_sheet k blank).choices trees.0.0.byte r parts.0 trees.0.0.found, trees.0.1)
  begun held (Kind k ∷ ss) (grown empty f) trees two is t there =
      let parts = and_parts (choices_two before (owes_of p (held + 1)) (get_or wide_sheet k blank).choices) (not (wide.may_be_empty k) || begins_two p before (held + 1) ss) two in
      begun (held + 1) ss f trees.1 (passes (wide.may_be_empty k) (begins_two p before (held + 1) ss) trees.0 parts.1) is t (omega (arith, there))
  begun held (Byte b ∷ ss) (grown (fixed d) f) trees two is t there = begun (held + 1) ss f trees.1 two is t (omega (arith, there))
  begun held ss (grown (token x) f) trees two is t there = cc
  begun held ss nothing trees two is t there = cc
  begun held [] (grown y f) trees two is t there = absurd trees
  begun held (Kind k ∷ ss) (grown (fixed d) f) trees two is t there = absurd trees.0
  begun held (Byte b ∷ ss) (grown empty f) trees two is t there = absurd trees.0
  begun held (Byte b ∷ ss) (grown (branch r x i) f) trees two is t there = absurd trees.0
  begun held (Name ∷ ss) (grown empty f) trees two is t there = absurd trees.0
  begun held (Name ∷ ss) (grown (branch r x i) f) trees two is t there = absurd trees.0
  begun held (Name ∷ ss) (grown (fixed d) f) trees two is t there = absurd trees.0
  begun held (Number kind ∷ ss) (grown empty f) trees two is t there = absurd trees.0
  begun held (Number kind ∷ ss) (grown (branch r x i) f) trees two is t there = absurd trees.0
  begun held (Number kind ∷ ss) (grown (fixed d) f) trees two is t there = absurd trees.0

-- ## The rule that begins

pack_most : (own : List Part) → closes_of Production.PackArgument own ≤ closes_most Production.PackArgument (length own)
unfolding closes_of pack_most_at closes_most pack_closes
pack_most [] = omega arith
pack_most (p ∷ own) = closes_owed Production.PackArgument (p ∷ own)

most_right : (p : Production) (own : List Part) → closes_of p own ≤ closes_most p (length own)
unfolding closes_of closes_most
most_right Production.InternalName own = name_one own
most_right Production.SourceName own = name_one own
most_right Production.Tag own = name_one own
most_right Production.TypeTag own = name_one own
most_right Production.PackArgument own = pack_most own
most_right p own = closes_owed p own

behind_passed : (ss : List Sym) (passed left : Forest) → AreTrees wide ss (joined passed left) → AreTrees wide (drop (values_in 1 passed) ss) left
behind_passed ss nothing left trees = trees
behind_passed [] (grown t passed) left trees = absurd trees
behind_passed (s ∷ ss) (grown t passed) left trees = subst (λ n. AreTrees wide (drop n (s ∷ ss)) left) (one_more t) (behind_passed ss passed left trees.1)
  where
    one_more : (t : Tree) → suc (values_in 1 passed) ≡ values_in 1 (grown t passed)
    one_more empty = omega arith
    one_more (fixed d) = omega arith
    one_more (token x) = omega arith
    one_more (branch r x i) = omega arith

ended : (before behind : ℕ) (q : Production) (own : List Part) (n : ℕ) → length own ≡ n → adds_two before behind q n ≡ true → before + owes_of q 0 + closes_of q own ≤ behind + owes_of q n + 2
ended before behind q own n is two =
    let most : closes_of q own ≤ closes_most q n = subst (λ k. closes_of q own ≤ closes_most q k) is (most_right q own) in
    omega (arith, most, leb-true (before + owes_of q 0 + closes_most q n) (behind + owes_of q n + 2) two)

-- what is added to a rule and to the rule around it, in a step that begins and closes the rule: at most two nodes
pub record AtOnce (around : ℕ) (held next : ℕ) (number : ℕ) (at_once : ℕ) : Type 0 where
  pub closed : (own : List Part) → length own ≡ at_once → owes around held + owes number 0 + closes number own ≤ owes around next + owes number (length own) + 2
  pub refused : owes around held + closes number [] ≤ owes around next + 2

pub at_once_two : (s : List ℕ) (around : Open State Around) (held from : ℕ) (left : Forest) (rule : Rule) (taken : List ℕ) (parts rest : Forest)
    → Stands wide s 1 around held from left → skipped left ≡ grown (branch rule taken parts) rest → closes_at_once parts ≡ true
    → AtOnce around.rule.number held (held + values_in 1 (passed_by left) + 1) rule.number (if no_part_has_row parts then 0 else (values_in 1 (passed_by parts) + 1))
unfolding owes closes
at_once_two s around held from left rule taken parts rest st left_is once =
    let t = taken_rule st.kind around.rule around.taken st.is_kind st.takes in
    let p = t.production in
    let q = production_at rule.number in
    let number : production_at around.rule.number ≡ p = ap (λ r. production_at r.number) t.is ∙ at_number p in
    let symbols : symbols_of around.rule ≡ parts_of p = ap symbols_of t.is ∙ its_symbols p in
    let next = held + values_in 1 (passed_by left) + 1 in
    let trees : AreTrees wide (drop held (parts_of p)) left =
    subst (λ ss. AreTrees wide (drop held ss) left) symbols (subst (λ n. AreTrees wide (drop n (symbols_of around.rule)) left) (sym st.counted) (behind_passed (symbols_of around.rule) st.passed left st.trees)) in
    let began = begun p (owes_of p held) rule taken parts rest held (drop held (parts_of p)) left trees (begins_at p held) left_is (held + values_in 1 (passed_by left)) refl in
    let at_once : ℕ = if no_part_has_row parts then 0 else (values_in 1 (passed_by parts) + 1) in
    let ends = closing (owes_of p held) (owes_of p next) q 0 (symbols_of rule) parts began.1 began.0 once at_once
    (ap (λ k. if no_part_has_row parts then 0 else k) (omega arith)) in
    record {
      closed = λ own counted. rw number (ended (owes_of p held) (owes_of p next) q own (length own) refl (subst (λ n. adds_two (owes_of p held) (owes_of p next) q n ≡ true) (sym counted) ends.0));
      refused = rw number (omega (arith, ended (owes_of p held) (owes_of p next) q [] 0 refl ends.1));
    }
