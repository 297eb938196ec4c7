-- A rule that begins: how many lifetimes are bound around it, and its place.
use Rattle.rust_v0.proofs.Basics.{◌≡◌, refl, ap, sym, ◌∙◌, ℕ, ◌+◌, ◌*◌, ◌<◌, ◌≤◌, zero, suc, inl, inr, List, [], ◌∷◌, length, get_or, Bool, true, false, not, ◌&&◌, ◌||◌, Option, Some, Ok, Err, arith, cond, min, ◌^◌, false≢true, and_parts, cases_Bool, AreAll, skipped_from, Stands, Open, Rule, Choice, KindSheet, choice_at, classes_of, in_ranges, Forest, nothing, grown, empty, fixed, token, branch, Production, Part, production_of, v0_table, kinds, no_kind, Value, State, Ground, IsPart, Agree}
use Rattle.rust_grammar.specs.declared.production.Production.TheVariants as rules
use Rattle.rust_grammar.specs.Value as value
use Rattle.rust_grammar.specs.Unfold.{bound_behind, binder_part, Part as Next}
use Rattle.rust_v0.specs.CodeOperands as operands
use Rattle.rust_v0.proofs.OperandLemmas.{binder_agrees}

-- ## What holds of each rule of the table

unfoldable pub all_pass : (Rule → Bool) → List Choice → Bool
all_pass test [] = true
all_pass test (c ∷ cs) = test c.rule && all_pass test cs

unfoldable pub all_kinds_pass : (Rule → Bool) → List KindSheet → Bool
all_kinds_pass test [] = true
all_kinds_pass test (k ∷ ks) = all_pass test k.choices && all_kinds_pass test ks

pub chosen_passes : (test : Rule → Bool) (cs : List Choice) (byte : ℕ) (rule : Rule) → all_pass test cs ≡ true → choice_at cs byte ≡ Some rule → test rule ≡ true
unfolding all_pass
chosen_passes test [] byte rule pass found = cc
chosen_passes test (c ∷ cs) byte rule pass found = elim (cases_Bool (in_ranges (classes_of c) byte)) [
  | inl here ↦ (
      let same : Some c.rule ≡ Some rule = sym (ap (λ v. cond v (Some c.rule) (choice_at cs byte)) here) ∙ found in
      rw (← some_same same) (and_parts _ _ pass).0)
  | inr other ↦ chosen_passes test cs byte rule (and_parts _ _ pass).1 (sym (ap (λ v. cond v (Some c.rule) (choice_at cs byte)) other) ∙ found)
]
  where
    some_same : {a b : Rule} → Some a ≡ Some b → a ≡ b
    some_same e = cc

pub rule_passes : (test : Rule → Bool) (ks : List KindSheet) (kind byte : ℕ) (rule : Rule) → all_kinds_pass test ks ≡ true
    → choice_at (get_or ks kind no_kind).choices byte ≡ Some rule → test rule ≡ true
unfolding all_kinds_pass
rule_passes test [] kind byte rule pass found = cc
rule_passes test (k ∷ ks) zero byte rule pass found = chosen_passes test k.choices byte rule (and_parts _ _ pass).0 found
rule_passes test (k ∷ ks) (suc kind) byte rule pass found = rule_passes test ks kind byte rule (and_parts _ _ pass).1 found

-- whether a binder of the production holds for parts after it
abbrev pub binds : Option Production → Bool
binds (Some rules.Function) = true
binds (Some rules.Dyn) = true
binds _ = false

eats_if_binds : Rule → Bool
eats_if_binds rule = not (binds (production_of rule.number)) || rule.eats

pub binder_eats : (kind byte : ℕ) (rule : Rule) → v0_table.rule kind byte ≡ Some rule → binds (production_of rule.number) ≡ true → rule.eats ≡ true
unfolding eats_if_binds all_kinds_pass all_pass
binder_eats kind byte rule found is =
    let pass : not (binds (production_of rule.number)) || rule.eats ≡ true = rule_passes eats_if_binds kinds kind byte rule refl found in
    rw is at pass

-- ## Places

pub skipped_further : (from : ℕ) (left : Forest) → from ≤ skipped_from from left
skipped_further from nothing = omega arith
skipped_further from (grown empty rest) = skipped_further from rest
skipped_further from (grown (fixed byte) rest) = omega (arith, skipped_further (from + 1) rest)
skipped_further from (grown (token t) rest) = omega arith
skipped_further from (grown (branch rule taken parts) rest) = omega arith

-- the parts of a rule that may begin with a binder come after the rule's own byte
pub behind_own : (s : List ℕ) (around : Open State ℕ) (held from : ℕ) (left : Forest) → Stands v0_table s 0 around held from left
    → binds (production_of around.rule.number) ≡ true → around.place + 1 ≤ skipped_from from left
behind_own s around held from left stands is =
    let eats : around.rule.eats ≡ true = binder_eats stands.kind stands.takes.byte around.rule stands.takes.found is in
    let one : length around.taken ≡ 1 = rw (stands.takes.takes, eats) refl in
    omega (arith, one, stands.starts, skipped_further from left)

-- ## Lifetimes

-- how many lifetimes are bound once a binder may have been read: in code, and in the reading
in_code : Option Production → (b : ℕ) → operands.Operand ℕ → ℕ
in_code (Some rules.Function) b (Ok (n, rest)) = min (b + n) 18446744073709551615
in_code (Some rules.Dyn) b (Ok (n, [])) = min (b + n) 18446744073709551615
in_code _ b found = b

in_reading : Option Production → (b : ℕ) → Next ℕ → ℕ
in_reading (Some rules.Function) b (Ok (n, rest)) = b + n
in_reading (Some rules.Dyn) b (Ok (n, [])) = b + n
in_reading _ b found = b

code_function : (b : ℕ) (ps : List Part) → b < 2 ^ 64 → operands.bound_behind (Some rules.Function) b ps ≡ in_code (Some rules.Function) b (operands.binder ps)
unfolding in_code
code_function b [] fits = omega (arith, fits)
code_function b (Part.Binder m ∷ ps) fits = refl
code_function b (p ∷ ps) fits = omega (arith, fits)

code_dyn : (b : ℕ) (ps : List Part) → b < 2 ^ 64 → operands.bound_behind (Some rules.Dyn) b ps ≡ in_code (Some rules.Dyn) b (operands.binder ps)
unfolding in_code
code_dyn b [] fits = omega (arith, fits)
code_dyn b (Part.Binder m ∷ []) fits = refl
code_dyn b (Part.Binder m ∷ q ∷ ps) fits = refl
code_dyn b (p ∷ ps) fits = refl

reading_function : (b : ℕ) (vs : List Value) → bound_behind (Some rules.Function) b vs ≡ in_reading (Some rules.Function) b (binder_part vs)
unfolding in_reading
reading_function b [] = omega arith
reading_function b (value.a_binder n ∷ vs) = refl
reading_function b (v ∷ vs) = omega arith

reading_dyn : (b : ℕ) (vs : List Value) → bound_behind (Some rules.Dyn) b vs ≡ in_reading (Some rules.Dyn) b (binder_part vs)
unfolding in_reading
reading_dyn b [] = omega arith
reading_dyn b (value.a_binder n ∷ []) = refl
reading_dyn b (value.a_binder n ∷ w ∷ vs) = refl
reading_dyn b (v ∷ vs) = refl

IsBinder : ℕ → ℕ → Type 0
IsBinder m n = (m ≡ n) × (n ≤ 1000)

function_agrees : (g : Ground) (b : ℕ) → b + 1000 < 2 ^ 64 → (found : operands.Operand ℕ) (read : Next ℕ) → Agree g IsBinder found read
    → (in_code (Some rules.Function) b found ≡ in_reading (Some rules.Function) b read) × (in_reading (Some rules.Function) b read ≤ b + 1000)
unfolding in_code in_reading IsBinder
function_agrees g b fits (Ok (m, ps)) read (n, vs, is, same, are) = rw is (omega (arith, same.0, same.1, fits), omega (arith, same.1))
function_agrees g b fits (Err e) read is = rw is (refl, omega arith)

dyn_agrees : (g : Ground) (b : ℕ) → b + 1000 < 2 ^ 64 → (found : operands.Operand ℕ) (read : Next ℕ) → Agree g IsBinder found read
    → (in_code (Some rules.Dyn) b found ≡ in_reading (Some rules.Dyn) b read) × (in_reading (Some rules.Dyn) b read ≤ b + 1000)
unfolding in_code in_reading IsBinder
dyn_agrees g b fits (Ok (m, [])) read (n, [], is, same, are) = rw is (omega (arith, same.0, same.1, fits), omega (arith, same.1))
dyn_agrees g b fits (Ok (m, p ∷ ps)) read (n, [], is, same, are) = absurd are
dyn_agrees g b fits (Ok (m, [])) read (n, v ∷ vs, is, same, are) = absurd are
dyn_agrees g b fits (Ok (m, p ∷ ps)) read (n, v ∷ vs, is, same, are) = rw is (refl, omega arith)
dyn_agrees g b fits (Err e) read is = rw is (refl, omega arith)

-- the code counts as many bound lifetimes as the reading says
pub bound_agrees : (g : Ground) (o : Option Production) (b : ℕ) (ps : List Part) (vs : List Value) → AreAll (IsPart g) ps vs → b + 1000 < 2 ^ 64
    → (operands.bound_behind o b ps ≡ bound_behind o b vs) × (bound_behind o b vs ≤ b + 1000)
unfolding IsBinder
bound_agrees g (Some rules.Function) b ps vs are fits =
    let both = function_agrees g b fits (operands.binder ps) (binder_part vs) (binder_agrees g ps vs are) in
    (code_function b ps (omega (arith, fits)) ∙ both.0 ∙ sym (reading_function b vs), omega (arith, both.1, reading_function b vs))
bound_agrees g (Some rules.Dyn) b ps vs are fits =
    let both = dyn_agrees g b fits (operands.binder ps) (binder_part vs) (binder_agrees g ps vs are) in
    (code_dyn b ps (omega (arith, fits)) ∙ both.0 ∙ sym (reading_dyn b vs), omega (arith, both.1, reading_dyn b vs))
bound_agrees g o b ps vs are fits = (refl, omega arith)

-- a production that binds nothing leaves the number of bound lifetimes
pub bound_same : (o : Option Production) (b : ℕ) (vs : List Value) → binds o ≡ false → bound_behind o b vs ≡ b
bound_same (Some rules.Function) b vs is = absurd (false≢true (sym is))
bound_same (Some rules.Dyn) b vs is = absurd (false≢true (sym is))
bound_same o b vs is = refl

pub bound_few : (s : List ℕ) (g : Ground) (around : Open State ℕ) (ps : List Part) (known : List Value) (held from : ℕ) (left : Forest)
    → AreAll (IsPart g) ps known → Stands v0_table s 0 around held from left → around.context ≤ 1000 * around.place → around.context + 1000 < 2 ^ 64
    → around.place ≤ skipped_from from left → bound_behind (production_of around.rule.number) around.context known ≤ 1000 * skipped_from from left
bound_few s g around ps known held from left are stands few fits later = elim (cases_Bool (binds (production_of around.rule.number))) [
  | inl is ↦ omega (arith, (bound_agrees g (production_of around.rule.number) around.context ps known are fits).1, behind_own s around held from left stands is, few)
  | inr other ↦ omega (arith, bound_same (production_of around.rule.number) around.context known other, few, later)
]
