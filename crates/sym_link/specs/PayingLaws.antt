-- A tree of a sheet that passes the test adds at most two nodes for each byte.
use Rattle.std.proofs.Common.{◌≡◌, ℕ, zero, suc, ◌+◌, ◌*◌, ◌≤◌, ◌<◌, List, [], ◌∷◌, ◌++◌, length, get_or, Bool, true, false, not, ◌||◌, cond, Some, refl, ap, sym, ◌∙◌, subst, inl, inr, arith}
use Rattle.std.specs.Prelude.{nat_le}
use Rattle.std.proofs.lemmas.Bool.{false≢true, and_parts, leb-true, cases_Bool, cases_lt}
use Rattle.std.proofs.lemmas.List.{length-append}
use Rattle.sym_core.specs.Number.{AreDigitsOf, ending_of}
use Rattle.sym_core.specs.Token.{Token, bytes_of, IsName, IsNumberToken, IsSeparator}
use Rattle.sym_core.specs.declared.NameClass.{NameClass}
use Rattle.sym_core.specs.declared.NameClass.TheVariants.{Cpp, Rust}
use Rattle.sym_core.specs.declared.NumberKind.{NumberKind}
use Rattle.sym_core.specs.declared.NumberKind.TheVariants.{Length, Decimal, Seq36, Base62, Hex, Digits}
use Rattle.sym_shape.specs.declared.rule.Rule.{Rule}
use Rattle.sym_shape.specs.declared.rule.Sym.{Sym}
use Rattle.sym_shape.specs.declared.rule.Sym.TheVariants.{Kind, Name, Number, Byte}
use Rattle.sym_shape.specs.declared.sheet.Choice.{Choice}
use Rattle.sym_shape.specs.Sheet.{KindSheet, classes_of, in_ranges, choice_at, table_of}
use Rattle.sym_shape.specs.Table.{Table, symbols_of}
use Rattle.sym_shape.specs.Tree.{Tree, Forest, branch, empty, token, fixed, nothing, grown, spell, spell_all, TakesRule, IsTree, AreTrees}
use Rattle.sym_link.specs.Owing.{Owes, cost, cost_all}
use Rattle.sym_link.specs.Paying.{name_pays, slack_of, paid, needed, is_paid_rule, are_paid_choices, is_paid_kind, are_paid_kinds}

-- ## The fewest bytes of tokens

split_pays : (names : NameClass) (digits separator own : List ℕ) → AreDigitsOf Length digits → IsSeparator names separator own
    → name_pays names ≤ 2 * (length (digits ++ separator) + length own)
split_pays names [] separator own length_is separated = absurd length_is.1
split_pays Cpp (d ∷ ds) [] [] length_is separated = absurd separated
split_pays Cpp (d ∷ ds) [] (b ∷ bs) length_is separated = omega (arith, length-append ds [])
split_pays Cpp (d ∷ ds) (c ∷ cs) own length_is separated = absurd separated
split_pays Rust (d ∷ ds) separator own length_is separated = omega arith

token_length : (t : Token) → length (bytes_of t) ≡ length t.before + length t.own + length t.behind
token_length t = omega (arith, length-append (t.before ++ t.own) t.behind, length-append t.before t.own)

name_bytes : (names : NameClass) (t : Token) → IsName names t → name_pays names ≤ 2 * length (bytes_of t)
name_bytes names t is =
    omega (
      arith,
      token_length t,
      ap (λ x. length x) is.split,
      split_pays names is.digits is.separator t.own is.length_is is.separated,
    )

digits_end : (kind : NumberKind) (own : List ℕ) → AreDigitsOf kind own → (behind : List ℕ) → behind ≡ ending_of kind → 1 ≤ length own + length behind
digits_end Length [] is behind ends = absurd is.1
digits_end Length (d ∷ ds) is behind ends = omega arith
digits_end Digits own is behind ends = omega (arith, is.1)
digits_end Decimal own is behind ends = omega (arith, ap (λ x. length x) ends)
digits_end Seq36 own is behind ends = omega (arith, ap (λ x. length x) ends)
digits_end Base62 own is behind ends = omega (arith, ap (λ x. length x) ends)
digits_end Hex own is behind ends = omega (arith, ap (λ x. length x) ends)

number_bytes : (kind : NumberKind) (t : Token) → IsNumberToken kind t → 1 ≤ length (bytes_of t)
number_bytes kind t is = omega (arith, token_length t, digits_end kind t.own is.digits t.behind is.ends)

module _ (owes : Owes) (base : ℕ) (slack : List ℕ) (blank : KindSheet) (sheet : List KindSheet) (names : NameClass) where
  -- ## The test

  abbrev Slack : ℕ → ℕ
  Slack = slack_of owes names base slack

  abbrev Pays : ℕ → Rule → Type 0
  Pays k rule = owes rule.number 0 + needed owes names base slack (symbols_of rule) + base ≤ Slack k + paid owes names base slack (symbols_of rule) + cond rule.eats 2 0

  choice_pays : (k : ℕ) (cs : List Choice) (b : ℕ) (rule : Rule) → are_paid_choices owes names base slack k cs ≡ true → choice_at cs b ≡ Some rule → Pays k rule
  choice_pays k [] b rule h found = cc
  choice_pays k (c ∷ cs) b rule h found =
      let both = and_parts (is_paid_rule owes names base slack k c.rule) (are_paid_choices owes names base slack k cs) h in
      elim (cases_Bool (in_ranges (classes_of c) b)) [
        | inl here ↦ subst (λ r. Pays k r) (some_same c.rule rule (sym (ap (λ v. cond v (Some c.rule) (choice_at cs b)) here) ∙ found)) (leb-true _ _ both.0)
        | inr later ↦ choice_pays k cs b rule both.1 (sym (ap (λ v. cond v (Some c.rule) (choice_at cs b)) later) ∙ found)
      ]
    where
      some_same : (x y : Rule) → Some x ≡ Some y → x ≡ y
      some_same x y e = cc

  kind_pays : (from k : ℕ) (ss : List KindSheet) → are_paid_kinds owes names base slack from ss ≡ true → k < length ss → is_paid_kind owes names base slack (from + k) (get_or ss k blank) ≡ true
  kind_pays from k [] h less = absurd (omega (arith, less))
  kind_pays from zero (s ∷ ss) h less =
      subst (λ n. is_paid_kind owes names base slack n s ≡ true) (omega arith) (and_parts (is_paid_kind owes names base slack from s) (are_paid_kinds owes names base slack (from + 1) ss) h).0
  kind_pays from (suc k) (s ∷ ss) h less =
      subst (λ n. is_paid_kind owes names base slack n (get_or ss k blank) ≡ true) (omega arith)
      (kind_pays (from + 1) k ss (and_parts (is_paid_kind owes names base slack from s) (are_paid_kinds owes names base slack (from + 1) ss) h).1 (omega (arith, less)))

  past : (k : ℕ) (ss : List KindSheet) → length ss ≤ k → get_or ss k blank ≡ blank
  past k [] more = refl
  past zero (s ∷ ss) more = absurd (omega (arith, more))
  past (suc k) (s ∷ ss) more = past k ss (omega (arith, more))

  -- ## Trees

  module _ (is_paid : are_paid_kinds owes names base slack 0 sheet ≡ true) (no_choice : blank.choices ≡ []) (no_empty : blank.may_be_empty ≡ false) where
    abbrev g : Table
    g = table_of blank sheet names

    at_kind : (k : ℕ) → k < length sheet → is_paid_kind owes names base slack k (get_or sheet k blank) ≡ true
    at_kind k less = subst (λ n. is_paid_kind owes names base slack n (get_or sheet k blank) ≡ true) (omega arith) (kind_pays 0 k sheet is_paid less)

    rule_pays : (k b : ℕ) (rule : Rule) → g.rule k b ≡ Some rule → Pays k rule
    rule_pays k b rule found = elim (cases_lt k (length sheet)) [
      | inr more ↦ choice_pays k [] b rule refl (sym (ap (λ s. choice_at s.choices b) (past k sheet more) ∙ ap (λ cs. choice_at cs b) no_choice) ∙ found)
      | inl less ↦ choice_pays k (get_or sheet k blank).choices b rule
          (and_parts (are_paid_choices owes names base slack k (get_or sheet k blank).choices) (not (get_or sheet k blank).may_be_empty || nat_le base (Slack k)) (at_kind k less)).0 found
    ]

    empty_pays : (k : ℕ) → g.may_be_empty k ≡ true → base ≤ Slack k
    empty_pays k h = elim (cases_lt k (length sheet)) [
      | inr more ↦ absurd (false≢true (sym no_empty ∙ sym (ap (λ s. s.may_be_empty) (past k sheet more)) ∙ h))
      | inl less ↦ leb-true base (Slack k) (left_false (get_or sheet k blank).may_be_empty (nat_le base (Slack k)) h
          (and_parts (are_paid_choices owes names base slack k (get_or sheet k blank).choices) (not (get_or sheet k blank).may_be_empty || nat_le base (Slack k)) (at_kind k less)).1)
    ]
      where
        left_false : (a b : Bool) → a ≡ true → (not a || b) ≡ true → b ≡ true
        left_false true b e h = h
        left_false false b e h = absurd (false≢true e)

    taken_length : (k : ℕ) (rule : Rule) (taken : List ℕ) → TakesRule g k rule taken → 2 * length taken ≡ cond rule.eats 2 0
    taken_length k rule taken h = rw h.takes (go rule.eats)
      where
        go : (e : Bool) → 2 * length {A = ℕ} (cond e (h.byte ∷ []) []) ≡ cond e 2 0
        go true = refl
        go false = refl

    mutual
      pub tree_pays : (t : Tree) (k : ℕ) → IsTree g (Kind k) t → cost owes t + base ≤ 2 * length (spell t) + Slack k
      tree_pays (branch rule taken parts) k h =
          omega (
            arith,
            rule_pays k h.0.byte rule h.0.found,
            forest_pays parts (symbols_of rule) h.1,
            taken_length k rule taken h.0,
            length-append taken (spell_all parts),
          )
      tree_pays empty k h = omega (arith, empty_pays k h)
      tree_pays (token t) k h = absurd h
      tree_pays (fixed byte) k h = absurd h

      forest_pays : (f : Forest) (ss : List Sym) → AreTrees g ss f
          → cost_all owes f + paid owes names base slack ss ≤ 2 * length (spell_all f) + needed owes names base slack ss
      forest_pays nothing [] h = omega arith
      forest_pays nothing (s ∷ ss) h = absurd h
      forest_pays (grown t f) [] h = absurd h
      forest_pays (grown t f) (Kind k ∷ ss) h = omega (arith, tree_pays t k h.0, forest_pays f ss h.1, length-append (spell t) (spell_all f))
      forest_pays (grown (token t) f) (Name ∷ ss) h = omega (arith, name_bytes names t h.0, forest_pays f ss h.1, length-append (bytes_of t) (spell_all f))
      forest_pays (grown (token t) f) (Number kind ∷ ss) h = omega (arith, number_bytes kind t h.0, forest_pays f ss h.1, length-append (bytes_of t) (spell_all f))
      forest_pays (grown (fixed c) f) (Byte b ∷ ss) h = omega (arith, forest_pays f ss h.1)
      forest_pays (grown (branch rule taken parts) f) (Name ∷ ss) h = absurd h.0
      forest_pays (grown empty f) (Name ∷ ss) h = absurd h.0
      forest_pays (grown (fixed c) f) (Name ∷ ss) h = absurd h.0
      forest_pays (grown (branch rule taken parts) f) (Number kind ∷ ss) h = absurd h.0
      forest_pays (grown empty f) (Number kind ∷ ss) h = absurd h.0
      forest_pays (grown (fixed c) f) (Number kind ∷ ss) h = absurd h.0
      forest_pays (grown (branch rule taken parts) f) (Byte b ∷ ss) h = absurd h.0
      forest_pays (grown empty f) (Byte b ∷ ss) h = absurd h.0
      forest_pays (grown (token t) f) (Byte b ∷ ss) h = absurd h.0
