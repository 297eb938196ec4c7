-- Names of std, and the usual names that they begin with.
use Rattle.std.proofs.Common.{◌≡◌, ◌<◌, ◌≤◌, ◌+◌, ◌-◌, ◌==◌, zero, suc, ℕ, Bool, true, false, true≢false, not, ◌&&◌, ◌||◌, List, [], ◌∷◌, ◌++◌, length, take, drop, get_or, nat_eq, nat_lt, refl, sym, ap, ◌∙◌, arith, add-zero, Option, None, Some, codes, inl, inr, eqb-true, eq-eqb, get_or-drop, drop-drop, length-drop, length-append, ltb-true, subst, slice_get, if◌then◌else◌}
use Rattle.short_names.proofs.Basics.{starts_with, list_all, list_any, and_parts, and_left, and_right, and_from, at_drop_more, drop_all, drop_more, get_or_past, get_or_append_left, slice_get-get_or, Place, Alias, ALIASES, WHOLES, PARTS, STD, USUAL_FIRSTS, StdName, std_name, behind_whole, behind_part, row_in, size_of, member_in, front_size, is_constructor, last_part, end_by, ends_name, is_letter, is_name_byte, begins_std, run_of, text_of}
use Rattle.short_names.proofs.FrontLemmas.{false-from, front-length, front-byte, differs}
use Rattle.short_names.proofs.RowLemmas.{none-in, row_in-append, row_in-here}
use Rattle.short_names.proofs.RunLemmas.{lt-or-le, run-prefix, run-stops}

some-bytes : (t : List ℕ) → not (length t == 0) ≡ true → 0 < length t
some-bytes [] h = absurd (true≢false (sym h))
some-bytes (b ∷ t) h = omega arith

-- ## Names of std

-- a `_` comes after `std::` in all rows but the last
low_sixth : List ℕ → Bool
low_sixth t = nat_lt 5 (length t) && get_or t 5 0 == 95

rows-low : list_all (λ row. low_sixth (text_of row)) (take 6 WHOLES) ≡ true
unfolding text_of low_sixth
rows-low = refl

wholes-are : WHOLES ≡ take 6 WHOLES ++ STD ∷ []
wholes-are = refl

std-is : text_of STD ≡ codes "std::"
unfolding text_of
std-is = refl

no-whole : (run : List ℕ) → (get_or run 5 0 ≡ 95 → ⊥) → row_in (take 6 WHOLES) run ≡ None
unfolding low_sixth
no-whole run other =
    none-in low_sixth run
    (λ t is.
    let parts = and_parts (nat_lt 5 (length t)) (get_or t 5 0 == 95) is in
    differs run t 5 (ltb-true 5 (length t) parts.0) (λ same. other (same ∙ eqb-true (get_or t 5 0) 95 parts.1)))
    (take 6 WHOLES) rows-low

low_first : List ℕ → Bool
low_first t = not (length t == 0) && get_or t 0 0 == 95

parts-low : list_all (λ row. low_first (text_of row)) PARTS ≡ true
unfolding text_of low_first
parts-low = refl

pub no-part : (name : List ℕ) → (get_or name 0 0 ≡ 95 → ⊥) → row_in PARTS name ≡ None
unfolding low_first
no-part name other =
    none-in low_first name
    (λ t is.
    let parts = and_parts (not (length t == 0)) (get_or t 0 0 == 95) is in
    differs name t 0 (some-bytes t parts.0) (λ same. other (same ∙ eqb-true (get_or t 0 0) 95 parts.1)))
    PARTS parts-low

pub same-part : (name : List ℕ) → (get_or name 0 0 ≡ 95 → ⊥) → behind_part name ≡ name
same-part name other = ap (λ o. drop (size_of o) name) (no-part name other)

pub std-plain : (run : List ℕ) → begins_std run ≡ true → (get_or run 5 0 ≡ 95 → ⊥) → std_name run ≡ Some (record { whole = STD; name = drop 5 run })
unfolding std_name
std-plain run is other =
    let here : starts_with nat_eq run (text_of STD) ≡ true = ap (starts_with nat_eq run) std-is ∙ is in
    let whole : row_in WHOLES run ≡ Some STD =
    ap (λ rows. row_in rows run) wholes-are ∙ row_in-append (take 6 WHOLES) (STD ∷ []) run (no-whole run other) ∙ row_in-here STD [] run here in
    let first : get_or (drop 5 run) 0 0 ≡ 95 → ⊥ = λ low. other (sym (get_or-drop 5 run 0 0) ∙ low) in
    let five : drop (length (text_of STD)) run ≡ drop 5 run = ap (λ t. drop (length t) run) std-is in
    ap (behind_whole run) whole
    ∙ ap (λ n. Some (record { whole = STD; name = behind_part n })) five
    ∙ ap (λ n. Some (record { whole = STD; name = n })) (same-part (drop 5 run) first)

name_of : Option StdName → List ℕ
name_of None = []
name_of (Some std) = std.name

drop-end : (j : ℕ) (run : List ℕ) → drop (length run - length (drop j run)) run ≡ drop j run
drop-end j run = elim (lt-or-le j (length run)) [
  | inl within ↦ let on : length run - length (drop j run) ≡ j = omega (arith, within, length-drop j run) in ap (λ k. drop k run) on
  | inr past ↦ drop_all (length run - length (drop j run)) run (omega (arith, past, length-drop j run)) ∙ sym (drop_all j run past)
]

-- a name of std is the end of its run
pub std-end : (run : List ℕ) (std : StdName) → std_name run ≡ Some std → (drop (length run - length std.name) run ≡ std.name) × (length std.name ≤ length run)
unfolding std_name name_of
std-end run std = by (row_in WHOLES run)
  where
    by : (o : Option Place) → behind_whole run o ≡ Some std → (drop (length run - length std.name) run ≡ std.name) × (length std.name ≤ length run)
    by None is = absurd (cc)
    by (Some whole) is =
        let from = length (text_of whole) in
        let size = size_of (row_in PARTS (drop from run)) in
        let named : drop (from + size) run ≡ std.name = sym (drop-drop size from run) ∙ ap name_of is in
        (ap (λ n. drop (length run - length n) run) (sym named) ∙ drop-end (from + size) run ∙ named, omega (arith, ap length named, length-drop (from + size) run))

-- ## Usual names

usual_first : List ℕ → Bool
usual_first t = not (length t == 0) && get_or USUAL_FIRSTS (get_or t 0 0) 0 == 49

all-usual : list_all (λ row. usual_first (text_of row.name)) ALIASES ≡ true
unfolding text_of usual_first
all-usual = refl

both : (a b : Bool) → (a ≡ true → b ≡ false) → (a && b) ≡ false
both true b f = f refl
both false b f = refl

members-none : (rows : List Alias) (name text : List ℕ) → list_all (λ row. usual_first (text_of row.name)) rows ≡ true
    → ((t class : List ℕ) → usual_first t ≡ true → starts_with nat_eq name t ≡ true → is_constructor (drop (length t) text) class ≡ false) → member_in rows name text ≡ None
unfolding member_in
members-none [] name text all other = refl
members-none (row ∷ rows) name text all other =
    let parts = and_parts (usual_first (text_of row.name)) (list_all (λ row. usual_first (text_of row.name)) rows) all in
    let no : (starts_with nat_eq name (text_of row.name) && is_constructor (drop (length (text_of row.name)) text) (last_part (text_of row.template))) ≡ false =
    both _ _ (other (text_of row.name) (last_part (text_of row.template)) parts.0) in
    rw no (members-none rows name text parts.1 other)

-- a name whose first byte begins no usual name
pub no-usual : (name text : List ℕ) → (get_or USUAL_FIRSTS (get_or name 0 0) 0 ≡ 49 → ⊥) → member_in ALIASES name text ≡ None
unfolding usual_first
no-usual name text other =
    members-none ALIASES name text all-usual (λ t class is begins.
    let parts = and_parts (not (length t == 0)) (get_or USUAL_FIRSTS (get_or t 0 0) 0 == 49) is in
    absurd (other (ap (λ b. get_or USUAL_FIRSTS b 0) (front-byte name t 0 begins (some-bytes t parts.0)) ∙ eqb-true (get_or USUAL_FIRSTS (get_or t 0 0) 0) 49 parts.1)))

pub no-name : (text : List ℕ) → member_in ALIASES [] text ≡ None
unfolding usual_first
no-name text =
    members-none ALIASES [] text all-usual (λ t class is begins.
    let parts = and_parts (not (length t == 0)) (get_or USUAL_FIRSTS (get_or t 0 0) 0 == 49) is in
    absurd (omega (arith, front-length [] t begins, some-bytes t parts.0)))

any-at : (name : List ℕ) (k : ℕ) → k < length name → get_or name k 0 ≡ 58 → list_any (λ y. nat_eq y 58) name ≡ true
any-at [] k within is = absurd (omega (arith, within))
any-at (byte ∷ name) zero within is = rw (eq-eqb byte 58 is) refl
any-at (byte ∷ name) (suc k) within is = by (nat_eq byte 58) (any-at name k (omega (arith, within)) is)
  where
    by : (b : Bool) {r : Bool} → r ≡ true → (b || r) ≡ true
    by true is = refl
    by false is = is

colon-is : is_name_byte 58 ≡ true
unfolding is_name_byte
colon-is = refl

-- if a run has no colon, no member follows a front of the run
no-member : (name text t class : List ℕ) → name ≡ run_of text → list_any (λ y. nat_eq y 58) name ≡ false → starts_with nat_eq name t ≡ true → is_constructor (drop (length t) text) class ≡ false
unfolding is_constructor
no-member name text t class run none begins =
    let other : starts_with nat_eq (drop (length t) text) (codes "::") ≡ false = false-from (starts_with nat_eq (drop (length t) text) (codes "::")) (λ is.
    let byte : get_or text (length t) 0 ≡ 58 =
    ap (λ k. get_or text k 0) (sym (add-zero (length t))) ∙ sym (get_or-drop (length t) text 0 0) ∙ front-byte (drop (length t) text) (codes "::") 0 is (omega arith) in
    elim (lt-or-le (length t) (length name)) [
      | inl within ↦
          let here : get_or name (length t) 0 ≡ 58 =
          sym (get_or_append_left name (drop (length (run_of text)) text) 0 (length t) within)
          ∙ ap (λ n. get_or (n ++ drop (length (run_of text)) text) (length t) 0) run ∙ ap (λ s. get_or s (length t) 0) (sym (run-prefix text)) ∙ byte in
          absurd (true≢false (sym (any-at name (length t) within here) ∙ none))
      | inr past ↦
          let end : length t ≡ length (run_of text) = omega (arith, past, front-length name t begins, ap length run) in
          absurd (true≢false (sym colon-is ∙ ap is_name_byte (sym byte) ∙ ap (λ k. is_name_byte (get_or text k 0)) end ∙ run-stops text))
    ]) in
    rw other refl

pub no-colon : (name text : List ℕ) → name ≡ run_of text → list_any (λ y. nat_eq y 58) name ≡ false → member_in ALIASES name text ≡ None
no-colon name text run none = members-none ALIASES name text all-usual (λ t class is begins. no-member name text t class run none begins)

-- ## A row

module _ (rows : List Alias) (name text : List ℕ) (k : ℕ) (d : Alias) (within : k < length rows) where
  abbrev is_member : Bool
  is_member =
      starts_with nat_eq name (text_of (get_or rows k d).name)
      && is_constructor (drop (length (text_of (get_or rows k d).name)) text) (last_part (text_of (get_or rows k d).template))

  pub member-past : is_member ≡ false → member_in (drop k rows) name text ≡ member_in (drop (k + 1) rows) name text
  unfolding member_in
  member-past other = at_drop_more (λ rs. member_in rs name text) rows k d within ∙ rw other refl

  pub member-found : is_member ≡ true → member_in (drop k rows) name text ≡ Some (get_or rows k d)
  unfolding member_in
  member-found is = at_drop_more (λ rs. member_in rs name text) rows k d within ∙ rw is refl

-- what is known once a row is found
pub member-is : (rows : List Alias) (name text : List ℕ) (alias : Alias) → member_in rows name text ≡ Some alias
    → (starts_with nat_eq name (text_of alias.name) ≡ true) × (is_constructor (drop (length (text_of alias.name)) text) (last_part (text_of alias.template)) ≡ true)
unfolding member_in
member-is [] name text alias found = absurd (cc)
member-is (row ∷ rows) name text alias found =
    by (starts_with nat_eq name (text_of row.name)) (is_constructor (drop (length (text_of row.name)) text) (last_part (text_of row.template))) refl refl found (member-is rows name text alias)
  where
    by : (a b : Bool) → starts_with nat_eq name (text_of row.name) ≡ a → is_constructor (drop (length (text_of row.name)) text) (last_part (text_of row.template)) ≡ b
        → (if a && b then Some row else member_in rows name text) ≡ Some alias
        → (member_in rows name text ≡ Some alias → (starts_with nat_eq name (text_of alias.name) ≡ true) × (is_constructor (drop (length (text_of alias.name)) text) (last_part (text_of alias.template)) ≡ true))
        → (starts_with nat_eq name (text_of alias.name) ≡ true) × (is_constructor (drop (length (text_of alias.name)) text) (last_part (text_of alias.template)) ≡ true)
    by true true begins is found rest =
        let same : row ≡ alias = cc in
        subst (λ (r : Alias). (starts_with nat_eq name (text_of r.name) ≡ true) × (is_constructor (drop (length (text_of r.name)) text) (last_part (text_of r.template)) ≡ true)) same (begins, is)
    by true false begins is found rest = rest found
    by false b begins is found rest = rest found

module _ (name text : List ℕ) (row : ℕ) (d : Alias) (within : row < length ALIASES) where
  pub member-here : is_member ALIASES name text row d within ≡ true → member_in (drop row ALIASES) name text ≡ slice_get ALIASES row
  member-here is = member-found ALIASES name text row d within is ∙ sym (slice_get-get_or ALIASES row d within)

pub member-end : (rows : List Alias) (name text : List ℕ) (k : ℕ) → length rows ≤ k → member_in (drop k rows) name text ≡ None
unfolding member_in
member-end rows name text k past = ap (λ rs. member_in rs name text) (drop_all k rows past)

pub both-hold : (a b : Bool) → a ≡ true → b ≡ (a && b)
both-hold true b is = refl
both-hold false b is = absurd (true≢false (sym is))

-- ## What `_` says

pub no-low : (t : List ℕ) → starts_with nat_eq t (codes "_") ≡ false → get_or t 0 0 ≡ 95 → ⊥
no-low [] h is = absurd (omega (arith, is))
no-low (b ∷ t) h is = true≢false (sym (ap (λ x. x && true) (eq-eqb 95 b (sym is))) ∙ h)

pub std-none : (run : List ℕ) → None ≡ row_in WHOLES run → std_name run ≡ None
unfolding std_name
std-none run none = ap (behind_whole run) (sym none)

pub std-found : (run : List ℕ) (whole : Place) → Some whole ≡ row_in WHOLES run → std_name run ≡ Some (record { whole = whole; name = behind_part (drop (length (text_of whole)) run) })
unfolding std_name
std-found run whole found = ap (behind_whole run) (sym found)

pub std-room : (run : List ℕ) → begins_std run ≡ true → 5 ≤ length run
std-room run is = front-length run (codes "std::") is

pub run-room : (text : List ℕ) → length (run_of text) ≤ length text
run-room text = omega (arith, ap length (run-prefix text), length-append (run_of text) (drop (length (run_of text)) text))

-- ## Constructors and destructors

zero-is : is_letter 0 ≡ false
unfolding is_letter
zero-is = refl

pub no-letter : (text : List ℕ) (at : ℕ) → length text ≤ at → false ≡ is_letter (get_or text at 0)
no-letter text at past = sym (ap is_letter (get_or_past text at 0 past) ∙ zero-is)

module _ (text class : List ℕ) where
  pub no-colons : starts_with nat_eq text (codes "::") ≡ false → is_constructor text class ≡ false
  unfolding is_constructor
  no-colons h = rw h refl

  pub no-class : starts_with nat_eq text (codes "::") ≡ true → starts_with nat_eq (drop (front_size text) text) class ≡ false → is_constructor text class ≡ false
  unfolding is_constructor
  no-class h k = rw (h, k) refl

  pub with-class : starts_with nat_eq text (codes "::") ≡ true → starts_with nat_eq (drop (front_size text) text) class ≡ true
      → is_constructor text class ≡ not (is_letter (get_or text (front_size text + length class) 0))
  unfolding is_constructor
  with-class h k = rw (h, k) refl

  pub colons-from : is_constructor text class ≡ true → starts_with nat_eq text (codes "::") ≡ true
  colons-from is = by (starts_with nat_eq text (codes "::")) refl
    where
      by : (b : Bool) → starts_with nat_eq text (codes "::") ≡ b → starts_with nat_eq text (codes "::") ≡ true
      by true h = h
      by false h = absurd (true≢false (sym is ∙ no-colons h))

-- ## The last part of a name

all-fails : (test : ℕ → Bool) (name : List ℕ) (k : ℕ) → k < length name → test (get_or name k 0) ≡ false → list_all test name ≡ false
all-fails test [] k within fails = absurd (omega (arith, within))
all-fails test (byte ∷ name) zero within fails = and_left (test byte) (list_all test name) fails
all-fails test (byte ∷ name) (suc k) within fails = and_right (test byte) (list_all test name) (all-fails test name k (omega (arith, within)) fails)

pub end-whole : (test : ℕ → Bool) (name : List ℕ) → list_all test name ≡ true → end_by test name ≡ name
unfolding end_by
end-whole test [] all = refl
end-whole test (byte ∷ name) all = rw all refl

pub end-behind : (test : ℕ → Bool) (name : List ℕ) (k : ℕ) → k < length name → test (get_or name k 0) ≡ false → list_all test (drop (suc k) name) ≡ true → end_by test name ≡ drop (suc k) name
unfolding end_by
end-behind test [] k within fails all = absurd (omega (arith, within))
end-behind test (byte ∷ name) zero within fails all = rw (and_left (test byte) (list_all test name) fails) (end-whole test name all)
end-behind test (byte ∷ name) (suc k) within fails all =
    rw (and_right (test byte) (list_all test name) (all-fails test name k (omega (arith, within)) fails)) (end-behind test name k (omega (arith, within)) fails all)

pub one-more-passes : (test : ℕ → Bool) (name : List ℕ) (k : ℕ) → k < length name → test (get_or name k 0) ≡ true → list_all test (drop (k + 1) name) ≡ true → list_all test (drop k name) ≡ true
one-more-passes test name k within passes all = ap (list_all test) (drop_more name k 0 within) ∙ and_from (test (get_or name k 0)) (list_all test (drop (k + 1) name)) passes all

-- ## Where a name ends

pub ends-colons : (rest : List ℕ) → starts_with nat_eq rest (codes "::") ≡ true → true ≡ ends_name rest
unfolding ends_name
ends-colons [] h = refl
ends-colons (byte ∷ rest) h = sym (rw h refl)

pub ends-empty : (rest : List ℕ) → length rest < 1 → true ≡ ends_name rest
unfolding ends_name
ends-empty [] h = refl
ends-empty (byte ∷ rest) h = absurd (omega (arith, h))

pub ends-byte : (rest : List ℕ) → 0 < length rest → starts_with nat_eq rest (codes "::") ≡ false → ends_name rest ≡ not (is_name_byte (get_or rest 0 0) || get_or rest 0 0 == 60)
unfolding ends_name
ends-byte [] within h = absurd (omega (arith, within))
ends-byte (byte ∷ rest) within h = rw h refl
