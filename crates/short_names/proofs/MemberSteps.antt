-- Usual names before the name of a member that is no constructor.
use Rattle.short_names.proofs.Basics.{◌≡◌, ◌==◌, ◌≤◌, ◌<◌, ◌+◌, ◌-◌, ◌&&◌, ◌||◌, inl, inr, not, refl, sym, ap, ap₂, subst, ◌∙◌, eqb-true, leb-true, ℕ, zero, suc, arith, Bool, true, false, List, [], ◌∷◌, ◌++◌, length, take, drop, get_or, nat_eq, codes, None, Some, is_some, if◌then◌else◌, append-nil, append_assoc, length-append, and_parts, true≢false, drop-append-le, drop-drop, get_or_append_left, take-append-drop, take_all, list_all, starts_with, Alias, ALIASES, full_to, full_rules, usual, usual_in, instance, pmr_in, named_in, last_part, class_of, front_size, is_constructor, ends_name, member_in, is_letter, is_name_byte, short_rules, member, text_of, GoesOn, is_no_front, is_only_before, Answer, written_for}
use Rattle.short_names.specs.Full as of_full
use Rattle.short_names.specs.Short as of_short
use Rattle.short_names.proofs.FrontLemmas.{begins, differs, false-from, front-is}
use Rattle.short_names.proofs.PartRules.{no-constructor, no-end, full-leaves, short-leaves}
use Rattle.short_names.proofs.PartForms.{and-both}
use Rattle.short_names.proofs.PartSteps.{IsBehind, at, behind-all, name-goes-on, name-stays}
use Rattle.short_names.proofs.PartWalks.{not-true, other-parts}
use Rattle.short_names.proofs.UsualSteps.{IsAfter}
use Rattle.short_names.proofs.RunLemmas.{lt-or-le}

name-at : (name : List ℕ) (k : ℕ) → list_all is_name_byte name ≡ true → k < length name → is_name_byte (get_or name k 0) ≡ true
name-at [] k all less = absurd (omega (arith, less))
name-at (byte ∷ name) zero all less = (and_parts (is_name_byte byte) _ all).0
name-at (byte ∷ name) (suc k) all less = name-at name k (and_parts (is_name_byte byte) _ all).1 (omega (arith, less))

pub get-behind : (x r : List ℕ) → get_or (x ++ r) (length x) 0 ≡ get_or r 0 0
get-behind [] r = refl
get-behind (b ∷ x) r = get-behind x r

take-before : (k : ℕ) (x r : List ℕ) → k ≤ length x → take k (x ++ r) ≡ take k x
take-before zero x r h = refl
take-before (suc k) [] r h = absurd (omega (arith, h))
take-before (suc k) (b ∷ x) r h = ap (λ t. b ∷ t) (take-before k x r (omega (arith, h)))

-- if a text doesn't begin with a name, it still doesn't once more bytes follow, if the first of those bytes belongs to
-- no name
pub front-behind : (x name r : List ℕ) → IsBehind r → list_all is_name_byte name ≡ true → starts_with nat_eq x name ≡ false → starts_with nat_eq (x ++ r) name ≡ false
front-behind x name r behind all other =
    false-from (starts_with nat_eq (x ++ r) name) (λ h.
    let d : List ℕ = drop (length name) (x ++ r) in
    let is : x ++ r ≡ name ++ d = front-is (x ++ r) name h in
    elim (lt-or-le (length x) (length name)) [
      | inl less ↦ true≢false (sym (name-at name (length x) all less) ∙ ap is_name_byte (sym (get_or_append_left name d 0 (length x) less) ∙ sym (ap (λ t. get_or t (length x) 0) is) ∙ get-behind x r) ∙ behind)
      | inr within ↦
          let front : take (length name) x ≡ name = sym (take-before (length name) x r within) ∙ ap (take (length name)) is ∙ take-before (length name) name d (omega arith) ∙ take_all (length name) name (omega arith) in
          true≢false (sym (begins x name (drop (length name) x) (sym (take-append-drop (length name) x) ∙ ap (λ t. t ++ drop (length name) x) front)) ∙ other)
    ])

module _ (member_name rest : List ℕ) (all : list_all is_name_byte member_name ≡ true) (colons : starts_with nat_eq member_name (codes "::") ≡ true) (long : 2 < length member_name) (behind : IsBehind rest) where
  abbrev both : List ℕ
  both = member_name ++ rest

  begins-both : starts_with nat_eq both (codes "::") ≡ true
  begins-both =
      let d : List ℕ = drop 2 member_name in
      begins both (codes "::") (d ++ rest) (ap (λ t. t ++ rest) (front-is member_name (codes "::") colons) ∙ append_assoc (codes "::") d rest)

  two : front_size both ≡ 2
  unfolding is_name_byte is_letter
  two =
      ap (λ (b : Bool). if b then 3 else 2) (differs both (codes "::~") 2 (omega arith) (λ e.
      true≢false (sym (name-at member_name 2 all long) ∙ ap is_name_byte (sym (get_or_append_left member_name rest 0 2 long) ∙ e))))

  pub member-constructor : (class : List ℕ) → is_no_front class (drop 2 member_name) ≡ true → is_constructor both class ≡ false
  unfolding is_constructor
  member-constructor class none =
      let a = and_parts (list_all is_name_byte class) _ none in
      let other : starts_with nat_eq (drop 2 both) class ≡ false =
      ap (λ t. starts_with nat_eq t class) (drop-append-le 2 member_name rest (omega (arith, long))) ∙ front-behind (drop 2 member_name) class rest behind a.0 (not-true _ a.1) in
      ap (λ k. starts_with nat_eq both (codes "::") && starts_with nat_eq (drop k both) class && not (is_letter (get_or both (k + length class) 0))) two
      ∙ ap (λ b. starts_with nat_eq both (codes "::") && b && not (is_letter (get_or both (2 + length class) 0))) other
      ∙ by (starts_with nat_eq both (codes "::"))
    where
      by : (b : Bool) → (b && false && not (is_letter (get_or both (2 + length class) 0))) ≡ false
      by true = refl
      by false = refl

  pub member-end : ends_name both ≡ true
  unfolding ends_name
  member-end = by both refl
    where
      by : (t : List ℕ) → both ≡ t → ends_name t ≡ true
      by [] e = refl
      by (byte ∷ t) e = rw (sym (ap (λ t. starts_with nat_eq t (codes "::")) e) ∙ begins-both) refl

module _ (rest : List ℕ) (free : IsBehind rest) (front member_name : List ℕ) (all : list_all is_name_byte member_name ≡ true) (colons : starts_with nat_eq member_name (codes "::") ≡ true) (long : 2 < length member_name) where
  abbrev name : List ℕ
  name = front ++ member_name

  same-before : (rows : List Alias) → is_only_before rows (length front) name ≡ true
      → (usual_in rows name (name ++ rest) ≡ usual_in rows name (name ++ [])) × (member_in rows name (name ++ rest) ≡ None)
  unfolding is_only_before usual_in member_in is_name_byte is_letter
  same-before [] only = (refl, refl)
  same-before (row ∷ rows) only =
      let a = and_parts _ (is_only_before rows (length front) name) only in
      let again = same-before rows a.1 in
      by (starts_with nat_eq name (text_of row.name)) (is_letter (get_or name (length (text_of row.name)) 0)) (length (text_of row.name) == length front) refl refl a.0 again.0 again.1
    where
      by : (b c d : Bool) → is_letter (get_or name (length (text_of row.name)) 0) ≡ c → (length (text_of row.name) == length front) ≡ d
          → (not b || (c || (d && is_no_front (last_part (text_of row.template)) (drop (length front + 2) name)))) ≡ true
          → usual_in rows name (name ++ rest) ≡ usual_in rows name (name ++ []) → member_in rows name (name ++ rest) ≡ None
          → ((if b && ends_name (drop (length (text_of row.name)) (name ++ rest)) then Some row else usual_in rows name (name ++ rest))
          ≡ (if b && ends_name (drop (length (text_of row.name)) (name ++ [])) then Some row else usual_in rows name (name ++ [])))
          × ((if b && is_constructor (drop (length (text_of row.name)) (name ++ rest)) (last_part (text_of row.template)) then Some row else member_in rows name (name ++ rest)) ≡ None)
      by false c d is-c is-d h one two = (one, two)
      by true true d is-c is-d h one two =
          let k = length (text_of row.name) in
          (rw (no-end name rest k is-c, no-end name [] k is-c) one, rw (no-constructor name rest k is-c (last_part (text_of row.template))) two)
      by true false true is-c is-d h one two =
          let k = length (text_of row.name) in
          let same : k ≡ length front = eqb-true k (length front) is-d in
          let here : (t : List ℕ) → drop k (name ++ t) ≡ member_name ++ t = λ t. ap₂ drop same (append_assoc front member_name t) ∙ behind-all front (member_name ++ t) in
          let inner : drop (length front + 2) name ≡ drop 2 member_name = sym (drop-drop 2 (length front) name) ∙ ap (drop 2) (behind-all front member_name) in
          let class : is_no_front (last_part (text_of row.template)) (drop 2 member_name) ≡ true = subst (λ t. is_no_front (last_part (text_of row.template)) t ≡ true) inner h in (
            ap (λ (b : Bool). if b then Some row else usual_in rows name (name ++ rest)) (ap ends_name (here rest) ∙ member-end member_name rest all colons long free)
                ∙ sym (ap (λ (b : Bool). if b then Some row else usual_in rows name (name ++ [])) (ap ends_name (here []) ∙ member-end member_name [] all colons long refl)),
            ap (λ (b : Bool). if b then Some row else member_in rows name (name ++ rest)) (ap (λ t. is_constructor t (last_part (text_of row.template))) (here rest)
                ∙ member-constructor member_name rest all colons long free (last_part (text_of row.template)) class) ∙ two,
          )
      by true false false is-c is-d h one two = absurd (true≢false (sym h))

pub member-after : (alias : Alias) (usual_name list member_name rest : List ℕ) → GoesOn usual_name list member_name alias → IsBehind rest → IsAfter alias (member_name ++ rest)
member-after alias usual_name list member_name rest on behind =
    let all = (other-parts member_name on.is_member).1 in
    let long : 2 < length member_name = leb-true 3 (length member_name) on.long in
    record {
      ends = member-end member_name rest all on.colons long behind;
      not_own = member-constructor member_name rest all on.colons long behind (last_part (text_of alias.template)) on.not_own;
      not_class = member-constructor member_name rest all on.colons long behind (class_of alias) on.not_class;
    }

-- ## A usual name before a member

module _ (rest : List ℕ) (behind : IsBehind rest) (usual_name list member_name : List ℕ) (alias : Alias) (goes_on : GoesOn usual_name list member_name alias)
    (some : 0 < length usual_name) (bytes : list_all is_name_byte usual_name ≡ true) (last : List ℕ) where
  all : list_all is_name_byte member_name ≡ true
  all = (other-parts member_name goes_on.is_member).1

  long : 2 < length member_name
  long = leb-true 3 (length member_name) goes_on.long

  run : List ℕ
  run = usual_name ++ member_name

  all-bytes : (x y : List ℕ) → list_all is_name_byte x ≡ true → list_all is_name_byte y ≡ true → list_all is_name_byte (x ++ y) ≡ true
  all-bytes [] y one two = two
  all-bytes (b ∷ x) y one two =
      let a = and_parts (is_name_byte b) (list_all is_name_byte x) one in
      and-both _ _ a.0 (all-bytes x y a.1 two)

  run-bytes : (0 < length run) × (list_all is_name_byte run ≡ true)
  unfolding run
  run-bytes = (omega (arith, some, length-append usual_name member_name), all-bytes usual_name member_name bytes all)

  nowhere : (is_some (named_in run) ≡ false) × (is_some (pmr_in run) ≡ false)
  unfolding run
  nowhere = by (is_some (named_in (usual_name ++ member_name))) (is_some (pmr_in (usual_name ++ member_name))) goes_on.none_named
    where
      by : (a b : Bool) → (a || b) ≡ false → (a ≡ false) × (b ≡ false)
      by true b h = absurd (true≢false h)
      by false b h = (refl, h)

  found : (usual_in ALIASES goes_on.std.name (goes_on.std.name ++ rest) ≡ Some alias) × (member_in ALIASES goes_on.std.name (goes_on.std.name ++ rest) ≡ None)
  found =
      let name : List ℕ = goes_on.front ++ member_name in
      let both = same-before rest behind goes_on.front member_name all goes_on.colons long ALIASES (subst (λ n. is_only_before ALIASES (length goes_on.front) n ≡ true) goes_on.name_is goes_on.only) in (
        ap (λ n. usual_in ALIASES n (n ++ rest)) goes_on.name_is ∙ both.0 ∙ sym (ap (λ n. usual_in ALIASES n (n ++ [])) goes_on.name_is) ∙ goes_on.alias_is,
        ap (λ n. member_in ALIASES n (n ++ rest)) goes_on.name_is ∙ both.1,
      )

  pub short-member : written_for short_rules 0 (usual_name ++ (member_name ++ rest)) (at [] last) ≡ written_for short_rules 0 rest (at [] (last ++ (usual_name ++ member_name)))
  unfolding run
  short-member =
      ap (λ t. written_for short_rules 0 t (at [] last)) (sym (append_assoc usual_name member_name rest))
      ∙ name-stays short_rules run rest [] last run-bytes.0 run-bytes.1 behind nowhere.0
      (ap (of_short.for_name run rest) goes_on.std_is ∙ ap (member run rest goes_on.std.name) found.1) refl

  pub full-member : written_for (full_rules (full_to 3)) 0 (usual_name ++ (member_name ++ rest)) (at [] last) ≡ written_for (full_rules (full_to 3)) 0 (member_name ++ rest) (at [] (last ++ list))
  unfolding run
  full-member =
      let inner : List ℕ → List ℕ = full_to 3 in
      let from : ℕ = length run - length goes_on.std.name in
      let size : ℕ = from + length (text_of alias.name) in
      let none : of_full.constructor alias (drop size (run ++ rest)) ≡ record { bytes = []; size = 0 } =
      ap (of_full.constructor alias) (ap₂ drop goes_on.size_is (append_assoc usual_name member_name rest) ∙ behind-all usual_name (member_name ++ rest))
      ∙ ap (λ (b : Bool). if b then record {
        bytes = take (front_size (member_name ++ rest)) (member_name ++ rest) ++ last_part (text_of alias.template);
        size = front_size (member_name ++ rest) + length (class_of alias);
      } else record { bytes = []; size = 0 }) (member-constructor member_name rest all goes_on.colons long behind (class_of alias) goes_on.not_class) in
      name-goes-on (full_rules inner) usual_name member_name rest last list some run-bytes.1 behind goes_on.none_named (
      ap (of_full.for_name inner run rest) goes_on.std_is
      ∙ ap (usual inner goes_on.std run rest) found.0
      ∙ ap (λ (a : Answer). Some (record { bytes = inner (take from run ++ instance goes_on.std alias) ++ a.bytes; size = size + a.size })) none
      ∙ ap₂ (λ t k. Some (record { bytes = t ++ []; size = k + 0 })) goes_on.list_is goes_on.size_is
      ∙ ap₂ (λ t k. Some (record { bytes = t; size = k })) (append-nil list) (omega arith))

  -- a member by itself, after a list
  pub short-alone : (last : List ℕ) → written_for short_rules 0 (member_name ++ rest) (at [] last) ≡ written_for short_rules 0 rest (at [] (last ++ member_name))
  short-alone before =
      let left = short-leaves member_name rest goes_on.is_member in
      let other = other-parts member_name goes_on.is_member in
      name-stays short_rules member_name rest [] before other.0 other.1 behind left.0 left.1 refl

  pub full-alone : (last : List ℕ) → written_for (full_rules (full_to 3)) 0 (member_name ++ rest) (at [] last) ≡ written_for (full_rules (full_to 3)) 0 rest (at [] (last ++ member_name))
  full-alone before =
      let left = full-leaves member_name rest goes_on.is_member (full_to 3) in
      let other = other-parts member_name goes_on.is_member in
      name-stays (full_rules (full_to 3)) member_name rest [] before other.0 other.1 behind left.0 left.1 refl
