-- Defaults that are left out at the end of a list, and added once more.
use Rattle.short_names.proofs.Basics.{◌≡◌, ◌==◌, ◌≤◌, ◌<◌, ◌+◌, ◌-◌, ◌&&◌, ◌||◌, ◌⊎◌, inl, inr, not, refl, sym, ap, ap₂, subst, ◌∙◌, eq-eqb, eqb-true, le-leb, ℕ, zero, suc, arith, Bool, true, false, List, [], ◌∷◌, ◌++◌, length, take, drop, get_or, slice_get, nat_eq, nat_le, Option, None, Some, if◌then◌else◌, length-append, length-drop, length-take, and_parts, true≢false, append_cancel_left, take_all, get_or_append_left, pointwise, list_all, flat_map, Named, Alias, Place, DEFAULTS, element, filled_for, defaults_of, default_pattern, pattern_at, is_default, is_given, left, left_of, is_polymorphic, aliases_of, with_defaults, Parts, differ_early, form_in, forms, has_default, has_form, inner_forms, inner_in, is_empty, is_no_hole, is_plain, is_simple, is_some_default, is_some_form, is_template, bit, filled, ticks, text_of}
use lib.Pointwise.{bytes_decides}
use Rattle.short_names.proofs.FrontLemmas.{false-from}
use Rattle.short_names.proofs.PartForms.{and-both, literal}
use Rattle.short_names.proofs.PartLists.{HasAny, HaveEach, HaveForms, any-of}
use Rattle.short_names.proofs.PartWalks.{not-true}

-- ## What is known of a template

-- each pattern that isn't empty has one of the forms
abbrev pub HaveAny : Named → List Place → Type 0
HaveAny named places = HaveEach (has_default (text_of named.whole)) places

pub record IsSimple (named : Named) : Type 0 where
  pub no_holes : list_all (λ (row : Alias). list_all is_no_hole (text_of row.arguments)) (aliases_of named) ≡ true
  pub have_forms : HaveAny named (defaults_of named.template)
  pub none_first : (length (default_pattern named 0) == 0) ≡ true
  pub not_itself : list_all (λ byte. not (byte == 1)) (default_pattern named 1) ≡ true
  pub apart : (length (text_of named.template.polymorphic) == 0 || differ_early (default_pattern named (named.template.count - 1)) (text_of named.template.polymorphic)) ≡ true

pub simple-parts : (named : Named) → is_simple (Some named) ≡ true → IsSimple named
unfolding is_simple
simple-parts named h =
    let a = and_parts (list_all (λ (row : Alias). list_all is_no_hole (text_of row.arguments)) (aliases_of named)) _ h in
    let b = and_parts (list_all (λ (place : Place). has_default (text_of named.whole) (text_of place)) (defaults_of named.template)) _ a.1 in
    let c = and_parts (length (default_pattern named 0) == 0) _ b.1 in
    let d = and_parts (list_all (λ byte. not (byte == 1)) (default_pattern named 1)) _ c.1 in
    record { no_holes = a.0; have_forms = b.0; none_first = c.0; not_itself = d.0; apart = d.1 }

-- a pattern that has a form has one of all the forms of defaults
form-default : (whole pattern : List ℕ) → has_form whole pattern ≡ true → has_default whole pattern ≡ true
unfolding has_form has_default
form-default whole pattern h = by (length pattern == 0) (form_in forms pattern) h
  where
    by : (b : Bool) (f : Option Parts) → (b || is_some_form whole f) ≡ true → (b || is_some_default whole f (inner_in inner_forms pattern)) ≡ true
    by true f h = refl
    by false None h = absurd (true≢false (sym h))
    by false (Some form) h = h

each-default : (whole : List ℕ) (places : List Place) → list_all (λ (place : Place). has_form whole (text_of place)) places ≡ true → HaveEach (has_default whole) places
each-default whole [] h = refl
each-default whole (place ∷ places) h =
    let a = and_parts (has_form whole (text_of place)) _ h in
    and-both _ _ (form-default whole (text_of place) a.0) (each-default whole places a.1)

pub template-default : (named : Named) → is_template has_form named ≡ true → is_template has_default named ≡ true
template-default named h =
    let a = and_parts (list_all (λ (row : Alias). list_all is_no_hole (text_of row.arguments)) (aliases_of named)) _ h in
    let b = and_parts (list_all (λ (place : Place). has_form (text_of named.whole) (text_of place)) (defaults_of named.template)) _ a.1 in
    and-both _ _ a.0 (and-both _ _ (each-default (text_of named.whole) (defaults_of named.template) b.0) b.1)

-- What is known of a template whose lists are defaults.
pub record IsPlain (named : Named) : Type 0 where
  pub simple : IsSimple named
  pub have_forms : HaveForms named (defaults_of named.template)
  pub no_usual : aliases_of named ≡ []
  pub more : (named.template.count == 1) ≡ false

empty-is : (rows : List Alias) → is_empty rows ≡ true → rows ≡ []
empty-is [] h = refl
empty-is (row ∷ rows) h = absurd (true≢false (sym h))

pub plain-parts : (named : Named) → is_plain (Some named) ≡ true → IsPlain named
unfolding is_plain is_simple
plain-parts named h =
    let a = and_parts (is_template has_form named) _ h in
    let b = and_parts (is_empty (aliases_of named)) _ a.1 in
    let c = and_parts (list_all (λ (row : Alias). list_all is_no_hole (text_of row.arguments)) (aliases_of named)) _ a.0 in
    record {
      simple = simple-parts named (template-default named a.0);
      have_forms = (and_parts (list_all (λ (place : Place). has_form (text_of named.whole) (text_of place)) (defaults_of named.template)) _ c.1).0;
      no_usual = empty-is (aliases_of named) b.0;
      more = not-true (named.template.count == 1) b.1;
    }

-- ## Patterns without the second hole

filled-other : (one two other whole pattern : List ℕ) → list_all (λ byte. not (byte == 1)) pattern ≡ true → filled one two whole pattern ≡ filled one other whole pattern
unfolding filled
filled-other one two other whole [] all = refl
filled-other one two other whole (byte ∷ pattern) all =
    let a = and_parts (not (byte == 1)) (list_all (λ byte. not (byte == 1)) pattern) all in
    ap₂ (λ x y. x ++ y) (by (byte == 0) (byte == 1) (not-true (byte == 1) a.0)) (filled-other one two other whole pattern a.1)
  where
    by : (m n : Bool) → n ≡ false
        → (if m then one else (if n then two else (if byte == 2 then whole else (if byte == 3 then ticks whole else byte ∷ []))))
        ≡ (if m then one else (if n then other else (if byte == 2 then whole else (if byte == 3 then ticks whole else byte ∷ []))))
    by true n is = refl
    by false true is = absurd (true≢false is)
    by false false is = refl

-- ## What a list lacks

pub lacks : Named → ℕ → List Place
lacks named n = drop n (defaults_of named.template)

pub lacks-is : (named : Named) (n : ℕ) → drop n (take named.template.count (defaults_of named.template)) ≡ lacks named n
unfolding lacks
lacks-is named n = ap (drop n) (take_all named.template.count (defaults_of named.template) (omega (arith, length-take named.template.count (drop named.template.first_default DEFAULTS))))

drop-all-forms : (p : Place → Bool) (n : ℕ) (places : List Place) → list_all p places ≡ true → list_all p (drop n places) ≡ true
drop-all-forms p zero places all = all
drop-all-forms p (suc n) [] all = all
drop-all-forms p (suc n) (place ∷ places) all = drop-all-forms p n places (and_parts (p place) _ all).1

pub lacks-forms : (named : Named) (n : ℕ) → IsSimple named → HaveAny named (lacks named n)
unfolding lacks
lacks-forms named n simple = drop-all-forms (λ (place : Place). has_default (text_of named.whole) (text_of place)) n (defaults_of named.template) simple.have_forms

pub lacks-plain : (named : Named) (n : ℕ) → IsPlain named → HaveForms named (lacks named n)
unfolding lacks
lacks-plain named n plain = drop-all-forms (λ (place : Place). has_form (text_of named.whole) (text_of place)) n (defaults_of named.template) plain.have_forms

drop-here : (n : ℕ) (places : List Place) (place : Place) (others : List Place) → drop n places ≡ place ∷ others → slice_get places n ≡ Some place
drop-here zero [] place others e = absurd (cc)
drop-here zero (p ∷ places) place others e = cc
drop-here (suc n) [] place others e = absurd (cc)
drop-here (suc n) (p ∷ places) place others e = drop-here n places place others e

drop-next : (n : ℕ) (places : List Place) (place : Place) (others : List Place) → drop n places ≡ place ∷ others → drop (suc n) places ≡ others
drop-next zero [] place others e = absurd (cc)
drop-next zero (p ∷ places) place others e = cc
drop-next (suc n) [] place others e = absurd (cc)
drop-next (suc n) (p ∷ places) place others e = drop-next n places place others e

pub lacks-first : (named : Named) (n : ℕ) (place : Place) (others : List Place) → lacks named n ≡ place ∷ others
    → (default_pattern named n ≡ text_of place) × (lacks named (suc n) ≡ others) × (n < named.template.count)
unfolding lacks
lacks-first named n place others e = (
  ap pattern_at (drop-here n (defaults_of named.template) place others e),
  drop-next n (defaults_of named.template) place others e,
  omega (arith, ap length e, length-drop n (defaults_of named.template), length-take named.template.count (drop named.template.first_default DEFAULTS)),
)

none-here : (k : ℕ) (ps : List Place) → drop k ps ≡ [] → slice_get ps k ≡ None
none-here zero [] e = refl
none-here zero (p ∷ ps) e = absurd (cc)
none-here (suc k) [] e = refl
none-here (suc k) (p ∷ ps) e = none-here k ps e

zero-or : (k : ℕ) → (k ≡ 0) ⊎ (0 < k)
zero-or zero = inl refl
zero-or (suc k) = inr (omega arith)

-- ## One more default

last-is : (zs : List (List ℕ)) (d : List ℕ) → element (zs ++ d ∷ []) (length zs) ≡ d
last-is [] d = refl
last-is (z ∷ zs) d = last-is zs d

take-front : {A : Type 0} → (k : ℕ) (xs ys : List A) → k ≤ length xs → take k (xs ++ ys) ≡ take k xs
take-front zero xs ys h = refl
take-front (suc k) [] ys h = absurd (omega (arith, h))
take-front (suc k) (x ∷ xs) ys h = ap (λ t. x ∷ t) (take-front k xs ys (omega (arith, h)))

pub left-within : (named : Named) (zs : List (List ℕ)) (m : ℕ) → left_of named zs m ≤ m
unfolding left_of
left-within named zs zero = omega arith
left-within named zs (suc m) = by (is_default named zs m) (left-within named zs m)
  where
    by : (b : Bool) → left_of named zs m ≤ m → (if b then left_of named zs m else suc m) ≤ suc m
    by true h = omega (arith, h)
    by false h = omega arith

early : (one two whole p q : List ℕ) → differ_early p q ≡ true → filled one two whole p ≡ filled one two whole q → ⊥
unfolding filled
early one two whole (a ∷ b ∷ p) (c ∷ d ∷ q) h same =
    let s = and_parts (a == 2) _ h in
    let t = and_parts (c == 2) _ s.1 in
    let u = and_parts (nat_le 4 b) _ t.1 in
    let v = and_parts (nat_le 4 d) _ u.1 in
    let front : (n : ℕ) → (n == 2) ≡ true → bit one two whole n ≡ whole = λ n is. ap (bit one two whole) (eqb-true n 2 is) in
    let rest : List ℕ → List ℕ → List ℕ = λ x y. x ++ y in
    let one_more : whole ++ (b ∷ flat_map (bit one two whole) p) ≡ whole ++ (d ∷ flat_map (bit one two whole) q) =
    sym (ap₂ (λ x y. x ++ (y ++ flat_map (bit one two whole) p)) (front a s.0) (literal one two whole b u.0))
    ∙ same ∙ ap₂ (λ x y. x ++ (y ++ flat_map (bit one two whole) q)) (front c t.0) (literal one two whole d v.0) in
    let equal : b ≡ d = ap (λ t. get_or t 0 0) (append_cancel_left whole (b ∷ flat_map (bit one two whole) p) (d ∷ flat_map (bit one two whole) q) one_more) in
    true≢false (sym (eq-eqb b d equal) ∙ not-true (b == d) v.1)
early one two whole (a ∷ b ∷ p) (c ∷ []) h same = true≢false (sym h)
early one two whole (a ∷ b ∷ p) [] h same = true≢false (sym h)
early one two whole (a ∷ []) q h same = true≢false (sym h)
early one two whole [] q h same = true≢false (sym h)

module _ (named : Named) (simple : IsSimple named) where
  pub first-holes : (k : ℕ) (zs ys : List (List ℕ)) (pattern : List ℕ) → zs ≡ take k ys → 0 < k → k ≤ length ys → (k ≡ 1 → list_all (λ byte. not (byte == 1)) pattern ≡ true)
      → filled_for named zs pattern ≡ filled_for named ys pattern
  first-holes zero zs ys pattern is some within other = absurd (omega (arith, some))
  first-holes (suc k) zs [] pattern is some within other = absurd (omega (arith, within))
  first-holes (suc zero) zs (y ∷ ys) pattern is some within other =
      ap (λ t. filled_for named t pattern) is ∙ filled-other y [] (element (y ∷ ys) 1) (text_of named.whole) pattern (other refl)
  first-holes (suc (suc k)) zs (y ∷ []) pattern is some within other = absurd (omega (arith, within))
  first-holes (suc (suc k)) zs (y ∷ z ∷ ys) pattern is some within other = ap (λ t. filled_for named t pattern) is

  module _ (zs : List (List ℕ)) (d pattern : List ℕ) (some : 0 < length zs) (here : default_pattern named (length zs) ≡ pattern) (filled_in : (length pattern == 0) ≡ false)
      (room : length zs < named.template.count) (d_is : d ≡ filled_for named zs pattern) where
    abbrev all : List (List ℕ)
    all = zs ++ d ∷ []

    zs-is : zs ≡ take (length zs) all
    zs-is = sym (take-front (length zs) zs (d ∷ []) (omega arith) ∙ take_all (length zs) zs (omega arith))

    abbrev n : ℕ
    n = length zs

    n-is : length all ≡ n + 1
    n-is = length-append zs (d ∷ [])

    holes : filled_for named zs pattern ≡ filled_for named all pattern
    holes = first-holes n zs all pattern zs-is some (omega (arith, n-is)) (λ one. subst (λ p. list_all (λ byte. not (byte == 1)) p ≡ true) (ap (default_pattern named) (sym one) ∙ here) simple.not_itself)

    default-here : is_default named all n ≡ true
    default-here =
        ap (λ p. is_given named all (element all n) p) here
        ∙ ap (λ t. not t && pointwise nat_eq (element all n) (filled_for named all pattern)) filled_in
        ∙ (bytes_decides (element all n) (filled_for named all pattern)).1 (last-is zs d ∙ d_is ∙ holes)

    same-default : (k : ℕ) → k < n → is_default named all k ≡ is_default named zs k
    same-default k less = by zs refl (get_or_append_left zs (d ∷ []) [] k less)
      where
        by : (xs : List (List ℕ)) → zs ≡ xs → element all k ≡ element zs k → is_default named all k ≡ is_default named zs k
        by [] is same = absurd (omega (arith, some, ap length is))
        by (x ∷ []) is same =
            let zeroth : k ≡ 0 = omega (arith, less, ap length is) in
            let empty : (length (default_pattern named k) == 0) ≡ true = ap (λ j. length (default_pattern named j) == 0) zeroth ∙ simple.none_first in
            ap (λ b. not b && pointwise nat_eq (element all k) (filled_for named all (default_pattern named k))) empty
            ∙ sym (ap (λ b. not b && pointwise nat_eq (element zs k) (filled_for named zs (default_pattern named k))) empty)
        by (x ∷ y ∷ xs) is same =
            ap₂ (λ e f. not (length (default_pattern named k) == 0) && pointwise nat_eq e f) same
            (sym (first-holes n zs all (default_pattern named k) zs-is some (omega (arith, n-is)) (λ one. absurd (omega (arith, one, ap length is)))))

    same-left : (m : ℕ) → m ≤ n → left_of named all m ≡ left_of named zs m
    unfolding left_of
    same-left zero h = refl
    same-left (suc m) h = ap₂ (λ b k. if b then k else suc m) (same-default m (omega (arith, h))) (same-left m (omega (arith, h)))

    left-all : left_of named all (length all) ≡ left_of named zs n
    unfolding left_of
    left-all =
        let next : length all ≡ suc n = omega (arith, n-is) in
        ap (left_of named all) next ∙ ap (λ b. if b then left_of named all n else suc n) default-here ∙ same-left n (omega arith)

    left-is : (m : ℕ) (xs : List (List ℕ)) → m ≡ length xs → m ≤ named.template.count → left named xs ≡ left_of named xs m
    left-is m xs is h = rw (← is) (ap (λ b. if b then left_of named xs m else m) (le-leb m named.template.count h))

    pub more-taken : take (left named all) all ≡ take (left named zs) zs
    more-taken =
        ap (λ k. take k all) (left-is (length all) all refl (omega (arith, n-is, room)) ∙ left-all)
        ∙ take-front (left_of named zs n) zs (d ∷ []) (left-within named zs n)
        ∙ ap (λ k. take k zs) (sym (left-is n zs refl (omega (arith, room))))

    pub more-polymorphic : is_polymorphic named all ≡ false
    more-polymorphic = by (length all == named.template.count) refl
      where
        given : is_given named all (element all (length all - 1)) (text_of named.template.polymorphic) ≡ true → length all ≡ named.template.count → ⊥
        given h is =
            let a = and_parts (not (length (text_of named.template.polymorphic) == 0)) _ h in
            let at_last : length all - 1 ≡ n = omega (arith, n-is) in
            let d_last : element all (length all - 1) ≡ filled_for named all pattern = ap (element all) at_last ∙ last-is zs d ∙ d_is ∙ holes in
            let same : filled_for named all pattern ≡ filled_for named all (text_of named.template.polymorphic) = sym d_last ∙ (bytes_decides (element all (length all - 1)) (filled_for named all (text_of named.template.polymorphic))).0 a.1 in
            let place : named.template.count - 1 ≡ n = omega (arith, n-is, is) in
            let pattern_last : default_pattern named (named.template.count - 1) ≡ pattern = ap (default_pattern named) place ∙ here in
            let apart : differ_early pattern (text_of named.template.polymorphic) ≡ true =
            subst (λ p. differ_early p (text_of named.template.polymorphic) ≡ true) pattern_last
            (subst (λ b. (b || differ_early (default_pattern named (named.template.count - 1)) (text_of named.template.polymorphic)) ≡ true) (not-true (length (text_of named.template.polymorphic) == 0) a.0) simple.apart) in
            early (element all 0) (element all 1) (text_of named.whole) pattern (text_of named.template.polymorphic) apart same

        by : (b : Bool) → (length all == named.template.count) ≡ b → (b && is_given named all (element all (length all - 1)) (text_of named.template.polymorphic)) ≡ false
        by true e = false-from _ (λ h. given h (eqb-true (length all) named.template.count e))
        by false e = refl

  -- ## All that a list lacks

  pub defaults-taken : (places : List Place) (zs : List (List ℕ)) → 0 < length zs → lacks named (length zs) ≡ places
      → take (left named (with_defaults (λ t. t) named zs places)) (with_defaults (λ t. t) named zs places) ≡ take (left named zs) zs
  unfolding with_defaults
  defaults-taken [] zs some is = refl
  defaults-taken (place ∷ places) zs some is = by (length (text_of place) == 0) refl (λ ys s l. defaults-taken places ys s l)
    where
      by : (b : Bool) → (length (text_of place) == 0) ≡ b
          → ((ys : List (List ℕ)) → 0 < length ys → lacks named (length ys) ≡ places → take (left named (with_defaults (λ t. t) named ys places)) (with_defaults (λ t. t) named ys places) ≡ take (left named ys) ys)
          → take (left named (if b then zs else with_defaults (λ t. t) named (zs ++ filled_for named zs (text_of place) ∷ []) places)) (if b then zs else with_defaults (λ t. t) named (zs ++ filled_for named zs (text_of place) ∷ []) places)
          ≡ take (left named zs) zs
      by true e again = refl
      by false e again =
          let d : List ℕ = filled_for named zs (text_of place) in
          let first = lacks-first named (length zs) place places is in
          let next : length (zs ++ d ∷ []) ≡ suc (length zs) = omega (arith, length-append zs (d ∷ [])) in
          again (zs ++ d ∷ []) (omega (arith, next)) (ap (lacks named) next ∙ first.1) ∙ more-taken zs d (text_of place) some first.0 e first.2 refl

  pub defaults-polymorphic : (places : List Place) (zs : List (List ℕ)) → 0 < length zs → lacks named (length zs) ≡ places → is_polymorphic named zs ≡ false
      → is_polymorphic named (with_defaults (λ t. t) named zs places) ≡ false
  unfolding with_defaults
  defaults-polymorphic [] zs some is not_it = not_it
  defaults-polymorphic (place ∷ places) zs some is not_it = by (length (text_of place) == 0) refl (λ ys s l. defaults-polymorphic places ys s l)
    where
      by : (b : Bool) → (length (text_of place) == 0) ≡ b
          → ((ys : List (List ℕ)) → 0 < length ys → lacks named (length ys) ≡ places → is_polymorphic named ys ≡ false → is_polymorphic named (with_defaults (λ t. t) named ys places) ≡ false)
          → is_polymorphic named (if b then zs else with_defaults (λ t. t) named (zs ++ filled_for named zs (text_of place) ∷ []) places) ≡ false
      by true e again = not_it
      by false e again =
          let d : List ℕ = filled_for named zs (text_of place) in
          let first = lacks-first named (length zs) place places is in
          let next : length (zs ++ d ∷ []) ≡ suc (length zs) = omega (arith, length-append zs (d ∷ [])) in
          again (zs ++ d ∷ []) (omega (arith, next)) (ap (lacks named) next ∙ first.1) (more-polymorphic zs d (text_of place) some first.0 e first.2 refl)

  -- ## Defaults that are added once more

  has-place : (k : ℕ) → (length (default_pattern named k) == 0) ≡ false → (place : Place) × (others : List Place) × (lacks named k ≡ place ∷ others)
  unfolding lacks
  has-place k filled_in = by (lacks named k) refl
    where
      by : (ps : List Place) → lacks named k ≡ ps → (place : Place) × (others : List Place) × (ps ≡ place ∷ others)
      by [] e = absurd (true≢false (sym (ap (λ (o : Option Place). length (pattern_at o) == 0) (none-here k (defaults_of named.template) e)) ∙ filled_in))
      by (place ∷ others) e = (place, others, refl)

  default-is : (xs : List (List ℕ)) (k : ℕ) → is_default named xs k ≡ true → ((length (default_pattern named k) == 0) ≡ false) × (element xs k ≡ filled_for named xs (default_pattern named k))
  default-is xs k h =
      let a = and_parts (not (length (default_pattern named k) == 0)) _ h in
      (not-true (length (default_pattern named k) == 0) a.0, (bytes_decides (element xs k) (filled_for named xs (default_pattern named k))).0 a.1)

  pub left-some : (xs : List (List ℕ)) (m : ℕ) → 0 < m → 0 < left_of named xs m
  unfolding left_of
  left-some xs zero some = absurd (omega (arith, some))
  left-some xs (suc zero) some =
      let none : is_default named xs 0 ≡ false = ap (λ b. not b && pointwise nat_eq (element xs 0) (filled_for named xs (default_pattern named 0))) simple.none_first in
      rw none (omega arith)
  left-some xs (suc (suc m)) some = by (is_default named xs (suc m)) (left-some xs (suc m) (omega arith))
    where
      by : (b : Bool) → 0 < left_of named xs (suc m) → 0 < (if b then left_of named xs (suc m) else suc (suc m))
      by true h = h
      by false h = omega arith

  -- defaults are put in place one after the other
  module _ (full : List ℕ → List ℕ) (xs ys : List (List ℕ))
      (again : (k : ℕ) → k < length ys → HasAny named (default_pattern named k) → element xs k ≡ filled_for named xs (default_pattern named k) → element ys k ≡ full (filled_for named ys (default_pattern named k))) where
    take-next : (k : ℕ) (zs : List (List ℕ)) → k < length zs → take k zs ++ element zs k ∷ [] ≡ take (suc k) zs
    take-next k [] h = absurd (omega (arith, h))
    take-next zero (z ∷ zs) h = refl
    take-next (suc k) (z ∷ zs) h = ap (λ t. z ∷ t) (take-next k zs (omega (arith, h)))

    next : (k : ℕ) → 0 < k → k < length ys → is_default named xs k ≡ true
        → with_defaults full named (take k ys) (lacks named k) ≡ with_defaults full named (take (suc k) ys) (lacks named (suc k))
    unfolding with_defaults
    next k some less is =
        let default = default-is xs k is in
        let found = has-place k default.0 in
        let place : Place = found.0 in
        let first = lacks-first named k place found.1 found.2 in
        let filled_in : (length (text_of place) == 0) ≡ false = ap (λ p. length p == 0) (sym first.0) ∙ default.0 in
        let forms : has_default (text_of named.whole) (text_of place) ≡ true = (and_parts (has_default (text_of named.whole) (text_of place)) _ (subst (λ ps. HaveAny named ps) found.2 (lacks-forms named k simple))).0 in
        let form : HasAny named (default_pattern named k) = subst (HasAny named) (sym first.0) (any-of named (text_of place) forms filled_in) in
        let holes : filled_for named (take k ys) (default_pattern named k) ≡ filled_for named ys (default_pattern named k) =
        first-holes k (take k ys) ys (default_pattern named k) refl some (omega (arith, less)) (λ one. subst (λ j. list_all (λ byte. not (byte == 1)) (default_pattern named j) ≡ true) (sym one) simple.not_itself) in
        let here : full (filled_for named (take k ys) (text_of place)) ≡ element ys k =
        ap (λ p. full (filled_for named (take k ys) p)) (sym first.0) ∙ ap full holes ∙ sym (again k less form default.1) in
        ap (with_defaults full named (take k ys)) found.2
        ∙ ap (λ b. if b then take k ys else with_defaults full named (take k ys ++ full (filled_for named (take k ys) (text_of place)) ∷ []) found.1) filled_in
        ∙ ap (λ e. with_defaults full named (take k ys ++ e ∷ []) found.1) here
        ∙ ap₂ (with_defaults full named) (take-next k ys less) (sym first.1)

    pub refilled : (m : ℕ) → 0 < m → m ≤ length ys → with_defaults full named (take (left_of named xs m) ys) (lacks named (left_of named xs m)) ≡ with_defaults full named (take m ys) (lacks named m)
    unfolding left_of
    refilled zero some within = absurd (omega (arith, some))
    refilled (suc m) some within = by (is_default named xs m) refl (λ h. refilled m h (omega (arith, within)))
      where
        by : (b : Bool) → is_default named xs m ≡ b → (0 < m → with_defaults full named (take (left_of named xs m) ys) (lacks named (left_of named xs m)) ≡ with_defaults full named (take m ys) (lacks named m))
            → with_defaults full named (take (if b then left_of named xs m else suc m) ys) (lacks named (if b then left_of named xs m else suc m)) ≡ with_defaults full named (take (suc m) ys) (lacks named (suc m))
        by false e more = refl
        by true e more =
            elim (zero-or m) [
              | inl none ↦ absurd (true≢false (sym e ∙ ap (is_default named xs) none ∙ ap (λ b. not b && pointwise nat_eq (element xs 0) (filled_for named xs (default_pattern named 0))) simple.none_first))
              | inr positive ↦ more positive ∙ next m positive (omega (arith, within)) e
            ]
