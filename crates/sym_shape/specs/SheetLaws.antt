-- A sheet that passes the test is lawful.
use Rattle.sym_shape.specs.declared.rule.TheConstants.{TOKEN}
use Rattle.std.proofs.Common.{◌≡◌, ℕ, zero, suc, ◌<◌, List, [], ◌∷◌, ◌++◌, length, get_or, true, false, not, ◌&&◌, ◌||◌, eqb, leb, ltb, Some, is_some, ◌⊎◌, inl, inr, cond, refl, ap, sym, ◌∙◌, subst, arith}
use Rattle.std.proofs.lemmas.Bool.{false≢true, or_cases, and_parts, or_left, or_right, and_from, leb-true, le-leb, ltb-true, eqb-true, ne_eqb, cases_Bool, not-true}
use Rattle.sym_core.specs.declared.NumberKind.{NumberKind}
use Rattle.sym_core.specs.declared.NumberKind.TheVariants.{Length, Decimal, Seq36, Base62, Hex, Digits}
use Rattle.sym_core.specs.Number.{is_decimal_digit, is_upper_letter, is_lower_letter}
use Rattle.sym_shape.specs.declared.rule.Rule.{Rule}
use Rattle.sym_core.specs.declared.NameClass.{NameClass}
use Rattle.sym_core.specs.declared.NameClass.TheVariants.{Cpp, Rust}
use Rattle.sym_shape.specs.declared.rule.Sym.{Sym}
use Rattle.sym_shape.specs.declared.rule.Sym.TheVariants.{Kind, Name, Number, Byte}
use Rattle.sym_shape.specs.declared.sheet.ByteRange.{ByteRange}
use Rattle.sym_shape.specs.declared.sheet.Choice.{Choice}
use Rattle.sym_shape.specs.Table.{symbols_of}
use Rattle.sym_shape.specs.Law.{begins_number, begins, can_be_empty, ends_name, ends_number, may_follow, comes_next, KeepsAfter, IsSymbol, AreSymbols, rank_of, IsChain, IsBelow, AreBelow, HasLowRule, IsLawfulRule, IsLawful}
use Rattle.sym_shape.specs.Sheet.{KindSheet, in_range, in_ranges, choice_at, table_of, is_covered, are_covered, is_apart, are_apart, classes_of, begin_ranges, number_ranges, ranges_of, may_be_nothing, name_followers, number_followers, followers_of, next_ranges, keeps_after, is_known, are_known, sheet_rank, is_chain, is_lawful_choice, are_lawful_choices, is_below, are_below, has_byte, has_low_choice, is_lawful_kind, are_lawful_kinds, is_lawful_sheet}

in_left : (rs ss : List ByteRange) (b : ℕ) → in_ranges rs b ≡ true → in_ranges (rs ++ ss) b ≡ true
in_left [] ss b h = absurd (false≢true h)
in_left (r ∷ rs) ss b h = elim (or_cases (in_range r b) (in_ranges rs b) h) [
  | inl here ↦ or_left _ _ here
  | inr later ↦ or_right _ _ (in_left rs ss b later)
]

in_right : (rs ss : List ByteRange) (b : ℕ) → in_ranges ss b ≡ true → in_ranges (rs ++ ss) b ≡ true
in_right [] ss b h = h
in_right (r ∷ rs) ss b h = or_right _ _ (in_right rs ss b h)

pub covered_in : (r : ByteRange) (ss : List ByteRange) (b : ℕ) → is_covered r ss ≡ true → in_range r b ≡ true → in_ranges ss b ≡ true
covered_in r [] b h i = absurd (false≢true h)
covered_in r (s ∷ ss) b h i = elim (or_cases (leb s.from r.from && leb r.to s.to) (is_covered r ss) h) [
  | inl here ↦ (
      let low = leb-true _ _ (and_parts (leb s.from r.from) (leb r.to s.to) here).0 in
      let high = leb-true _ _ (and_parts (leb s.from r.from) (leb r.to s.to) here).1 in
      let from = leb-true _ _ (and_parts (leb r.from b) (leb b r.to) i).0 in
      let to = leb-true _ _ (and_parts (leb r.from b) (leb b r.to) i).1 in
      or_left _ _ (and_from _ _ (le-leb s.from b (omega arith)) (le-leb b s.to (omega arith))))
  | inr later ↦ or_right _ _ (covered_in r ss b later i)
]

pub are_covered_in : (rs ss : List ByteRange) (b : ℕ) → are_covered rs ss ≡ true → in_ranges rs b ≡ true → in_ranges ss b ≡ true
are_covered_in [] ss b h i = absurd (false≢true i)
are_covered_in (r ∷ rs) ss b h i =
    let both = and_parts (is_covered r ss) (are_covered rs ss) h in
    elim (or_cases (in_range r b) (in_ranges rs b) i) [
      | inl here ↦ covered_in r ss b both.0 here
      | inr later ↦ are_covered_in rs ss b both.1 later
    ]

apart_in : (r : ByteRange) (ss : List ByteRange) (b : ℕ) → is_apart r ss ≡ true → in_range r b ≡ true → in_ranges ss b ≡ true → ⊥
apart_in r [] b h i j = false≢true j
apart_in r (s ∷ ss) b h i j =
    let both = and_parts (ltb r.to s.from || ltb s.to r.from) (is_apart r ss) h in
    let from = leb-true _ _ (and_parts (leb r.from b) (leb b r.to) i).0 in
    let to = leb-true _ _ (and_parts (leb r.from b) (leb b r.to) i).1 in
    elim (or_cases (in_range s b) (in_ranges ss b) j) [
      | inl here ↦ (
          let low = leb-true _ _ (and_parts (leb s.from b) (leb b s.to) here).0 in
          let high = leb-true _ _ (and_parts (leb s.from b) (leb b s.to) here).1 in
          elim (or_cases (ltb r.to s.from) (ltb s.to r.from) both.0) [
            | inl below ↦ omega (arith, ltb-true _ _ below)
            | inr above ↦ omega (arith, ltb-true _ _ above)
          ])
      | inr later ↦ apart_in r ss b both.1 i later
    ]

are_apart_in : (rs ss : List ByteRange) (b : ℕ) → are_apart rs ss ≡ true → in_ranges rs b ≡ true → in_ranges ss b ≡ true → ⊥
are_apart_in [] ss b h i j = false≢true i
are_apart_in (r ∷ rs) ss b h i j =
    let both = and_parts (is_apart r ss) (are_apart rs ss) h in
    elim (or_cases (in_range r b) (in_ranges rs b) i) [
      | inl here ↦ apart_in r ss b both.0 here j
      | inr later ↦ are_apart_in rs ss b both.1 later j
    ]

chosen : (cs : List Choice) (b : ℕ) → is_some (choice_at cs b) ≡ true → in_ranges (begin_ranges cs) b ≡ true
chosen [] b h = absurd (false≢true h)
chosen (c ∷ cs) b h = elim (cases_Bool (in_ranges (classes_of c) b)) [
  | inl here ↦ in_left (classes_of c) (begin_ranges cs) b here
  | inr later ↦ in_right (classes_of c) (begin_ranges cs) b (chosen cs b (sym (ap (λ v. is_some (cond v (Some c.rule) (choice_at cs b))) later) ∙ h))
]

one_byte : (b c : ℕ) → eqb b c ≡ true → leb c b && leb b c ≡ true
one_byte b c h = let e = eqb-true b c h in and_from _ _ (le-leb c b (omega arith)) (le-leb b c (omega arith))

pub number_in : (kind : NumberKind) (b : ℕ) → begins_number kind b ≡ true → in_ranges (number_ranges kind) b ≡ true
number_in Length b h = or_left _ _ h
number_in Digits b h = or_left _ _ h
number_in Decimal b h = elim (or_cases (is_decimal_digit b) (eqb b 95) h) [
  | inl digit ↦ or_left _ _ digit
  | inr mark ↦ or_right _ _ (or_left _ _ (one_byte b 95 mark))
]
number_in Seq36 b h = elim (or_cases (is_decimal_digit b || is_upper_letter b) (eqb b 95) h) [
  | inl digits ↦ elim (or_cases (is_decimal_digit b) (is_upper_letter b) digits) [
    | inl digit ↦ or_left _ _ digit
    | inr upper ↦ or_right _ _ (or_left _ _ upper)
  ]
  | inr mark ↦ or_right _ _ (or_right _ _ (or_left _ _ (one_byte b 95 mark)))
]
number_in Base62 b h = elim (or_cases (is_decimal_digit b || is_lower_letter b || is_upper_letter b) (eqb b 95) h) [
  | inl digits ↦ elim (or_cases (is_decimal_digit b || is_lower_letter b) (is_upper_letter b) digits) [
    | inl low ↦ elim (or_cases (is_decimal_digit b) (is_lower_letter b) low) [
      | inl digit ↦ or_left _ _ digit
      | inr lower ↦ or_right _ _ (or_right _ _ (or_left _ _ lower))
    ]
    | inr upper ↦ or_right _ _ (or_left _ _ upper)
  ]
  | inr mark ↦ or_right (is_decimal_digit b) _ (or_right (is_upper_letter b) _ (or_right (is_lower_letter b) _ (or_left (leb 95 b && leb b 95) false (one_byte b 95 mark))))
]
number_in Hex b h = elim (or_cases (is_decimal_digit b || (leb 97 b && leb b 102)) (eqb b 95) h) [
  | inl digits ↦ elim (or_cases (is_decimal_digit b) (leb 97 b && leb b 102) digits) [
    | inl digit ↦ or_left _ _ digit
    | inr letter ↦ or_right _ _ (or_left _ _ letter)
  ]
  | inr mark ↦ or_right _ _ (or_right _ _ (or_left _ _ (one_byte b 95 mark)))
]

name_follow : (names : NameClass) (b : ℕ) → in_ranges (name_followers names) b ≡ true → ends_name names b ≡ true
name_follow Cpp b h = refl
name_follow Rust b h = ap not (ne_eqb b 95 (λ e. false≢true (sym (ap (λ c. in_ranges (name_followers Rust) c) e) ∙ h)))

not_digit : (b : ℕ) → in_ranges (number_followers Length) b ≡ true → not (is_decimal_digit b) ≡ true
not_digit b h = elim (cases_Bool (is_decimal_digit b)) [
  | inl digit ↦ absurd (
      let from = leb-true _ _ (and_parts (leb 48 b) (leb b 57) digit).0 in
      let to = leb-true _ _ (and_parts (leb 48 b) (leb b 57) digit).1 in
      elim (or_cases (leb 0 b && leb b 47) (leb 58 b && leb b 255 || false) h) [
        | inl low ↦ (let end = leb-true _ _ (and_parts (leb 0 b) (leb b 47) low).1 in omega arith)
        | inr high ↦ elim (or_cases (leb 58 b && leb b 255) false high) [
          | inl over ↦ (let start = leb-true _ _ (and_parts (leb 58 b) (leb b 255) over).0 in omega arith)
          | inr none ↦ false≢true none
        ]
      ])
  | inr other ↦ ap not other
]

number_follow : (kind : NumberKind) (b : ℕ) → in_ranges (number_followers kind) b ≡ true → ends_number kind b ≡ true
number_follow Length b h = not_digit b h
number_follow Digits b h = not_digit b h
number_follow Decimal b h = refl
number_follow Seq36 b h = refl
number_follow Base62 b h = refl
number_follow Hex b h = refl

-- the choice that gives a kind its rule at a byte
record IsChosen (blank : KindSheet) (sheet : List KindSheet) (names : NameClass) (kind : KindSheet) (cs : List Choice) (b : ℕ) (rule : Rule) : Type 0 where
  choice : Choice
  is : choice.rule ≡ rule
  lawful : is_lawful_choice blank sheet names kind choice ≡ true
  always : (c : ℕ) → in_ranges (classes_of choice) c ≡ true → choice_at cs c ≡ Some choice.rule

record IsLow (blank : KindSheet) (sheet : List KindSheet) (names : NameClass) (h : ℕ) (cs : List Choice) : Type 0 where
  byte : ℕ
  is_byte : byte < 256
  rule : Rule
  found : choice_at cs byte ≡ Some rule
  below : are_below blank sheet names h (symbols_of rule) ≡ true

module _ (blank : KindSheet) (sheet : List KindSheet) (names : NameClass) where
  begins_in : (x : Sym) (b : ℕ) → begins (table_of blank sheet names) x b ≡ true → in_ranges (ranges_of blank sheet names x) b ≡ true
  begins_in (Kind k) b h = chosen (get_or sheet k blank).choices b h
  begins_in Name b h = or_left _ _ h
  begins_in (Number kind) b h = number_in kind b h
  begins_in (Byte c) b h = or_left _ _ (let e = eqb-true c b h in and_from _ _ (le-leb c b (omega arith)) (le-leb b c (omega arith)))

  same_empty : (x : Sym) → can_be_empty (table_of blank sheet names) x ≡ may_be_nothing blank sheet names x
  same_empty (Kind k) = refl
  same_empty Name = refl
  same_empty (Number kind) = refl
  same_empty (Byte c) = refl

  same_rank : (x : Sym) → rank_of (table_of blank sheet names) x ≡ sheet_rank blank sheet names x
  same_rank (Kind k) = refl
  same_rank Name = refl
  same_rank (Number kind) = refl
  same_rank (Byte c) = refl

  next_in : (k : ℕ) (xs : List Sym) (b : ℕ) → comes_next (table_of blank sheet names) k xs b ≡ true → in_ranges (next_ranges blank sheet names (get_or sheet k blank) xs) b ≡ true
  next_in k [] b h = h
  next_in k (x ∷ xs) b h = elim (or_cases (begins (table_of blank sheet names) x b) (can_be_empty (table_of blank sheet names) x && comes_next (table_of blank sheet names) k xs b) h) [
    | inl here ↦ in_left (ranges_of blank sheet names x) _ b (begins_in x b here)
    | inr later ↦ (
        let both = and_parts (can_be_empty (table_of blank sheet names) x) (comes_next (table_of blank sheet names) k xs b) later in
        let bare = sym (same_empty x) ∙ both.0 in
        in_right (ranges_of blank sheet names x) _ b (ap (λ v. in_ranges (cond v (next_ranges blank sheet names (get_or sheet k blank) xs) []) b) bare ∙ next_in k xs b both.1))
  ]

  follow_in : (x : Sym) (b : ℕ) → in_ranges (followers_of blank sheet names x) b ≡ true → may_follow (table_of blank sheet names) x b ≡ true
  follow_in (Kind k) b h = h
  follow_in Name b h = name_follow names b h
  follow_in (Number kind) b h = number_follow kind b h
  follow_in (Byte c) b h = refl

  keeps : (k : ℕ) (xs : List Sym) → keeps_after blank sheet names (get_or sheet k blank) xs ≡ true → KeepsAfter (table_of blank sheet names) k xs
  keeps k [] h = tt
  keeps k (x ∷ xs) h =
      let both = and_parts (are_covered (next_ranges blank sheet names (get_or sheet k blank) xs) (followers_of blank sheet names x)) (keeps_after blank sheet names (get_or sheet k blank) xs) h in
      (λ b lt next. follow_in x b (are_covered_in _ _ b both.0 (next_in k xs b next)), keeps k xs both.1)

  known_symbol : (x : Sym) → is_known blank sheet names x ≡ true → IsSymbol (table_of blank sheet names) x
  known_symbol (Kind k) h = ltb-true _ _ h
  known_symbol Name h = tt
  known_symbol (Number kind) h = tt
  known_symbol (Byte c) h = ltb-true _ _ h

  known_symbols : (xs : List Sym) → are_known blank sheet names xs ≡ true → AreSymbols (table_of blank sheet names) xs
  known_symbols [] h = tt
  known_symbols (x ∷ xs) h =
      let both = and_parts (is_known blank sheet names x) (are_known blank sheet names xs) h in
      (known_symbol x both.0, known_symbols xs both.1)

  low_symbol : (h : ℕ) (x : Sym) → is_below blank sheet names h x ≡ true → IsBelow (table_of blank sheet names) h x
  low_symbol h (Kind k) e = ltb-true _ _ e
  low_symbol h Name e = tt
  low_symbol h (Number kind) e = tt
  low_symbol h (Byte c) e = tt

  low_symbols : (h : ℕ) (xs : List Sym) → are_below blank sheet names h xs ≡ true → AreBelow (table_of blank sheet names) h xs
  low_symbols h [] e = tt
  low_symbols h (x ∷ xs) e =
      let both = and_parts (is_below blank sheet names h x) (are_below blank sheet names h xs) e in
      (low_symbol h x both.0, low_symbols h xs both.1)

  chained : (k : ℕ) (c : Choice) (xs : List Sym) → ((b : ℕ) → in_ranges (classes_of c) b ≡ true → choice_at (get_or sheet k blank).choices b ≡ Some c.rule) → is_chain blank sheet names (get_or sheet k blank) c xs ≡ true → IsChain (table_of blank sheet names) k c.rule xs
  chained k c [] always h = absurd (false≢true h)
  chained k c (x ∷ xs) always h =
      let three = and_parts (not (may_be_nothing blank sheet names x) && ltb (sheet_rank blank sheet names x) (get_or sheet k blank).rank && leb (length xs) 2) (are_covered (ranges_of blank sheet names x) (classes_of c)) h in
      let two = and_parts (not (may_be_nothing blank sheet names x) && ltb (sheet_rank blank sheet names x) (get_or sheet k blank).rank) (leb (length xs) 2) three.0 in
      let one = and_parts (not (may_be_nothing blank sheet names x)) (ltb (sheet_rank blank sheet names x) (get_or sheet k blank).rank) two.0 in
      (same_empty x ∙ not-true _ one.0, omega (arith, same_rank x, ltb-true _ _ one.1), leb-true _ _ two.1, λ b lt first. always b (are_covered_in _ _ b three.1 (begins_in x b first)))

  here_at : (c : Choice) (cs : List Choice) (d : ℕ) → in_ranges (classes_of c) d ≡ true → choice_at (c ∷ cs) d ≡ Some c.rule
  here_at c cs d inside = ap (λ v. cond v (Some c.rule) (choice_at cs d)) inside

  -- no earlier choice takes a byte that a later choice takes
  beyond : (c : Choice) (cs : List Choice) (d : ℕ) (r : Rule) → are_apart (classes_of c) (begin_ranges cs) ≡ true → choice_at cs d ≡ Some r → choice_at (c ∷ cs) d ≡ Some r
  beyond c cs d r apart at = elim (cases_Bool (in_ranges (classes_of c) d)) [
    | inl both ↦ absurd (are_apart_in _ _ d apart both (chosen cs d (ap is_some at)))
    | inr other ↦ ap (λ v. cond v (Some c.rule) (choice_at cs d)) other ∙ at
  ]

  choose : (kind : KindSheet) (cs : List Choice) (b : ℕ) (rule : Rule) → are_lawful_choices blank sheet names kind cs ≡ true → choice_at cs b ≡ Some rule → IsChosen blank sheet names kind cs b rule
  choose kind [] b rule h found = cc
  choose kind (c ∷ cs) b rule h found =
      let two = and_parts (is_lawful_choice blank sheet names kind c && are_apart (classes_of c) (begin_ranges cs)) (are_lawful_choices blank sheet names kind cs) h in
      let one = and_parts (is_lawful_choice blank sheet names kind c) (are_apart (classes_of c) (begin_ranges cs)) two.0 in
      elim (cases_Bool (in_ranges (classes_of c) b)) [
        | inl here ↦ (
            let same : Some c.rule ≡ Some rule = sym (here_at c cs b here) ∙ found in
            let rules : c.rule ≡ rule = cc in
            record { choice = c; is = rules; lawful = one.0; always = λ d inside. here_at c cs d inside })
        | inr later ↦ (
            let rest = choose kind cs b rule two.1 (sym (ap (λ v. cond v (Some c.rule) (choice_at cs b)) later) ∙ found) in
            record { choice = rest.choice; is = rest.is; lawful = rest.lawful; always = λ d inside. beyond c cs d rest.choice.rule one.1 (rest.always d inside) })
      ]

  low_choice : (kind : KindSheet) (h : ℕ) (cs : List Choice) → are_lawful_choices blank sheet names kind cs ≡ true → has_low_choice blank sheet names h cs ≡ true → IsLow blank sheet names h cs
  low_choice kind h [] lawful low = absurd (false≢true low)
  low_choice kind h (c ∷ cs) lawful low =
      let two = and_parts (is_lawful_choice blank sheet names kind c && are_apart (classes_of c) (begin_ranges cs)) (are_lawful_choices blank sheet names kind cs) lawful in
      let one = and_parts (is_lawful_choice blank sheet names kind c) (are_apart (classes_of c) (begin_ranges cs)) two.0 in
      elim (or_cases (has_byte blank sheet names (classes_of c) && are_below blank sheet names h (symbols_of c.rule)) (has_low_choice blank sheet names h cs) low) [
        | inl here ↦ (
            let both = and_parts (has_byte blank sheet names (classes_of c)) (are_below blank sheet names h (symbols_of c.rule)) here in
            let byte = first_byte (classes_of c) both.0 in
            record { byte = byte.0; is_byte = byte.1; rule = c.rule; found = here_at c cs byte.0 byte.2; below = both.1 })
        | inr later ↦ (
            let rest = low_choice kind h cs two.1 later in
            record { byte = rest.byte; is_byte = rest.is_byte; rule = rest.rule; found = beyond c cs rest.byte rest.rule one.1 rest.found; below = rest.below })
      ]
    where
      first_byte : (rs : List ByteRange) → has_byte blank sheet names rs ≡ true → (b : ℕ) × (b < 256) × (in_ranges rs b ≡ true)
      first_byte [] e = absurd (false≢true e)
      first_byte (r ∷ rs) e =
          let both = and_parts (leb r.from r.to) (ltb r.from 256) e in
          (r.from, ltb-true _ _ both.1, or_left _ _ (and_from _ _ (le-leb r.from r.from (omega arith)) both.0))

  kind_at : (all : List KindSheet) (k : ℕ) → are_lawful_kinds blank sheet names all ≡ true → k < length all → is_lawful_kind blank sheet names (get_or all k blank) ≡ true
  kind_at [] k h lt = absurd (omega arith)
  kind_at (kind ∷ all) zero h lt = (and_parts (is_lawful_kind blank sheet names kind) (are_lawful_kinds blank sheet names all) h).0
  kind_at (kind ∷ all) (suc k) h lt = kind_at all k (and_parts (is_lawful_kind blank sheet names kind) (are_lawful_kinds blank sheet names all) h).1 (omega arith)

  lawful_rule : (k : ℕ) (b : ℕ) (rule : Rule) → are_lawful_choices blank sheet names (get_or sheet k blank) (get_or sheet k blank).choices ≡ true → choice_at (get_or sheet k blank).choices b ≡ Some rule → IsLawfulRule (table_of blank sheet names) k rule
  lawful_rule k b rule h found =
      let it = choose (get_or sheet k blank) (get_or sheet k blank).choices b rule h found in
      subst (λ r. IsLawfulRule (table_of blank sheet names) k r) it.is (by_choice it.choice it.lawful it.always)
    where
      by_choice : (c : Choice) → is_lawful_choice blank sheet names (get_or sheet k blank) c ≡ true → ((d : ℕ) → in_ranges (classes_of c) d ≡ true → choice_at (get_or sheet k blank).choices d ≡ Some c.rule) → IsLawfulRule (table_of blank sheet names) k c.rule
      by_choice c lawful always =
          let kind = get_or sheet k blank in
          let four = and_parts (leb c.rule.count 5 && ltb c.rule.number TOKEN && are_known blank sheet names (symbols_of c.rule) && keeps_after blank sheet names kind (symbols_of c.rule)) (c.rule.eats || is_chain blank sheet names kind c (symbols_of c.rule)) lawful in
          let three = and_parts (leb c.rule.count 5 && ltb c.rule.number TOKEN && are_known blank sheet names (symbols_of c.rule)) (keeps_after blank sheet names kind (symbols_of c.rule)) four.0 in
          let two = and_parts (leb c.rule.count 5 && ltb c.rule.number TOKEN) (are_known blank sheet names (symbols_of c.rule)) three.0 in
          let one = and_parts (leb c.rule.count 5) (ltb c.rule.number TOKEN) two.0 in
          record {
            count = leb-true _ _ one.0;
            number = ltb-true _ _ one.1;
            symbols = known_symbols (symbols_of c.rule) two.1;
            after = keeps k (symbols_of c.rule) three.1;
            chain = λ chains. (
                let is = elim (or_cases c.rule.eats (is_chain blank sheet names kind c (symbols_of c.rule)) four.1) as (λ _. is_chain blank sheet names kind c (symbols_of c.rule) ≡ true) [ inl eats ↦ cc | inr yes-chain ↦ yes-chain ] in
                chained k c (symbols_of c.rule) always is);
          }

-- A sheet that passes the test is lawful.
pub lawful_sheet : (blank : KindSheet) (sheet : List KindSheet) (names : NameClass) → is_lawful_sheet blank sheet names ≡ true → IsLawful (table_of blank sheet names)
lawful_sheet blank sheet names h = record {
  start = ltb-true _ _ all.0;
  rule = λ k b rule lt byte found. lawful_rule blank sheet names k b rule (parts k lt).1 found;
  apart = apart;
  rank = λ k lt. leb-true _ _ (three k lt).0;
  height = height;
}
  where
    all : (ltb 0 (length sheet) ≡ true) × (are_lawful_kinds blank sheet names sheet ≡ true)
    all = and_parts (ltb 0 (length sheet)) (are_lawful_kinds blank sheet names sheet) h

    parts : (k : ℕ) → k < length sheet → (leb (get_or sheet k blank).rank 3 && (not (get_or sheet k blank).may_be_empty || are_apart (begin_ranges (get_or sheet k blank).choices) (get_or sheet k blank).after) && ((get_or sheet k blank).may_be_empty || has_low_choice blank sheet names (get_or sheet k blank).height (get_or sheet k blank).choices) ≡ true) × (are_lawful_choices blank sheet names (get_or sheet k blank) (get_or sheet k blank).choices ≡ true)
    parts k lt = and_parts _ _ (kind_at blank sheet names sheet k all.1 lt)

    two : (k : ℕ) → k < length sheet → (leb (get_or sheet k blank).rank 3 && (not (get_or sheet k blank).may_be_empty || are_apart (begin_ranges (get_or sheet k blank).choices) (get_or sheet k blank).after) ≡ true) × ((get_or sheet k blank).may_be_empty || has_low_choice blank sheet names (get_or sheet k blank).height (get_or sheet k blank).choices ≡ true)
    two k lt = and_parts _ _ (parts k lt).0

    three : (k : ℕ) → k < length sheet → (leb (get_or sheet k blank).rank 3 ≡ true) × (not (get_or sheet k blank).may_be_empty || are_apart (begin_ranges (get_or sheet k blank).choices) (get_or sheet k blank).after ≡ true)
    three k lt = and_parts _ _ (two k lt).0

    apart : (k b : ℕ) → k < length sheet → b < 256 → (get_or sheet k blank).may_be_empty ≡ true → is_some (choice_at (get_or sheet k blank).choices b) ≡ true → in_ranges (get_or sheet k blank).after b ≡ false
    apart k b lt byte bare begun = elim (cases_Bool (in_ranges (get_or sheet k blank).after b)) [
      | inl after ↦ elim (or_cases (not (get_or sheet k blank).may_be_empty) (are_apart (begin_ranges (get_or sheet k blank).choices) (get_or sheet k blank).after) (three k lt).1) [
        | inl full ↦ (let clash = not-true _ full in cc)
        | inr separate ↦ absurd (are_apart_in _ _ b separate (chosen (get_or sheet k blank).choices b begun) after)
      ]
      | inr other ↦ other
    ]

    height : (k : ℕ) → k < length sheet → ((get_or sheet k blank).may_be_empty ≡ true) ⊎ HasLowRule (table_of blank sheet names) k
    height k lt = elim (or_cases (get_or sheet k blank).may_be_empty (has_low_choice blank sheet names (get_or sheet k blank).height (get_or sheet k blank).choices) (two k lt).1) [
      | inl bare ↦ inl bare
      | inr has ↦ (
          let low = low_choice blank sheet names (get_or sheet k blank) (get_or sheet k blank).height (get_or sheet k blank).choices (parts k lt).1 has in
          inr (record { byte = low.byte; is_byte = low.is_byte; rule = low.rule; found = low.found; below = low_symbols blank sheet names (get_or sheet k blank).height (symbols_of low.rule) low.below }))
    ]
