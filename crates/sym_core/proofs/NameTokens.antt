-- Names that are found, and where names break off.
use Rattle.sym_core.proofs.Basics.{◌≡◌, ℕ, zero, suc, ◌+◌, ◌-◌, ◌<◌, ◌≤◌, Bool, true, false, ◌⊎◌, inl, inr, List, [], ◌∷◌, ◌++◌, length, take, drop, get_or, eqb, ltb, ◌&&◌, refl, ap, sym, ◌∙◌, subst, arith, append_assoc, length-append, append-nil, take-append-drop, length-take-le, get_or-take, length-drop, drop_more, take_at, drop_at, drop-drop, take_rest, Length, Span, NameClass, Cpp, Rust, TokenPlace, is_decimal_digit, AreDigitsOf, IsLengthForm, HasNoNumber, IsNumberSpan, IsNumber, StopsAt, IsSeparated, IsOwn, is_bare_digit, IsNameless, Token, bytes_of, is_name_byte, IsName, IsSeparator, ends_name, HasToken, HasNoToken, value_of}
use Rattle.std.proofs.lemmas.Bool.{false≢true, and_parts, lt-ltb, eq-eqb, and_from, ltb-true, eqb-true}
use Rattle.sym_core.proofs.Lists.{Each, compared, split_nil, each_front, each_from_points}
use Rattle.sym_core.proofs.TokenFacts.{extended_name, name_bytes, tail_stops, longer_length, name_filled, zero_length, name_there, name_first}
use Rattle.sym_core.proofs.Fronts.{ReadsNumber, BreaksNumber, reads_number, breaks_number}

pub own_found : (names : NameClass) (bytes : List ℕ) (most end : ℕ) → end ≤ length bytes → end ≤ most → ((k : ℕ) → k < end → is_name_byte names (get_or bytes k 0) ≡ true) → (end < most → end < length bytes → is_name_byte names (get_or bytes end 0) ≡ false) → IsOwn names bytes most end
own_found names bytes most end high few each stops = record {
  part = take end bytes;
  rest = drop end bytes;
  split = sym (take-append-drop end bytes);
  size_is = length-take-le end bytes high;
  each = each_from_points (is_name_byte names) (take end bytes) (λ k lt. ap (is_name_byte names) (get_or-take end bytes k 0 (omega (arith, length-take-le end bytes high))) ∙ each k (omega (arith, length-take-le end bytes high)));
  few = few;
  stops = λ lt b r e. (
      let more : end < length bytes = omega (arith, length-drop end bytes, ap length e) in
      let head : get_or bytes end 0 ∷ drop (end + 1) bytes ≡ b ∷ r = sym (drop_more bytes end 0 more) ∙ e in
      let same : get_or bytes end 0 ≡ b = cc in
      ap (is_name_byte names) (sym same) ∙ stops lt more);
}

-- What follows a name's length: a separator or none, its bytes so far, and the rest.
pub record IsFront (names : NameClass) (digits sep part rest : List ℕ) (most : ℕ) : Type 0 where
  pub length_is : AreDigitsOf Length digits
  pub most_is : most ≡ value_of Length digits
  pub mark : IsSeparated names (sep ++ (part ++ rest)) (length sep)
  pub each : Each (is_name_byte names) part
  pub few : length part ≤ most
  pub bare : sep ≡ [] → 0 < most → StopsAt is_decimal_digit part

-- a separator fits the bytes after it
separated : (names : NameClass) (digits sep part rest : List ℕ) (most : ℕ) → IsFront names digits sep part rest most → (IsNameless names most → ⊥) → length part ≡ most → IsSeparator names sep part
separated Cpp digits [] [] rest most f named full = named (sym full)
separated Cpp digits [] (b ∷ part) rest most f named full = f.bare refl (omega (arith, full))
separated Cpp digits (c ∷ sep) part rest most f named full = absurd (omega (arith, f.mark))
separated Rust digits [] [] rest most f named full = tt
separated Rust digits [] (b ∷ part) rest most f named full =
    (f.bare refl (omega (arith, full)), λ e. elim f.mark [ inl one ↦ omega (arith, one.0) | inr none ↦ none.1 (part ++ rest) (ap (λ c. c ∷ (part ++ rest)) e) ])
separated Rust digits (c ∷ []) part rest most f named full =
    elim f.mark [ inl one ↦ (let whole = one.1.1 in cc) | inr none ↦ absurd (omega (arith, none.0)) ]
separated Rust digits (c ∷ d ∷ sep) part rest most f named full =
    elim f.mark [ inl one ↦ absurd (omega (arith, one.0)) | inr none ↦ absurd (omega (arith, none.0)) ]

abbrev token_of : List ℕ → List ℕ → List ℕ → Token
token_of digits sep part = record { before = digits ++ sep; own = part; behind = [] }

-- after a length without a separator, the next byte isn't an underscore
no_mark : (names : NameClass) (sep part rest : List ℕ) (b : ℕ) → ends_name names b ≡ false → IsSeparated names (sep ++ (part ++ rest)) (length sep) → sep ≡ [] → part ≡ [] → (r : List ℕ) → rest ≡ b ∷ r → b ≡ 95 → ⊥
no_mark Cpp sep part rest b clash mark p q r e is = cc
no_mark Rust sep part rest b clash mark p q r e is = elim mark [
  | inl one ↦ omega (arith, one.0, ap length p)
  | inr none ↦ none.1 r (ap (λ v. v ++ (part ++ rest)) p ∙ ap (λ v. v ++ rest) q ∙ e ∙ ap (λ c. c ∷ r) is)
]

-- these bytes don't continue a name, since the first of them may not come next in it
abbrev pub IsForeign : NameClass → List ℕ → List ℕ → List ℕ → Type 0
IsForeign names sep part w = (b : ℕ) (r : List ℕ) → w ≡ b ∷ r → (is_name_byte names b ≡ false) ⊎ ((sep ≡ []) × (part ≡ []) × (is_decimal_digit b ≡ true))

-- the length's digits don't continue with the next byte
abbrev pub IsLongest : List ℕ → List ℕ → List ℕ → List ℕ → Type 0
IsLongest digits sep part w = (c : ℕ) (r : List ℕ) → sep ≡ [] → part ≡ [] → w ≡ c ∷ r → AreDigitsOf Length (digits ++ c ∷ []) → ⊥

digit_not_mark : (c : ℕ) → is_decimal_digit c ≡ true → c ≡ 95 → ⊥
digit_not_mark c h e = false≢true (ap is_decimal_digit (sym e) ∙ h)

-- after a length, the own bytes of a name that isn't empty begin where the reader's separator ends, and the name has no
-- separator if the reader found none
own_same : (names : NameClass) (sep part w : List ℕ) (t_sep own v : List ℕ) → IsSeparated names (sep ++ (part ++ w)) (length sep) → IsSeparator names t_sep own → 0 < length own → (t_sep ++ own) ++ v ≡ sep ++ (part ++ w) → (own ++ v ≡ part ++ w) × (sep ≡ [] → t_sep ≡ [])
own_same Cpp [] part w [] own v mark is some e = (e, λ _. refl)
own_same Cpp (c ∷ sep) part w t_sep own v mark is some e = absurd (omega (arith, mark))
own_same Cpp [] part w (c ∷ t_sep) own v mark is some e = absurd is
own_same Rust [] part w [] own v mark is some e = (e, λ _. refl)
own_same Rust [] part w (c ∷ []) own v mark is some e = elim mark [
  | inl one ↦ absurd (omega (arith, one.0))
  | inr none ↦ absurd (none.1 (own ++ v) (sym e ∙ ap (λ x. x ∷ (own ++ v)) is))
]
own_same Rust (d ∷ []) part w [] (x ∷ own) v mark is some e = elim mark [
  | inl one ↦ (let whole = one.1.1 in absurd (is.1 cc))
  | inr none ↦ absurd (omega (arith, none.0))
]
own_same Rust (d ∷ []) part w [] [] v mark is some e = absurd (omega arith)
own_same Rust (d ∷ []) part w (c ∷ []) own v mark is some e = (cc, λ nil. cc)
own_same Rust (d ∷ x ∷ sep) part w t_sep own v mark is some e = elim mark [ inl one ↦ absurd (omega (arith, one.0)) | inr none ↦ absurd (omega (arith, none.0)) ]
own_same Rust sep part w (c ∷ d ∷ t_sep) own v mark is some e = absurd is

-- if a name breaks off, no name is at the front of the bytes
pub not_name : (names : NameClass) (digits sep part rest w : List ℕ) (most : ℕ) → IsFront names digits sep part rest most → IsSeparated names (sep ++ (part ++ w)) (length sep) → length part < most → IsForeign names sep part w → IsLongest digits sep part w → (t : Token) (v : List ℕ) → IsName names t → bytes_of t ++ v ≡ digits ++ (sep ++ (part ++ w)) → ⊥
not_name names digits sep part rest w most f mark short foreign longest t v h e =
    elim (compared h.digits digits ((h.separator ++ t.own) ++ v) (sep ++ (part ++ w)) whole) [
      | inl more ↦ longer more.0 more.1 more.2
      | inr less ↦ shorter less.0 less.1 less.2 less.3
    ]
  where
    whole : h.digits ++ ((h.separator ++ t.own) ++ v) ≡ digits ++ (sep ++ (part ++ w))
    whole = sym (append_assoc h.digits (h.separator ++ t.own) v) ∙ ap (λ u. u ++ v) (sym (name_bytes names t h)) ∙ e

    by_own : (m own : List ℕ) (b : ℕ) → own ≡ part ++ b ∷ m → Each (is_name_byte names) own → (own_sep : List ℕ) → IsSeparator names own_sep own → (sep ≡ [] → own_sep ≡ []) → w ≡ b ∷ (m ++ v) → ⊥
    by_own m own b is each own_sep fits same next =
        elim (foreign b (m ++ v) next) [
          | inl other ↦ false≢true (sym other ∙ (each_front (is_name_byte names) part b m (subst (λ u. Each (is_name_byte names) u) is each)).0)
          | inr digit ↦ (
              let bare : own ≡ b ∷ m = is ∙ ap (λ u. u ++ b ∷ m) digit.1 in
              let stops = tail_stops names [] (b ∷ m) (subst (λ u. IsSeparator names u (b ∷ m)) (same digit.0) (subst (λ u. IsSeparator names own_sep u) bare fits)) in
              false≢true (sym stops ∙ digit.2))
        ]

    longer : (m : List ℕ) → h.digits ≡ digits ++ m → sep ++ (part ++ w) ≡ m ++ ((h.separator ++ t.own) ++ v) → ⊥
    longer [] same tail =
        let value : length t.own ≡ most = h.counted ∙ ap (λ u. value_of Length u) (same ∙ append-nil digits) ∙ sym f.most_is in
        let own = own_same names sep part w h.separator t.own v mark h.separated (omega (arith, value)) (sym tail) in
        elim (compared t.own part v w own.0) [
          | inl more ↦ rest_of more.0 more.1 more.2 value own.1
          | inr less ↦ omega (arith, value, ap length less.2, length-append t.own (less.0 ∷ less.1))
        ]
      where
        rest_of : (m : List ℕ) → t.own ≡ part ++ m → w ≡ m ++ v → length t.own ≡ most → (sep ≡ [] → h.separator ≡ []) → ⊥
        rest_of [] is next value same = omega (arith, value, ap length is, ap length (append-nil part))
        rest_of (b ∷ m) is next value same = by_own m t.own b is h.each h.separator h.separated same next
    longer (c ∷ m) more tail =
        let front = each_front is_decimal_digit digits c m (subst (λ u. Each is_decimal_digit u) more h.length_is.0) in
        in_tail sep part refl refl front.0 (front.1, longer_length digits c m f.length_is.1 (subst IsLengthForm more h.length_is.1)) tail
      where
        in_tail : (s p : List ℕ) → sep ≡ s → part ≡ p → is_decimal_digit c ≡ true → AreDigitsOf Length (digits ++ c ∷ []) → s ++ (p ++ w) ≡ c ∷ (m ++ ((h.separator ++ t.own) ++ v)) → ⊥
        in_tail [] [] p q digit are next = longest c _ p q next are
        in_tail [] (b ∷ u) p q digit are next =
            let same : b ≡ c = cc in
            let stops = subst (λ y. StopsAt is_decimal_digit y) q (f.bare p (omega arith)) in
            false≢true (sym stops ∙ ap is_decimal_digit same ∙ digit)
        in_tail (d ∷ s) u p q digit are next =
            let same : d ≡ c = cc in
            marked d s p (ap is_decimal_digit same ∙ digit)
          where
            marked : (x : ℕ) (y : List ℕ) → sep ≡ x ∷ y → is_decimal_digit x ≡ true → ⊥
            marked x y is given = by_class names mark
              where
                by_class : (n : NameClass) → IsSeparated n (sep ++ (part ++ w)) (length sep) → ⊥
                by_class Cpp none = omega (arith, none, ap length is)
                by_class Rust some = elim some [
                  | inl one ↦ (
                      let text : x ∷ (y ++ (part ++ w)) ≡ 95 ∷ one.1.0 = sym (ap (λ u. u ++ (part ++ w)) is) ∙ one.1.1 in
                      digit_not_mark x given cc)
                  | inr none ↦ omega (arith, none.0, ap length is)
                ]

    shorter : (c : ℕ) (m : List ℕ) → digits ≡ h.digits ++ c ∷ m → (h.separator ++ t.own) ++ v ≡ c ∷ (m ++ (sep ++ (part ++ w))) → ⊥
    shorter c m is tail =
        let digit = (each_front is_decimal_digit h.digits c m (subst (λ u. Each is_decimal_digit u) is f.length_is.0)).0 in
        in_tail (h.separator ++ t.own) refl digit (tail_stops names h.separator t.own h.separated) tail
      where
        no_form : (ds : List ℕ) → ds ≡ 48 ∷ [] → digits ≡ ds ++ c ∷ m → IsLengthForm digits → ⊥
        no_form ds alone next form = (subst IsLengthForm (next ∙ ap (λ u. u ++ c ∷ m) alone) form).0 refl

        in_tail : (u : List ℕ) → h.separator ++ t.own ≡ u → is_decimal_digit c ≡ true → StopsAt is_decimal_digit u → u ++ v ≡ c ∷ (m ++ (sep ++ (part ++ w))) → ⊥
        in_tail [] nil digit stops next =
            let none = split_nil h.separator t.own nil in
            no_form h.digits (zero_length h.digits h.length_is.0 h.length_is.1 (sym h.counted ∙ ap length none.1)) is f.length_is.1
        in_tail (b ∷ u) some digit stops next =
            let same : b ≡ c = cc in
            false≢true (sym stops ∙ ap is_decimal_digit same ∙ digit)

front_name : (names : NameClass) (digits sep part rest : List ℕ) (most : ℕ) → IsFront names digits sep part rest most → (IsNameless names most → ⊥) → length part ≡ most → IsName names (token_of digits sep part)
front_name names digits sep part rest most f named full = record {
  digits = digits;
  separator = sep;
  split = refl;
  length_is = f.length_is;
  separated = separated names digits sep part rest most f named full;
  each = f.each;
  counted = full ∙ f.most_is;
  ends = refl;
}

token_bytes : (digits sep part : List ℕ) → bytes_of (token_of digits sep part) ≡ digits ++ (sep ++ part)
token_bytes digits sep part = append-nil ((digits ++ sep) ++ part) ∙ append_assoc digits sep part

regrouped : (digits sep part rest : List ℕ) → digits ++ (sep ++ (part ++ rest)) ≡ (digits ++ (sep ++ part)) ++ rest
regrouped digits sep part rest = ap (λ u. digits ++ u) (sym (append_assoc sep part rest)) ∙ sym (append_assoc digits (sep ++ part) rest)

-- a whole name
pub name_whole : (names : NameClass) (digits sep part rest q : List ℕ) (most at : ℕ) (place : TokenPlace) → IsFront names digits sep part rest most → (IsNameless names most → ⊥) → length part ≡ most → q ≡ digits ++ (sep ++ (part ++ rest)) → place.from ≡ at + length (digits ++ sep) → place.to ≡ at + length (digits ++ sep) + length part → place.end ≡ place.to → HasToken (IsName names) q at place
unfolding front_name
name_whole names digits sep part rest q most at place f named full split from to end =
    let is = front_name names digits sep part rest most f named full in
    let bytes = token_bytes digits sep part in
    let whole : q ≡ bytes_of (token_of digits sep part) ++ rest = split ∙ regrouped digits sep part rest ∙ ap (λ u. u ++ rest) (sym bytes) in
    record {
      token = token_of digits sep part;
      rest = rest;
      is = is;
      split = whole;
      from = from;
      to = to;
      end = omega (arith, end, to, ap length bytes, length-append digits (sep ++ part), length-append sep part, length-append digits sep);
      longest = λ other behind is_other e. elim (compared (bytes_of other) (bytes_of (token_of digits sep part)) behind rest (sym e ∙ whole)) [
        | inl more ↦ shorter other is_other more.0 behind more.1 more.2 is
        | inr less ↦ omega (arith, ap length less.2, length-append (bytes_of other) (less.0 ∷ less.1))
      ];
    }
  where
    shorter : (other : Token) → IsName names other → (m behind : List ℕ) → bytes_of other ≡ bytes_of (token_of digits sep part) ++ m → rest ≡ m ++ behind → IsName names (token_of digits sep part) → length (bytes_of other) ≤ length (bytes_of (token_of digits sep part))
    shorter other is_other [] behind e g is = omega (arith, ap length e, ap length (append-nil (bytes_of (token_of digits sep part))))
    shorter other is_other (b ∷ m) behind e g is =
        let on = extended_name names (token_of digits sep part) other b m (front_name names digits sep part rest most f named full) is_other e in
        absurd (no_mark names sep part rest b on.clash f.mark on.unmarked on.nothing_own (m ++ behind) g on.mark)

-- the separator depends only on the next byte
mark_same : (names : NameClass) (sep part : List ℕ) (b : ℕ) (r s : List ℕ) (n : ℕ) → IsSeparated names (sep ++ (part ++ b ∷ r)) n → IsSeparated names (sep ++ (part ++ b ∷ s)) n
mark_same Cpp sep part b r s n h = h
mark_same Rust [] [] b r s n h = elim h [
  | inl one ↦ inl (one.0, (s, (let w = one.1.1 in ap (λ c. c ∷ s) cc)))
  | inr none ↦ inr (none.0, λ u e. none.1 r (ap (λ c. c ∷ r) cc))
]
mark_same Rust [] (x ∷ part) b r s n h = elim h [
  | inl one ↦ inl (one.0, (part ++ b ∷ s, (let w = one.1.1 in ap (λ c. c ∷ (part ++ b ∷ s)) cc)))
  | inr none ↦ inr (none.0, λ u e. none.1 (part ++ b ∷ r) (ap (λ c. c ∷ (part ++ b ∷ r)) cc))
]
mark_same Rust (x ∷ sep) part b r s n h = elim h [
  | inl one ↦ inl (one.0, (sep ++ (part ++ b ∷ s), (let w = one.1.1 in ap (λ c. c ∷ (sep ++ (part ++ b ∷ s))) cc)))
  | inr none ↦ inr (none.0, λ u e. none.1 (sep ++ (part ++ b ∷ r)) (ap (λ c. c ∷ (sep ++ (part ++ b ∷ r))) cc))
]

abbrev letters : ℕ → List ℕ
letters zero = []
letters (suc n) = 97 ∷ letters n

length-letters : (n : ℕ) → length (letters n) ≡ n
length-letters zero = refl
length-letters (suc n) = omega (arith, length-letters n)

letters_pass : (names : NameClass) (n : ℕ) → Each (is_name_byte names) (letters n)
letters_pass names zero = tt
letters_pass Cpp (suc n) = (refl, letters_pass Cpp n)
letters_pass Rust (suc n) = (refl, letters_pass Rust n)

each_joined : (p : ℕ → Bool) (xs ys : List ℕ) → Each p xs → Each p ys → Each p (xs ++ ys)
each_joined p [] ys h k = k
each_joined p (x ∷ xs) ys h k = (h.0, each_joined p xs ys h.1 k)

-- a front that breaks off can be completed with letters
filled_up : (names : NameClass) (digits sep part rest : List ℕ) (most n : ℕ) → IsFront names digits sep part rest most → most ≡ length part + suc n → IsFront names digits sep (part ++ letters (suc n)) [] most
filled_up names digits sep part rest most n f count = record {
  length_is = f.length_is;
  most_is = f.most_is;
  mark = mark names sep part f.mark;
  each = each_joined (is_name_byte names) part (letters (suc n)) f.each (letters_pass names (suc n));
  few = omega (arith, length-append part (letters (suc n)), length-letters (suc n));
  bare = λ none some. bare_of part (f.bare none some);
}
  where
    bare_of : (p : List ℕ) → StopsAt is_decimal_digit p → StopsAt is_decimal_digit (p ++ letters (suc n))
    bare_of [] h = refl
    bare_of (b ∷ p) h = h

    mark : (c : NameClass) (s p : List ℕ) → IsSeparated c (s ++ (p ++ rest)) (length s) → IsSeparated c (s ++ ((p ++ letters (suc n)) ++ [])) (length s)
    mark Cpp s p h = h
    mark Rust [] [] h = inr (refl, λ r e. omega (arith, ap (λ u. get_or u 0 0) e))
    mark Rust [] (x ∷ p) h = elim h [
      | inl one ↦ absurd (omega (arith, one.0))
      | inr none ↦ inr (refl, λ u e. none.1 (p ++ rest) (ap (λ c. c ∷ (p ++ rest)) cc))
    ]
    mark Rust (x ∷ s) p h = elim h [
      | inl one ↦ inl (one.0, (s ++ ((p ++ letters (suc n)) ++ []), (let w = one.1.1 in ap (λ c. c ∷ (s ++ ((p ++ letters (suc n)) ++ []))) cc)))
      | inr none ↦ absurd (omega (arith, none.0))
    ]

-- a name that breaks off
pub name_broken : (names : NameClass) (digits sep part rest q : List ℕ) (most size : ℕ) → IsFront names digits sep part rest most → length part < most → q ≡ digits ++ (sep ++ (part ++ rest)) → IsForeign names sep part rest → IsLongest digits sep part rest → length (digits ++ (sep ++ part)) ≡ size → HasNoToken (IsName names) q size
name_broken names digits sep part rest q most size f short split foreign longest size_is = record {
  front = digits ++ (sep ++ part);
  rest = rest;
  split = split ∙ regrouped digits sep part rest;
  size_is = size_is;
  begun = token_of digits sep (part ++ letters (suc n));
  more = letters (suc n);
  begins = front_name names digits sep (part ++ letters (suc n)) [] most up (λ none. nameless names none) (omega (arith, length-append part (letters (suc n)), length-letters (suc n)));
  begins_so = token_bytes digits sep (part ++ letters (suc n)) ∙ regrouped digits sep part (letters (suc n));
  next = λ b r token behind e is g. not_name names digits sep part rest (b ∷ behind) most f (mark_same names sep part b r behind (length sep) (subst (λ u. IsSeparated names (sep ++ (part ++ u)) (length sep)) e f.mark)) short
      (λ c s h. (let same : b ≡ c = cc in subst (λ d. (is_name_byte names d ≡ false) ⊎ ((sep ≡ []) × (part ≡ []) × (is_decimal_digit d ≡ true))) same (foreign b r e)))
      (λ c s no_sep no_part h are. (let same : b ≡ c = cc in longest c r no_sep no_part (e ∙ ap (λ d. d ∷ r) same) are))
      token [] is (append-nil (bytes_of token) ∙ g ∙ sym (regrouped digits sep part (b ∷ behind)));
  none = λ token behind is g. not_name names digits sep part rest rest most f f.mark short foreign longest token behind is (sym g ∙ split);
}
  where
    n : ℕ
    n = most - length part - 1

    count : most ≡ length part + suc n
    count = omega arith

    up : IsFront names digits sep (part ++ letters (suc n)) [] most
    up = filled_up names digits sep part rest most n f count

    nameless : (c : NameClass) → IsNameless c most → ⊥
    nameless Cpp none = omega (arith, none)
    nameless Rust none = none

-- a C++ name doesn't begin with the digit 0, since its length isn't 0
zero_name : (t : Token) (w : List ℕ) → IsName Cpp t → bytes_of t ≡ 48 ∷ w → ⊥
zero_name t w h e = by_digits h.digits h.length_is.1 h.counted (sym (name_bytes Cpp t h) ∙ e)
  where
    by_own : (sep own : List ℕ) → IsSeparator Cpp sep own → length own ≡ 0 → ⊥
    by_own [] [] is none = is
    by_own [] (b ∷ own) is none = omega (arith, none)
    by_own (c ∷ sep) own is none = is

    by_digits : (ds : List ℕ) → IsLengthForm ds → length t.own ≡ value_of Length ds → ds ++ (h.separator ++ t.own) ≡ 48 ∷ w → ⊥
    by_digits [] form count f = form
    by_digits (d ∷ []) form count f = (let first : d ≡ 48 = cc in by_own h.separator t.own h.separated (omega (arith, count, first)))
    by_digits (d ∷ c ∷ ds) form count f = (let first : d ≡ 48 = cc in form.0 first)

-- no C++ name has the length 0
pub name_zero : (names : NameClass) (q : List ℕ) (size most : ℕ) (r : ReadsNumber Length q size) → IsNameless names most → most ≡ value_of Length r.digits → HasNoToken (IsName names) q 0
name_zero Rust q size most r none is = absurd none
name_zero Cpp q size most r none is =
    let made = name_there Cpp in
    let zeros : r.digits ≡ 48 ∷ [] = zero_length r.digits r.are.0 r.are.1 (sym is ∙ none) in
    let starts : q ≡ 48 ∷ r.rest = r.split ∙ ap (λ u. (u ++ []) ++ r.rest) zeros in
    record {
      front = [];
      rest = q;
      split = refl;
      size_is = refl;
      begun = made.0;
      more = bytes_of made.0;
      begins = made.1;
      begins_so = refl;
      next = λ b s token behind e is_name g. (
          let same : b ≡ 48 = cc (e, starts) in
          zero_name token behind is_name (g ∙ ap (λ c. c ∷ behind) same));
      none = λ token behind is_name g. at_front token behind is_name g (bytes_of token) refl starts;
    }
  where
    at_front : (token : Token) (behind : List ℕ) → IsName Cpp token → q ≡ bytes_of token ++ behind → (u : List ℕ) → bytes_of token ≡ u → q ≡ 48 ∷ r.rest → ⊥
    at_front token behind is_name g [] e starts = name_filled Cpp token is_name e
    at_front token behind is_name g (c ∷ u) e starts =
        let whole : c ∷ (u ++ behind) ≡ 48 ∷ r.rest = sym (ap (λ v. v ++ behind) e) ∙ sym g ∙ starts in
        let same : c ≡ 48 = cc in
        zero_name token u is_name (e ∙ ap (λ d. d ∷ u) same)

-- where no length begins, no name begins
unbegun : (names : NameClass) (q : List ℕ) (size : ℕ) → BreaksNumber Length q size → HasNoToken (IsName names) q size
unbegun names q size k =
    let made = name_there names in
    let bare = nothing_read k.front refl in
    record {
      front = k.front;
      rest = k.rest;
      split = k.split;
      size_is = k.size_is;
      begun = made.0;
      more = bytes_of made.0;
      begins = made.1;
      begins_so = ap (λ u. u ++ bytes_of made.0) (sym bare);
      next = λ b r token behind e is g. (
          let digit = (name_first names token b behind is (g ∙ ap (λ u. u ++ b ∷ behind) bare)).1 in
          k.none (b ∷ []) r (one_digit b digit) (k.split ∙ ap (λ u. u ++ k.rest) bare ∙ e));
      none = λ token behind is g. k.none is.digits ((is.separator ++ token.own) ++ behind) (is.digits, is.length_is, sym (append-nil is.digits))
          (g ∙ ap (λ u. u ++ behind) (name_bytes names token is) ∙ append_assoc is.digits (is.separator ++ token.own) behind);
    }
  where
    one_digit : (b : ℕ) → is_decimal_digit b ≡ true → IsNumber Length (b ∷ [])
    one_digit b digit = (b ∷ [], ((digit, tt), tt), refl)

    nothing_read : (u : List ℕ) → k.front ≡ u → k.front ≡ []
    nothing_read [] e = e
    nothing_read (d ∷ u) e = absurd (by_digits k.begins.1.0 k.begins.1.1 (sym k.begins.1.2 ∙ ap (λ v. v ++ k.begins.0) e))
      where
        by_digits : (ds : List ℕ) → AreDigitsOf Length ds → ds ++ [] ≡ d ∷ (u ++ k.begins.0) → ⊥
        by_digits [] are f = are.1
        by_digits (c ∷ ds) are f =
            let same : c ≡ d = cc in
            k.none (d ∷ []) (u ++ k.rest) (one_digit d (subst (λ x. is_decimal_digit x ≡ true) same are.0.0)) (k.split ∙ ap (λ v. v ++ k.rest) e)

pub name_unbegun : (names : NameClass) (q : List ℕ) (size : ℕ) → HasNoNumber Length q size → HasNoToken (IsName names) q size
name_unbegun names q size h = unbegun names q size (breaks_number Length q size h)

-- what follows the digits of a length
pub record Behind (names : NameClass) (s : List ℕ) (at to skipped most : ℕ) (part rest : List ℕ) : Type 0 where
  pub digits : List ℕ
  pub sep : List ℕ
  pub size : length digits ≡ to - at
  pub width : length sep ≡ skipped
  pub front : IsFront names digits sep part rest most
  pub split : drop at s ≡ digits ++ (sep ++ (part ++ rest))
  pub longest : IsLongest digits sep part rest

pub behind_length : (names : NameClass) (s : List ℕ) (at to skipped most : ℕ) (part rest : List ℕ) → ReadsNumber Length (drop at s) (to - at) → at ≤ to → most ≡ value_of Length (take (to - at) (drop at s)) → IsSeparated names (drop to s) skipped → skipped ≤ length (drop to s) → drop skipped (drop to s) ≡ part ++ rest → Each (is_name_byte names) part → length part ≤ most → (skipped ≡ 0 → 0 < most → StopsAt is_decimal_digit part) → Behind names s at to skipped most part rest
behind_length names s at to skipped most part rest r le count mark within own each few bare = record {
  digits = r.digits;
  sep = take skipped (drop to s);
  size = r.size_is;
  width = length-take-le skipped (drop to s) within;
  front = record {
    length_is = r.are;
    most_is = count ∙ ap (λ u. value_of Length u) digits_are;
    mark = subst (λ n. IsSeparated names (take skipped (drop to s) ++ (part ++ rest)) n) (sym (length-take-le skipped (drop to s) within)) (subst (λ u. IsSeparated names u skipped) whole mark);
    each = each;
    few = few;
    bare = λ none some. bare (sym (length-take-le skipped (drop to s) within) ∙ ap length none) some;
  };
  split = r.split ∙ ap (λ u. u ++ r.rest) (append-nil r.digits) ∙ ap (λ u. r.digits ++ u) (sym rest_of ∙ whole);
  longest = λ c u no_sep no_part e are. (
      let text : drop at s ≡ (r.digits ++ c ∷ []) ++ u =
      r.split ∙ ap (λ v. v ++ r.rest) (append-nil r.digits) ∙ ap (λ v. r.digits ++ v) (sym rest_of ∙ whole ∙ ap (λ v. v ++ (part ++ rest)) no_sep ∙ ap (λ v. v ++ rest) no_part ∙ e) ∙ sym (append_assoc r.digits (c ∷ []) u) in
      omega (arith, r.longest (r.digits ++ c ∷ []) u (r.digits ++ c ∷ [], are, sym (append-nil (r.digits ++ c ∷ []))) text, ap length (append-nil r.digits), length-append r.digits (c ∷ [])));
}
  where
    plain : drop at s ≡ r.digits ++ r.rest
    plain = r.split ∙ ap (λ u. u ++ r.rest) (append-nil r.digits)

    digits_are : take (to - at) (drop at s) ≡ r.digits
    digits_are = ap (λ u. take (to - at) u) plain ∙ take_at r.digits r.rest (to - at) r.size_is

    rest_of : drop to s ≡ r.rest
    rest_of = ap (λ n. drop n s) (omega arith) ∙ sym (drop-drop (to - at) at s) ∙ ap (λ u. drop (to - at) u) plain ∙ drop_at r.digits r.rest (to - at) r.size_is

    whole : drop to s ≡ take skipped (drop to s) ++ (part ++ rest)
    whole = sym (take-append-drop skipped (drop to s)) ∙ ap (λ u. take skipped (drop to s) ++ u) own

-- a bare digit
pub bare_digit : (most skipped : ℕ) (own : List ℕ) → is_bare_digit most skipped own ≡ true → (0 < most) × (skipped ≡ 0) × ((b : ℕ) (r : List ℕ) → own ≡ b ∷ r → is_decimal_digit b ≡ true)
bare_digit most skipped [] h = absurd (false≢true h)
bare_digit most skipped (b ∷ own) h =
    let two = and_parts (ltb 0 most && eqb skipped 0) (is_decimal_digit b) h in
    let one = and_parts (ltb 0 most) (eqb skipped 0) two.0 in
    (ltb-true _ _ one.0, eqb-true _ _ one.1, λ c r e. (let same : b ≡ c = cc in ap is_decimal_digit (sym same) ∙ two.1))

pub no_bare_digit : (most skipped : ℕ) (own part rest : List ℕ) → is_bare_digit most skipped own ≡ false → own ≡ part ++ rest → skipped ≡ 0 → 0 < most → StopsAt is_decimal_digit part
no_bare_digit most skipped own [] rest h e none some = tt
no_bare_digit most skipped [] (b ∷ part) rest h e none some = cc
no_bare_digit most skipped (c ∷ own) (b ∷ part) rest h e none some =
    let same : c ≡ b = cc in
    let test : ltb 0 most && eqb skipped 0 ≡ true = and_from _ _ (lt-ltb 0 most some) (eq-eqb skipped 0 none) in
    ap is_decimal_digit (sym same) ∙ sym (ap (λ v. v && is_decimal_digit c) test) ∙ h

-- the tail of the bytes, as `&bytes[to..]` gives it
abbrev pub tail_at : List ℕ → ℕ → List ℕ
tail_at s to = take (length s - to) (drop to s)

pub tail_is : (s : List ℕ) (to : ℕ) → tail_at s to ≡ drop to s
tail_is s to = take_rest s to

own_is : (s : List ℕ) (to skipped : ℕ) → tail_at (tail_at s to) skipped ≡ drop skipped (drop to s)
own_is s to skipped = take_rest (tail_at s to) skipped ∙ ap (λ u. drop skipped u) (tail_is s to)

behind_own : (names : NameClass) (s : List ℕ) (span : Span) (skipped most : ℕ) (part rest : List ℕ) → IsNumberSpan Length s span.from span → most ≡ value_of Length (take (span.to - span.from) (drop span.from s)) → IsSeparated names (tail_at s span.to) skipped → skipped ≤ length (tail_at s span.to) → tail_at (tail_at s span.to) skipped ≡ part ++ rest → Each (is_name_byte names) part → length part ≤ most → (skipped ≡ 0 → 0 < most → StopsAt is_decimal_digit part) → Behind names s span.from span.to skipped most part rest
behind_own names s span skipped most part rest h count mark within own each few bare =
    behind_length names s span.from span.to skipped most part rest (reads_number Length (drop span.from s) (span.to - span.from) h.2) h.1 count (subst (λ u. IsSeparated names u skipped) (tail_is s span.to) mark) (subst (λ u. skipped ≤ length u) (tail_is s span.to) within) (sym (own_is s span.to skipped) ∙ own) each few bare

pub own_whole : (names : NameClass) (s : List ℕ) (span : Span) (skipped most count : ℕ) → IsNumberSpan Length s span.from span → most ≡ value_of Length (take (span.to - span.from) (drop span.from s)) → (IsNameless names most → ⊥) → IsSeparated names (tail_at s span.to) skipped → skipped ≤ length (tail_at s span.to) → is_bare_digit most skipped (tail_at (tail_at s span.to) skipped) ≡ false → (own : IsOwn names (tail_at (tail_at s span.to) skipped) most count) → most ≤ count → HasToken (IsName names) (drop span.from s) span.from (record { from = span.to + skipped; to = span.to + skipped + count; end = span.to + skipped + count })
own_whole names s span skipped most count h value named mark within bare own full =
    let b = behind_own names s span skipped most own.part own.rest h value mark within own.split own.each (omega (arith, own.size_is, own.few)) (no_bare_digit most skipped _ own.part own.rest bare own.split) in
    name_whole names b.digits b.sep own.part own.rest (drop span.from s) most span.from _ b.front named (omega (arith, own.size_is, own.few)) b.split
    (omega (arith, length-append b.digits b.sep, b.size, b.width, h.1)) (omega (arith, length-append b.digits b.sep, b.size, b.width, h.1, own.size_is)) refl

pub own_broken : (names : NameClass) (s : List ℕ) (span : Span) (skipped most count : ℕ) → IsNumberSpan Length s span.from span → most ≡ value_of Length (take (span.to - span.from) (drop span.from s)) → IsSeparated names (tail_at s span.to) skipped → skipped ≤ length (tail_at s span.to) → is_bare_digit most skipped (tail_at (tail_at s span.to) skipped) ≡ false → (own : IsOwn names (tail_at (tail_at s span.to) skipped) most count) → count < most → (span.from ≤ span.to + skipped + count) × HasNoToken (IsName names) (drop span.from s) (span.to + skipped + count - span.from)
own_broken names s span skipped most count h value mark within bare own short =
    let b = behind_own names s span skipped most own.part own.rest h value mark within own.split own.each (omega (arith, own.size_is, own.few)) (no_bare_digit most skipped _ own.part own.rest bare own.split) in (
      omega (arith, h.1),
      name_broken names b.digits b.sep own.part own.rest (drop span.from s) most _ b.front (omega (arith, own.size_is)) b.split (λ c r e. inl (own.stops short c r e)) b.longest
          (omega (arith, length-append b.digits (b.sep ++ own.part), length-append b.sep own.part, b.size, b.width, h.1, own.size_is)),
    )

pub own_bare : (names : NameClass) (s : List ℕ) (span : Span) (skipped most : ℕ) → IsNumberSpan Length s span.from span → most ≡ value_of Length (take (span.to - span.from) (drop span.from s)) → IsSeparated names (tail_at s span.to) skipped → skipped ≤ length (tail_at s span.to) → is_bare_digit most skipped (tail_at (tail_at s span.to) skipped) ≡ true → (span.from ≤ span.to + skipped) × HasNoToken (IsName names) (drop span.from s) (span.to + skipped - span.from)
own_bare names s span skipped most h value mark within bare =
    let digit = bare_digit most skipped (tail_at (tail_at s span.to) skipped) bare in
    let b = behind_own names s span skipped most [] (tail_at (tail_at s span.to) skipped) h value mark within refl tt (omega arith) (λ _ _. tt) in
    let unmarked : b.sep ≡ [] = empty b.sep (b.width ∙ digit.1) in (
      omega (arith, h.1),
      name_broken names b.digits b.sep [] (tail_at (tail_at s span.to) skipped) (drop span.from s) most _ b.front digit.0 b.split (λ c r e. inr (unmarked, refl, digit.2 c r e)) b.longest
          (omega (arith, length-append b.digits (b.sep ++ []), length-append b.sep [], b.size, b.width, h.1)),
    )
  where
    empty : (xs : List ℕ) → length xs ≡ 0 → xs ≡ []
    empty [] e = refl
    empty (x ∷ xs) e = absurd (omega (arith, e))

pub own_zero : (names : NameClass) (s : List ℕ) (span : Span) (most : ℕ) → IsNumberSpan Length s span.from span → most ≡ value_of Length (take (span.to - span.from) (drop span.from s)) → IsNameless names most → HasNoToken (IsName names) (drop span.from s) (span.from - span.from)
own_zero names s span most h value none =
    let r = reads_number Length (drop span.from s) (span.to - span.from) h.2 in
    let plain : drop span.from s ≡ r.digits ++ r.rest = r.split ∙ ap (λ u. u ++ r.rest) (append-nil r.digits) in
    let digits : take (span.to - span.from) (drop span.from s) ≡ r.digits = ap (λ u. take (span.to - span.from) u) plain ∙ take_at r.digits r.rest (span.to - span.from) r.size_is in
    let nothing : span.from - span.from ≡ 0 = omega arith in
    subst (λ n. HasNoToken (IsName names) (drop span.from s) n) (sym nothing) (name_zero names (drop span.from s) _ most r none (value ∙ ap (λ u. value_of Length u) digits))
