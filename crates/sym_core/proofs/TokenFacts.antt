-- What holds of the bytes of tokens: where they begin, where they end, and that no two tokens have the same bytes.
use Rattle.sym_core.proofs.Basics.{◌≡◌, ℕ, ◌+◌, ◌-◌, ◌*◌, ◌<◌, ◌≤◌, Bool, true, false, not, eqb, leb, List, [], ◌∷◌, ◌++◌, length, refl, ap, sym, ◌∙◌, subst, arith, append_assoc, length-append, and_parts, leb-true, or_left, nat_tests, append-nil, append_cancel_right, NumberKind, Length, Decimal, Seq36, Base62, Hex, Digits, NameClass, Cpp, Rust, is_decimal_digit, is_digit_of, IsLengthForm, IsFormOf, AreDigitsOf, ending_of, StopsAt, is_marked, Token, bytes_of, IsName, IsNumberToken, IsSeparator, begins_number, ends_number, ends_name, value_of, value_onto}
use Rattle.sym_core.proofs.Lists.{Each, split_nil, same_run, each_front}

pub token_path : (s t : Token) → s.before ≡ t.before → s.own ≡ t.own → s.behind ≡ t.behind → s ≡ t
token_path s t p q r = λ i. record { before = p i; own = q i; behind = r i }

pub marked : (kind : NumberKind) → is_marked kind ≡ true → (ending_of kind ≡ 95 ∷ []) × (is_digit_of kind 95 ≡ false)
marked Length h = cc
marked Digits h = cc
marked Decimal h = (refl, refl)
marked Seq36 h = (refl, refl)
marked Base62 h = (refl, refl)
marked Hex h = (refl, refl)

pub number_bytes : (kind : NumberKind) (t : Token) → IsNumberToken kind t → bytes_of t ≡ t.own ++ ending_of kind
number_bytes kind t h = ap (λ u. (u ++ t.own) ++ t.behind) h.bare ∙ ap (λ u. t.own ++ u) h.ends

pub same_number : (kind : NumberKind) (s t : Token) → IsNumberToken kind s → IsNumberToken kind t → bytes_of s ≡ bytes_of t → s ≡ t
same_number kind s t p q e =
    let digits = append_cancel_right s.own t.own (ending_of kind) (sym (number_bytes kind s p) ∙ e ∙ number_bytes kind t q) in
    token_path s t (p.bare ∙ sym q.bare) digits (p.ends ∙ sym q.ends)

-- a Length or Digits that begins another number continues with one more digit
abbrev pub GoesOn : NumberKind → Token → ℕ → Type 0
GoesOn kind s b = (ends_number kind b ≡ false) × ((u : Token) × IsNumberToken kind u × (bytes_of u ≡ bytes_of s ++ b ∷ []))

pub longer_length : (xs : List ℕ) (b : ℕ) (m : List ℕ) → IsLengthForm xs → IsLengthForm (xs ++ b ∷ m) → IsLengthForm (xs ++ b ∷ [])
longer_length (d ∷ []) b m p q = (q.0, omega arith)
longer_length (d ∷ e ∷ ds) b m p q = (q.0, omega (arith, q.1, length-append ds (b ∷ m), length-append ds (b ∷ [])))
longer_length [] b m p q = absurd p

-- a number that ends in an '_' begins no other number
no_more : (kind : NumberKind) → is_marked kind ≡ true → (s t : Token) (b : ℕ) (m : List ℕ) → IsNumberToken kind s → IsNumberToken kind t → bytes_of t ≡ bytes_of s ++ b ∷ m → ⊥
no_more kind h s t b m p q e =
    let mark = marked kind h in
    let whole : t.own ++ 95 ∷ [] ≡ s.own ++ 95 ∷ (b ∷ m) =
    ap (λ v. t.own ++ v) (sym mark.0) ∙ sym (number_bytes kind t q) ∙ e ∙ ap (λ v. v ++ b ∷ m) (number_bytes kind s p ∙ ap (λ v. s.own ++ v) mark.0) ∙ append_assoc s.own (95 ∷ []) (b ∷ m) in
    let runs = same_run (is_digit_of kind) t.own s.own (95 ∷ []) (95 ∷ b ∷ m) q.digits.0 p.digits.0 mark.1 mark.1 whole in
    let tails = runs.1 in
    cc

extended_bare : (s : Token) (b : ℕ) (m : List ℕ) (kind : NumberKind) → (ending_of kind ≡ []) → IsNumberToken kind s → IsFormOf kind (s.own ++ b ∷ []) → Each (is_digit_of kind) (s.own ++ b ∷ []) → (u : Token) × IsNumberToken kind u × (bytes_of u ≡ bytes_of s ++ b ∷ [])
extended_bare s b m kind none p form each =
    let u : Token = record { before = []; own = s.own ++ b ∷ []; behind = [] } in
    let is : IsNumberToken kind u = record { bare = refl; digits = (each, form); ends = sym none } in
    (u, is, append-nil (s.own ++ b ∷ []) ∙ ap (λ v. v ++ b ∷ []) (sym (append-nil s.own) ∙ ap (λ v. s.own ++ v) (sym none) ∙ sym (number_bytes kind s p)))

bare_more : (kind : NumberKind) (s t : Token) (b : ℕ) (m : List ℕ) → ending_of kind ≡ [] → IsNumberToken kind s → IsNumberToken kind t → bytes_of t ≡ bytes_of s ++ b ∷ m → t.own ≡ s.own ++ b ∷ m
bare_more kind s t b m none p q e =
    let front : bytes_of s ≡ s.own = number_bytes kind s p ∙ ap (λ v. s.own ++ v) none ∙ append-nil s.own in
    let whole : bytes_of t ≡ t.own = number_bytes kind t q ∙ ap (λ v. t.own ++ v) none ∙ append-nil t.own in
    sym whole ∙ e ∙ ap (λ v. v ++ b ∷ m) front

pub extended_number : (kind : NumberKind) (s t : Token) (b : ℕ) (m : List ℕ) → IsNumberToken kind s → IsNumberToken kind t → bytes_of t ≡ bytes_of s ++ b ∷ m → GoesOn kind s b
extended_number Length s t b m p q e =
    let more = bare_more Length s t b m refl p q e in
    let digits = subst (λ v. AreDigitsOf Length v) more q.digits in
    let front = each_front is_decimal_digit s.own b m digits.0 in
    (ap not front.0, extended_bare s b m Length refl p (longer_length s.own b m p.digits.1 digits.1) front.1)
extended_number Digits s t b m p q e =
    let more = bare_more Digits s t b m refl p q e in
    let digits = subst (λ v. AreDigitsOf Digits v) more q.digits in
    let front = each_front is_decimal_digit s.own b m digits.0 in
    (ap not front.0, extended_bare s b m Digits refl p (omega (arith, length-append s.own (b ∷ []))) front.1)
extended_number Decimal s t b m p q e = absurd (no_more Decimal refl s t b m p q e)
extended_number Seq36 s t b m p q e = absurd (no_more Seq36 refl s t b m p q e)
extended_number Base62 s t b m p q e = absurd (no_more Base62 refl s t b m p q e)
extended_number Hex s t b m p q e = absurd (no_more Hex refl s t b m p q e)

pub number_filled : (kind : NumberKind) (t : Token) → IsNumberToken kind t → bytes_of t ≡ [] → ⊥
number_filled kind t h e = never kind t.own h.digits.1 (sym (number_bytes kind t h) ∙ e)
  where
    never : (k : NumberKind) (ds : List ℕ) → IsFormOf k ds → ds ++ ending_of k ≡ [] → ⊥
    never k (d ∷ ds) form nil = cc
    never Length [] form nil = form
    never Digits [] form nil = omega arith
    never Decimal [] form nil = cc
    never Seq36 [] form nil = cc
    never Base62 [] form nil = cc
    never Hex [] form nil = cc

digit_begins : (kind : NumberKind) (b : ℕ) → is_digit_of kind b ≡ true → begins_number kind b ≡ true
digit_begins Length b h = h
digit_begins Digits b h = h
digit_begins Decimal b h = or_left (is_digit_of Decimal b) (eqb b 95) h
digit_begins Seq36 b h = or_left (is_digit_of Seq36 b) (eqb b 95) h
digit_begins Base62 b h = or_left (is_digit_of Base62 b) (eqb b 95) h
digit_begins Hex b h = or_left (is_digit_of Hex b) (eqb b 95) h

pub begins_small : (kind : NumberKind) (b : ℕ) → begins_number kind b ≡ true → b < 256
begins_small Length b h = grind (arith, nat_tests)
begins_small Digits b h = grind (arith, nat_tests)
begins_small Decimal b h = grind (arith, nat_tests)
begins_small Seq36 b h = grind (arith, nat_tests)
begins_small Base62 b h = grind (arith, nat_tests)
begins_small Hex b h = grind (arith, nat_tests)

pub number_first : (kind : NumberKind) (t : Token) (b : ℕ) (w : List ℕ) → IsNumberToken kind t → bytes_of t ≡ b ∷ w → (b < 256) × (begins_number kind b ≡ true)
number_first kind t b w h e =
    let begun = first kind t.own h.digits.0 h.digits.1 (sym (number_bytes kind t h) ∙ e) in
    (begins_small kind b begun, begun)
  where
    first : (k : NumberKind) (ds : List ℕ) → Each (is_digit_of k) ds → IsFormOf k ds → ds ++ ending_of k ≡ b ∷ w → begins_number k b ≡ true
    first k (d ∷ ds) each form is = (let same : d ≡ b = cc in digit_begins k b (subst (λ c. is_digit_of k c ≡ true) same each.0))
    first Length [] each form is = absurd form
    first Digits [] each form is = absurd (omega arith)
    first Decimal [] each form is = (let same : 95 ≡ b = cc in subst (λ c. begins_number Decimal c ≡ true) same refl)
    first Seq36 [] each form is = (let same : 95 ≡ b = cc in subst (λ c. begins_number Seq36 c ≡ true) same refl)
    first Base62 [] each form is = (let same : 95 ≡ b = cc in subst (λ c. begins_number Base62 c ≡ true) same refl)
    first Hex [] each form is = (let same : 95 ≡ b = cc in subst (λ c. begins_number Hex c ≡ true) same refl)

pub number_there : (kind : NumberKind) → (t : Token) × IsNumberToken kind t
number_there Length = (record { before = []; own = 48 ∷ []; behind = [] }, record { bare = refl; digits = ((refl, tt), tt); ends = refl })
number_there Digits = (record { before = []; own = 48 ∷ []; behind = [] }, record { bare = refl; digits = ((refl, tt), omega arith); ends = refl })
number_there Decimal = (record { before = []; own = []; behind = 95 ∷ [] }, record { bare = refl; digits = (tt, tt); ends = refl })
number_there Seq36 = (record { before = []; own = []; behind = 95 ∷ [] }, record { bare = refl; digits = (tt, tt); ends = refl })
number_there Base62 = (record { before = []; own = []; behind = 95 ∷ [] }, record { bare = refl; digits = (tt, omega arith); ends = refl })
number_there Hex = (record { before = []; own = []; behind = 95 ∷ [] }, record { bare = refl; digits = (tt, tt); ends = refl })

-- names

pub name_bytes : (names : NameClass) (t : Token) (h : IsName names t) → bytes_of t ≡ h.digits ++ (h.separator ++ t.own)
name_bytes names t h =
    ap (λ u. (t.before ++ t.own) ++ u) h.ends ∙ append-nil (t.before ++ t.own) ∙ ap (λ u. u ++ t.own) h.split ∙ append_assoc h.digits h.separator t.own

pub tail_stops : (names : NameClass) (separator own : List ℕ) → IsSeparator names separator own → StopsAt is_decimal_digit (separator ++ own)
tail_stops Cpp [] [] h = absurd h
tail_stops Cpp [] (b ∷ own) h = h
tail_stops Cpp (c ∷ separator) own h = absurd h
tail_stops Rust [] [] h = tt
tail_stops Rust [] (b ∷ own) h = h.0
tail_stops Rust (c ∷ []) own h = ap is_decimal_digit h
tail_stops Rust (c ∷ d ∷ separator) own h = absurd h

-- if two names with their separators have the same bytes, the separators are equal, and so are the names
pub same_tail : (names : NameClass) (sep own other_sep other : List ℕ) → IsSeparator names sep own → IsSeparator names other_sep other → sep ++ own ≡ other_sep ++ other → (sep ≡ other_sep) × (own ≡ other)
same_tail Cpp [] own [] other p q e = (refl, e)
same_tail Cpp (c ∷ sep) own other_sep other p q e = absurd p
same_tail Cpp [] own (c ∷ sep) other p q e = absurd q
same_tail Rust [] own [] other p q e = (refl, e)
same_tail Rust (c ∷ []) own (d ∷ []) other p q e = (cc, cc)
same_tail Rust [] [] (d ∷ []) other p q e = cc
same_tail Rust [] (b ∷ own) (d ∷ []) other p q e = (let same : b ≡ d = cc in absurd (p.1 (same ∙ q)))
same_tail Rust (c ∷ []) own [] [] p q e = cc
same_tail Rust (c ∷ []) own [] (b ∷ other) p q e = (let same : c ≡ b = cc in absurd (q.1 (sym same ∙ p)))
same_tail Rust (c ∷ d ∷ sep) own other_sep other p q e = absurd p
same_tail Rust [] own (c ∷ d ∷ sep) other p q e = absurd q
same_tail Rust (b ∷ []) own (c ∷ d ∷ sep) other p q e = absurd q

pub same_name : (names : NameClass) (s t : Token) → IsName names s → IsName names t → bytes_of s ≡ bytes_of t → s ≡ t
same_name names s t p q e =
    let runs = same_run is_decimal_digit p.digits q.digits (p.separator ++ s.own) (q.separator ++ t.own) p.length_is.0 q.length_is.0 (tail_stops names p.separator s.own p.separated) (tail_stops names q.separator t.own q.separated) (sym (name_bytes names s p) ∙ e ∙ name_bytes names t q) in
    let tails = same_tail names p.separator s.own q.separator t.own p.separated q.separated runs.1 in
    token_path s t (p.split ∙ ap (λ u. u ++ p.separator) runs.0 ∙ ap (λ u. q.digits ++ u) tails.0 ∙ sym q.split) tails.1 (p.ends ∙ sym q.ends)

pub name_filled : (names : NameClass) (t : Token) → IsName names t → bytes_of t ≡ [] → ⊥
name_filled names t h e = never h.digits (h.separator ++ t.own) h.length_is.1 (sym (name_bytes names t h) ∙ e)
  where
    never : (ds w : List ℕ) → IsLengthForm ds → ds ++ w ≡ [] → ⊥
    never [] w form nil = form
    never (d ∷ ds) w form nil = cc

pub name_first : (names : NameClass) (t : Token) (b : ℕ) (w : List ℕ) → IsName names t → bytes_of t ≡ b ∷ w → (b < 256) × (is_decimal_digit b ≡ true)
name_first names t b w h e =
    let begun = first h.digits (h.separator ++ t.own) h.length_is.0 h.length_is.1 (sym (name_bytes names t h) ∙ e) in
    (begins_small Length b begun, begun)
  where
    first : (ds v : List ℕ) → Each is_decimal_digit ds → IsLengthForm ds → ds ++ v ≡ b ∷ w → is_decimal_digit b ≡ true
    first [] v each form is = absurd form
    first (d ∷ ds) v each form is = (let same : d ≡ b = cc in subst (λ c. is_decimal_digit c ≡ true) same each.0)

pub name_there : (names : NameClass) → (t : Token) × IsName names t
name_there Cpp = (record { before = 49 ∷ []; own = 65 ∷ []; behind = [] }, record { digits = 49 ∷ []; separator = []; split = refl; length_is = ((refl, tt), tt); separated = refl; each = (refl, tt); counted = refl; ends = refl })
name_there Rust = (record { before = 48 ∷ []; own = []; behind = [] }, record { digits = 48 ∷ []; separator = []; split = refl; length_is = ((refl, tt), tt); separated = tt; each = tt; counted = refl; ends = refl })

value_grows : (ds : List ℕ) (n : ℕ) → n ≤ value_onto Length n ds
value_grows [] n = omega arith
value_grows (d ∷ ds) n = let more = value_grows ds (n * 10 + (d - 48)) in omega arith

-- a Length of value 0 is `0`
pub zero_length : (ds : List ℕ) → Each is_decimal_digit ds → IsLengthForm ds → value_of Length ds ≡ 0 → ds ≡ 48 ∷ []
zero_length [] each form none = absurd form
zero_length (d ∷ []) each form none =
    let from = leb-true _ _ (and_parts (leb 48 d) (leb d 57) each.0).0 in
    let is : d ≡ 48 = omega (arith, none) in
    ap (λ c. c ∷ []) is
zero_length (d ∷ e ∷ ds) each form none =
    let from = leb-true _ _ (and_parts (leb 48 d) (leb d 57) each.0).0 in
    let more = value_grows (e ∷ ds) (0 * 10 + (d - 48)) in
    absurd (form.0 (omega (arith, none)))

separated_more : (names : NameClass) (sep own w : List ℕ) → IsSeparator names sep own → (sep ++ own ≡ [] → ⊥) → IsSeparator names sep (own ++ w)
separated_more Cpp [] [] w h some = absurd h
separated_more Cpp [] (b ∷ own) w h some = h
separated_more Cpp (c ∷ sep) own w h some = absurd h
separated_more Rust [] [] w h some = absurd (some refl)
separated_more Rust [] (b ∷ own) w h some = h
separated_more Rust (c ∷ []) own w h some = h
separated_more Rust (c ∷ d ∷ sep) own w h some = absurd h

pub stops_more : (p : ℕ → Bool) (r w : List ℕ) → (r ≡ [] → ⊥) → StopsAt p r → StopsAt p (r ++ w)
stops_more p [] w some h = absurd (some refl)
stops_more p (b ∷ r) w some h = h

only_mark : (t : Token) (b : ℕ) (m : List ℕ) (q : IsName Rust t) → q.digits ++ (q.separator ++ t.own) ≡ 48 ∷ b ∷ m → (b ≡ 95) × (m ≡ [])
only_mark t b m q e = by_digits q.digits q.length_is.1 q.counted e
  where
    by_tail : (sep own : List ℕ) → IsSeparator Rust sep own → length own ≡ 0 → sep ++ own ≡ b ∷ m → (b ≡ 95) × (m ≡ [])
    by_tail [] [] is none h = cc
    by_tail (c ∷ []) [] is none h = (let same : c ≡ b = cc in (sym same ∙ is, cc))
    by_tail sep (x ∷ own) is none h = absurd (omega arith)
    by_tail (c ∷ d ∷ sep) [] is none h = absurd is

    by_digits : (ds : List ℕ) → IsLengthForm ds → length t.own ≡ value_of Length ds → ds ++ (q.separator ++ t.own) ≡ 48 ∷ b ∷ m → (b ≡ 95) × (m ≡ [])
    by_digits [] form count h = absurd form
    by_digits (d ∷ []) form count h =
        let zero_first : d ≡ 48 = cc in
        let tail : q.separator ++ t.own ≡ b ∷ m = cc in
        by_tail q.separator t.own q.separated (omega (arith, count, zero_first)) tail
    by_digits (d ∷ e ∷ ds) form count h = (let zero_first : d ≡ 48 = cc in absurd (form.0 zero_first))

-- a name is the beginning of another name only if the first one is empty and the next byte is an '_'
pub record NameGoesOn (names : NameClass) (s : Token) (p : IsName names s) (b : ℕ) (m : List ℕ) : Type 0 where
  pub clash : ends_name names b ≡ false
  pub alone : m ≡ []
  pub mark : b ≡ 95
  pub unmarked : p.separator ≡ []
  pub nothing_own : s.own ≡ []

empty_name : (names : NameClass) (s t : Token) (b : ℕ) (m : List ℕ) (p : IsName names s) (q : IsName names t) → (p.separator ≡ []) → (s.own ≡ []) → q.digits ++ (q.separator ++ t.own) ≡ p.digits ++ b ∷ m → NameGoesOn names s p b m
empty_name Cpp s t b m p q no_mark none e = absurd (subst (λ v. IsSeparator Cpp v []) no_mark (subst (λ v. IsSeparator Cpp p.separator v) none p.separated))
empty_name Rust s t b m p q no_mark none e =
    let zero : p.digits ≡ 48 ∷ [] = zero_length p.digits p.length_is.0 p.length_is.1 (sym p.counted ∙ ap length none) in
    let is = only_mark t b m q (e ∙ ap (λ v. v ++ b ∷ m) zero) in
    record { clash = ap (λ c. not (eqb c 95)) is.0; alone = is.1; mark = is.0; unmarked = no_mark; nothing_own = none }

pub extended_name : (names : NameClass) (s t : Token) (b : ℕ) (m : List ℕ) (p : IsName names s) → IsName names t → bytes_of t ≡ bytes_of s ++ b ∷ m → NameGoesOn names s p b m
extended_name names s t b m p q e =
    let whole : q.digits ++ (q.separator ++ t.own) ≡ p.digits ++ ((p.separator ++ s.own) ++ b ∷ m) =
    sym (name_bytes names t q) ∙ e ∙ ap (λ v. v ++ b ∷ m) (name_bytes names s p) ∙ append_assoc p.digits (p.separator ++ s.own) (b ∷ m) in
    by_tail (p.separator ++ s.own) refl whole
  where
    by_tail : (r : List ℕ) → p.separator ++ s.own ≡ r → q.digits ++ (q.separator ++ t.own) ≡ p.digits ++ ((p.separator ++ s.own) ++ b ∷ m) → NameGoesOn names s p b m
    by_tail [] nil whole =
        let parts = split_nil p.separator s.own nil in
        empty_name names s t b m p q parts.0 parts.1 (whole ∙ ap (λ v. p.digits ++ (v ++ b ∷ m)) nil)
    by_tail (c ∷ r) some whole =
        let there : p.separator ++ s.own ≡ [] → ⊥ = λ nil. cc in
        let runs = same_run is_decimal_digit q.digits p.digits (q.separator ++ t.own) ((p.separator ++ s.own) ++ b ∷ m) q.length_is.0 p.length_is.0 (tail_stops names q.separator t.own q.separated) (stops_more is_decimal_digit (p.separator ++ s.own) (b ∷ m) there (tail_stops names p.separator s.own p.separated)) whole in
        let tails = same_tail names q.separator t.own p.separator (s.own ++ b ∷ m) q.separated (separated_more names p.separator s.own (b ∷ m) p.separated there) (runs.1 ∙ append_assoc p.separator s.own (b ∷ m)) in
        absurd (omega (arith, q.counted, p.counted, ap (λ v. value_of Length v) runs.0, ap length tails.1, length-append s.own (b ∷ m)))
