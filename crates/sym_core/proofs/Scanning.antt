-- A longest number or name begins, or breaks off, at each place of a list.
use Rattle.sym_core.proofs.Basics.{◌≡◌, ℕ, zero, suc, ◌+◌, ◌-◌, ◌≤◌, true, false, ◌⊎◌, inl, inr, List, [], ◌∷◌, length, take, drop, refl, ap, sym, ◌∙◌, subst, arith, Result, Ok, Err, cases_Bool, cases_lt, cases_eq, NumberKind, Length, Decimal, Seq36, Base62, Hex, Digits, NameClass, Cpp, Rust, Span, TokenPlace, is_digit_of, ending_of, IsNumberSpan, IsNumberBreak, IsLimit, IsRun, is_marked, IsSeparated, IsOwn, IsNameless, is_bare_digit, is_name_byte, IsName, IsNumberToken, FindsToken, value_of}
use Rattle.sym_core.proofs.Fronts.{ReadsNumber, BreaksNumber, has_number, has_no_number}
use Rattle.sym_core.proofs.Runs.{reads_marked, breaks_marked, reads_bare, breaks_bare}
use Rattle.sym_core.proofs.TokenFacts.{marked}
use Rattle.sym_core.proofs.NumberTokens.{number_read, number_breaks}
use Rattle.sym_core.proofs.NameTokens.{name_unbegun, tail_at, own_zero, own_bare, own_broken, own_whole}

-- how many digits a kind allows at the front of a list
limit : (kind : NumberKind) (q : List ℕ) → (most : ℕ) × IsLimit kind q most
limit Length [] = (9, inr (refl, λ r e. cc))
limit Length (b ∷ q) = elim (cases_eq b 48) [
  | inl zero_first ↦ (1, inl (refl, (q, ap (λ c. c ∷ q) zero_first)))
  | inr other ↦ (9, inr (refl, λ r e. other cc))
]
limit Base62 q = (11, refl)
limit Decimal q = (length q + 1, omega arith)
limit Seq36 q = (length q + 1, omega arith)
limit Hex q = (length q + 1, omega arith)
limit Digits q = (length q + 1, omega arith)

-- the digits at the front of a list, up to a limit
run : (kind : NumberKind) (q : List ℕ) (most : ℕ) → (size : ℕ) × IsRun kind q most size
run kind q zero = (0, record { front = []; rest = q; split = refl; size_is = refl; each = tt; few = omega arith; ends = inl refl })
run kind [] (suc most) = (0, record { front = []; rest = []; split = refl; size_is = refl; each = tt; few = omega arith; ends = inr tt })
run kind (b ∷ q) (suc most) = elim (cases_Bool (is_digit_of kind b)) [
  | inl digit ↦ one_more digit (run kind q most)
  | inr other ↦ (0, record { front = []; rest = b ∷ q; split = refl; size_is = refl; each = tt; few = omega arith; ends = inr other })
]
  where
    one_more : is_digit_of kind b ≡ true → (size : ℕ) × IsRun kind q most size → (size : ℕ) × IsRun kind (b ∷ q) (suc most) size
    one_more digit r = (
      suc r.0,
      record {
        front = b ∷ r.1.front;
        rest = r.1.rest;
        split = ap (λ v. b ∷ v) r.1.split;
        size_is = ap suc r.1.size_is;
        each = (digit, r.1.each);
        few = omega (arith, r.1.few);
        ends = elim r.1.ends [ inl full ↦ inl (ap suc full) | inr stops ↦ inr stops ];
      },
    )

-- a list begins with an '_' or not
begins_mark : (q : List ℕ) → ((r : List ℕ) × (q ≡ 95 ∷ r)) ⊎ ((r : List ℕ) → q ≡ 95 ∷ r → ⊥)
begins_mark [] = inr (λ r e. cc)
begins_mark (b ∷ q) = elim (cases_eq b 95) [
  | inl mark ↦ inl (q, ap (λ c. c ∷ q) mark)
  | inr other ↦ inr (λ r e. other cc)
]

-- the longest number at the front of a list, or the front that begins one
abbrev Scanned : NumberKind → List ℕ → Type 0
Scanned kind q = ((size : ℕ) × ReadsNumber kind q size) ⊎ ((size : ℕ) × BreaksNumber kind q size)

bares : (kind : NumberKind) → is_marked kind ≡ false → ending_of kind ≡ []
bares Length h = refl
bares Digits h = refl
bares Decimal h = cc
bares Seq36 h = cc
bares Base62 h = cc
bares Hex h = cc

scan_marked : (kind : NumberKind) (q : List ℕ) (most size : ℕ) → is_marked kind ≡ true → IsRun kind q most size → IsLimit kind q most → Scanned kind q
scan_marked kind q most size with_mark r bound =
    let mark = marked kind with_mark in
    elim (begins_mark r.rest) [
      | inl there ↦ inl (size, reads_marked kind q most size there.0 mark.0 mark.1 r bound there.1)
      | inr missing ↦ inr (size, breaks_marked kind q most size mark.0 mark.1 r bound missing)
    ]

scan_bare : (kind : NumberKind) (q : List ℕ) (most size : ℕ) → is_marked kind ≡ false → IsRun kind q most size → IsLimit kind q most → Scanned kind q
scan_bare kind q most zero unmarked r bound = inr (0, breaks_bare kind q most (bares kind unmarked) r bound)
scan_bare kind q most (suc size) unmarked r bound = inl (suc size, reads_bare kind q most (suc size) (bares kind unmarked) r bound (omega arith))

scan_number : (kind : NumberKind) (q : List ℕ) → Scanned kind q
scan_number kind q =
    let bound = limit kind q in
    let digits = run kind q bound.0 in
    elim (cases_Bool (is_marked kind)) [
      | inl with_mark ↦ scan_marked kind q bound.0 digits.0 with_mark digits.1 bound.1
      | inr unmarked ↦ scan_bare kind q bound.0 digits.0 unmarked digits.1 bound.1
    ]

-- the digits of the longest number at a place, or the place where the number breaks off
abbrev NumberFound : NumberKind → List ℕ → ℕ → Type 0
NumberFound kind s at = ((to : ℕ) × IsNumberSpan kind s at (record { from = at; to = to })) ⊎ ((bad : ℕ) × IsNumberBreak kind s at bad)

scan_at : (kind : NumberKind) (s : List ℕ) (at : ℕ) → NumberFound kind s at
scan_at kind s at = elim (scan_number kind (drop at s)) [
  | inl read ↦ inl (at + read.0, (refl, omega arith, has_number kind (drop at s) (at + read.0 - at) (subst (λ n. ReadsNumber kind (drop at s) n) (omega arith) read.1)))
  | inr breaks ↦ inr (at + breaks.0, (omega arith, has_no_number kind (drop at s) (at + breaks.0 - at) (subst (λ n. BreaksNumber kind (drop at s) n) (omega arith) breaks.1)))
]

-- the longest number at a place, or the place where it breaks off
pub number_found : (kind : NumberKind) (s : List ℕ) (at : ℕ) → (found : Result TokenPlace ℕ) × FindsToken (IsNumberToken kind) s at found
number_found kind s at = elim (scan_at kind s at) [
  | inl read ↦ (Ok (record { from = at; to = read.0; end = read.0 + length (ending_of kind) }), number_read kind s at (record { from = at; to = read.0 }) (read.0 + length (ending_of kind)) read.1 refl)
  | inr breaks ↦ (Err breaks.0, (breaks.1.0, number_breaks kind s at breaks.0 breaks.1))
]

-- the bytes of a separator before a list
separator : (names : NameClass) (tail : List ℕ) → (n : ℕ) × (n ≤ length tail) × IsSeparated names tail n
separator Cpp tail = (0, omega arith, refl)
separator Rust tail = elim (begins_mark tail) [
  | inl mark ↦ (1, omega (arith, ap length mark.1), inl (refl, mark))
  | inr missing ↦ (0, omega arith, inr (refl, missing))
]

-- a name's own bytes at the front of a list, up to a count
own : (names : NameClass) (bytes : List ℕ) (most : ℕ) → (size : ℕ) × IsOwn names bytes most size
own names bytes zero = (0, record { part = []; rest = bytes; split = refl; size_is = refl; each = tt; few = omega arith; stops = λ lt b r e. absurd (omega (arith, lt)) })
own names [] (suc most) = (0, record { part = []; rest = []; split = refl; size_is = refl; each = tt; few = omega arith; stops = λ lt b r e. cc })
own names (c ∷ bytes) (suc most) = elim (cases_Bool (is_name_byte names c)) [
  | inl may ↦ one_more may (own names bytes most)
  | inr not ↦ (0, record { part = []; rest = c ∷ bytes; split = refl; size_is = refl; each = tt; few = omega arith; stops = λ lt b r e. (let same : c ≡ b = cc in ap (is_name_byte names) (sym same) ∙ not) })
]
  where
    one_more : is_name_byte names c ≡ true → (size : ℕ) × IsOwn names bytes most size → (size : ℕ) × IsOwn names (c ∷ bytes) (suc most) size
    one_more may o = (
      suc o.0,
      record {
        part = c ∷ o.1.part;
        rest = o.1.rest;
        split = ap (λ v. c ∷ v) o.1.split;
        size_is = ap suc o.1.size_is;
        each = (may, o.1.each);
        few = omega (arith, o.1.few);
        stops = λ lt b r e. o.1.stops (omega (arith, lt)) b r e;
      },
    )

nameless : (names : NameClass) (most : ℕ) → IsNameless names most ⊎ (IsNameless names most → ⊥)
nameless Cpp most = cases_eq most 0
nameless Rust most = inr (λ none. none)

abbrev NameFound : NameClass → List ℕ → ℕ → Type 0
NameFound names s at = (found : Result TokenPlace ℕ) × FindsToken (IsName names) s at found

-- a name's own bytes after its length
own_found_at : (names : NameClass) (s : List ℕ) (at to : ℕ) → IsNumberSpan Length s at (record { from = at; to = to }) → NameFound names s at
own_found_at names s at to is = elim (nameless names most) [
  | inl none ↦ (Err at, (omega arith, own_zero names s span most is refl none))
  | inr named ↦ elim (cases_Bool (is_bare_digit most mark.0 tail)) [
    | inl bare ↦ (Err (to + mark.0), own_bare names s span mark.0 most is refl mark.2 mark.1 bare)
    | inr fits ↦ elim (cases_lt part.0 most) [
      | inl short ↦ (Err (to + mark.0 + part.0), own_broken names s span mark.0 most part.0 is refl mark.2 mark.1 fits part.1 short)
      | inr full ↦ (Ok (record { from = to + mark.0; to = to + mark.0 + part.0; end = to + mark.0 + part.0 }), own_whole names s span mark.0 most part.0 is refl named mark.2 mark.1 fits part.1 full)
    ]
  ]
]
  where
    span : Span
    span = record { from = at; to = to }

    most : ℕ
    most = value_of Length (take (to - at) (drop at s))

    mark : (n : ℕ) × (n ≤ length (tail_at s to)) × IsSeparated names (tail_at s to) n
    mark = separator names (tail_at s to)

    tail : List ℕ
    tail = tail_at (tail_at s to) mark.0

    part : (size : ℕ) × IsOwn names tail most size
    part = own names tail most

-- the longest name at a place, or the place where it breaks off
pub name_found : (names : NameClass) (s : List ℕ) (at : ℕ) → (found : Result TokenPlace ℕ) × FindsToken (IsName names) s at found
name_found names s at = elim (scan_at Length s at) [
  | inl read ↦ own_found_at names s at read.0 read.1
  | inr breaks ↦ (Err breaks.0, (breaks.1.0, name_unbegun names (drop at s) (breaks.0 - at) breaks.1.1))
]
