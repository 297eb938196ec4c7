-- Runs of digits, and what they say of numbers.
use Rattle.sym_core.proofs.Basics.{◌≡◌, ℕ, ◌+◌, ◌-◌, ◌<◌, ◌≤◌, Bool, true, false, ◌⊎◌, inl, inr, List, [], ◌∷◌, ◌++◌, length, take, drop, get_or, refl, ap, sym, ◌∙◌, subst, arith, append_assoc, length-append, false≢true, cases_lt, append-nil, take-append-drop, length-take-le, length-drop, drop-drop, get_or-take, get_or-drop, drop_more, drop_at, NumberKind, Length, Decimal, Seq36, Base62, Hex, Digits, is_digit_of, IsLengthForm, IsFormOf, AreDigitsOf, ending_of, IsNumber, HasNumber, HasNoNumber, IsLimit, StopsAt, IsRun, is_marked}
use Rattle.sym_core.proofs.Lists.{Each, compared, same_run, each_front, each_from_points}
use Rattle.sym_core.proofs.TokenFacts.{marked}
use Rattle.sym_core.proofs.Fronts.{ReadsNumber, BreaksNumber, has_number, has_no_number}

-- the digits that the loop has passed are a run
pub run_found : (kind : NumberKind) (s : List ℕ) (at end most : ℕ) → at ≤ end → end ≤ length s → ((k : ℕ) → at ≤ k → k < end → is_digit_of kind (get_or s k 0) ≡ true) → end - at ≤ most → ((end - at ≡ most) ⊎ StopsAt (is_digit_of kind) (drop end s)) → IsRun kind (drop at s) most (end - at)
run_found kind s at end most low high digits few stops =
    let front = take (end - at) (drop at s) in
    let size : length front ≡ end - at = length-take-le (end - at) (drop at s) (omega (arith, length-drop at s)) in
    let rest : drop (end - at) (drop at s) ≡ drop end s = drop-drop (end - at) at s ∙ ap (λ n. drop n s) (omega arith) in
    record {
      front = front;
      rest = drop end s;
      split = sym (take-append-drop (end - at) (drop at s)) ∙ ap (λ v. front ++ v) rest;
      size_is = size;
      each = each_from_points (is_digit_of kind) front (λ k lt. (
          let read : get_or front k 0 ≡ get_or s (at + k) 0 = get_or-take (end - at) (drop at s) k 0 (omega (arith, size)) ∙ get_or-drop at s k 0 in
          ap (is_digit_of kind) read ∙ digits (at + k) (omega arith) (omega (arith, size))));
      few = few;
      ends = stops;
    }

pub stops_here : (p : ℕ → Bool) (s : List ℕ) (end : ℕ) → (end < length s → p (get_or s end 0) ≡ false) → StopsAt p (drop end s)
stops_here p s end h = at_rest (drop end s) refl
  where
    at_rest : (r : List ℕ) → drop end s ≡ r → StopsAt p r
    at_rest [] e = tt
    at_rest (b ∷ r) e =
        let lt : end < length s = omega (arith, length-drop end s, ap length e) in
        let head : get_or s end 0 ∷ drop (end + 1) s ≡ b ∷ r = sym (drop_more s end 0 lt) ∙ e in
        let same : get_or s end 0 ≡ b = cc in
        ap p (sym same) ∙ h lt

-- one digit more
pub run_more : (p : ℕ → Bool) (s : List ℕ) (at end : ℕ) → ((k : ℕ) → at ≤ k → k < end → p (get_or s k 0) ≡ true) → p (get_or s end 0) ≡ true → (k : ℕ) → at ≤ k → k < end + 1 → p (get_or s k 0) ≡ true
run_more p s at end digits last k low high = elim (cases_lt k end) [
  | inl before ↦ digits k low before
  | inr behind ↦ (let same : end ≡ k = omega (arith, behind) in ap (λ n. p (get_or s n 0)) (sym same) ∙ last)
]

-- the digits that the loop has passed are a run, once the loop has gone as far as it may
pub run_reached : (kind : NumberKind) (s : List ℕ) (at end stop most : ℕ) → at ≤ end → end ≤ stop → stop ≤ length s → ((k : ℕ) → at ≤ k → k < end → is_digit_of kind (get_or s k 0) ≡ true) → stop - at ≤ most → (stop - at ≡ most) ⊎ (length s ≤ stop) → stop ≤ end → IsRun kind (drop at s) most (end - at)
run_reached kind s at end stop most low high within digits few full come =
    run_found kind s at end most low (omega arith) digits (omega arith) (elim full [
      | inl all ↦ inl (omega (arith, all))
      | inr last ↦ inr (stops_here (is_digit_of kind) s end (λ lt. absurd (omega (arith, last))))
    ])

-- a run isn't part of a longer number
no_longer : (kind : NumberKind) (q : List ℕ) (most size : ℕ) (run : IsRun kind q most size) → IsLimit kind q most → (ds : List ℕ) (b : ℕ) (m r : List ℕ) → AreDigitsOf kind ds → ds ≡ run.front ++ b ∷ m → run.rest ≡ b ∷ r → ⊥
no_longer kind q most size run limit ds b m r are is next =
    elim run.ends [
      | inl full ↦ too_many kind run.front limit are.1 (run.size_is ∙ full) run.split is
      | inr stops ↦ false≢true (sym (at_rest run.rest stops next) ∙ (each_front (is_digit_of kind) run.front b m (subst (λ v. Each (is_digit_of kind) v) is are.0)).0)
    ]
  where
    at_rest : (v : List ℕ) → StopsAt (is_digit_of kind) v → v ≡ b ∷ r → is_digit_of kind b ≡ false
    at_rest [] h e = cc
    at_rest (c ∷ v) h e = (let same : c ≡ b = cc in ap (is_digit_of kind) (sym same) ∙ h)

    long : (front : List ℕ) → ds ≡ front ++ b ∷ m → length ds ≡ length front + 1 + length m
    long front e = omega (arith, ap length e, length-append front (b ∷ m))

    length_form : (xs : List ℕ) → IsLengthForm xs → (length xs ≤ 9) × (0 < length xs)
    length_form [] form = absurd form
    length_form (d ∷ []) form = (omega arith, omega arith)
    length_form (d ∷ e ∷ xs) form = (omega (arith, form.1), omega arith)

    zero_form : (front v : List ℕ) → IsLengthForm ds → length front ≡ 1 → (48 ∷ v ≡ front ++ run.rest) → ds ≡ front ++ b ∷ m → ⊥
    zero_form [] v form one e f = omega arith
    zero_form (x ∷ y ∷ front) v form one e f = omega arith
    zero_form (x ∷ []) v form one e f =
        let first : 48 ≡ x = cc in
        let two = subst IsLengthForm f form in
        two.0 (sym first)

    too_many : (k : NumberKind) (front : List ℕ) → IsLimit k q most → IsFormOf k ds → length front ≡ most → q ≡ front ++ run.rest → ds ≡ front ++ b ∷ m → ⊥
    too_many Length front bound form full split f = elim bound [
      | inl one ↦ zero_form front one.1.0 form (full ∙ one.0) (sym one.1.1 ∙ split) f
      | inr nine ↦ (let l = length_form ds form in omega (arith, long front f, l.0, full, nine.0))
    ]
    too_many Base62 front bound form full split f = omega (arith, long front f, form, full, bound)
    too_many Decimal front bound form full split f = omega (arith, bound, full, ap length split, length-append front run.rest)
    too_many Seq36 front bound form full split f = omega (arith, bound, full, ap length split, length-append front run.rest)
    too_many Hex front bound form full split f = omega (arith, bound, full, ap length split, length-append front run.rest)
    too_many Digits front bound form full split f = omega (arith, bound, full, ap length split, length-append front run.rest)

-- a run of digits has the form of its kind, unless it is empty and its kind requires a digit
run_form : (kind : NumberKind) (q : List ℕ) (most size : ℕ) (run : IsRun kind q most size) → IsLimit kind q most → (ending_of kind ≡ [] → 0 < size) → IsFormOf kind run.front
run_form kind q most size run limit some = form kind limit some run.front run.split (run.size_is) run.few
  where
    form : (k : NumberKind) → IsLimit k q most → (ending_of k ≡ [] → 0 < size) → (front : List ℕ) → q ≡ front ++ run.rest → length front ≡ size → size ≤ most → IsFormOf k front
    form Length bound filled [] e is few = omega (arith, filled refl)
    form Length bound filled (d ∷ []) e is few = tt
    form Length bound filled (d ∷ c ∷ ds) e is few = elim bound [
      | inl one ↦ absurd (omega (arith, one.0))
      | inr nine ↦ (λ zero_first. nine.1 (c ∷ (ds ++ run.rest)) (e ∙ ap (λ x. x ∷ c ∷ (ds ++ run.rest)) zero_first), omega (arith, nine.0))
    ]
    form Base62 bound filled front e is few = omega (arith, bound)
    form Digits bound filled front e is few = omega (arith, filled refl)
    form Decimal bound filled front e is few = tt
    form Seq36 bound filled front e is few = tt
    form Hex bound filled front e is few = tt

-- a number of a kind that ends in nothing
pub reads_bare : (kind : NumberKind) (q : List ℕ) (most size : ℕ) → ending_of kind ≡ [] → IsRun kind q most size → IsLimit kind q most → 0 < size → ReadsNumber kind q size
reads_bare kind q most size none run limit some = record {
  digits = run.front;
  rest = run.rest;
  are = (run.each, run_form kind q most size run limit (λ _. some));
  split = run.split ∙ ap (λ v. v ++ run.rest) (sym (append-nil run.front) ∙ ap (λ v. run.front ++ v) (sym none));
  size_is = run.size_is;
  longest = λ bytes behind is e. (
      let own : bytes ≡ is.0 = is.2 ∙ ap (λ v. is.0 ++ v) none ∙ append-nil is.0 in
      let size_end : length (run.front ++ ending_of kind) ≡ length run.front = ap (λ v. length (run.front ++ v)) none ∙ ap length (append-nil run.front) in
      let whole : is.0 ++ behind ≡ run.front ++ run.rest = ap (λ v. v ++ behind) (sym own) ∙ sym e ∙ run.split in
      elim (compared is.0 run.front behind run.rest whole) [
        | inl more ↦ absurd_or is.0 is.1 behind more.0 more.1 more.2 bytes own size_end
        | inr less ↦ omega (arith, ap length own, size_end, ap length less.2, length-append is.0 (less.0 ∷ less.1))
      ]);
}
  where
    absurd_or : (ds : List ℕ) → AreDigitsOf kind ds → (behind m : List ℕ) → ds ≡ run.front ++ m → run.rest ≡ m ++ behind → (bytes : List ℕ) → bytes ≡ ds → length (run.front ++ ending_of kind) ≡ length run.front → length bytes ≤ length (run.front ++ ending_of kind)
    absurd_or ds are behind [] e f bytes own size_end = omega (arith, size_end, ap length own, ap length e, ap length (append-nil run.front))
    absurd_or ds are behind (b ∷ m) e f bytes own size_end = absurd (no_longer kind q most size run limit ds b m (m ++ behind) are e f)

-- a number of a kind that ends in an '_', with the '_' after its digits
pub reads_marked : (kind : NumberKind) (q : List ℕ) (most size : ℕ) (r : List ℕ) → ending_of kind ≡ 95 ∷ [] → is_digit_of kind 95 ≡ false → (run : IsRun kind q most size) → IsLimit kind q most → run.rest ≡ 95 ∷ r → ReadsNumber kind q size
reads_marked kind q most size r mark other run limit next = record {
  digits = run.front;
  rest = r;
  are = (run.each, run_form kind q most size run limit (λ none. (let clash : 95 ∷ [] ≡ [] = sym mark ∙ none in cc)));
  split = run.split ∙ ap (λ v. run.front ++ v) next ∙ sym (append_assoc run.front (95 ∷ []) r) ∙ ap (λ v. (run.front ++ v) ++ r) (sym mark);
  size_is = run.size_is;
  longest = λ bytes behind is e. (
      let whole : is.0 ++ 95 ∷ behind ≡ run.front ++ 95 ∷ r =
      sym (append_assoc is.0 (95 ∷ []) behind) ∙ ap (λ v. (is.0 ++ v) ++ behind) (sym mark) ∙ ap (λ v. v ++ behind) (sym is.2) ∙ sym e ∙ run.split ∙ ap (λ v. run.front ++ v) next in
      let same = same_run (is_digit_of kind) is.0 run.front (95 ∷ behind) (95 ∷ r) is.1.0 run.each other other whole in
      omega (arith, ap length is.2, ap (λ v. length (v ++ ending_of kind)) same.0));
}

-- a kind whose numbers end in nothing has a number of one digit
bare_number : (kind : NumberKind) → ending_of kind ≡ [] → IsNumber kind (48 ∷ [])
bare_number Length none = (48 ∷ [], ((refl, tt), tt), refl)
bare_number Digits none = (48 ∷ [], ((refl, tt), omega arith), refl)
bare_number Decimal none = cc
bare_number Seq36 none = cc
bare_number Base62 none = cc
bare_number Hex none = cc

form_filled : (kind : NumberKind) → ending_of kind ≡ [] → (ds : List ℕ) → IsFormOf kind ds → ds ≡ [] → ⊥
form_filled Length none [] form e = form
form_filled Digits none [] form e = omega arith
form_filled Decimal none [] form e = cc
form_filled Seq36 none [] form e = cc
form_filled Base62 none [] form e = cc
form_filled Hex none [] form e = cc
form_filled kind none (d ∷ ds) form e = cc

-- a number of a kind that ends in nothing breaks off: there is no digit
pub breaks_bare : (kind : NumberKind) (q : List ℕ) (most : ℕ) → ending_of kind ≡ [] → IsRun kind q most 0 → IsLimit kind q most → BreaksNumber kind q 0
breaks_bare kind q most none run limit = record {
  front = [];
  rest = q;
  split = refl;
  size_is = refl;
  begins = (48 ∷ [], bare_number kind none);
  next = λ b r more e is. no_first is.0 is.1 b more r (sym is.2 ∙ refl) e;
  none = λ bytes behind is e. at_front is.0 is.1 bytes behind (is.2 ∙ ap (λ v. is.0 ++ v) none ∙ append-nil is.0) e;
}
  where
    empty : (xs : List ℕ) → length xs ≡ 0 → xs ≡ []
    empty [] e = refl
    empty (x ∷ xs) e = absurd (omega (arith, e))

    bare : run.front ≡ []
    bare = empty run.front run.size_is

    rest_is : run.rest ≡ q
    rest_is = sym (run.split ∙ ap (λ v. v ++ run.rest) bare)

    no_first : (ds : List ℕ) → AreDigitsOf kind ds → (b : ℕ) (more r : List ℕ) → ds ++ ending_of kind ≡ b ∷ more → q ≡ b ∷ r → ⊥
    no_first [] are b more r e f = form_filled kind none [] are.1 refl
    no_first (d ∷ ds) are b more r e f =
        let same : d ≡ b = cc in
        no_longer kind q most 0 run limit (d ∷ ds) b ds r are (ap (λ c. c ∷ ds) same ∙ ap (λ v. v ++ b ∷ ds) (sym bare)) (rest_is ∙ f)

    at_front : (ds : List ℕ) → AreDigitsOf kind ds → (bytes behind : List ℕ) → bytes ≡ ds → q ≡ bytes ++ behind → ⊥
    at_front [] are bytes behind e f = form_filled kind none [] are.1 refl
    at_front (d ∷ ds) are bytes behind e f =
        no_longer kind q most 0 run limit (d ∷ ds) d ds (ds ++ behind) are (ap (λ v. v ++ d ∷ ds) (sym bare)) (rest_is ∙ f ∙ ap (λ v. v ++ behind) e)

-- a number of a kind that ends in an '_' breaks off: the '_' is missing
pub breaks_marked : (kind : NumberKind) (q : List ℕ) (most size : ℕ) → ending_of kind ≡ 95 ∷ [] → is_digit_of kind 95 ≡ false → (run : IsRun kind q most size) → IsLimit kind q most → ((r : List ℕ) → run.rest ≡ 95 ∷ r → ⊥) → BreaksNumber kind q size
breaks_marked kind q most size mark other run limit missing = record {
  front = run.front;
  rest = run.rest;
  split = run.split;
  size_is = run.size_is;
  begins = (95 ∷ [], (run.front, (run.each, run_form kind q most size run limit (λ none. (let clash : 95 ∷ [] ≡ [] = sym mark ∙ none in cc))), ap (λ v. run.front ++ v) (sym mark)));
  next = λ b r more e is. beyond b r more e is.0 is.1 (is.2 ∙ ap (λ v. is.0 ++ v) mark);
  none = λ bytes behind is e. within is.0 is.1 behind (sym run.split ∙ e ∙ ap (λ v. v ++ behind) (is.2 ∙ ap (λ v. is.0 ++ v) mark) ∙ append_assoc is.0 (95 ∷ []) behind);
}
  where
    beyond : (b : ℕ) (r more : List ℕ) → run.rest ≡ b ∷ r → (ds : List ℕ) → AreDigitsOf kind ds → run.front ++ b ∷ more ≡ ds ++ 95 ∷ [] → ⊥
    beyond b r more e ds are h = elim (compared run.front ds (b ∷ more) (95 ∷ []) h) [
      | inl less ↦ last less.0 less.2
      | inr longer ↦ (
          let same : longer.0 ≡ b = cc (longer.3) in
          no_longer kind q most size run limit ds b longer.1 r are (longer.2 ∙ ap (λ c. run.front ++ c ∷ longer.1) same) e)
    ]
      where
        last : (m : List ℕ) → 95 ∷ [] ≡ m ++ b ∷ more → ⊥
        last [] f = (let same : b ≡ 95 = cc in missing r (e ∙ ap (λ c. c ∷ r) same))
        last (x ∷ m) f = omega (arith, ap length f, length-append m (b ∷ more))

    within : (ds : List ℕ) → AreDigitsOf kind ds → (behind : List ℕ) → run.front ++ run.rest ≡ ds ++ 95 ∷ behind → ⊥
    within ds are behind h = elim (compared run.front ds run.rest (95 ∷ behind) h) [
      | inl less ↦ before less.0 less.1 less.2
      | inr longer ↦ no_longer kind q most size run limit ds longer.0 longer.1 (longer.1 ++ 95 ∷ behind) are longer.2 longer.3
    ]
      where
        before : (m : List ℕ) → run.front ≡ ds ++ m → 95 ∷ behind ≡ m ++ run.rest → ⊥
        before [] e f = missing behind (sym f)
        before (x ∷ m) e f =
            let same : x ≡ 95 = cc (f) in
            false≢true (sym other ∙ ap (is_digit_of kind) (sym same) ∙ (each_front (is_digit_of kind) ds x m (subst (λ v. Each (is_digit_of kind) v) e run.each)).0)

pub rest_is : (kind : NumberKind) (s : List ℕ) (at end most : ℕ) (run : IsRun kind (drop at s) most (end - at)) → at ≤ end → run.rest ≡ drop end s
rest_is kind s at end most run le =
    sym (drop_at run.front run.rest (end - at) run.size_is) ∙ ap (λ v. drop (end - at) v) (sym run.split) ∙ drop-drop (end - at) at s ∙ ap (λ n. drop n s) (omega arith)

bares : (kind : NumberKind) → is_marked kind ≡ false → ending_of kind ≡ []
bares Length h = refl
bares Digits h = refl
bares Decimal h = cc
bares Seq36 h = cc
bares Base62 h = cc
bares Hex h = cc

pub found_marked : (kind : NumberKind) (s : List ℕ) (at end most : ℕ) → is_marked kind ≡ true → at ≤ end → IsRun kind (drop at s) most (end - at) → IsLimit kind (drop at s) most → (r : List ℕ) → drop end s ≡ 95 ∷ r → HasNumber kind (drop at s) (end - at)
found_marked kind s at end most with_mark le run limit r next =
    let mark = marked kind with_mark in
    has_number kind (drop at s) (end - at) (reads_marked kind (drop at s) most (end - at) r mark.0 mark.1 run limit (rest_is kind s at end most run le ∙ next))

pub broken_marked : (kind : NumberKind) (s : List ℕ) (at end most : ℕ) → is_marked kind ≡ true → at ≤ end → IsRun kind (drop at s) most (end - at) → IsLimit kind (drop at s) most → ((r : List ℕ) → drop end s ≡ 95 ∷ r → ⊥) → HasNoNumber kind (drop at s) (end - at)
broken_marked kind s at end most with_mark le run limit missing =
    let mark = marked kind with_mark in
    has_no_number kind (drop at s) (end - at) (breaks_marked kind (drop at s) most (end - at) mark.0 mark.1 run limit (λ r e. missing r (sym (rest_is kind s at end most run le) ∙ e)))

pub found_bare : (kind : NumberKind) (s : List ℕ) (at end most : ℕ) → is_marked kind ≡ false → at < end → IsRun kind (drop at s) most (end - at) → IsLimit kind (drop at s) most → HasNumber kind (drop at s) (end - at)
found_bare kind s at end most unmarked lt run limit =
    has_number kind (drop at s) (end - at) (reads_bare kind (drop at s) most (end - at) (bares kind unmarked) run limit (omega arith))

pub broken_bare : (kind : NumberKind) (s : List ℕ) (at end most : ℕ) → is_marked kind ≡ false → end ≤ at → IsRun kind (drop at s) most (end - at) → IsLimit kind (drop at s) most → HasNoNumber kind (drop at s) (end - at)
broken_bare kind s at end most unmarked le run limit =
    let none : end - at ≡ 0 = omega arith in
    subst (λ n. HasNoNumber kind (drop at s) n) (sym none) (has_no_number kind (drop at s) 0 (breaks_bare kind (drop at s) most (bares kind unmarked) (subst (λ n. IsRun kind (drop at s) most n) none run) limit))
