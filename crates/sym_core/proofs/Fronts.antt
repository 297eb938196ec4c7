-- The longest number at the front of some bytes, and the case without a number, each split into its parts.
use Rattle.sym_core.proofs.Basics.{◌≡◌, ℕ, suc, ◌+◌, ◌-◌, ◌<◌, ◌≤◌, List, [], ◌∷◌, ◌++◌, length, take, drop, refl, ap, sym, ◌∙◌, subst, arith, append_assoc, length-append, take-append-drop, length-take-le, take_at, take-append-add, AreDigitsOf, ending_of, IsNumber, BeginsNumber, HasNumber, HasNoNumber, NumberKind}

-- the longest number at the front of q has this many digits
pub record ReadsNumber (kind : NumberKind) (q : List ℕ) (size : ℕ) : Type 0 where
  pub digits : List ℕ
  pub rest : List ℕ
  pub are : AreDigitsOf kind digits
  pub split : q ≡ (digits ++ ending_of kind) ++ rest
  pub size_is : length digits ≡ size
  pub longest : (bytes behind : List ℕ) → IsNumber kind bytes → q ≡ bytes ++ behind → length bytes ≤ length (digits ++ ending_of kind)

-- no number is at the front of q, and this is the length of the longest front that begins one
pub record BreaksNumber (kind : NumberKind) (q : List ℕ) (size : ℕ) : Type 0 where
  pub front : List ℕ
  pub rest : List ℕ
  pub split : q ≡ front ++ rest
  pub size_is : length front ≡ size
  pub begins : (more : List ℕ) × IsNumber kind (front ++ more)
  pub next : (b : ℕ) (r more : List ℕ) → rest ≡ b ∷ r → IsNumber kind (front ++ b ∷ more) → ⊥
  pub none : (bytes behind : List ℕ) → IsNumber kind bytes → q ≡ bytes ++ behind → ⊥

pub reads_number : (kind : NumberKind) (q : List ℕ) (size : ℕ) → HasNumber kind q size → ReadsNumber kind q size
reads_number kind q size h =
    let is = h.holds in
    let whole : length (take (size + length (ending_of kind)) q) ≡ size + length (ending_of kind) = length-take-le (size + length (ending_of kind)) q h.within in
    record {
      digits = is.0;
      rest = drop (size + length (ending_of kind)) q;
      are = is.1;
      split = sym (take-append-drop (size + length (ending_of kind)) q) ∙ ap (λ u. u ++ drop (size + length (ending_of kind)) q) is.2;
      size_is = omega (arith, whole, ap length is.2, length-append is.0 (ending_of kind));
      longest = λ bytes behind other e. (
          let front : take (length bytes) q ≡ bytes = ap (take (length bytes)) e ∙ take_at bytes behind (length bytes) refl in
          let few = h.longest (length bytes) (omega (arith, ap length e, length-append bytes behind)) (subst (IsNumber kind) (sym front) other) in
          omega (arith, few, whole, ap length is.2));
    }

pub has_number : (kind : NumberKind) (q : List ℕ) (size : ℕ) → ReadsNumber kind q size → HasNumber kind q size
has_number kind q size r =
    let whole : length (r.digits ++ ending_of kind) ≡ size + length (ending_of kind) = omega (arith, r.size_is, length-append r.digits (ending_of kind)) in
    record {
      within = omega (arith, whole, ap length r.split, length-append (r.digits ++ ending_of kind) r.rest);
      holds = (r.digits, r.are, ap (take (size + length (ending_of kind))) r.split ∙ take_at (r.digits ++ ending_of kind) r.rest (size + length (ending_of kind)) whole);
      longest = λ n le is. omega (arith, whole, length-take-le n q le, r.longest (take n q) (drop n q) is (sym (take-append-drop n q)));
    }

pub breaks_number : (kind : NumberKind) (q : List ℕ) (size : ℕ) → HasNoNumber kind q size → BreaksNumber kind q size
breaks_number kind q size h = record {
  front = take size q;
  rest = drop size q;
  split = sym (take-append-drop size q);
  size_is = length-take-le size q h.1.within;
  begins = h.1.holds;
  next = λ b r more e is. (
      let one : length (take size q ++ b ∷ []) ≡ size + 1 = omega (arith, length-take-le size q h.1.within, length-append (take size q) (b ∷ [])) in
      let text : q ≡ (take size q ++ b ∷ []) ++ r =
      sym (take-append-drop size q) ∙ ap (λ u. take size q ++ u) e ∙ sym (append_assoc (take size q) (b ∷ []) r) in
      let front : take (size + 1) q ≡ take size q ++ b ∷ [] = ap (take (size + 1)) text ∙ take_at (take size q ++ b ∷ []) r (size + 1) one in
      let begun : BeginsNumber kind (take (size + 1) q) = (more, subst (IsNumber kind) (sym (ap (λ u. u ++ more) front ∙ append_assoc (take size q) (b ∷ []) more)) is) in
      omega (arith, h.1.longest (size + 1) (omega (arith, one, ap length text, length-append (take size q ++ b ∷ []) r)) begun));
  none = λ bytes behind is e. (
      let front : take (length bytes) q ≡ bytes = ap (take (length bytes)) e ∙ take_at bytes behind (length bytes) refl in
      h.0 (length bytes) (omega (arith, ap length e, length-append bytes behind)) (subst (IsNumber kind) (sym front) is));
}

pub has_no_number : (kind : NumberKind) (q : List ℕ) (size : ℕ) → BreaksNumber kind q size → HasNoNumber kind q size
has_no_number kind q size k = (
  (λ n le is. k.none (take n q) (drop n q) is (sym (take-append-drop n q))),
  record {
    within = omega (arith, k.size_is, ap length k.split, length-append k.front k.rest);
    holds = (k.begins.0, subst (λ u. IsNumber kind (u ++ k.begins.0)) (sym (ap (take size) k.split ∙ take_at k.front k.rest size k.size_is)) k.begins.1);
    longest = λ n le is. at_most n (λ more. longer n le more is k.rest refl);
  },
)
  where
    at_most : (n : ℕ) → (size < n → ⊥) → n ≤ size
    at_most n refuted = omega arith

    beyond : (n : ℕ) (w : List ℕ) → k.rest ≡ w → length k.front ≤ n → take n q ≡ k.front ++ take (n - length k.front) w
    beyond n w e le =
        ap (take n) (k.split ∙ ap (λ u. k.front ++ u) e) ∙ ap (λ m. take m (k.front ++ w)) (omega arith) ∙ take-append-add k.front w (n - length k.front)

    longer : (n : ℕ) → n ≤ length q → size < n → BeginsNumber kind (take n q) → (w : List ℕ) → k.rest ≡ w → ⊥
    longer n le more is [] e = omega (arith, k.size_is, ap length k.split, length-append k.front k.rest, ap length e)
    longer n le more is (b ∷ r) e =
        let left : n - length k.front ≡ suc (n - size - 1) = omega (arith, k.size_is) in
        let front : take n q ≡ k.front ++ b ∷ take (n - size - 1) r =
        beyond n (b ∷ r) e (omega (arith, k.size_is)) ∙ ap (λ m. k.front ++ take m (b ∷ r)) left in
        k.next b r (take (n - size - 1) r ++ is.0) e
        (subst (IsNumber kind) (ap (λ u. u ++ is.0) front ∙ append_assoc k.front (b ∷ take (n - size - 1) r) is.0) is.1)

-- the digits of the longest number at the front are digits of the kind
pub front_digits : (kind : NumberKind) (q : List ℕ) (size : ℕ) → HasNumber kind q size → AreDigitsOf kind (take size q)
front_digits kind q size h =
    let r = reads_number kind q size h in
    let text : q ≡ r.digits ++ (ending_of kind ++ r.rest) = r.split ∙ append_assoc r.digits (ending_of kind) r.rest in
    subst (AreDigitsOf kind) (sym (ap (take size) text ∙ take_at r.digits (ending_of kind ++ r.rest) size r.size_is)) r.are
