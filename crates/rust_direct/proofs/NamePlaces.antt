-- Where names are.
use Rattle.rust_direct.proofs.Basics.{◌≡◌, ◌≢◌, ℕ, ◌+◌, ◌-◌, ◌*◌, ◌≤◌, ◌<◌, suc, List, [], ◌∷◌, ◌++◌, length, take, drop, get_or, Bool, true, false, refl, ap, sym, subst, ◌∙◌, arith, append_assoc, append-nil, add-zero, ◌||◌, ◌==◌, length-append, length-drop, length-take-le, take-append-drop, drop-drop, le-leb, eq-eqb, ne_eqb, false≢true, drop-append_seam, Rust, is_decimal_digit, ReachesNameBytes, is_name_byte, AreNameBytes, IsSeparator, StandsAt, stands-join, EachPasses, IsLengthRead, IsNamePlace, goes_on}
use Rattle.rust_direct.proofs.LaneLemmas.{piece-byte, piece-pass, whole-pass}

digit-is : (b : ℕ) → 48 ≤ b → b ≤ 57 → is_decimal_digit b ≡ true
digit-is b low high = cc (le-leb 48 b low, le-leb b 57 high)

-- the bytes between two places, as a slice of a slice
pub own-is : (s : List ℕ) (from size : ℕ) → take (from + size - from) (drop from s) ≡ take size (drop from s)
own-is s from size = ap (λ n. take n (drop from s)) (difference from size)
  where
    difference : (from size : ℕ) → from + size - from ≡ size
    difference from size = omega arith

-- a length of one digit
pub one-digit : (s : List ℕ) (at next b : ℕ) → 49 ≤ b → b ≤ 57 → StandsAt s at (b ∷ []) → next ≡ at + 1 → IsLengthRead s at next (b - 48)
one-digit s at next b low high stands next_is = record {
  digits = b ∷ [];
  are_digits = ((digit-is b (omega (arith, low)) high, tt), tt);
  stands = stands;
  from_is = next_is;
  size_is = omega arith;
  some = omega (arith, low);
}

-- a length of two digits
pub two-digits : (s : List ℕ) (at middle next a b : ℕ) → 49 ≤ a → a ≤ 57 → is_decimal_digit b ≡ true → StandsAt s at (a ∷ []) → middle ≡ at + 1
    → StandsAt s middle (b ∷ []) → next ≡ middle + 1 → IsLengthRead s at next (10 * (a - 48) + (b - 48))
two-digits s at middle next a b low high digit first middle_is second next_is = record {
  digits = a ∷ b ∷ [];
  are_digits = ((digit-is a (omega (arith, low)) high, (digit, tt)), (λ e. absurd (omega (arith, low, e)), omega arith));
  stands = stands-join s at (a ∷ []) (b ∷ []) first (subst (λ n. StandsAt s n (b ∷ [])) middle_is second);
  from_is = omega (arith, middle_is, next_is);
  size_is = omega arith;
  some = omega (arith, low);
}

all-reached : (own : List ℕ) → ReachesNameBytes Rust own (length own) → AreNameBytes Rust own
all-reached [] h = tt
all-reached (b ∷ bs) h = (h 0 (omega arith), all-reached bs (λ k less. h (suc k) (omega (arith, less))))

no-part : (digit mark : Bool) → (digit || mark) ≡ false → (digit ≡ false) × (mark ≡ false)
no-part true mark e = absurd (false≢true (sym e))
no-part false mark e = (refl, e)

begins-apart : (own : List ℕ) → 0 < length own → goes_on (get_or own 0 0) ≡ false → IsSeparator Rust [] own
begins-apart [] some apart = absurd (omega (arith, some))
begins-apart (b ∷ bs) some apart =
    let parts = no-part (is_decimal_digit b) (b == 95) apart in
    (parts.0, λ e. absurd (false≢true (sym parts.1 ∙ eq-eqb b 95 e)))

-- a name's own bytes come after its length
pub own-placed : (s : List ℕ) (at from size : ℕ) (own : List ℕ) → IsLengthRead s at from size → from ≤ length s → size ≤ length s - from
    → own ≡ take size (drop from s) → goes_on (get_or own 0 0) ≡ false → ReachesNameBytes Rust own (length own)
    → IsNamePlace s at (record { from = from; to = from + size; end = from + size })
own-placed s at from size own r within few own_is apart each = (
  omega arith,
  omega (arith, within, few),
  record {
    token = record { before = r.digits; own = own; behind = [] };
    is_name = record {
      digits = r.digits;
      separator = [];
      split = sym (append-nil r.digits);
      length_is = r.are_digits;
      separated = begins-apart own (omega (arith, counted, r.some)) apart;
      each = all-reached own each;
      counted = counted ∙ r.size_is;
      ends = refl;
    };
    own = own_is ∙ sym (own-is s from size);
    stands = (drop size (drop from s), whole);
    ends = omega (arith, counted, r.from_is, length-append (r.digits ++ own) [], length-append r.digits own);
  },
)
  where
    counted : length own ≡ size
    counted = ap length own_is ∙ length-take-le size (drop from s) (omega (arith, few, length-drop from s))

    behind : drop from s ≡ r.stands.0
    behind = ap (λ n. drop n s) r.from_is ∙ sym (drop-drop (length r.digits) at s) ∙ ap (λ l. drop (length r.digits) l) r.stands.1 ∙ drop-append_seam r.digits r.stands.0

    parts : r.stands.0 ≡ own ++ drop size (drop from s)
    parts = sym behind ∙ sym (take-append-drop size (drop from s)) ∙ ap (λ l. l ++ drop size (drop from s)) (sym own_is)

    whole : drop at s ≡ ((r.digits ++ own) ++ []) ++ drop size (drop from s)
    whole = r.stands.1 ∙ ap (λ l. r.digits ++ l) parts ∙ sym (append_assoc r.digits own (drop size (drop from s)))
        ∙ ap (λ l. l ++ drop size (drop from s)) (sym (append-nil (r.digits ++ own)))

-- likewise with the name's own bytes taken from the symbol
pub own-there : (s : List ℕ) (at from size : ℕ) → IsLengthRead s at from size → from ≤ length s → size ≤ length s - from
    → goes_on (get_or s from 0) ≡ false → EachPasses (is_name_byte Rust) s from (from + size - from)
    → IsNamePlace s at (record { from = from; to = from + size; end = from + size })
own-there s at from size r within few apart each =
    own-placed s at from size (take size (drop from s)) r within few refl (subst (λ b. goes_on b ≡ false) first apart)
    (λ k less. piece-pass (is_name_byte Rust) s from size (subst (EachPasses (is_name_byte Rust) s from) (back from size) each) k (omega (arith, counted, less)))
  where
    counted : length (take size (drop from s)) ≡ size
    counted = length-take-le size (drop from s) (omega (arith, few, length-drop from s))

    back : (from size : ℕ) → from + size - from ≡ size
    back from size = omega arith

    first : get_or s from 0 ≡ get_or (take size (drop from s)) 0 0
    first = sym (piece-byte s from size 0 r.some ∙ ap (λ n. get_or s n 0) (add-zero from))

-- a byte other than a digit or '_' is neither part of a length nor a separator after one
pub goes-apart : (b : ℕ) → is_decimal_digit b ≡ false → b ≢ 95 → goes_on b ≡ false
goes-apart b digit mark = cc (digit, ne_eqb b 95 mark)

-- each byte of a piece of the symbol may be in a name
pub few-pass : (s : List ℕ) (at to : ℕ) → at ≤ to → to ≤ length s → ReachesNameBytes Rust (take (to - at) (drop at s)) (length (take (to - at) (drop at s)))
    → EachPasses (is_name_byte Rust) s at (to - at)
few-pass s at to low within each = whole-pass (is_name_byte Rust) s at (to - at) (λ k less. each k (omega (arith, less, counted)))
  where
    counted : length (take (to - at) (drop at s)) ≡ to - at
    counted = length-take-le (to - at) (drop at s) (omega (arith, low, within, length-drop at s))

-- an empty name: its length is 0
pub none-placed : (s : List ℕ) (at : ℕ) → at < length s → StandsAt s at (48 ∷ []) → IsNamePlace s at (record { from = at + 1; to = at + 1; end = at + 1 })
none-placed s at less stands = (
  omega arith,
  omega (arith, less),
  record {
    token = record { before = 48 ∷ []; own = []; behind = [] };
    is_name = record {
      digits = 48 ∷ [];
      separator = [];
      split = refl;
      length_is = ((refl, tt), tt);
      separated = tt;
      each = tt;
      counted = omega arith;
      ends = refl;
    };
    own = sym (ap (λ n. take n (drop (at + 1) s)) (nothing (at + 1)));
    stands = stands;
    ends = omega arith;
  },
)
  where
    nothing : (n : ℕ) → n - n ≡ 0
    nothing n = omega arith
