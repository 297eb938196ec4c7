-- Names by the digits of their lengths.
use Rattle.rust_legacy.proofs.Basics.{◌≡◌, ℕ, ◌+◌, ◌-◌, ◌*◌, ◌<◌, ◌≤◌, List, [], ◌∷◌, length, take, drop, Bool, cond, ◌&&◌, not, refl, ap, sym, ◌∙◌, arith, true, false, get_or, Option, Some, None, codes, nat_le, nat_lt, nat_eq, ◌==◌, prefix_len, nat_tests, length-drop, drop-drop, drop_more, prefix_len-drop_yes, is_decimal_digit, value_of, Length, HasLength, Name, begins_with, name_in}

-- a name, given whether its length begins with a zero, how many digits the length has, and what value they denote
abbrev by_length : (zero : Bool) (count size : ℕ) → List ℕ → Option Name
by_length zero count size s =
    cond (not zero && nat_le count 9 && nat_lt 0 size && nat_le (count + size) (length s)) (Some (record { bytes = take size (drop count s); size = count + size })) None

abbrev found : (count size : ℕ) → List ℕ → Option Name
found count size s = Some (record { bytes = take size (drop count s); size = count + size })

-- the name is found if it passes all three tests
asked : (count size : ℕ) (s : List ℕ) (few some whole : Bool) → nat_le count 9 ≡ few → nat_lt 0 size ≡ some → nat_le (count + size) (length s) ≡ whole
    → by_length false count size s ≡ cond (few && some && whole) (found count size s) None
asked count size s few some whole a b c =
    ap (λ x. cond {A = Option Name} (x && nat_lt 0 size && nat_le (count + size) (length s)) (found count size s) None) a
    ∙ ap (λ x. cond {A = Option Name} (few && x && nat_le (count + size) (length s)) (found count size s) None) b
    ∙ ap (λ x. cond {A = Option Name} (few && some && x) (found count size s) None) c

none_so : (count size : ℕ) (s : List ℕ) → length s < count + size → by_length false count size s ≡ None
none_so count size s far = by (nat_le count 9) (nat_lt 0 size)
  where
    e : nat_le (count + size) (length s) ≡ false
    e = grind (arith, nat_tests, far)

    last : (b : Bool) → b ≡ false → (few some : Bool) → cond {A = Option Name} (few && some && b) (Some (record { bytes = take size (drop count s); size = count + size })) None ≡ None
    last true is few some = absurd (cc (is))
    last false is true true = refl
    last false is true false = refl
    last false is false some = refl

    by : (few some : Bool) → cond {A = Option Name} (few && some && nat_le (count + size) (length s)) (Some (record { bytes = take size (drop count s); size = count + size })) None ≡ None
    by few some = last (nat_le (count + size) (length s)) e few some

-- a digit is no E
no_end : (t : List ℕ) → 0 < prefix_len is_decimal_digit t → begins_with (codes "E") t ≡ false
no_end [] some = refl
no_end (x ∷ rest) some = by (is_decimal_digit x) (nat_eq 69 x) refl refl some
  where
    by : (digit end : Bool) → is_decimal_digit x ≡ digit → nat_eq 69 x ≡ end → 0 < cond digit (1 + prefix_len is_decimal_digit rest) 0 → (end && true) ≡ false
    by digit false a b more = refl
    by false true a b more = absurd (omega (arith, more))
    by true true a b more = (let same : 69 ≡ x = grind (arith, nat_tests, b) in absurd (cc (ap is_decimal_digit same, a)))

-- the digits that were read are those of a length
pub length_is : (s : List ℕ) (at to value : ℕ) → at < to → to ≤ length s → to - at ≤ 9
    → to - at + prefix_len is_decimal_digit (drop to s) ≡ prefix_len is_decimal_digit (drop at s) → prefix_len is_decimal_digit (drop to s) ≡ 0
    → value ≡ value_of Length (take (to - at) (drop at s)) → begins_with (codes "0") (drop at s) ≡ false → 0 < value → HasLength s at to value
length_is s at to value low high few digits all is first some = (
  low,
  high,
  some,
  no_end t (omega (arith, digits, low)),
  λ within. same ∙ whole within ∙ ap (λ b. Some (record { bytes = take value b; size = count + value })) (drop-drop count at s ∙ ap (λ n. drop n s) (omega (arith, low))),
  λ far. same ∙ none_so count value t (omega (arith, far, low, length-drop at s)),
)
  where
    t : List ℕ
    t = drop at s

    count : ℕ
    count = to - at

    counted : prefix_len is_decimal_digit t ≡ count
    counted = omega (arith, digits, all)

    same : name_in t ≡ by_length false count value t
    same = ap (λ z. by_length z (prefix_len is_decimal_digit t) (value_of Length (take (prefix_len is_decimal_digit t) t)) t) first
        ∙ ap (λ n. by_length false n (value_of Length (take n t)) t) counted
        ∙ ap (λ v. by_length false count v t) (sym is)

    whole : to + value ≤ length s → by_length false count value t ≡ Some (record { bytes = take value (drop count t); size = count + value })
    whole within = asked count value t true true true (grind (arith, nat_tests, few)) (grind (arith, nat_tests, some)) (
        let fits : count + value ≤ length t = omega (arith, within, low, high, length-drop at s) in grind (arith, nat_tests, fits))

-- a digit other than 0 begins a length
pub first_digit : (s : List ℕ) (at : ℕ) → at < length s → (is_decimal_digit (get_or s at 0) && not (get_or s at 0 == 48)) ≡ true
    → (0 < prefix_len is_decimal_digit (drop at s)) × (begins_with (codes "0") (drop at s) ≡ false)
first_digit s at within is = by (is_decimal_digit (get_or s at 0)) (nat_eq (get_or s at 0) 48) refl refl is
  where
    by : (digit zero : Bool) → is_decimal_digit (get_or s at 0) ≡ digit → nat_eq (get_or s at 0) 48 ≡ zero → (digit && not zero) ≡ true
        → (0 < prefix_len is_decimal_digit (drop at s)) × (begins_with (codes "0") (drop at s) ≡ false)
    by false zero a b h = absurd (cc (h))
    by true true a b h = absurd (cc (h))
    by true false a b h = (
        let other : nat_eq 48 (get_or s at 0) ≡ false = grind (arith, nat_tests, b) in (
          omega (arith, prefix_len-drop_yes is_decimal_digit s at 0 within a),
          ap (begins_with (codes "0")) (drop_more s at 0 within) ∙ ap (λ x. x && true) other,
        ))

-- a number whose first digit isn't a zero isn't zero
pub first_above : (s : List ℕ) (at to value : ℕ) → at ≤ to → to < length s → is_decimal_digit (get_or s to 0) ≡ true
    → begins_with (codes "0") (drop at s) ≡ false → (at < to → 0 < value) → 0 < value * 10 + (get_or s to 0 - 48)
first_above s at to value low within digit first some = by (nat_lt at to) refl
  where
    begun : (b : Bool) → nat_eq 48 (get_or s at 0) ≡ b → begins_with (codes "0") (get_or s at 0 ∷ drop (at + 1) s) ≡ false → at ≡ to → 0 < value * 10 + (get_or s to 0 - 48)
    begun true e none same = absurd (cc (e, none))
    begun false e none same = (
        let same_byte : get_or s at 0 ≡ get_or s to 0 = ap (λ n. get_or s n 0) same in
        grind (arith, nat_tests, e, same_byte, digit))

    by : (b : Bool) → nat_lt at to ≡ b → 0 < value * 10 + (get_or s to 0 - 48)
    by true e = (let more : at < to = grind (arith, nat_tests, e) in omega (arith, some more))
    by false e = (
        let same : at ≡ to = grind (arith, nat_tests, e, low) in
        begun (nat_eq 48 (get_or s at 0)) refl (ap (begins_with (codes "0")) (sym (drop_more s at 0 (omega (arith, within, low)))) ∙ first) same)
