-- The bytes of a legacy name, read as those of a C++ symbol.
use Rattle.std.proofs.Common.{◌≡◌, ℕ, zero, suc, ◌+◌, ◌-◌, ◌<◌, ◌≤◌, List, [], ◌∷◌, ◌++◌, length, take, drop, Bool, true, false, cond, ◌&&◌, not, refl, ap, sym, subst, ◌∙◌, arith, append_assoc, length-append}
use Rattle.std.specs.Prelude.{Option, Some, None, codes, unwrap_or, nat_eq, nat_le, nat_lt}
use Rattle.std.specs.List.{list_all, prefix_len, AllByRecursion}
use Rattle.std.proofs.lemmas.Bool.Decides.{nat_tests}
use Rattle.std.proofs.lemmas.List.{append-nil, length-drop, length-take-le, take-append-drop}
use Rattle.sym_core.specs.Number.{is_decimal_digit, IsLengthForm}
use Rattle.sym_core.specs.Token.{Token, is_name_byte, AreNameBytes, IsSeparator}
use Rattle.sym_core.specs.Value.{value_of}
use Rattle.sym_core.specs.declared.NameClass.TheVariants.{Cpp}
use Rattle.sym_core.specs.declared.NumberKind.TheVariants.{Length}
use Rattle.cpp_grammar.specs.Grammar.{among}
use Rattle.rust_legacy.specs.Path.{Name, begins_with, is_legacy_byte, is_suffix, name_in}
use Rattle.rust_legacy.proofs.Digits.{digits-front}
use Rattle.cpp_direct.specs.Holes.{IsNameAt, StandsAt}
use Rattle.cpp_direct.specs.HolesOfLists.{IsSuffix}
use Rattle.cpp_direct.specs.ItemBytes.{is_suffix_byte}

both : (a b : Bool) → (a && b) ≡ true → (a ≡ true) × (b ≡ true)
both true b h = (refl, h)
both false b h = absurd (cc (h))

-- ## Bytes

legacy_byte : (b : ℕ) → is_legacy_byte b ≡ true → is_name_byte Cpp b ≡ true
legacy_byte b is = grind (arith, nat_tests, is)

legacy_take : (n : ℕ) (xs : List ℕ) → list_all is_legacy_byte xs ≡ true → list_all is_legacy_byte (take n xs) ≡ true
legacy_take zero xs are = refl
legacy_take (suc n) [] are = refl
legacy_take (suc n) (x ∷ xs) are =
    let h = both (is_legacy_byte x) (list_all is_legacy_byte xs) are in
    ap (λ b. b && list_all is_legacy_byte (take n xs)) h.0 ∙ legacy_take n xs h.1

pub legacy_drop : (n : ℕ) (xs : List ℕ) → list_all is_legacy_byte xs ≡ true → list_all is_legacy_byte (drop n xs) ≡ true
legacy_drop zero xs are = are
legacy_drop (suc n) [] are = are
legacy_drop (suc n) (x ∷ xs) are = legacy_drop n xs (both (is_legacy_byte x) (list_all is_legacy_byte xs) are).1

name_bytes : (xs : List ℕ) → list_all is_legacy_byte xs ≡ true → AreNameBytes Cpp xs
name_bytes [] are = tt
name_bytes (x ∷ xs) are =
    let h = both (is_legacy_byte x) (list_all is_legacy_byte xs) are in
    (legacy_byte x h.0, name_bytes xs h.1)

-- ## Names

length_form : (q : List ℕ) (n : ℕ) → begins_with (codes "0") q ≡ false → 0 < n → n ≤ 9 → n ≤ length q → IsLengthForm (take n q)
length_form [] n first some few within = absurd (omega (arith, some, within))
length_form (d ∷ []) zero first some few within = absurd (omega (arith, some))
length_form (d ∷ []) (suc zero) first some few within = tt
length_form (d ∷ []) (suc (suc n)) first some few within = absurd (omega (arith, within))
length_form (d ∷ e ∷ q) zero first some few within = absurd (omega (arith, some))
length_form (d ∷ e ∷ q) (suc zero) first some few within = tt
length_form (d ∷ e ∷ q) (suc (suc n)) first some few within = (λ is. absurd (zero_first is), omega (arith, few, length-take-le n q (omega (arith, within))))
  where
    zero_first : d ≡ 48 → ⊥
    zero_first is = (let front : begins_with (codes "0") (48 ∷ e ∷ q) ≡ false = subst (λ b. begins_with (codes "0") (b ∷ e ∷ q) ≡ false) is first in absurd (cc (front)))

separated : (q : List ℕ) (size : ℕ) → 0 < size → prefix_len is_decimal_digit q + size ≤ length q → IsSeparator Cpp [] (take size (drop (prefix_len is_decimal_digit q) q))
separated [] size some within = absurd (omega (arith, some, within))
separated (x ∷ q) size some within = by (is_decimal_digit x) refl within (λ long. separated q size some long)
  where
    first : (n : ℕ) → is_decimal_digit x ≡ false → 0 < n → IsSeparator Cpp [] (take n (x ∷ q))
    first zero is h = absurd (omega (arith, h))
    first (suc n) is h = is

    by : (b : Bool) → is_decimal_digit x ≡ b → cond b (1 + prefix_len is_decimal_digit q) 0 + size ≤ length (x ∷ q)
        → (prefix_len is_decimal_digit q + size ≤ length q → IsSeparator Cpp [] (take size (drop (prefix_len is_decimal_digit q) q)))
        → IsSeparator Cpp [] (take size (drop (cond b (1 + prefix_len is_decimal_digit q) 0) (x ∷ q)))
    by true is long rest = (let one : 1 + prefix_len is_decimal_digit q ≡ suc (prefix_len is_decimal_digit q) = omega arith in
        subst (λ n. IsSeparator Cpp [] (take size (drop n (x ∷ q)))) (sym one) (rest (omega (arith, long))))
    by false is long rest = first size is some

given : (b : Bool) (found name : Name) → cond {A = Option Name} b (Some found) None ≡ Some name → (b ≡ true) × (found ≡ name)
given true found name is = (refl, ap (λ o. unwrap_or o found) is)
given false found name is = absurd (cc (is))

negated : (b : Bool) → not b ≡ true → b ≡ false
negated true h = absurd (cc (h))
negated false h = refl

some_digits : (s : List ℕ) (count : ℕ) → 0 < value_of Length (take count s) → 0 < count
some_digits s zero positive = absurd (omega (arith, positive))
some_digits s (suc count) positive = omega arith

-- a name in a legacy name is a name of C++
pub name_here : (s : List ℕ) (at : ℕ) (name : Name) → list_all is_legacy_byte s ≡ true → name_in (drop at s) ≡ Some name → IsNameAt s at name.bytes (at + name.size)
name_here s at name are is =
    let q = drop at s in
    let count = prefix_len is_decimal_digit q in
    let digits = take count q in
    let size = value_of Length digits in
    let behind = drop count q in
    let own = take size behind in
    let whole = nat_le (count + size) (length q) in
    let some = nat_lt 0 size in
    let few = nat_le count 9 in
    let zero_front = begins_with (codes "0") q in
    let asked = given (not zero_front && few && some && whole) (record { bytes = own; size = count + size }) name is in
    let three = both (not zero_front && few && some) whole asked.0 in
    let two = both (not zero_front && few) some three.0 in
    let one = both (not zero_front) few two.0 in
    let positive : 0 < size = grind (arith, nat_tests, two.1) in
    let nine : count ≤ 9 = grind (arith, nat_tests, one.1) in
    let within : count + size ≤ length q = grind (arith, nat_tests, three.1) in
    let long : length own ≡ size = length-take-le size behind (omega (arith, within, length-drop count q)) in
    let token : Token = record { before = digits; own = own; behind = [] } in
    let counted : length digits ≡ count = length-take-le count q (omega (arith, within)) in
    subst (λ n. IsNameAt s at n.bytes (at + n.size)) asked.1 (record {
      token = token;
      is_name = record {
        digits = digits;
        separator = [];
        split = sym (append-nil digits);
        length_is = (digits-front Length q, length_form q count (negated zero_front one.0) (some_digits q count positive) nine (omega (arith, within)));
        separated = separated q size positive within;
        each = name_bytes own (legacy_take size behind (legacy_drop count q (legacy_drop at s are)));
        counted = long;
        ends = refl;
      };
      own = refl;
      stands = (
        drop size behind,
        sym (take-append-drop count q) ∙ ap (λ b. digits ++ b) (sym (take-append-drop size behind))
            ∙ sym (append_assoc digits own (drop size behind)) ∙ ap (λ b. b ++ drop size behind) (sym (append-nil (digits ++ own))),
      );
      ends = omega (arith, length-append (digits ++ own) [], length-append digits own, counted, long);
    })

-- ## The front, the E and the suffix

split : (front s : List ℕ) → begins_with front s ≡ true → (rest : List ℕ) × (s ≡ front ++ rest)
split [] s is = (s, refl)
split (x ∷ front) [] is = absurd (cc (is))
split (x ∷ front) (y ∷ s) is =
    let h = both (nat_eq x y) (begins_with front s) is in
    let rest = split front s h.1 in
    let same : x ≡ y = grind (arith, nat_tests, h.0) in
    (rest.0, ap (λ l. y ∷ l) rest.1 ∙ ap (λ b. b ∷ (front ++ rest.0)) (sym same))

-- the E that ends the names
pub end_here : (s : List ℕ) (at : ℕ) → begins_with (codes "E") (drop at s) ≡ true → StandsAt s at (69 ∷ [])
end_here s at is = split (codes "E") (drop at s) is

pub front_here : (s : List ℕ) → begins_with (codes "_ZN") s ≡ true → StandsAt s 0 (95 ∷ 90 ∷ []) × StandsAt s 2 (78 ∷ [])
front_here s is =
    let rest = split (codes "_ZN") s is in
    ((78 ∷ rest.0, rest.1), (rest.0, ap (drop 2) rest.1))

suffix_byte : (b : ℕ) → is_legacy_byte b ≡ true → is_suffix_byte b ≡ true
unfolding is_suffix_byte among
suffix_byte b is = grind (arith, nat_tests, is)

suffix_bytes : (xs : List ℕ) → list_all is_legacy_byte xs ≡ true → AllByRecursion (λ c. is_suffix_byte c ≡ true) xs
suffix_bytes [] are = tt
suffix_bytes (x ∷ xs) are =
    let h = both (is_legacy_byte x) (list_all is_legacy_byte xs) are in
    (suffix_byte x h.0, suffix_bytes xs h.1)

-- the suffix of a legacy name is a suffix of C++, unless it is empty
pub suffix_here : (suffix : List ℕ) → list_all is_legacy_byte suffix ≡ true → is_suffix suffix ≡ true → 0 < length suffix → IsSuffix suffix
suffix_here [] are is some = absurd (omega (arith, some))
suffix_here (d ∷ []) are is some = absurd (grind (arith, nat_tests, is))
suffix_here (d ∷ b ∷ rest) are is some =
    let dot : d ≡ 46 = grind (arith, nat_tests, is) in
    (dot, suffix_bytes (b ∷ rest) (both (is_legacy_byte d) (list_all is_legacy_byte (b ∷ rest)) are).1)
