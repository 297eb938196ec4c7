-- Numbers in a symbol in which no twenty digits are side by side.
use Rattle.cpp_direct.proofs.AllGround.{◌≡◌, ℕ, zero, suc, ◌+◌, ◌*◌, ◌-◌, ◌^◌, ◌<◌, ◌≤◌, List, [], ◌∷◌, ◌++◌, length, drop, get_or, Bool, true, false, ◌&&◌, nat_lt, Ok, Err, refl, ap, sym, ◌∙◌, subst, arith, pow-le-pow_right, drop-cons, drop_all, and_parts, lt-ltb, ltb-true, AreDigits, AreTrees, branch, empty, fixed, Forest, grown, is_decimal_digit, IsNumberToken, last_token, local_number, nothing, number_tested, opening, parts_of, Production, spell, spell_all, State, token, Tree, value_onto, short_numbers, table_by, StandsAt, NumberKind, Refusal, stands-split, names-are}
use Rattle.sym_core.proofs.Horner.{decimal_small, ten_more}
use Rattle.sym_shape.specs.Table.{Token, bytes_of}
use Rattle.sym_shape.specs.declared.rule.Sym.TheVariants.{Number}

-- ## Few digits

on-digit : (run b : ℕ) (bs : List ℕ) → is_decimal_digit b ≡ true → short_numbers run (b ∷ bs) ≡ true → (run < 19) × (short_numbers (run + 1) bs ≡ true)
unfolding short_numbers
on-digit run b bs digit is =
    let opened = subst (λ d. elim d [ true ↦ nat_lt run 19 && short_numbers (run + 1) bs | false ↦ short_numbers 0 bs ] ≡ true) digit is in
    let parts = and_parts (nat_lt run 19) (short_numbers (run + 1) bs) opened in
    (ltb-true run 19 parts.0, parts.1)

on-other : (run b : ℕ) (bs : List ℕ) → is_decimal_digit b ≡ false → short_numbers run (b ∷ bs) ≡ true → short_numbers 0 bs ≡ true
unfolding short_numbers
on-other run b bs other is = subst (λ d. elim d [ true ↦ nat_lt run 19 && short_numbers (run + 1) bs | false ↦ short_numbers 0 bs ] ≡ true) other is

-- one byte of a symbol is examined
pub goes-on-digit : (run b : ℕ) (bs : List ℕ) → is_decimal_digit b ≡ true → run < 19 → short_numbers (run + 1) bs ≡ true → short_numbers run (b ∷ bs) ≡ true
unfolding short_numbers
goes-on-digit run b bs digit few is =
    subst (λ d. elim d [ true ↦ nat_lt run 19 && short_numbers (run + 1) bs | false ↦ short_numbers 0 bs ] ≡ true) (sym digit)
    (subst (λ x. (x && short_numbers (run + 1) bs) ≡ true) (sym (lt-ltb run 19 few)) is)

pub goes-on-other : (run b : ℕ) (bs : List ℕ) → is_decimal_digit b ≡ false → short_numbers 0 bs ≡ true → short_numbers run (b ∷ bs) ≡ true
unfolding short_numbers
goes-on-other run b bs other is = subst (λ d. elim d [ true ↦ nat_lt run 19 && short_numbers (run + 1) bs | false ↦ short_numbers 0 bs ] ≡ true) (sym other) is

-- a symbol is examined byte by byte
pub digit-passed : (s : List ℕ) (at run next : ℕ) (digit : Bool) → at < length s → digit ≡ is_decimal_digit (get_or s at 0) → digit ≡ true → run < 19 → next ≡ run + 1
    → (short_numbers run (drop at s) ≡ true → short_numbers 0 s ≡ true) → short_numbers next (drop (at + 1) s) ≡ true → short_numbers 0 s ≡ true
digit-passed s at run next digit inside is true_ few_ next_is before rest =
    let one : at + 1 ≡ suc at = omega arith in
    before (subst (λ l. short_numbers run l ≡ true) (sym (drop-cons s at 0 inside))
    (goes-on-digit run (get_or s at 0) (drop (suc at) s) (sym is ∙ true_) few_
    (subst (λ k. short_numbers k (drop (suc at) s) ≡ true) next_is (subst (λ k. short_numbers next (drop k s) ≡ true) one rest))))

pub other-passed : (s : List ℕ) (at run next : ℕ) (digit : Bool) → at < length s → digit ≡ is_decimal_digit (get_or s at 0) → digit ≡ false → next ≡ 0
    → (short_numbers run (drop at s) ≡ true → short_numbers 0 s ≡ true) → short_numbers next (drop (at + 1) s) ≡ true → short_numbers 0 s ≡ true
other-passed s at run next digit inside is false_ next_is before rest =
    let one : at + 1 ≡ suc at = omega arith in
    before (subst (λ l. short_numbers run l ≡ true) (sym (drop-cons s at 0 inside))
    (goes-on-other run (get_or s at 0) (drop (suc at) s) (sym is ∙ false_)
    (subst (λ k. short_numbers k (drop (suc at) s) ≡ true) next_is (subst (λ k. short_numbers next (drop k s) ≡ true) one rest))))

pub all-passed : (s : List ℕ) (at run : ℕ) → length s ≤ at → short_numbers run (drop at s) ≡ true
unfolding short_numbers
all-passed s at run behind = subst (λ l. short_numbers run l ≡ true) (sym (drop_all at s behind)) refl

few-here : (run : ℕ) (ds rest : List ℕ) → run ≤ 19 → AreDigits NumberKind.Decimal ds → short_numbers run (ds ++ rest) ≡ true → run + length ds ≤ 19
few-here run [] rest most are is = omega (arith, most)
few-here run (d ∷ ds) rest most are is =
    let one = on-digit run d (ds ++ rest) are.0 is in
    omega (arith, few-here (run + 1) ds rest (omega (arith, one.0)) are.1 one.1)

later : (run : ℕ) (s : List ℕ) (at : ℕ) → run ≤ 19 → short_numbers run s ≡ true → (k : ℕ) × (k ≤ 19) × (short_numbers k (drop at s) ≡ true)
unfolding short_numbers
later run s zero most is = (run, most, is)
later run [] (suc at) most is = (run, most, refl)
later run (b ∷ bs) (suc at) most is = go (is_decimal_digit b) refl (λ r m i. later r bs at m i)
  where
    go : (d : Bool) → is_decimal_digit b ≡ d → ((r : ℕ) → r ≤ 19 → short_numbers r bs ≡ true → (k : ℕ) × (k ≤ 19) × (short_numbers k (drop at bs) ≡ true))
        → (k : ℕ) × (k ≤ 19) × (short_numbers k (drop at bs) ≡ true)
    go true e on = let one = on-digit run b bs e is in on (run + 1) (omega (arith, one.0)) one.1
    go false e on = on 0 (omega arith) (on-other run b bs e is)

few : (s : List ℕ) (at : ℕ) (ds : List ℕ) → short_numbers 0 s ≡ true → StandsAt s at ds → AreDigits NumberKind.Decimal ds → length ds ≤ 19
few s at ds short stands are =
    let k = later 0 s at (omega arith) short in
    omega (arith, few-here k.0 ds stands.0 k.1 are (subst (λ l. short_numbers k.0 l ≡ true) stands.1 k.2))

-- ## Small numbers

value-below : (v n : ℕ) (ds : List ℕ) → v < 10 ^ n → AreDigits NumberKind.Decimal ds → value_onto NumberKind.Decimal v ds < 10 ^ (n + length ds)
value-below v n [] small are = subst (λ k. v < 10 ^ k) (omega arith) small
value-below v n (d ∷ ds) small are =
    let digit = decimal_small d are.0 in
    let low : d - 48 ≤ 9 = omega (arith, digit.0, digit.1) in
    let more : v * 10 + (d - 48) < 10 ^ (n + 1) = ten_more v (d - 48) n (n + 1) small low (omega arith) in
    let sum : n + 1 + length ds ≡ n + length (d ∷ ds) = omega arith in
    subst (λ k. value_onto NumberKind.Decimal (v * 10 + (d - 48)) ds < 10 ^ k) sum (value-below (v * 10 + (d - 48)) (n + 1) ds more are.1)

number-small : (ds : List ℕ) → length ds ≤ 19 → AreDigits NumberKind.Decimal ds → local_number ds < 2 ^ 64
unfolding local_number
number-small [] short are = omega arith
number-small (d ∷ ds) short are =
    let begun : 0 < 10 ^ 0 = omega arith in
    let sum : 0 + length (d ∷ ds) ≡ length (d ∷ ds) = omega arith in
    let below : value_onto NumberKind.Decimal 0 (d ∷ ds) < 10 ^ length (d ∷ ds) =
    subst (λ k. value_onto NumberKind.Decimal 0 (d ∷ ds) < 10 ^ k) sum (value-below 0 0 (d ∷ ds) begun are) in
    let most : 10 ^ length (d ∷ ds) ≤ 10 ^ 19 = pow-le-pow_right (omega arith) short in
    omega (arith, below, most)

-- a number of 64 bits passes the test
pub tested : (place : ℕ) (ds : List ℕ) (st : State) → local_number ds < 2 ^ 64 → number_tested place ds st ≡ Ok st
unfolding number_tested
tested place ds st small = subst (λ b. elim b [ true ↦ Ok st | false ↦ Err (Refusal.BadValue place) ] ≡ Ok st) (sym (lt-ltb (local_number ds) (2 ^ 64) small)) refl

-- ## The number of a lambda

rest-last : (t : Tree) (rest : Forest) (ds : List ℕ) → (other : List ℕ) × (last_token (grown t rest) ds ≡ last_token rest other)
unfolding last_token
rest-last (token t) rest ds = (t.own, refl)
rest-last (branch rule taken parts) rest ds = (ds, refl)
rest-last empty rest ds = (ds, refl)
rest-last (fixed byte) rest ds = (ds, refl)

own-stands : (s : List ℕ) (at : ℕ) (t : Token) → t.before ≡ [] → StandsAt s at (bytes_of t ++ []) → StandsAt s at t.own
own-stands s at t bare stands =
    (stands-split s at t.own t.behind (subst (λ b. StandsAt s at (b ++ t.own ++ t.behind)) bare ((stands-split s at (bytes_of t) [] stands).0))).0

-- The number of a lambda fits 64 bits, whatever its parts are.
pub lambda-begins : (wide : Bool) (s : List ℕ) (at place : ℕ) (st : State) → short_numbers 0 s ≡ true → (f : Forest) → AreTrees (table_by wide) (parts_of Production.Lambda) f
    → StandsAt s at (spell_all f) → opening Production.Lambda f place st ≡ Ok st
unfolding parts_of opening last_token
lambda-begins wide s at place st short (grown a (grown b (grown c (grown (token t) nothing)))) shaped stands =
    let is : IsNumberToken NumberKind.Decimal t = names-are wide (Number NumberKind.Decimal) t shaped.1.1.1.0 in
    let after_a = (stands-split s at (spell a) (spell b ++ (spell c ++ (bytes_of t ++ []))) stands).1 in
    let after_b = (stands-split s (at + length (spell a)) (spell b) (spell c ++ (bytes_of t ++ [])) after_a).1 in
    let after_c = (stands-split s (at + length (spell a) + length (spell b)) (spell c) (bytes_of t ++ []) after_b).1 in
    let own = own-stands s (at + length (spell a) + length (spell b) + length (spell c)) t is.bare after_c in
    let first = rest-last a (grown b (grown c (grown (token t) nothing))) [] in
    let second = rest-last b (grown c (grown (token t) nothing)) first.0 in
    let third = rest-last c (grown (token t) nothing) second.0 in
    ap (λ ds. number_tested (place - 1) ds st) (first.1 ∙ second.1 ∙ third.1)
    ∙ tested (place - 1) t.own st (number-small t.own (few s _ t.own short own is.digits.0) is.digits.0)
lambda-begins wide s at place st short nothing shaped stands = absurd shaped
lambda-begins wide s at place st short (grown a nothing) shaped stands = absurd shaped.1
lambda-begins wide s at place st short (grown a (grown b nothing)) shaped stands = absurd shaped.1.1
lambda-begins wide s at place st short (grown a (grown b (grown c nothing))) shaped stands = absurd shaped.1.1.1
lambda-begins wide s at place st short (grown a (grown b (grown c (grown (branch r k ps) rest)))) shaped stands = absurd shaped.1.1.1.0
lambda-begins wide s at place st short (grown a (grown b (grown c (grown empty rest)))) shaped stands = absurd shaped.1.1.1.0
lambda-begins wide s at place st short (grown a (grown b (grown c (grown (fixed k) rest)))) shaped stands = absurd shaped.1.1.1.0
lambda-begins wide s at place st short (grown a (grown b (grown c (grown (token t) (grown d rest))))) shaped stands = absurd shaped.1.1.1.1
