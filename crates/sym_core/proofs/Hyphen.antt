-- A name with its last underscore as a hyphen.
use Rattle.sym_core.proofs.Basics.{◌≡◌, ℕ, zero, suc, ◌<◌, ◌≢◌, Bool, true, false, cond, ◌==◌, ◌||◌, List, [], ◌∷◌, length, get_or, slice_set, refl, ap, arith, eq-eqb, ne_eqb, nat_tests, IsAscii, has_underscore, hyphenated, is_name_byte, AreNameBytes, Rust}

or_true : (x y : Bool) → y ≡ true → (x || y) ≡ true
or_true true y e = refl
or_true false y e = e

or_false : (x y : Bool) → x ≡ false → y ≡ false → (x || y) ≡ false
or_false x y p q = cc

has-at : (bytes : List ℕ) (i : ℕ) → i < length bytes → get_or bytes i 0 ≡ 95 → has_underscore bytes ≡ true
has-at [] i h e = absurd (omega arith)
has-at (byte ∷ rest) zero h e = ap (λ t. t || has_underscore rest) (eq-eqb byte 95 e)
has-at (byte ∷ rest) (suc i) h e = or_true (byte == 95) (has_underscore rest) (has-at rest i (omega arith) e)

has-none : (bytes : List ℕ) → ((k : ℕ) → k < length bytes → get_or bytes k 0 ≢ 95) → has_underscore bytes ≡ false
has-none [] h = refl
has-none (byte ∷ rest) h = or_false (byte == 95) (has_underscore rest) (ne_eqb byte 95 (h 0 (omega arith))) (has-none rest (λ k below. h (suc k) (omega arith)))

-- a name without an underscore stays as it is
pub hyphenated-none : (bytes : List ℕ) → ((k : ℕ) → k < length bytes → get_or bytes k 0 ≢ 95) → hyphenated bytes ≡ bytes
unfolding hyphenated
hyphenated-none [] h = refl
hyphenated-none (byte ∷ rest) h =
    let later : has_underscore rest ≡ false = has-none rest (λ k below. h (suc k) (omega arith)) in
    let here : (byte == 95) ≡ false = ne_eqb byte 95 (h 0 (omega arith)) in
    rw (later, here) refl

-- the last underscore becomes a hyphen
pub hyphenated-at : (bytes : List ℕ) (i : ℕ) → i < length bytes → get_or bytes i 0 ≡ 95 → ((k : ℕ) → i < k → k < length bytes → get_or bytes k 0 ≢ 95)
    → hyphenated bytes ≡ slice_set bytes i 45
unfolding hyphenated
hyphenated-at [] i h e last = absurd (omega arith)
hyphenated-at (byte ∷ rest) zero h e last =
    let later : has_underscore rest ≡ false = has-none rest (λ k below. last (suc k) (omega arith) (omega arith)) in
    let here : (byte == 95) ≡ true = eq-eqb byte 95 e in
    rw (later, here) refl
hyphenated-at (byte ∷ rest) (suc i) h e last =
    let later : has_underscore rest ≡ true = has-at rest i (omega arith) e in
    rw later (ap (λ (t : List ℕ). byte ∷ t) (hyphenated-at rest i (omega arith) e (λ k above below. last (suc k) (omega arith) (omega arith))))

name_byte-ascii : (byte : ℕ) → is_name_byte Rust byte ≡ true → byte < 128
name_byte-ascii byte e = grind (arith, nat_tests)

names-ascii : (bytes : List ℕ) → AreNameBytes Rust bytes → (k : ℕ) → get_or bytes k 0 < 128
names-ascii [] all k = omega arith
names-ascii (byte ∷ rest) all zero = name_byte-ascii byte all.0
names-ascii (byte ∷ rest) all (suc k) = names-ascii rest all.1 k

hyphen-ascii : (byte : ℕ) (rest more : List ℕ) (later here : Bool) → byte < 128 → ((k : ℕ) → get_or rest k 0 < 128) → ((k : ℕ) → get_or more k 0 < 128)
    → (k : ℕ) → get_or (cond later (byte ∷ more) (cond here (45 ∷ rest) (byte ∷ rest))) k 0 < 128
hyphen-ascii byte rest more true here b r m zero = b
hyphen-ascii byte rest more true here b r m (suc k) = m k
hyphen-ascii byte rest more false true b r m zero = omega arith
hyphen-ascii byte rest more false true b r m (suc k) = r k
hyphen-ascii byte rest more false false b r m zero = b
hyphen-ascii byte rest more false false b r m (suc k) = r k

-- the name stays ASCII
pub hyphenated-ascii : (bytes : List ℕ) → AreNameBytes Rust bytes → IsAscii (hyphenated bytes)
unfolding hyphenated
hyphenated-ascii [] all = λ k. omega arith
hyphenated-ascii (byte ∷ rest) all =
    let tail = all.1 in
    hyphen-ascii byte rest (hyphenated rest) (has_underscore rest) (byte == 95)
    (name_byte-ascii byte all.0) (names-ascii rest tail) (hyphenated-ascii rest tail)
