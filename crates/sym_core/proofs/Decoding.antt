-- How long a decoded name is.
use Rattle.std.proofs.Common.{◌≡◌, ℕ, zero, suc, ◌+◌, ◌-◌, ◌*◌, ◌/◌, ◌%◌, ◌<◌, ◌≤◌, Bool, true, false, cond, ◌==◌, nat_lt, nat_le, not, List, [], ◌∷◌, length, drop, insert, Option, Some, None, IfSome, option_and_then, refl, ap, arith, length-append, length-take, length-drop}
use Rattle.std.specs.Char.{is_ascii}
use Rattle.sym_core.proofs.Basics.{list_all, suffix_len, length-encode, len_utf8_bounds, nat_tests, is_xid_continue, has_underscore, hyphenated, identifier_text, decoded_name}
use Rattle.std.proofs.lemmas.List.Edits.{length-insert}
use Rattle.std.proofs.Math.Utf8.{encode, encodes}
use Rattle.idna.specs.Punycode.{digit_value, threshold, adapt, read_integer, is_scalar, insert_all, basic_part, extended_part, decode, delimiter}

-- what holds of both branches holds of the branch that is taken
choose : {A : Type 0} (P : A → Type 0) (b : Bool) (x y : Option A) → IfSome x P → IfSome y P → IfSome (cond b x y) P
choose P true x y p q = p
choose P false x y p q = q

-- what holds of the second step, if the first one succeeds, holds of both together
bound : {A B : Type 0} (Q : A → Type 0) (P : B → Type 0) (o : Option A) (f : A → Option B) → IfSome o Q → ((x : A) → Q x → IfSome (f x) P) → IfSome (option_and_then f o) P
bound Q P None f q h = tt
bound Q P (Some x) f q h = h x q

any : {A : Type 0} (o : Option A) → IfSome o (λ _. Unit {0})
any None = tt
any (Some x) = tt

shorter : (o : Option (ℕ × List ℕ)) (m n : ℕ) → m ≤ n → IfSome o (λ read. length read.1 < m) → IfSome o (λ read. length read.1 < n)
shorter None m n le h = tt
shorter (Some read) m n le h = omega arith

-- an integer takes at least one byte
read_integer-shorter : (bias k weight i : ℕ) (input : List ℕ) → IfSome (read_integer bias k weight i input) (λ read. length read.1 < length input)
unfolding read_integer
read_integer-shorter bias k weight i [] = tt
read_integer-shorter bias k weight i (c ∷ input) =
    bound (λ _. Unit {0}) (λ read. length read.1 < suc (length input)) (digit_value c) _ (any (digit_value c)) (λ digit _.
    choose (λ read. length read.1 < suc (length input)) (nat_lt digit (threshold bias k)) (Some (i + digit * weight, input))
    (read_integer bias (k + 36) (weight * (36 - threshold bias k)) (i + digit * weight) input) (omega arith)
    (shorter (read_integer bias (k + 36) (weight * (36 - threshold bias k)) (i + digit * weight) input) (length input) (suc (length input)) (omega arith)
    (read_integer-shorter bias (k + 36) (weight * (36 - threshold bias k)) (i + digit * weight) input)))

few : (o : Option (List ℕ)) (m n : ℕ) → m ≤ n → IfSome o (λ r. length r ≤ m) → IfSome o (λ r. length r ≤ n)
few None m n le h = tt
few (Some r) m n le h = omega arith

-- each integer puts one character in
insert_all-few : (turns n i bias : ℕ) (output input : List ℕ) → IfSome (insert_all turns n i bias output input) (λ r. length r ≤ length output + length input)
unfolding insert_all
insert_all-few zero n i bias output [] = omega arith
insert_all-few (suc turns) n i bias output [] = omega arith
insert_all-few zero n i bias output (c ∷ input) = tt
insert_all-few (suc turns) n i bias output (c ∷ input) =
    bound (λ read. length read.1 < suc (length input)) (λ r. length r ≤ length output + suc (length input)) (read_integer bias 36 1 i (c ∷ input)) _
    (read_integer-shorter bias 36 1 i (c ∷ input)) (λ read less.
    let count = length output + 1 in
    let point = n + read.0 / count in
    let place = read.0 % count in
    let within : place ≤ length output = omega arith in
    let longer : length (insert output place point) ≡ length output + 1 = length-insert output place point within in
    choose (λ r. length r ≤ length output + suc (length input)) (is_scalar point)
    (insert_all turns point (place + 1) (adapt (read.0 - i) count (i == 0)) (insert output place point) read.1) None
    (few (insert_all turns point (place + 1) (adapt (read.0 - i) count (i == 0)) (insert output place point) read.1)
    (length (insert output place point) + length read.1) (length output + suc (length input)) (omega arith)
    (insert_all-few turns point (place + 1) (adapt (read.0 - i) count (i == 0)) (insert output place point) read.1))
    tt)

-- the bytes that are copied and the bytes that are read are at most as many as the bytes of the input
parts-few : (input : List ℕ) (b : Bool) → (length (basic_part input) == 0) ≡ b
    → length (basic_part input) + length (cond b input (drop (length input - suffix_len (λ c. not (c == delimiter)) input) input)) ≤ length input
parts-few input true e = let none : length (basic_part input) ≡ 0 = grind (arith, nat_tests) in omega arith
parts-few input false e =
    let k = suffix_len (λ c. not (c == delimiter)) input in
    omega (arith, length-take (length input - k - 1) input, length-drop (length input - k) input)

-- a decoded name has at most as many characters as its name has bytes
pub decode-few : (input : List ℕ) → IfSome (decode input) (λ r. length r ≤ length input)
unfolding decode
decode-few input =
    choose (λ r. length r ≤ length input) (list_all is_ascii (basic_part input)) (insert_all (length input) 128 0 72 (basic_part input) (extended_part input)) None
    (few (insert_all (length input) 128 0 72 (basic_part input) (extended_part input)) (length (basic_part input) + length (extended_part input)) (length input)
    (parts-few input (length (basic_part input) == 0) refl)
    (insert_all-few (length input) 128 0 72 (basic_part input) (extended_part input)))
    tt

-- a character has at most four bytes
encodes-few : (cs : List ℕ) → length (encodes cs) ≤ 4 * length cs
encodes-few [] = omega arith
encodes-few (c ∷ cs) = omega (arith, encodes-few cs, length-append (encode c) (encodes cs), length-encode c, (len_utf8_bounds c).1)

hyphen-length : (byte : ℕ) (rest more : List ℕ) (later here : Bool) → length more ≡ length rest
    → length (cond later (byte ∷ more) (cond here (45 ∷ rest) (byte ∷ rest))) ≡ suc (length rest)
hyphen-length byte rest more true here e = ap suc e
hyphen-length byte rest more false true e = refl
hyphen-length byte rest more false false e = refl

pub hyphenated-length : (bytes : List ℕ) → length (hyphenated bytes) ≡ length bytes
unfolding hyphenated
hyphenated-length [] = refl
hyphenated-length (byte ∷ rest) = hyphen-length byte rest (hyphenated rest) (has_underscore rest) (byte == 95) (hyphenated-length rest)

-- the text of n characters has at most 4 n bytes
short : (o : Option (List ℕ)) (n : ℕ) (t : List ℕ) → IfSome o (λ cs. length cs ≤ n) → option_and_then identifier_text o ≡ Some t → length t ≤ 4 * n
short None n t h e = cc
short (Some cs) n t h e = pick (list_all is_xid_continue cs) e
  where
    pick : (b : Bool) → cond b (Some (encodes cs)) None ≡ Some t → length t ≤ 4 * n
    pick true e = let same : encodes cs ≡ t = cc in omega (arith, encodes-few cs, ap length same)
    pick false e = cc

pub decoded_name-short : (bytes t : List ℕ) → decoded_name bytes ≡ Some t → length t ≤ 4 * length bytes
decoded_name-short bytes t e = pick (nat_le (length bytes) 2000) e
  where
    pick : (b : Bool) → cond b (option_and_then identifier_text (decode (hyphenated bytes))) None ≡ Some t → length t ≤ 4 * length bytes
    pick true e = omega (arith, short (decode (hyphenated bytes)) (length (hyphenated bytes)) t (decode-few (hyphenated bytes)) e, hyphenated-length bytes)
    pick false e = cc
