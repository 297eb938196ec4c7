-- A tree is spelled as the bytes before its parts, its parts, and the bytes after them.
use Rattle.rust_press.proofs.Basics.{◌≡◌, ℕ, zero, suc, ◌+◌, ◌-◌, ◌*◌, ◌/◌, ◌%◌, ◌<◌, ◌≤◌, ◌^◌, length, List, [], ◌∷◌, ◌++◌, Bool, true, false, refl, ap, arith, sym, ◌∙◌, append_assoc, append-nil, nat_lt, ◌==◌, if◌then◌else◌, get_or, digit_glyph, lt-ltb, ltb-true, eqb-true, Tree, Fields, one_if, hexadecimal, hexadecimal_before, ◌and◌, text, letter, nothing, digits_in, decimal_digit, digit62, digits_of, Component, Pressed, Pressing, number62, number16, separator, counted, mark_if, press_name, count_of, press_identifier, press_lifetime, some_lifetime, number_bytes, count_bytes, lifetime_bytes, mark_bytes, name_bytes, or_zero, integer_bytes, front, end, press_tree, parts_then, and-assoc-at, nothing-and-at}
use Rattle.rust_press.proofs.PressSteps.{and-same}

-- ## Rows of spellings

abbrev pub row : List Pressing → Pressing
row [] = nothing
row (f ∷ []) = f
row (f ∷ g ∷ gs) = f and row (g ∷ gs)

abbrev pub all : List Pressing → Pressing → Pressing
all [] rest = rest
all (f ∷ fs) rest = f and all fs rest

abbrev pub joined : List (List ℕ) → List ℕ
joined [] = []
joined (b ∷ []) = b
joined (b ∷ c ∷ cs) = b ++ joined (c ∷ cs)

row-all : (fs : List Pressing) (rest : Pressing) (p : ℕ) (cs : List Component) → (row fs and rest) p cs ≡ all fs rest p cs
row-all [] rest p cs = nothing-and-at rest p cs
row-all (f ∷ []) rest p cs = refl
row-all (f ∷ g ∷ gs) rest p cs = and-assoc-at f (row (g ∷ gs)) rest p cs ∙ and-same f _ _ (row-all (g ∷ gs) rest) p cs

all-append : (fs gs : List Pressing) (rest : Pressing) → all (fs ++ gs) rest ≡ all fs (all gs rest)
all-append [] gs rest = refl
all-append (f ∷ fs) gs rest = ap (λ h. f and h) (all-append fs gs rest)

all-same : (fs : List Pressing) (g h : Pressing) → ((p : ℕ) (cs : List Component) → g p cs ≡ h p cs) → (p : ℕ) (cs : List Component) → all fs g p cs ≡ all fs h p cs
all-same [] g h same p cs = same p cs
all-same (f ∷ fs) g h same p cs = and-same f _ _ (all-same fs g h same) p cs

abbrev pub IsText : Pressing → List ℕ → Type 0
IsText f b = (p : ℕ) (cs : List Component) → f p cs ≡ text b p cs

abbrev pub AreTexts : List Pressing → List (List ℕ) → Type 0
AreTexts [] [] = Unit {0}
AreTexts (f ∷ fs) (b ∷ bs) = IsText f b × AreTexts fs bs
AreTexts _ _ = ⊥

abbrev pub AreParts : List Pressing → List Tree → Type 0
AreParts [] [] = Unit {0}
AreParts (h ∷ hs) (t ∷ ts) = (h ≡ press_tree t) × AreParts hs ts
AreParts _ _ = ⊥

pub first-same : (f g h : Pressing) (p : ℕ) (cs : List Component) → f p cs ≡ g p cs → (f and h) p cs ≡ (g and h) p cs
first-same f g h p cs same = go (f p cs) (g p cs) same
  where
    go : (one other : Pressed) → one ≡ other
        → ◌≡◌ {A = Pressed} (record { bytes = one.bytes ++ (h (p + length one.bytes) one.components).bytes; components = (h (p + length one.bytes) one.components).components })
        (record { bytes = other.bytes ++ (h (p + length other.bytes) other.components).bytes; components = (h (p + length other.bytes) other.components).components })
    go one other same = rw same refl

pub text-text : (b c : List ℕ) (h : Pressing) (p : ℕ) (cs : List Component) → (text b and (text c and h)) p cs ≡ (text (b ++ c) and h) p cs
text-text b c h p cs = sym (and-assoc-at (text b) (text c) h p cs)

pub is-text : (f g : Pressing) (b c : List ℕ) → IsText f b → IsText g c → IsText (f and g) (b ++ c)
is-text f g b c one two p cs = first-same f (text b) g p cs (one p cs) ∙ and-same (text b) g (text c) two p cs

texts-all : (fs : List Pressing) (bs : List (List ℕ)) (h : Pressing) → AreTexts fs bs → (p : ℕ) (cs : List Component) → all fs h p cs ≡ (text (joined bs) and h) p cs
texts-all [] [] h are p cs = sym (nothing-and-at h p cs)
texts-all (f ∷ []) (b ∷ []) h are p cs = first-same f (text b) h p cs (are.0 p cs)
texts-all (f ∷ []) (b ∷ c ∷ cs) h are p ds = absurd are.1
texts-all (f ∷ g ∷ gs) (b ∷ []) h are p cs = absurd are.1
texts-all (f ∷ g ∷ gs) (b ∷ c ∷ cs) h are p ds =
    first-same f (text b) (all (g ∷ gs) h) p ds (are.0 p ds)
    ∙ and-same (text b) _ _ (texts-all (g ∷ gs) (c ∷ cs) h are.1) p ds
    ∙ text-text b (joined (c ∷ cs)) h p ds
texts-all [] (b ∷ bs) h are p cs = absurd are
texts-all (f ∷ fs) [] h are p cs = absurd are

parts-all : (hs : List Pressing) (ts : List Tree) (rest : Pressing) → AreParts hs ts → all hs rest ≡ parts_then ts rest
parts-all [] [] rest are = refl
parts-all (h ∷ hs) (t ∷ ts) rest are = rw (are.0, parts-all hs ts rest are.1) refl
parts-all [] (t ∷ ts) rest are = absurd are
parts-all (h ∷ hs) [] rest are = absurd are

pub parts-same : (ts : List Tree) (g h : Pressing) → ((p : ℕ) (cs : List Component) → g p cs ≡ h p cs) → (p : ℕ) (cs : List Component) → parts_then ts g p cs ≡ parts_then ts h p cs
parts-same [] g h same p cs = same p cs
parts-same (t ∷ ts) g h same p cs = and-same (press_tree t) _ _ (parts-same ts g h same) p cs

-- a tree's spelling by its fields, and what follows it: bytes, the parts, bytes, and `rest`
abbrev pub by_fields : Fields → Pressing → Pressing
by_fields given rest = text (front given) and parts_then given.parts (text (end given) and rest)

abbrev pub Spells : Fields → Pressing → Type 0
Spells given f = (rest : Pressing) (p : ℕ) (cs : List Component) → (f and rest) p cs ≡ by_fields given rest p cs

pub step : (given : Fields) (fs : List Pressing) (bs : List (List ℕ)) (hs : List Pressing) (es : List Pressing) (ds : List (List ℕ))
    → AreTexts fs bs → AreParts hs given.parts → AreTexts es ds → joined bs ≡ front given → joined ds ≡ end given → Spells given (row (fs ++ (hs ++ es)))
step given fs bs hs es ds texts parts ends before behind rest p cs =
    row-all (fs ++ (hs ++ es)) rest p cs
    ∙ ap (λ h. h p cs) (all-append fs (hs ++ es) rest ∙ ap (all fs) (all-append hs es rest))
    ∙ texts-all fs bs (all hs (all es rest)) texts p cs
    ∙ and-same (text (joined bs)) _ _ (all-same hs _ _ (texts-all es ds rest ends)) p cs
    ∙ ap (λ h. (text (joined bs) and h) p cs) (parts-all hs given.parts (text (joined ds) and rest) parts)
    ∙ rw (before, behind) refl

-- ## Numbers and names

not-zero : (n : ℕ) → (suc n == 0) ≡ false
not-zero n = go (suc n == 0) refl
  where
    go : (b : Bool) → (suc n == 0) ≡ b → b ≡ false
    go true is = absurd (omega (arith, eqb-true (suc n) 0 is))
    go false is = refl

ten-step : (k n : ℕ) → digits_in 10 decimal_digit k (n / 10) ≡ digits_in 10 digit62 k (n / 10) → digits_in 10 decimal_digit (suc k) n ≡ digits_in 10 digit62 (suc k) n
ten-step k n more = go (nat_lt n 10) refl
  where
    small : (d : ℕ) → nat_lt d 10 ≡ true → 48 + d ≡ digit62 d
    small d low = rw low refl

    go : (b : Bool) → nat_lt n 10 ≡ b
        → elim b as (λ _. List ℕ) [ true ↦ (48 + n) ∷ [] | false ↦ digits_in 10 decimal_digit k (n / 10) ++ (48 + n % 10) ∷ [] ]
        ≡ elim b as (λ _. List ℕ) [ true ↦ digit62 n ∷ [] | false ↦ digits_in 10 digit62 k (n / 10) ++ digit62 (n % 10) ∷ [] ]
    go true low = ap (λ d. d ∷ []) (small n low)
    go false low =
        ap (λ l. l ++ (48 + n % 10) ∷ []) more ∙ ap (λ d. digits_in 10 digit62 k (n / 10) ++ d ∷ []) (small (n % 10) (lt-ltb (n % 10) 10 (omega arith)))

digits-ten : (k n : ℕ) → digits_in 10 decimal_digit k n ≡ digits_in 10 digit62 k n
digits-ten zero n = refl
digits-ten (suc k) n = ten-step k n (digits-ten k (n / 10))

pub number-text : (n : ℕ) → IsText (number62 n) (number_bytes n)
unfolding number_bytes digits_of
number-text zero = λ p cs. refl
number-text (suc n) = λ p cs. let one : suc n - 1 ≡ n = omega arith in rw (not-zero n, one) refl

count-more : (byte n : ℕ) → count_bytes byte (suc n) ≡ byte ∷ number_bytes n
unfolding count_bytes
count-more byte n = let one : suc n - 1 ≡ n = omega arith in rw (not-zero n, one) refl

count-none : (byte : ℕ) → count_bytes byte zero ≡ []
unfolding count_bytes
count-none byte = refl

pub count-text : (byte n : ℕ) → IsText (count_of byte n) (count_bytes byte n)
count-text byte zero = λ p cs. ap (λ b. text b p cs) (sym (count-none byte))
count-text byte (suc n) = λ p cs.
    is-text (letter byte) (number62 n) (byte ∷ []) (number_bytes n) (λ q ds. refl) (number-text n) p cs ∙ ap (λ b. text b p cs) (sym (count-more byte n))

pub lifetime-text : (n : ℕ) → IsText (press_lifetime n) (lifetime_bytes n)
unfolding lifetime_bytes
lifetime-text n = λ p cs. is-text (letter 76) (number62 n) (76 ∷ []) (number_bytes n) (λ q ds. refl) (number-text n) p cs

unfoldable pub some_bytes : ℕ → List ℕ
some_bytes n = if n == 0 then [] else lifetime_bytes n

some-more : (n : ℕ) → lifetime_bytes (suc n) ≡ some_bytes (suc n)
unfolding some_bytes
some-more n = rw (not-zero n) refl

pub some-lifetime-text : (n : ℕ) → IsText (some_lifetime n) (some_bytes n)
unfolding some_bytes
some-lifetime-text zero = λ p cs. refl
some-lifetime-text (suc n) = λ p cs. lifetime-text (suc n) p cs ∙ ap (λ b. text b p cs) (some-more n)

pub mark-text : (b : Bool) (byte : ℕ) → IsText (mark_if b byte) (mark_bytes (one_if b == 1) byte)
unfolding mark_bytes
mark-text true byte = λ p cs. refl
mark-text false byte = λ p cs. refl

punycode-text : (b : Bool) → IsText (mark_if b 117) (mark_bytes b 117)
unfolding mark_bytes
punycode-text true = λ p cs. refl
punycode-text false = λ p cs. refl

counted-text : (s : List ℕ) → IsText (counted s) (digits_of 10 (length s) ++ separator s ++ s)
unfolding digits_of
counted-text s = λ p cs. ap (λ l. text (l ++ separator s ++ s) p cs) (digits-ten 40 (length s))

pub name-text : (b : Bool) (s : List ℕ) → IsText (press_name (record { punycode = b; bytes = s })) (name_bytes b s)
unfolding name_bytes
name-text b s = λ p cs. is-text (mark_if b 117) (counted s) (mark_bytes b 117) (digits_of 10 (length s) ++ separator s ++ s) (punycode-text b) (counted-text s) p cs

pub identifier-text : (d : ℕ) (b : Bool) (s : List ℕ)
    → IsText (press_identifier (record { disambiguator = d; name = record { punycode = b; bytes = s } })) (count_bytes 115 d ++ name_bytes b s)
identifier-text zero b s = λ p cs. name-text b s p cs ∙ ap (λ l. text (l ++ name_bytes b s) p cs) (sym (count-none 115))
identifier-text (suc n) b s = λ p cs.
    is-text (letter 115) (number62 n and press_name (record { punycode = b; bytes = s })) (115 ∷ []) (number_bytes n ++ name_bytes b s) (λ q ds. refl)
    (is-text (number62 n) (press_name (record { punycode = b; bytes = s })) (number_bytes n) (name_bytes b s) (number-text n) (name-text b s)) p cs
    ∙ ap (λ l. text (l ++ name_bytes b s) p cs) (sym (count-more 115 n))

-- ## Hexadecimal digits

same-digit : (d : ℕ) → d < 16 → digit_glyph false d ≡ digit62 d
same-digit d low = go (nat_lt d 10) refl
  where
    go : (b : Bool) → nat_lt d 10 ≡ b → digit_glyph false d ≡ digit62 d
    go true is = rw is refl
    go false is = rw (is, lt-ltb d 36 (omega (arith, low))) refl

no-more : (m : ℕ) (later : List ℕ) → hexadecimal_before m 0 later ≡ later
unfolding hexadecimal_before
no-more zero later = refl
no-more (suc m) later = refl

one-more : (m n : ℕ) (later : List ℕ) → 0 < n → hexadecimal_before (suc m) n later ≡ hexadecimal_before m (n / 16) (digit_glyph false (n % 16) ∷ later)
unfolding hexadecimal_before
one-more m n later some = go (n == 0) refl
  where
    go : (b : Bool) → (n == 0) ≡ b
        → elim b as (λ _. List ℕ) [ true ↦ later | false ↦ hexadecimal_before m (n / 16) (digit_glyph false (n % 16) ∷ later) ] ≡ hexadecimal_before m (n / 16) (digit_glyph false (n % 16) ∷ later)
    go true is = absurd (omega (arith, some, eqb-true n 0 is))
    go false is = refl

sixteens : ℕ → ℕ
sixteens zero = 1
sixteens (suc k) = 16 * sixteens k

not-below : (a b : ℕ) → nat_lt a b ≡ false → b ≤ a
not-below a b h =
    let never : a < b → ⊥ = λ low. true-false (sym (lt-ltb a b low) ∙ h) in
    omega (arith, never)
  where
    true-false : true ≡ false → ⊥
    true-false bad = cc

digits-sixteen : (k m n : ℕ) (later : List ℕ) → 0 < n → n ≤ m → n < sixteens k → hexadecimal_before m n later ≡ digits_in 16 digit62 k n ++ later
unfolding sixteens
digits-sixteen zero m n later some fuel few = absurd (omega (arith, some, few))
digits-sixteen (suc k) zero n later some fuel few = absurd (omega (arith, some, fuel))
digits-sixteen (suc k) (suc m) n later some fuel few =
    one-more m n later some ∙ last-or-more k m n later some (λ big. digits-sixteen k m (n / 16) (digit_glyph false (n % 16) ∷ later) (omega (arith, big)) (omega (arith, fuel, some)) (omega (arith, few)))
  where
    last-or-more : (k m n : ℕ) (later : List ℕ) → 0 < n
        → (16 ≤ n → hexadecimal_before m (n / 16) (digit_glyph false (n % 16) ∷ later) ≡ digits_in 16 digit62 k (n / 16) ++ (digit_glyph false (n % 16) ∷ later))
        → hexadecimal_before m (n / 16) (digit_glyph false (n % 16) ∷ later) ≡ digits_in 16 digit62 (suc k) n ++ later
    last-or-more k m n later some more = go (nat_lt n 16) refl
      where
        go : (b : Bool) → nat_lt n 16 ≡ b → hexadecimal_before m (n / 16) (digit_glyph false (n % 16) ∷ later)
            ≡ (elim b as (λ _. List ℕ) [ true ↦ digit62 n ∷ [] | false ↦ digits_in 16 digit62 k (n / 16) ++ digit62 (n % 16) ∷ [] ]) ++ later
        go true is =
            let low : n < 16 = ltb-true n 16 is in
            let none : n / 16 ≡ 0 = omega (arith, low) in
            let all : n % 16 ≡ n = omega (arith, low) in
            rw (none, all, same-digit n low) (no-more m (digit62 n ∷ later))
        go false is =
            let big : 16 ≤ n = not-below n 16 is in
            more big ∙ rw (same-digit (n % 16) (omega arith)) (sym (append_assoc (digits_in 16 digit62 k (n / 16)) (digit62 (n % 16) ∷ []) later))

some-sixteens : (n : ℕ) → n < 2 ^ 64 → n < sixteens 40
unfolding sixteens
some-sixteens n low = omega (arith, low)

pub sixteen-text : (n : ℕ) → n < 2 ^ 64 → IsText (number16 n) (digits_of 16 n ++ 95 ∷ [])
unfolding digits_of hexadecimal
sixteen-text zero low = λ p cs. refl
sixteen-text (suc n) low = λ p cs.
    ap (λ l. text (l ++ 95 ∷ []) p cs) (digits-sixteen 40 (suc n) (suc n) [] (omega arith) (omega arith) (some-sixteens (suc n) low) ∙ append-nil (digits_in 16 digit62 40 (suc n)))

not-empty : (m n d : ℕ) (later : List ℕ) → or_zero (hexadecimal_before m n (d ∷ later)) ≡ hexadecimal_before m n (d ∷ later)
unfolding hexadecimal_before
not-empty zero n d later = refl
not-empty (suc m) n d later = go (n == 0) (not-empty m (n / 16) (digit_glyph false (n % 16)) (d ∷ later))
  where
    go : (b : Bool) → or_zero (hexadecimal_before m (n / 16) (digit_glyph false (n % 16) ∷ d ∷ later)) ≡ hexadecimal_before m (n / 16) (digit_glyph false (n % 16) ∷ d ∷ later)
        → or_zero (elim b as (λ _. List ℕ) [ true ↦ d ∷ later | false ↦ hexadecimal_before m (n / 16) (digit_glyph false (n % 16) ∷ d ∷ later) ])
        ≡ (elim b as (λ _. List ℕ) [ true ↦ d ∷ later | false ↦ hexadecimal_before m (n / 16) (digit_glyph false (n % 16) ∷ d ∷ later) ])
    go true more = refl
    go false more = more

digits-there : (n : ℕ) → or_zero (hexadecimal (suc n)) ≡ hexadecimal (suc n)
unfolding hexadecimal
digits-there n = ap or_zero (one-more n (suc n) [] (omega arith)) ∙ not-empty n (suc n / 16) (digit_glyph false (suc n % 16)) [] ∙ sym (one-more n (suc n) [] (omega arith))

pub integer-text : (n : ℕ) → IsText (number16 n) (integer_bytes (hexadecimal n))
unfolding integer_bytes hexadecimal hexadecimal_before
integer-text zero = λ p cs. refl
integer-text (suc n) = λ p cs. ap (λ l. text (l ++ 95 ∷ []) p cs) (sym (digits-there n))

-- ## Letters

pub letter-there : (ls : List ℕ) (p a b : ℕ) → p < length ls → get_or ls p a ≡ get_or ls p b
letter-there [] p a b low = absurd (omega (arith, low))
letter-there (l ∷ ls) zero a b low = refl
letter-there (l ∷ ls) (suc p) a b low = letter-there ls p a b (omega (arith, low))

pub letter-none : (ls : List ℕ) (p b : ℕ) → length ls ≤ p → b ≡ get_or ls p b
letter-none [] p b low = refl
letter-none (l ∷ ls) zero b low = absurd (omega (arith, low))
letter-none (l ∷ ls) (suc p) b low = letter-none ls p b (omega (arith, low))
