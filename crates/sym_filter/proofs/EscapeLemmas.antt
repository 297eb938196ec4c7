-- The bytes that were read of an escape decide which bytes may follow.
use Rattle.sym_filter.proofs.Basics.{◌≡◌, ℕ, ◌≤◌, Bool, true, false, cond, eqb, leb, ◌&&◌, ◌||◌, List, [], ◌∷◌, ◌++◌, refl, sym, ap, ap₂, ◌∙◌, append_assoc, arith, codes, and-true, and_parts, cond-true, cond-false, eqb-true, leb-true, lt-leb, Within, Escape, Outside, Backslash, Octal, Octal3, Hex, Hex0, Hex00, Hex001, Three, Two, One, Esc, Sequence, are_digits, ends_sequence, first_segment, follows_backslash, follows_esc, follows_hex, follows_octal, is_blank_name, is_esc_digit, is_escape, is_hex_digit, is_lead, is_letter, is_parameter, later_segments, segments_of, since_lead, cuts_after, ends_with, escape_after, goes_on_after, only, segment_from, segments_after}

-- the bytes that may follow what was read of an escape
abbrev remains : Escape → List ℕ → Bool
remains Outside bytes = false
remains Backslash bytes = follows_backslash bytes
remains Octal bytes = follows_octal (codes "33") bytes
remains Octal3 bytes = follows_octal (codes "3") bytes
remains Hex bytes = follows_hex (codes "001b") bytes
remains Hex0 bytes = follows_hex (codes "01b") bytes
remains Hex00 bytes = follows_hex (codes "1b") bytes
remains Hex001 bytes = follows_hex (codes "b") bytes
remains Three bytes = are_digits (codes "01b") bytes
remains Two bytes = are_digits (codes "1b") bytes
remains One bytes = are_digits (codes "b") bytes
remains Esc bytes = follows_esc bytes
remains Sequence bytes = ends_sequence bytes

-- ## A byte that ends an escape

and-false : (b : Bool) → (b && false) ≡ false
and-false true = refl
and-false false = refl

none-ends : (a b : Bool) → cond a false (b && false) ≡ false
none-ends true b = refl
none-ends false b = and-false b

named-ends : (a b c d e : Bool) → cond a true (cond b false (cond c false (cond d false (e && false)))) ≡ a
named-ends true b c d e = refl
named-ends false true c d e = refl
named-ends false false true d e = refl
named-ends false false false true e = refl
named-ends false false false false e = and-false e

digit-ends : (a h : Bool) → (a ≡ true → h ≡ true) → cond a true (h && true) ≡ h
digit-ends true h same = sym (same refl)
digit-ends false h same = and-true h

letter-ends : (p l : Bool) → (p ≡ true → l ≡ false) → cond p false (l && true) ≡ l
letter-ends true l other = sym (other refl)
letter-ends false l other = and-true l

last-digit : (byte : ℕ) (a b : Bool) → eqb byte 98 ≡ a → eqb byte 66 ≡ b → (a || b) ≡ true → is_hex_digit byte ≡ true
last-digit byte true b e f h = ap is_hex_digit (eqb-true byte 98 e)
last-digit byte false true e f h = ap is_hex_digit (eqb-true byte 66 f)
last-digit byte false false e f h = cc

parameter-other : (byte : ℕ) → is_parameter byte ≡ true → is_letter byte ≡ false
parameter-other byte h =
    let high : byte ≤ 59 = leb-true byte 59 (and_parts (leb 48 byte) (leb byte 59) h).1 in
    ap₂ (λ (a b : Bool). (a && leb byte 90) || (b && leb byte 122)) (lt-leb 65 byte (omega (arith, high))) (lt-leb 97 byte (omega (arith, high)))

ends-is : (escape : Escape) (byte : ℕ) → remains escape (byte ∷ []) ≡ ends_with escape byte
ends-is Outside byte = refl
ends-is Backslash byte = named-ends (is_blank_name byte) (eqb byte 117) (eqb byte 120) (eqb byte 48) (eqb byte 101)
ends-is Octal byte = and-false (eqb byte 51)
ends-is Octal3 byte = and-false (eqb byte 51)
ends-is Hex byte = none-ends (is_esc_digit 48 byte) (is_hex_digit byte)
ends-is Hex0 byte = none-ends (is_esc_digit 48 byte) (is_hex_digit byte)
ends-is Hex00 byte = none-ends (is_esc_digit 49 byte) (is_hex_digit byte)
ends-is Hex001 byte = digit-ends (is_esc_digit 98 byte) (is_hex_digit byte) (last-digit byte (eqb byte 98) (eqb byte 66) refl refl)
ends-is Three byte = and-false (is_hex_digit byte)
ends-is Two byte = and-false (is_hex_digit byte)
ends-is One byte = and-true (is_hex_digit byte)
ends-is Esc byte = and-false (eqb byte 91)
ends-is Sequence byte = letter-ends (is_parameter byte) (is_letter byte) (parameter-other byte)

-- ## A byte, and the bytes after it

only-goes : (b : Bool) (escape : Escape) (bytes : List ℕ) → (b && remains escape bytes) ≡ remains (only b escape) bytes
only-goes true escape bytes = refl
only-goes false escape bytes = refl

digit-goes : (a h : Bool) (esc other : Escape) (bytes : List ℕ) → cond a (remains esc bytes) (h && remains other bytes) ≡ remains (cond a esc (only h other)) bytes
digit-goes true h esc other bytes = refl
digit-goes false h esc other bytes = only-goes h other bytes

last-goes : (a h : Bool) (escape : Escape) (bytes : List ℕ) → cond a (remains escape bytes) (h && false) ≡ remains (only a escape) bytes
last-goes true h escape bytes = refl
last-goes false h escape bytes = and-false h

backslash-goes : (a b c d e : Bool) (bytes : List ℕ) → cond a false (cond b (remains Hex bytes) (cond c (remains Hex00 bytes) (cond d (remains Octal bytes) (e && remains Esc bytes))))
    ≡ remains (cond a Outside (cond b Hex (cond c Hex00 (cond d Octal (only e Esc))))) bytes
backslash-goes true b c d e bytes = refl
backslash-goes false true c d e bytes = refl
backslash-goes false false true d e bytes = refl
backslash-goes false false false true e bytes = refl
backslash-goes false false false false e bytes = only-goes e Esc bytes

goes-on : (escape : Escape) (byte next : ℕ) (more : List ℕ) → remains escape (byte ∷ next ∷ more) ≡ remains (goes_on_after escape byte) (next ∷ more)
goes-on Outside byte next more = refl
goes-on Backslash byte next more = backslash-goes (is_blank_name byte) (eqb byte 117) (eqb byte 120) (eqb byte 48) (eqb byte 101) (next ∷ more)
goes-on Octal byte next more = only-goes (eqb byte 51) Octal3 (next ∷ more)
goes-on Octal3 byte next more = only-goes (eqb byte 51) Esc (next ∷ more)
goes-on Hex byte next more = digit-goes (is_esc_digit 48 byte) (is_hex_digit byte) Hex0 Three (next ∷ more)
goes-on Hex0 byte next more = digit-goes (is_esc_digit 48 byte) (is_hex_digit byte) Hex00 Two (next ∷ more)
goes-on Hex00 byte next more = digit-goes (is_esc_digit 49 byte) (is_hex_digit byte) Hex001 One (next ∷ more)
goes-on Hex001 byte next more = last-goes (is_esc_digit 98 byte) (is_hex_digit byte) Esc (next ∷ more)
goes-on Three byte next more = only-goes (is_hex_digit byte) Two (next ∷ more)
goes-on Two byte next more = only-goes (is_hex_digit byte) One (next ∷ more)
goes-on One byte next more = and-false (is_hex_digit byte)
goes-on Esc byte next more = only-goes (eqb byte 91) Sequence (next ∷ more)
goes-on Sequence byte next more = last-goes (is_parameter byte) (is_letter byte) Sequence (next ∷ more)

-- ## Bytes from the last backslash or ESC on

-- these bytes are read as this much of an escape
abbrev IsReadOf : (since : List ℕ) → Escape → Type 0
IsReadOf since escape = (byte : ℕ) (more : List ℕ) → is_lead byte ≡ false → is_escape (since ++ byte ∷ more) ≡ remains escape (byte ∷ more)

no-lead : (a b x y : Bool) → (a || b) ≡ false → cond a x (b && y) ≡ false
no-lead true b x y h = cc
no-lead false true x y h = cc
no-lead false false x y h = refl

nothing-read : IsReadOf [] Outside
nothing-read byte more other = no-lead (eqb byte 92) (eqb byte 27) (follows_backslash more) (follows_esc more) other

read-more : (since : List ℕ) (escape : Escape) (byte : ℕ) (a b : Bool) → eqb byte 92 ≡ a → eqb byte 27 ≡ b → IsReadOf since escape
    → IsReadOf (cond (a || b) (byte ∷ []) (since ++ byte ∷ [])) (cond a Backslash (cond b Esc (goes_on_after escape byte)))
read-more since escape byte true b e f h = λ next more other. cond-true (eqb byte 92) (follows_backslash (next ∷ more)) _ e
read-more since escape byte false true e f h = λ next more other.
    cond-false (eqb byte 92) _ (eqb byte 27 && follows_esc (next ∷ more)) e ∙ ap (λ (t : Bool). t && follows_esc (next ∷ more)) f
read-more since escape byte false false e f h = λ next more other.
    ap is_escape (append_assoc since (byte ∷ []) (next ∷ more)) ∙ h byte (next ∷ more) (ap₂ (λ (a b : Bool). a || b) e f) ∙ goes-on escape byte next more

is-read : (since : List ℕ) (escape : Escape) (byte : ℕ) → IsReadOf since escape → IsReadOf (since_lead since byte) (escape_after escape byte)
is-read since escape byte h = read-more since escape byte (eqb byte 92) (eqb byte 27) refl refl h

no-backslash : (escape : Escape) → false ≡ ends_with escape 92
no-backslash Backslash = refl
no-backslash Hex001 = refl
no-backslash One = refl
no-backslash Sequence = refl
no-backslash other = refl

no-esc : (escape : Escape) → false ≡ ends_with escape 27
no-esc Backslash = refl
no-esc Hex001 = refl
no-esc One = refl
no-esc Sequence = refl
no-esc other = refl

read-ends : (since : List ℕ) (escape : Escape) (byte : ℕ) (a b : Bool) → eqb byte 92 ≡ a → eqb byte 27 ≡ b → IsReadOf since escape
    → is_escape (cond (a || b) (byte ∷ []) (since ++ byte ∷ [])) ≡ ends_with escape byte
read-ends since escape byte true b e f h =
    let is : byte ≡ 92 = eqb-true byte 92 e in
    ap (λ (n : ℕ). is_escape (n ∷ [])) is ∙ no-backslash escape ∙ ap (ends_with escape) (sym is)
read-ends since escape byte false true e f h =
    let is : byte ≡ 27 = eqb-true byte 27 f in
    ap (λ (n : ℕ). is_escape (n ∷ [])) is ∙ no-esc escape ∙ ap (ends_with escape) (sym is)
read-ends since escape byte false false e f h = h byte [] (ap₂ (λ (a b : Bool). a || b) e f) ∙ ends-is escape byte

is-end : (since : List ℕ) (escape : Escape) (byte : ℕ) → IsReadOf since escape → is_escape (since_lead since byte) ≡ cuts_after Within escape byte
is-end since escape byte h = read-ends since escape byte (eqb byte 92) (eqb byte 27) refl refl h

-- ## Segments

first-is : (since : List ℕ) (escape : Escape) (text : List ℕ) → IsReadOf since escape → first_segment since text ≡ segment_from Within escape text
first-is since escape [] h = refl
first-is since escape (byte ∷ text) h =
    ap₂ (λ (b : Bool) (t : List ℕ). byte ∷ cond b [] t) (is-end since escape byte h) (first-is (since_lead since byte) (escape_after escape byte) text (is-read since escape byte h))

later-are : (since : List ℕ) (escape : Escape) (text : List ℕ) → IsReadOf since escape → later_segments since text ≡ segments_after Within escape text
later-are since escape [] h = refl
later-are since escape (byte ∷ text) h =
    let read = is-read since escape byte h in
    let first = first-is (since_lead since byte) (escape_after escape byte) text read in
    let later = later-are (since_lead since byte) (escape_after escape byte) text read in
    ap₂ (λ (b : Bool) (t : List ℕ). cond b (t ∷ later_segments (since_lead since byte) text) (later_segments (since_lead since byte) text)) (is-end since escape byte h) first
    ∙ ap (λ (r : List (List ℕ)). cond (cuts_after Within escape byte) (segment_from Within (escape_after escape byte) text ∷ r) r) later

pub segments-are : (text : List ℕ) → segments_of text ≡ segment_from Within Outside text ∷ segments_after Within Outside text
segments-are text = ap₂ (λ (t : List ℕ) (r : List (List ℕ)). t ∷ r) (first-is [] Outside text nothing-read) (later-are [] Outside text nothing-read)
