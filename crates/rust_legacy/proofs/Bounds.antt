-- How long texts are, and what they cost, by their bytes.
use Rattle.rust_legacy.proofs.Basics.{◌≡◌, ◌≤◌, ◌<◌, ℕ, zero, suc, ◌+◌, ◌-◌, ◌*◌, ◌&&◌, List, [], ◌∷◌, length, take, drop, Bool, true, false, cond, refl, ap, subst, arith, length-append, Option, Some, None, codes, unwrap_or, nat_eq, nat_le, nat_lt, encode_utf8_all, prefix_len, nat_tests, append-nil, length-drop, length-take-le, prefix_len-le-length, is_digit_of, value_of, Hex, begins_with, Token, either, escape_of, is_plain, is_shown, numbered, or_all, texts_in, texts_of, token_as, token_of}
use Rattle.std.specs.Char.{len_utf8}
use lib.Utf8.{encode}
use Rattle.std.proofs.lemmas.Str.{length-encode}
use Rattle.rust_legacy.proofs.Texts.{whole_cost, whole_text}

-- the first token of some bytes isn't empty, and its text is no longer than the token
pub record Fits (bytes : List ℕ) (token : Token) : Type 0 where
  pub some : 0 < token.size
  pub within : token.size ≤ length bytes
  pub text : length token.text ≤ token.size

len_few : (code : ℕ) → len_utf8 code ≤ 4
len_few code = by (nat_lt code 0x80) (nat_lt code 0x800) (nat_lt code 0x1_0000)
  where
    by : (a b c : Bool) → cond a 1 (cond b 2 (cond c 3 4)) ≤ 4
    by true b c = omega arith
    by false true c = omega arith
    by false false true = omega arith
    by false false false = omega arith

most_utf8 : (code : ℕ) → length (encode_utf8_all (code ∷ [])) ≤ 4
most_utf8 code = omega (arith, ap length (append-nil (encode code)), length-encode code, len_few code)

both : (a b : Bool) → (a && b) ≡ true → (a ≡ true) × (b ≡ true)
both true b h = (refl, h)
both false b h = absurd (cc (h))

pub front_length : (front bytes : List ℕ) → begins_with front bytes ≡ true → length front ≤ length bytes
front_length [] bytes is = omega arith
front_length (x ∷ front) [] is = absurd (cc (is))
front_length (x ∷ front) (b ∷ bytes) is = omega (arith, front_length front bytes (both (nat_eq x b) (begins_with front bytes) is).1)

either_fits : (test : Bool) (code size : ℕ) (other : Option Token) (bytes : List ℕ) (token : Token) → either test code size other ≡ Some token
    → 0 < size → (test ≡ true → size ≤ length bytes) → length (encode_utf8_all (code ∷ [])) ≤ size → (other ≡ Some token → Fits bytes token) → Fits bytes token
either_fits true code size other bytes token is some within text rest =
    subst (Fits bytes) (ap (λ o. unwrap_or o (token_as code size)) is) (record { some = some; within = within refl; text = text })
either_fits false code size other bytes token is some within text rest = rest is

given : (b : Bool) (found token : Token) → cond {A = Option Token} b (Some found) None ≡ Some token → (b ≡ true) × (found ≡ token)
given true found token is = (refl, ap (λ o. unwrap_or o found) is)
given false found token is = absurd (cc (is))

numbered_fits : (bytes : List ℕ) (token : Token) → numbered bytes ≡ Some token → Fits bytes token
numbered_fits bytes token is =
    let count = prefix_len (is_digit_of Hex) (drop 2 bytes) in
    let code = value_of Hex (take count (drop 2 bytes)) in
    let some = nat_lt 0 count in
    let few = nat_le count 6 in
    let closed = begins_with (codes "$") (drop (2 + count) bytes) in
    let all = given (some && few && closed && is_shown code) (token_as code (3 + count)) token is in
    let front = both (some && few && closed) (is_shown code) all.0 in
    let ends = both (some && few) closed front.0 in
    let positive : 0 < count = grind (arith, nat_tests, (both some few ends.0).0) in
    let long = front_length (codes "$") (drop (2 + count) bytes) ends.1 in
    let within : 3 + count ≤ length bytes = omega (arith, long, length-drop (2 + count) bytes) in
    subst (Fits bytes) all.1 (record { some = omega arith; within = within; text = omega (arith, most_utf8 code, positive) })

last_fits : (b : Bool) (bytes : List ℕ) (token : Token) → cond {A = Option Token} b (numbered bytes) None ≡ Some token → Fits bytes token
last_fits true bytes token is = numbered_fits bytes token is
last_fits false bytes token is = absurd (cc (is))

short_utf8 : length (encode_utf8_all (44 ∷ [])) ≤ 3
unfolding encode
short_utf8 = omega arith

escape_fits : (bytes : List ℕ) (token : Token) → escape_of bytes ≡ Some token → Fits bytes token
escape_fits bytes token is =
    either_fits (begins_with (codes "$SP$") bytes) 64 4 _ bytes token is (omega arith) (λ b. front_length (codes "$SP$") bytes b) (most_utf8 64) (λ is.
    either_fits (begins_with (codes "$BP$") bytes) 42 4 _ bytes token is (omega arith) (λ b. front_length (codes "$BP$") bytes b) (most_utf8 42) (λ is.
    either_fits (begins_with (codes "$RF$") bytes) 38 4 _ bytes token is (omega arith) (λ b. front_length (codes "$RF$") bytes b) (most_utf8 38) (λ is.
    either_fits (begins_with (codes "$LT$") bytes) 60 4 _ bytes token is (omega arith) (λ b. front_length (codes "$LT$") bytes b) (most_utf8 60) (λ is.
    either_fits (begins_with (codes "$GT$") bytes) 62 4 _ bytes token is (omega arith) (λ b. front_length (codes "$GT$") bytes b) (most_utf8 62) (λ is.
    either_fits (begins_with (codes "$LP$") bytes) 40 4 _ bytes token is (omega arith) (λ b. front_length (codes "$LP$") bytes b) (most_utf8 40) (λ is.
    either_fits (begins_with (codes "$RP$") bytes) 41 4 _ bytes token is (omega arith) (λ b. front_length (codes "$RP$") bytes b) (most_utf8 41) (λ is.
    either_fits (begins_with (codes "$C$") bytes) 44 3 _ bytes token is (omega arith) (λ b. front_length (codes "$C$") bytes b) short_utf8 (λ is.
    last_fits (begins_with (codes "$u") bytes) bytes token is))))))))

all_fits : (bytes : List ℕ) (found : Option Token) → 0 < length bytes → ((token : Token) → found ≡ Some token → Fits bytes token) → Fits bytes (or_all bytes found)
all_fits bytes None some each = record { some = some; within = omega arith; text = omega arith }
all_fits bytes (Some token) some each = each token refl

-- if the first byte is plain, the plain front has at least one byte
plain_some : (byte : ℕ) (rest : List ℕ) → begins_with (codes ".") (byte ∷ rest) ≡ false → begins_with (codes "$") (byte ∷ rest) ≡ false
    → 0 < prefix_len is_plain (byte ∷ rest)
plain_some byte rest dot dollar = by (is_plain byte) (grind (arith, nat_tests, dot, dollar))
  where
    by : (b : Bool) → b ≡ true → 0 < cond b (1 + prefix_len is_plain rest) 0
    by true e = omega arith
    by false e = absurd (cc (e))

abbrev dots_else : (two one escape : Bool) → List ℕ → Token
dots_else two one escape bytes =
    cond two (record { text = codes "::"; size = 2 }) (cond one (record { text = codes "."; size = 1 })
    (cond escape (or_all bytes (escape_of bytes)) (record { text = take (prefix_len is_plain bytes) bytes; size = prefix_len is_plain bytes })))

pub token_fits : (bytes : List ℕ) → 0 < length bytes → Fits bytes (token_of bytes)
token_fits [] some = absurd (omega (arith, some))
token_fits (byte ∷ rest) some = by (begins_with (codes "..") (byte ∷ rest)) (begins_with (codes ".") (byte ∷ rest)) (begins_with (codes "$") (byte ∷ rest)) refl refl refl
  where
    by : (two one escape : Bool) → begins_with (codes "..") (byte ∷ rest) ≡ two → begins_with (codes ".") (byte ∷ rest) ≡ one → begins_with (codes "$") (byte ∷ rest) ≡ escape
        → Fits (byte ∷ rest) (dots_else two one escape (byte ∷ rest))
    by true one escape a b c = record { some = omega arith; within = front_length (codes "..") (byte ∷ rest) a; text = omega arith }
    by false true escape a b c = record { some = omega arith; within = omega arith; text = omega arith }
    by false false true a b c = all_fits (byte ∷ rest) (escape_of (byte ∷ rest)) (omega arith) (λ token is. escape_fits (byte ∷ rest) token is)
    by false false false a b c = (
        let within = prefix_len-le-length is_plain (byte ∷ rest) in
        record { some = plain_some byte rest b c; within = within; text = omega (arith, length-take-le (prefix_len is_plain (byte ∷ rest)) (byte ∷ rest) within) })

-- the texts of all tokens have at most as many bytes as the tokens, and cost at most twice as much
texts_few : (most : ℕ) (bytes : List ℕ) → (length (whole_text (texts_in most bytes)) ≤ length bytes) × (whole_cost (texts_in most bytes) ≤ 2 * length bytes)
texts_few zero bytes = (omega arith, omega arith)
texts_few (suc most) [] = (omega arith, omega arith)
texts_few (suc most) (byte ∷ rest) =
    let token = token_of (byte ∷ rest) in
    let fits = token_fits (byte ∷ rest) (omega arith) in
    let k = token.size - 1 in
    let later = texts_few most (drop k rest) in (
      omega (arith, later.0, fits.some, fits.within, fits.text, length-drop k rest, length-append token.text (whole_text (texts_in most (drop k rest)))),
      omega (arith, later.1, fits.some, fits.within, fits.text, length-drop k rest),
    )

pub texts_of_few : (bytes : List ℕ) → (length (whole_text (texts_of bytes)) ≤ length bytes) × (whole_cost (texts_of bytes) ≤ 2 * length bytes)
texts_of_few bytes = texts_few (length bytes) bytes
