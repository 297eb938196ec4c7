-- Leaves that were read: the bytes that productions take, tokens, and numbers, which can be spelled.
use Rattle.cpp_press_laws.proofs.Basics.{◌≡◌, ℕ, ◌<◌, length, List, [], ◌∷◌, Bool, true, false, cond, not, ◌&&◌, ◌||◌, nat_eq, None, Some, refl, ap, arith, sym, ◌∙◌, false≢true, eqb-true, nat_tests, NumberKind, Decimal, Digits, AreDigits, AreDigitsOf, Number, Byte, Tree as Shape, branch, empty, token, fixed, Forest, grown, found, Kind, Production, alternatives, choose, pick, is_in, in_ranges, among, is_chain, byte_of, cpp, last_token, ok_same, IsSpellableDiscriminator, AreSpellableDigits, IsSpellableNumber}
use Rattle.cpp_grammar.specs.Values.{nothing_there, text, text_of, normal, is_zero, signed_digits}
use Rattle.cpp_press_laws.proofs.ByKind.Leaves.{LeafAs, leaf-same}

-- ## The bytes of productions

-- the byte that a production takes, if it takes one
pub own-byte : (p : Production) (taken : List ℕ) (byte : ℕ) → taken ≡ cond (is_chain p) [] (byte ∷ []) → is_chain p ≡ false
    → byte_of taken ≡ byte
unfolding byte_of
own-byte p taken byte takes is = ap byte_of (takes ∙ ap (λ b. cond b [] (byte ∷ [])) is)

-- a kind with one production, at one byte, is read only at that byte
pub only-at : (kind : Kind) (p : Production) (c : ℕ) → alternatives kind ≡ record { ranges = []; singles = c ∷ []; production = p } ∷ []
    → (byte : ℕ) → choose kind byte ≡ Some p → byte ≡ c
unfolding choose pick is_in in_ranges among
only-at kind p c are byte chosen = go (nat_eq byte c) refl (ap (λ all. pick all byte) (sym are) ∙ chosen)
  where
    go : (b : Bool) → nat_eq byte c ≡ b → cond (b || false) (Some p) None ≡ Some p → byte ≡ c
    go true is h = eqb-true byte c is
    go false is h = absurd cc

-- ## Tokens and fixed bytes

-- a fixed byte is read as nothing
pub byte-read : (byte : ℕ) (t : Shape) → LeafAs (Byte byte) (λ v. v ≡ nothing_there) t
unfolding cpp
byte-read byte (fixed b) around at state after v is e =
    leaf-same (λ w. w ≡ nothing_there) v nothing_there state after
    (sym (ok_same (found (nothing_there ∷ []) state) (found (v ∷ []) after) e)) refl
byte-read byte (token t) around at state after v is e = absurd is
byte-read byte (branch rule taken parts) around at state after v is e = absurd is
byte-read byte empty around at state after v is e = absurd is

-- a number is read as its digits, without what ends them
pub number-read : (kind : NumberKind) (t : Shape) → LeafAs (Number kind) (λ v. (v ≡ text (text_of v)) × AreDigitsOf kind (text_of v)) t
unfolding cpp text_of
number-read kind (token t) around at state after v is e =
    leaf-same (λ w. (w ≡ text (text_of w)) × AreDigitsOf kind (text_of w)) v (text t.own) state after
    (sym (ok_same (found (text t.own ∷ []) state) (found (v ∷ []) after) e)) (refl, is.digits)
number-read kind (branch rule taken parts) around at state after v is e = absurd is
number-read kind empty around at state after v is e = absurd is
number-read kind (fixed b) around at state after v is e = absurd is

-- ## Numbers

-- digits without zeros in front
record IsNormal (kind : NumberKind) (digits normal_digits : List ℕ) : Type 0 where
  pub are : AreDigits kind normal_digits
  pub same : normal normal_digits ≡ normal_digits
  pub some : 0 < length digits → 0 < length normal_digits

normal-of : (kind : NumberKind) (digits : List ℕ) → AreDigits kind digits → IsNormal kind digits (normal digits)
unfolding normal
normal-of kind [] are = record { are = are; same = refl; some = λ h. h }
normal-of kind (d ∷ []) are = record { are = are; same = refl; some = λ h. h }
normal-of kind (d ∷ e ∷ ds) are = go (nat_eq d 48) refl (normal-of kind (e ∷ ds) are.1)
  where
    go : (b : Bool) → nat_eq d 48 ≡ b → IsNormal kind (e ∷ ds) (normal (e ∷ ds))
        → IsNormal kind (d ∷ e ∷ ds) (elim b as (λ _. List ℕ) [ true ↦ normal (e ∷ ds) | false ↦ d ∷ e ∷ ds ])
    go true is more = record { are = more.are; same = more.same; some = λ h. more.some (omega arith) }
    go false is more = record {
      are = are;
      same = ap (λ c. elim c as (λ _. List ℕ) [ true ↦ normal (e ∷ ds) | false ↦ d ∷ e ∷ ds ]) is;
      some = λ h. h;
    }

pub normal-digits : (digits : List ℕ) → AreDigitsOf Digits digits → AreSpellableDigits Digits (normal digits)
normal-digits digits are =
    let n = normal-of Digits digits are.0 in
    record { are = (n.are, n.some are.1); normal_are = n.same }

pub normal-decimal : (digits : List ℕ) → AreDigitsOf Decimal digits → AreSpellableDigits Decimal (normal digits)
normal-decimal digits are =
    let n = normal-of Decimal digits are.0 in
    record { are = (n.are, tt); normal_are = n.same }

not-both : (a b : Bool) → a && not b ≡ true → b ≡ false
not-both a false h = refl
not-both true true h = absurd (false≢true h)
not-both false true h = absurd (false≢true h)

pub signed-spellable : (negative : Bool) (digits : List ℕ) → AreDigitsOf Digits digits → IsSpellableNumber (signed_digits negative digits)
unfolding signed_digits
signed-spellable negative digits are = record {
  digits = normal-digits digits are;
  minus = λ h. not-both negative (is_zero (normal digits)) h;
}

-- ## Discriminators

-- a lone digit chooses the discriminator of one digit
digit-chosen : (d : ℕ) → AreDigits Digits (d ∷ []) → (d < 256) × (choose Kind.DiscriminatorRest d ≡ Some Production.OneDigit)
unfolding choose alternatives pick is_in in_ranges among
digit-chosen d are = (grind (arith, nat_tests), grind (arith, nat_tests))

pub spellable-discriminator : (digits : List ℕ) → AreSpellableDigits Digits digits → IsSpellableDiscriminator (Some digits)
spellable-discriminator [] good = good
spellable-discriminator (d ∷ []) good = digit-chosen d good.are.0
spellable-discriminator (d ∷ e ∷ ds) good = good

-- ## Digits

-- the digits of the last token don't depend on the parts before it
pub digits-behind : (t : Shape) (f : Forest) (own : List ℕ) → ((digits : List ℕ) → last_token f digits ≡ own) → (digits : List ℕ)
    → last_token (grown t f) digits ≡ own
unfolding last_token
digits-behind (token t) f own last digits = last t.own
digits-behind (branch rule taken parts) f own last digits = last digits
digits-behind empty f own last digits = last digits
digits-behind (fixed b) f own last digits = last digits
