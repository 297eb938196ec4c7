-- Texts and the bytes that they are written as.
use Rattle.rust_direct.proofs.Basics.{◌≡◌, refl, ap, sym, subst, ◌∙◌, ℕ, ◌+◌, ◌≤◌, ◌<◌, ◌^◌, ◌%◌, List, [], ◌∷◌, ◌++◌, Bool, true, false, arith, codes, append-nil, append_assoc, Option, Some, None, decimal, if◌then◌else◌, ◌==◌, false≢true, decimal_by_steps, Rust, is_name_byte, Unshared, done, text_of, ◌then◌, ◌also◌, ◌perhaps◌, visible, is_unmarked, IsUnmarked, IsSeenAs, more-unmarked, unmarked-append, is-no-mark, each-unmarked, test-unmarked, unmarked-hidden, unmarked-seen, hidden-append, seen-append, stretch-hidden, stretch-seen, basic_texts, text_at, basic_text, namespace_text, generic_parts, IsNameAt, IsSuffix, is_suffix_byte, IsWrittenAs, opening, closing, text_of_some, behind_colon, special_text}

-- ## Parts

pub then-text : (x : List ℕ) (rest : Unshared) → text_of (x then rest) ≡ x ++ text_of rest
then-text [] rest = refl
then-text (b ∷ bs) rest = refl

pub perhaps-text : (o : Option Unshared) (rest : Unshared) → text_of (o perhaps rest) ≡ text_of_some o ++ text_of rest
perhaps-text None rest = refl
perhaps-text (Some u) rest = refl

-- ## Texts

-- a text without marks is written as it is
pub written-plain : (brief : Bool) (bytes : List ℕ) → IsUnmarked bytes → IsWrittenAs brief bytes bytes
written-plain brief bytes plain =
    record { whole = λ is. refl; seen = λ is. unmarked-seen bytes plain; hidden = λ is. unmarked-hidden bytes plain }

-- one text after another
pub written-append : (brief : Bool) (x y xs ys : List ℕ) → IsWrittenAs brief x xs → IsWrittenAs brief y ys → IsWrittenAs brief (x ++ y) (xs ++ ys)
written-append brief x y xs ys p q = record {
  whole = λ is. ap (λ l. l ++ y) (p.whole is) ∙ ap (λ l. xs ++ l) (q.whole is);
  seen = λ is. seen-append xs ys x y (p.seen is) (q.seen is);
  hidden = λ is. hidden-append xs ys (p.hidden is) (q.hidden is);
}

-- a marked text after one without marks
pub written-after : (brief : Bool) (own y ys : List ℕ) → IsUnmarked own → IsWrittenAs brief y ys → IsWrittenAs brief (own ++ y) (own ++ ys)
written-after brief own y ys plain q = written-append brief own y own ys (written-plain brief own plain) q

-- a text without marks after a marked one
pub written-before : (brief : Bool) (x xs own : List ℕ) → IsUnmarked own → IsWrittenAs brief x xs → IsWrittenAs brief (x ++ own) (xs ++ own)
written-before brief x xs own plain p = written-append brief x own xs own p (written-plain brief own plain)

-- a written text and its bytes may be replaced by equal ones
pub written-as : (brief : Bool) (x y xs ys : List ℕ) → x ≡ y → xs ≡ ys → IsWrittenAs brief x xs → IsWrittenAs brief y ys
written-as brief x y xs ys e f p = subst (λ l. IsWrittenAs brief y l) f (subst (λ l. IsWrittenAs brief l xs) e p)

pub written-spelled : (brief : Bool) (text bytes : List ℕ) → text ≡ bytes → IsUnmarked bytes → IsWrittenAs brief text bytes
written-spelled brief text bytes e plain = subst (λ l. IsWrittenAs brief l bytes) (sym e) (written-plain brief bytes plain)

-- if arguments aren't shown, a text is the visible part of its written bytes
pub text-seen : (brief : Bool) (text bytes : List ℕ) → brief ≡ true → IsWrittenAs brief text bytes → text ≡ visible 0 bytes
unfolding visible
text-seen brief text bytes is p = sym (ap (visible 0) (sym (append-nil bytes)) ∙ p.seen is [] ∙ append-nil text)

-- ## Lists

-- one more element, after a separator
pub one-written : (brief : Bool) (separator own more : List ℕ) (u : Unshared) (o : Option Unshared) → IsUnmarked separator
    → IsWrittenAs brief (text_of u) own → IsWrittenAs brief (text_of_some o) more
    → IsWrittenAs brief (text_of (separator then u also o perhaps done)) (separator ++ (own ++ more))
one-written brief separator own more u o plain p q =
    subst (λ l. IsWrittenAs brief l (separator ++ (own ++ more)))
    (sym (then-text separator (u also o perhaps done)
    ∙ ap (λ l. separator ++ (text_of u ++ l)) (perhaps-text o done ∙ append-nil (text_of_some o))))
    (written-after brief separator (text_of u ++ text_of_some o) (own ++ more) plain (written-append brief (text_of u) (text_of_some o) own more p q))

-- one more element after those before it, as one text
pub after-others : (before separator own more : List ℕ) → before ++ (separator ++ (own ++ more)) ≡ (before ++ separator ++ own) ++ more
after-others before separator own more = sym (append_assoc (before ++ separator) own more ∙ append_assoc before separator (own ++ more))

-- ## Arguments of a path

generic-text : (value : Bool) (parent : Unshared) (o : Option Unshared) (bytes own : List ℕ) → text_of parent ≡ bytes → text_of_some o ≡ own
    → text_of parent ++ text_of (opening false value then o perhaps codes ">" then done) ≡ bytes ++ opening false value ++ own ++ codes ">"
generic-text value parent o bytes own e f =
    ap (λ l. text_of parent ++ l) (then-text (opening false value) (o perhaps codes ">" then done))
    ∙ ap (λ l. text_of parent ++ (opening false value ++ l)) (perhaps-text o (codes ">" then done))
    ∙ rw (e, f) (sym (append_assoc (bytes ++ opening false value) own (codes ">") ∙ append_assoc bytes (opening false value) (own ++ codes ">")))

generic-shown : (value : Bool) (parent : Unshared) (o : Option Unshared)
    → generic_parts true value parent o ≡ (parent also opening false value then o perhaps codes ">" then done)
generic-shown true parent o = refl
generic-shown false parent o = refl

-- arguments that are shown are in brackets
pub shown-arguments : (value : Bool) (parent : Unshared) (o : Option Unshared) (bytes own : List ℕ) → IsWrittenAs false (text_of parent) bytes
    → IsWrittenAs false (text_of_some o) own
    → IsWrittenAs false (text_of (generic_parts true value parent o)) (bytes ++ opening false value ++ own ++ closing false)
shown-arguments value parent o bytes own p q = record {
  whole = λ is. ap text_of (generic-shown value parent o) ∙ generic-text value parent o bytes own (p.whole refl) (q.whole refl);
  seen = λ is. absurd (false≢true is);
  hidden = λ is. absurd (false≢true is);
}

-- arguments that aren't shown are between marks
pub hidden-arguments : (value : Bool) (parent : Unshared) (o : Option Unshared) (bytes own : List ℕ) → IsWrittenAs true (text_of parent) bytes
    → IsWrittenAs true (text_of_some o) own
    → IsWrittenAs true (text_of (generic_parts false value parent o)) (bytes ++ opening true value ++ own ++ closing true)
hidden-arguments value parent o bytes own p q = record {
  whole = λ is. absurd (false≢true (sym is));
  seen = λ is. subst (λ l. IsSeenAs (bytes ++ opening true value ++ own ++ closing true) l) (sym (append-nil (text_of parent)))
      (stretch-seen bytes own (text_of parent) (p.seen refl) (q.hidden refl));
  hidden = λ is. stretch-hidden bytes own (p.hidden refl) (q.hidden refl);
}

-- ## Bytes that are no marks

-- a name has no marks
pub name-unmarked : (s : List ℕ) (at : ℕ) (name : List ℕ) (end : ℕ) → IsNameAt s at name end → IsUnmarked name
name-unmarked s at name end is =
    subst IsUnmarked is.own (each-unmarked (λ b. is_name_byte Rust b ≡ true) (test-unmarked (is_name_byte Rust) refl refl) is.token.own is.is_name.each)

-- a suffix has no marks
pub suffix-unmarked : (suffix : List ℕ) → IsSuffix suffix → IsUnmarked suffix
unfolding is_suffix_byte
suffix-unmarked [] is = absurd is
suffix-unmarked (d ∷ []) is = absurd is
suffix-unmarked (d ∷ b ∷ bs) is =
    subst (λ c. IsUnmarked (c ∷ b ∷ bs)) (sym is.0)
    (each-unmarked (λ c. is_suffix_byte c ≡ true) (test-unmarked is_suffix_byte refl refl) (b ∷ bs) is.1)

above-unmarked : (byte : ℕ) → 3 ≤ byte → IsUnmarked (byte ∷ [])
above-unmarked byte above = more-unmarked byte [] (is-no-mark byte (λ e. omega (arith, above, e)) (λ e. omega (arith, above, e))) refl

-- digits have no marks
pub decimal-unmarked : (n : ℕ) → n < 2 ^ 64 → IsUnmarked (decimal n)
decimal-unmarked =
    decimal_by_steps (λ m digits. IsUnmarked digits) (λ m few. above-unmarked (48 + m) (omega arith))
    (λ m digits few plain. unmarked-append digits ((48 + m % 10) ∷ []) plain (above-unmarked (48 + m % 10) (omega arith)))

-- the text of a namespace has no marks
pub namespace-unmarked : (letter : ℕ) → 65 ≤ letter → IsUnmarked (namespace_text letter)
unfolding namespace_text
namespace-unmarked letter above = go (letter == 67) (letter == 83)
  where
    go : (a b : Bool) → IsUnmarked (if a then codes "closure" else (if b then codes "shim" else letter ∷ []))
    go true b = refl
    go false true = refl
    go false false = above-unmarked letter (omega (arith, above))

-- the text after the parent of a closure or a shim has no marks
colon-unmarked : (name : List ℕ) → IsUnmarked name → IsUnmarked (behind_colon name)
colon-unmarked [] plain = refl
colon-unmarked (b ∷ bs) plain = unmarked-append (codes ":") (b ∷ bs) refl plain

pub special-unmarked : (namespace name : List ℕ) (count : ℕ) → IsUnmarked namespace → IsUnmarked name → count < 2 ^ 64
    → IsUnmarked (special_text namespace name count)
special-unmarked namespace name count one two few =
    let front = codes "::{" ++ namespace in
    let named = front ++ behind_colon name in
    unmarked-append (named ++ codes "#" ++ decimal count) (codes "}")
    (unmarked-append (named ++ codes "#") (decimal count)
    (unmarked-append named (codes "#")
    (unmarked-append front (behind_colon name) (unmarked-append (codes "::{") namespace refl one) (colon-unmarked name two)) refl)
    (decimal-unmarked count few)) refl

-- the text of a basic type has no marks
abbrev are_unmarked : List (ℕ × List ℕ) → Bool
are_unmarked [] = true
are_unmarked ((l, bytes) ∷ rest) = elim (is_unmarked bytes) [ true ↦ are_unmarked rest | false ↦ false ]

looked-up : (table : List (ℕ × List ℕ)) → are_unmarked table ≡ true → (letter : ℕ) → IsUnmarked (text_at table letter)
looked-up [] all letter = refl
looked-up ((l, bytes) ∷ rest) all letter = go (λ there. looked-up rest there letter) (is_unmarked bytes) refl all (l == letter)
  where
    go : (are_unmarked rest ≡ true → IsUnmarked (text_at rest letter)) → (b : Bool) → is_unmarked bytes ≡ b
        → elim b [ true ↦ are_unmarked rest | false ↦ false ] ≡ true → (same : Bool) → IsUnmarked (if same then bytes else text_at rest letter)
    go others false is there same = absurd (false≢true there)
    go others true is there true = is
    go others true is there false = others there

pub basic-unmarked : (letter : ℕ) → IsUnmarked (basic_text letter)
unfolding basic_text
basic-unmarked letter = looked-up basic_texts refl letter
