-- What is left of bytes with marks, and of bytes that have none.
use Rattle.std.proofs.Common.{◌≡◌, refl, ap, sym, subst, ◌∙◌, ℕ, suc, ◌+◌, ◌-◌, List, [], ◌∷◌, ◌++◌, Bool, true, false, ◌||◌, nat_eq, arith, append_assoc}
use Rattle.std.proofs.lemmas.Bool.{false≢true, eqb-true}
use Rattle.std.specs.List.{AllByRecursion}
use Rattle.sym_direct.specs.Marked.{opens, closes, visible, unless_within, is_mark, is_unmarked, IsUnmarked, IsHidden, IsSeenAs}
use Rattle.sym_direct.proofs.Marking.{visible-opened, visible-closed, visible-other}

-- ## Bytes that are no marks

pub first-unmarked : (byte : ℕ) (bytes : List ℕ) → IsUnmarked (byte ∷ bytes) → (is_mark byte ≡ false) × IsUnmarked bytes
first-unmarked byte bytes plain = go (is_mark byte) refl plain
  where
    go : (b : Bool) → is_mark byte ≡ b → elim b [ true ↦ false | false ↦ is_unmarked bytes ] ≡ true → (is_mark byte ≡ false) × IsUnmarked bytes
    go true is there = absurd (false≢true there)
    go false is there = (is, there)

pub rest-unmarked : (byte : ℕ) (bytes : List ℕ) → IsUnmarked (byte ∷ bytes) → IsUnmarked bytes
rest-unmarked byte bytes plain = (first-unmarked byte bytes plain).1

pub more-unmarked : (byte : ℕ) (bytes : List ℕ) → is_mark byte ≡ false → IsUnmarked bytes → IsUnmarked (byte ∷ bytes)
more-unmarked byte bytes is plain = subst (λ b. elim b [ true ↦ false | false ↦ is_unmarked bytes ] ≡ true) (sym is) plain

pub unmarked-append : (xs ys : List ℕ) → IsUnmarked xs → IsUnmarked ys → IsUnmarked (xs ++ ys)
unmarked-append [] ys plain more = more
unmarked-append (byte ∷ bytes) ys plain more =
    let parts = first-unmarked byte bytes plain in more-unmarked byte (bytes ++ ys) parts.0 (unmarked-append bytes ys parts.1 more)

pub is-no-mark : (byte : ℕ) → (byte ≡ opens → ⊥) → (byte ≡ closes → ⊥) → is_mark byte ≡ false
is-no-mark byte one two = go (nat_eq byte opens) refl (nat_eq byte closes) refl
  where
    go : (b : Bool) → nat_eq byte opens ≡ b → (c : Bool) → nat_eq byte closes ≡ c → (nat_eq byte opens || nat_eq byte closes) ≡ false
    go true is c other = absurd (one (eqb-true byte opens is))
    go false is true other = absurd (two (eqb-true byte closes other))
    go false is false other = rw (is, other) refl

pub each-unmarked : (P : ℕ → Type 0) → ((byte : ℕ) → P byte → is_mark byte ≡ false) → (bytes : List ℕ) → AllByRecursion P bytes → IsUnmarked bytes
each-unmarked P none [] each = refl
each-unmarked P none (byte ∷ bytes) each = more-unmarked byte bytes (none byte each.0) (each-unmarked P none bytes each.1)

-- a byte that passes a test is no mark, if neither mark passes the test
pub test-unmarked : (test : ℕ → Bool) → test opens ≡ false → test closes ≡ false → (byte : ℕ) → test byte ≡ true → is_mark byte ≡ false
test-unmarked test one two byte is =
    is-no-mark byte (λ e. false≢true (sym one ∙ ap test (sym e) ∙ is)) (λ e. false≢true (sym two ∙ ap test (sym e) ∙ is))

-- ## What is left

no-mark : (byte : ℕ) → is_mark byte ≡ false → (nat_eq byte opens ≡ false) × (nat_eq byte closes ≡ false)
no-mark byte is = go (nat_eq byte opens) refl is
  where
    go : (b : Bool) → nat_eq byte opens ≡ b → (b || nat_eq byte closes) ≡ false → (nat_eq byte opens ≡ false) × (nat_eq byte closes ≡ false)
    go true e f = absurd (false≢true (sym f))
    go false e f = (e, f)

visible-byte : (depth byte : ℕ) (bytes : List ℕ) → is_mark byte ≡ false → visible depth (byte ∷ bytes) ≡ unless_within depth byte (visible depth bytes)
visible-byte depth byte bytes is = let none = no-mark byte is in visible-other depth byte bytes none.0 none.1

-- in a stretch, bytes without marks are left out
pub unmarked-hidden : (bytes : List ℕ) → IsUnmarked bytes → IsHidden bytes
unfolding unless_within
unmarked-hidden [] plain depth rest = refl
unmarked-hidden (byte ∷ bytes) plain depth rest =
    let parts = first-unmarked byte bytes plain in
    visible-byte (suc depth) byte (bytes ++ rest) parts.0 ∙ unmarked-hidden bytes parts.1 depth rest

-- outside of all stretches, bytes without marks are kept
pub unmarked-seen : (bytes : List ℕ) → IsUnmarked bytes → IsSeenAs bytes bytes
unfolding unless_within
unmarked-seen [] plain rest = refl
unmarked-seen (byte ∷ bytes) plain rest =
    let parts = first-unmarked byte bytes plain in
    visible-byte 0 byte (bytes ++ rest) parts.0 ∙ ap (λ l. byte ∷ l) (unmarked-seen bytes parts.1 rest)

-- in a stretch, two texts one after the other are left out if each is
pub hidden-append : (xs ys : List ℕ) → IsHidden xs → IsHidden ys → IsHidden (xs ++ ys)
hidden-append xs ys one two depth rest = ap (visible (suc depth)) (append_assoc xs ys rest) ∙ one depth (ys ++ rest) ∙ two depth rest

pub seen-append : (xs ys shown more : List ℕ) → IsSeenAs xs shown → IsSeenAs ys more → IsSeenAs (xs ++ ys) (shown ++ more)
seen-append xs ys shown more one two rest =
    ap (visible 0) (append_assoc xs ys rest) ∙ one (ys ++ rest) ∙ ap (λ l. shown ++ l) (two rest) ∙ sym (append_assoc shown more (visible 0 rest))

-- Nothing is left of a stretch.
pub stretch-left : (bytes : List ℕ) → IsHidden bytes → (depth : ℕ) (rest : List ℕ)
    → visible depth (opens ∷ (bytes ++ closes ∷ rest)) ≡ visible depth rest
stretch-left bytes hidden depth rest =
    let one : depth + 1 ≡ suc depth = omega arith in
    let back : suc depth - 1 ≡ depth = omega arith in
    visible-opened depth opens (bytes ++ closes ∷ rest) refl
    ∙ ap (λ n. visible n (bytes ++ closes ∷ rest)) one
    ∙ hidden depth (closes ∷ rest)
    ∙ visible-closed (suc depth) closes rest refl refl
    ∙ ap (λ n. visible n rest) back

-- what is visible of bytes is also visible with a stretch after them
around : (bytes inner rest : List ℕ) → (bytes ++ (opens ∷ []) ++ inner ++ (closes ∷ [])) ++ rest ≡ bytes ++ (opens ∷ (inner ++ closes ∷ rest))
around bytes inner rest =
    append_assoc (bytes ++ (opens ∷ []) ++ inner) (closes ∷ []) rest
    ∙ append_assoc (bytes ++ (opens ∷ [])) inner (closes ∷ rest)
    ∙ append_assoc bytes (opens ∷ []) (inner ++ closes ∷ rest)

pub stretch-seen : (bytes inner shown : List ℕ) → IsSeenAs bytes shown → IsHidden inner → IsSeenAs (bytes ++ (opens ∷ []) ++ inner ++ (closes ∷ [])) shown
stretch-seen bytes inner shown seen hidden rest =
    ap (visible 0) (around bytes inner rest) ∙ seen (opens ∷ (inner ++ closes ∷ rest)) ∙ ap (λ l. shown ++ l) (stretch-left inner hidden 0 rest)

-- in a stretch, bytes and a stretch after them are left out
pub stretch-hidden : (bytes inner : List ℕ) → IsHidden bytes → IsHidden inner → IsHidden (bytes ++ (opens ∷ []) ++ inner ++ (closes ∷ []))
stretch-hidden bytes inner outer hidden depth rest =
    ap (visible (suc depth)) (around bytes inner rest) ∙ outer depth (opens ∷ (inner ++ closes ∷ rest)) ∙ stretch-left inner hidden (suc depth) rest
