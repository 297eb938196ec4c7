-- Texts that begin with another text, or with a whole name.
use Rattle.gnu_texts.proofs.Basics.{◌≡◌, ◌≤◌, ◌<◌, ◌+◌, ◌-◌, ◌==◌, ℕ, Bool, true, false, true≢false, not, ◌&&◌, ◌||◌, if◌then◌else◌, None, List, [], ◌∷◌, ◌++◌, lit≤, length, take, drop, get_or, nat_eq, codes, refl, sym, ap, ap₂, ◌∙◌, arith, length-drop, length-append, append_assoc, take_all, starts_with, get_or_append_left, get_or_past, starts_is, Decides-eqb, is_letter, is_suffix, begins_whole, name_at, is_plain, is_spaced, operator_size, piece_at, sign_size}
use Rattle.gnu_texts.specs.declared.piece.Piece.TheVariants as pieces

-- the rest of a text, written as a slice
pub rest-all : (text : List ℕ) (n : ℕ) → take (length text - n) (drop n text) ≡ drop n text
rest-all text n = take_all (length text - n) (drop n text) (omega (arith, length-drop n text))

-- a text that begins with another is that one and the rest
pub front-is : (text p : List ℕ) → starts_with nat_eq text p ≡ true → text ≡ p ++ drop (length p) text
front-is text p h = (starts_is Decides-eqb text p (starts_with nat_eq text p) refl).0 h

pub begins : (text p rest : List ℕ) → text ≡ p ++ rest → starts_with nat_eq text p ≡ true
begins text p rest e = (starts_is Decides-eqb text p (starts_with nat_eq text p) refl).1 rest e

pub front-length : (text p : List ℕ) → starts_with nat_eq text p ≡ true → length p ≤ length text
front-length text p h = omega (arith, ap length (front-is text p h), length-append p (drop (length p) text))

-- a text begins with two others, one after the other
pub front-both : (text p q : List ℕ) → starts_with nat_eq text p ≡ true → starts_with nat_eq (drop (length p) text) q ≡ true → starts_with nat_eq text (p ++ q) ≡ true
front-both text p q one two =
    let rest : List ℕ = drop (length q) (drop (length p) text) in
    begins text (p ++ q) rest (front-is text p one ∙ ap (λ t. p ++ t) (front-is (drop (length p) text) q two) ∙ sym (append_assoc p q rest))

-- a name that is all of a text is a whole name
pub all-whole : (text name : List ℕ) → starts_with nat_eq text name ≡ true → length text ≡ length name → begins_whole text name ≡ true
unfolding begins_whole is_letter
all-whole text name starts all =
    ap₂ (λ a b. a && not (is_letter b)) starts (get_or_past text (length name) 0 (omega (arith, all)))

false-from : (b : Bool) → (b ≡ true → ⊥) → b ≡ false
false-from true f = absurd (f refl)
false-from false f = refl

-- a text whose first byte differs from that of a second text doesn't begin with the second
other-front : (byte : ℕ) (text p : List ℕ) → 0 < length p → (byte ≡ get_or p 0 0 → ⊥) → starts_with nat_eq (byte ∷ text) p ≡ false
other-front byte text p some other =
    false-from (starts_with nat_eq (byte ∷ text) p) (λ h.
    other (ap (λ t. get_or t 0 0) ((starts_is Decides-eqb (byte ∷ text) p (starts_with nat_eq (byte ∷ text) p) refl).0 h) ∙ get_or_append_left p (drop (length p) (byte ∷ text)) 0 0 some))

-- a plain byte begins no operator's name
pub no-operator : (last : ℕ) (text : List ℕ) → starts_with nat_eq text (codes "operator") ≡ false → operator_size last text ≡ 0
unfolding operator_size
no-operator last text starts = by (is_letter last) (starts_with nat_eq text (codes "operator")) (sign_size (drop 8 text) == 0) (8 + sign_size (drop 8 text)) starts
  where
    by : (letter begins none : Bool) (size : ℕ) → begins ≡ false → (if letter || not begins || none then 0 else size) ≡ 0
    by true begins none size is = refl
    by false false none size is = refl
    by false true none size is = cc

-- a plain byte begins no name of std
no-name : (last : ℕ) (text : List ℕ) → starts_with nat_eq text (codes "std::") ≡ false → name_at last text ≡ None
unfolding name_at
no-name last text starts = rw (starts) refl

-- a plain byte begins no suffix
no-suffix : (text : List ℕ) → starts_with nat_eq text (codes " (.") ≡ false → is_suffix text ≡ false
unfolding is_suffix
no-suffix text starts = rw (starts) refl

-- a plain byte is no bracket with a blank before it
not-spaced : (last : ℕ) (text : List ℕ) → starts_with nat_eq text (codes ">") ≡ false → starts_with nat_eq text (codes "[") ≡ false → is_spaced last text ≡ false
unfolding is_spaced
not-spaced last text closes opens = by (last == 62) (starts_with nat_eq text (codes ">")) (last == 41) (starts_with nat_eq text (codes "[")) closes opens
  where
    by : (a closes b opens : Bool) → closes ≡ false → opens ≡ false → (a && closes || b && opens) ≡ false
    by a true b opens is is' = cc
    by a false b true is is' = cc
    by true false true false is is' = refl
    by true false false false is is' = refl
    by false false true false is is' = refl
    by false false false false is is' = refl

pub plain-piece : (last byte : ℕ) (text : List ℕ) → is_plain byte ≡ true → piece_at last (byte ∷ text) ≡ pieces.Byte
unfolding piece_at is_plain
plain-piece last byte text plain =
    let no : (other : ℕ) → is_plain other ≡ false → byte ≡ other → ⊥ = λ other is same. true≢false (sym plain ∙ ap is_plain same ∙ is) in
    let whole = byte ∷ text in
    rw (
      no-operator last whole (other-front byte text (codes "operator") (lit≤ tt) (no 111 refl)),
      no-name last whole (other-front byte text (codes "std::") (lit≤ tt) (no 115 refl)),
      no-suffix whole (other-front byte text (codes " (.") (lit≤ tt) (no 32 refl)),
      not-spaced last whole (other-front byte text (codes ">") (lit≤ tt) (no 62 refl)) (other-front byte text (codes "[") (lit≤ tt) (no 91 refl)),
    ) refl

pub plain-first : (last : ℕ) (text : List ℕ) → 0 < length text → is_plain (get_or text 0 0) ≡ true → piece_at last text ≡ pieces.Byte
plain-first last [] some plain = absurd (omega (arith, some))
plain-first last (byte ∷ text) some plain = plain-piece last byte text plain

-- a suffix is a piece
pub suffix-piece : (last : ℕ) (text : List ℕ) → is_suffix text ≡ true → starts_with nat_eq text (codes "operator") ≡ false → starts_with nat_eq text (codes "std::") ≡ false
    → piece_at last text ≡ pieces.Suffix
unfolding piece_at
suffix-piece last text suffix operator name = rw (no-operator last text operator, no-name last text name, suffix) refl
