-- Inline namespaces of `std`, left out one name after the other.
use Rattle.std.proofs.Common.{◌≡◌, ◌<◌, ◌≤◌, ◌+◌, ◌-◌, ◌==◌, zero, suc, ℕ, Bool, true, false, true≢false, not, ◌&&◌, ◌||◌, List, [], ◌∷◌, ◌++◌, length, take, drop, get_or, nat_eq, nat_lt, bit_and, if◌then◌else◌, ltb-true, refl, sym, ap, ap₂, ◌∙◌, arith, ne_eqb, None, codes, add-zero, append_assoc, length-drop, drop-drop, eqb-true}
use Rattle.short_names.proofs.Basics.{starts_with, list_all, and_parts, take-add, Place, INLINES, INNERS, INNER_INLINES, INLINE_FIRSTS, INLINE_THIRDS, row_in, size_of, is_letter, is_name_byte, begins_std, is_std_at, begins_low, inlines_size, std_front, std_size, without_inlines, front as front_of, inner as inner_of, nested as nested_of, text_of}
use Rattle.std.proofs.lemmas.List.{drop_more, drop_all, take_all, take_at, append-nil}
use Rattle.short_names.proofs.FrontLemmas.{false-from, differs, front-is as front-text, front-byte, front-length, rest-all}
use Rattle.short_names.proofs.RowLemmas.{none-in, row-length}

-- ## How long they are

pub size-skipped : (rows : List Place) (name : List ℕ) (k : ℕ) → k ≤ length name → inlines_size rows k name ≡ k + inlines_size rows 0 (drop k name)
unfolding inlines_size
size-skipped rows [] zero h = omega arith
size-skipped rows [] (suc k) h = absurd (omega (arith, h))
size-skipped rows (byte ∷ name) zero h = omega arith
size-skipped rows (byte ∷ name) (suc k) h = omega (arith, size-skipped rows name k (omega (arith, h)))

one-more : (rows : List Place) (byte : ℕ) (name : List ℕ) (next : ℕ) → size_of (row_in rows (byte ∷ name)) ≡ suc next → inlines_size rows 0 (byte ∷ name) ≡ suc (inlines_size rows next name)
unfolding inlines_size
one-more rows byte name next is = rw (is, inlines_size) refl

-- the size of inline namespaces is that of the first and that of the others
pub size-behind : (rows : List Place) (name : List ℕ) (next : ℕ) → size_of (row_in rows name) ≡ next → inlines_size rows 0 name ≡ next + inlines_size rows 0 (drop next name)
size-behind rows name zero is = omega arith
size-behind rows [] (suc next) is = absurd (omega (arith, is, row-length rows []))
size-behind rows (byte ∷ name) (suc next) is =
    let short : next ≤ length name = omega (arith, is, row-length rows (byte ∷ name)) in
    omega (arith, one-more rows byte name next is, size-skipped rows name next short)

pub size-none : (rows : List Place) (name : List ℕ) → size_of (row_in rows name) ≡ 0 → inlines_size rows 0 name ≡ 0
unfolding inlines_size
size-none rows [] is = refl
size-none rows (byte ∷ name) is = rw (is, inlines_size) refl

pub size-other : (rows : List Place) (name : List ℕ) → list_all begins_low rows ≡ true → (get_or name 0 0 ≡ 95 → ⊥) → inlines_size rows 0 name ≡ 0
size-other rows name low other =
    size-none rows name (ap size_of (none-in (λ t. not (length t == 0) && get_or t 0 0 == 95) name
    (λ t is.
    let parts = and_parts (not (length t == 0)) (get_or t 0 0 == 95) is in
    differs name t 0 (some t parts.0) (λ same. other (same ∙ eqb-true (get_or t 0 0) 95 parts.1)))
    rows low))
  where
    some : (t : List ℕ) → not (length t == 0) ≡ true → 0 < length t
    some [] h = absurd (true≢false (sym h))
    some (b ∷ t) h = omega arith

-- ## Texts

-- the byte before a place belongs to a name
abbrev pub in_run : List ℕ → ℕ → Bool
in_run text at = not (at == 0) && is_name_byte (get_or text (at - 1) 0)

-- what is written from a place on
abbrev pub from_on : List ℕ → ℕ → List ℕ
from_on text at = without_inlines (in_run text at) 0 (drop at text)

abbrev pub piece : List ℕ → (from to : ℕ) → List ℕ
piece text from to = take (to - from) (drop from text)

pub piece-join : (text : List ℕ) (a b c : ℕ) → a ≤ b → b ≤ c → piece text a b ++ piece text b c ≡ piece text a c
piece-join text a b c ab bc =
    let on : a + (b - a) ≡ b = omega arith in
    let whole : (b - a) + (c - b) ≡ c - a = omega arith in
    ap (λ k. piece text a b ++ take (c - b) (drop k text)) (sym on)
    ∙ ap (λ t. piece text a b ++ take (c - b) t) (sym (drop-drop (b - a) a text))
    ∙ sym (take-add (b - a) (c - b) (drop a text))
    ∙ ap (λ k. take k (drop a text)) whole

std-at : (text : List ℕ) (at : ℕ) → is_std_at text at ≡ (begins_std (drop at text) && not (in_run text at))
std-at text at = ap (λ b. begins_std (drop at text) && b) (by (at == 0) (is_name_byte (get_or text (at - 1) 0)))
  where
    by : (z b : Bool) → (z || not b) ≡ not (not z && b)
    by true b = refl
    by false b = refl

step : (inside : Bool) (byte : ℕ) (text : List ℕ) → (begins_std (byte ∷ text) && not inside) ≡ false → without_inlines inside 0 (byte ∷ text) ≡ byte ∷ without_inlines (is_name_byte byte) 0 text
unfolding without_inlines
step true byte text h = refl
step false byte text h = rw (plain (begins_std (byte ∷ text)) h, without_inlines) refl
  where
    plain : (b : Bool) → (b && true) ≡ false → b ≡ false
    plain true h = h
    plain false h = refl

after-one : (text : List ℕ) (at : ℕ) → is_name_byte (get_or text at 0) ≡ in_run text (at + 1)
after-one text at =
    let on : at + 1 - 1 ≡ at = omega arith in
    ap (λ k. is_name_byte (get_or text k 0)) (sym on) ∙ ap (λ b. not b && is_name_byte (get_or text (at + 1 - 1) 0)) (sym (other at))
  where
    other : (at : ℕ) → (at + 1 == 0) ≡ false
    other at = ne_eqb (at + 1) 0 (λ none. absurd (omega (arith, none)))

-- bytes at which no name of std begins are written as they are
pub keeps : (text : List ℕ) (n at : ℕ) → at + n ≤ length text → ((k : ℕ) → at ≤ k → k < at + n → is_std_at text k ≡ false) → from_on text at ≡ take n (drop at text) ++ from_on text (at + n)
keeps text zero at room none = ap (from_on text) (sym (add-zero at))
keeps text (suc n) at room none =
    let here = drop_more text at 0 (omega (arith, room)) in
    let on : at + 1 + n ≡ at + suc n = omega arith in
    let no = ap (λ t. begins_std t && not (in_run text at)) (sym here) ∙ sym (std-at text at) ∙ none at (omega arith) (omega arith) in
    ap (without_inlines (in_run text at) 0) here
    ∙ step (in_run text at) (get_or text at 0) (drop (at + 1) text) no
    ∙ ap (λ b. get_or text at 0 ∷ without_inlines b 0 (drop (at + 1) text)) (after-one text at)
    ∙ ap (λ t. get_or text at 0 ∷ t) (keeps text n (at + 1) (omega (arith, room)) (λ k low high. none k (omega (arith, low)) (omega (arith, high))))
    ∙ ap (λ k. get_or text at 0 ∷ (take n (drop (at + 1) text) ++ from_on text k)) on
    ∙ ap (λ t. take (suc n) t ++ from_on text (at + suc n)) (sym here)

-- bytes that are passed over
skips : (text : List ℕ) (k at : ℕ) → at + k ≤ length text → without_inlines (in_run text at) k (drop at text) ≡ from_on text (at + k)
unfolding without_inlines
skips text zero at room = ap (from_on text) (sym (add-zero at))
skips text (suc k) at room =
    let here = drop_more text at 0 (omega (arith, room)) in
    let on : at + 1 + k ≡ at + suc k = omega arith in
    ap (without_inlines (in_run text at) (suc k)) here
    ∙ ap (λ b. without_inlines b k (drop (at + 1) text)) (after-one text at)
    ∙ skips text k (at + 1) (omega (arith, room))
    ∙ ap (from_on text) on

parts-of-std : (b r : Bool) → (b && not r) ≡ true → (b ≡ true) × (r ≡ false)
parts-of-std true true h = absurd (true≢false (sym h))
parts-of-std true false h = (refl, refl)
parts-of-std false r h = absurd (true≢false (sym h))

s-is : is_name_byte 115 ≡ true
unfolding is_name_byte is_letter
s-is = refl

opened : (byte : ℕ) (text : List ℕ) → begins_std (byte ∷ text) ≡ true → without_inlines false 0 (byte ∷ text) ≡ std_front (byte ∷ text) ++ without_inlines true (std_size (byte ∷ text) - 1) text
unfolding without_inlines
opened byte text is = rw (is, without_inlines) refl

-- what is written from a name of std on
behind-std : (text : List ℕ) (at size : ℕ) → is_std_at text at ≡ true → size ≡ std_size (drop at text) → 0 < size → at + size ≤ length text → from_on text at ≡ std_front (drop at text) ++ from_on text (at + size)
behind-std text at size is size-is some room =
    let p = parts-of-std (begins_std (drop at text)) (in_run text at) (sym (std-at text at) ∙ is) in
    let inside : at < length text = omega (arith, some, room) in
    let here = drop_more text at 0 inside in
    let begins = ap begins_std (sym here) ∙ p.0 in
    let first : get_or text at 0 ≡ 115 = front-byte (get_or text at 0 ∷ drop (at + 1) text) (codes "std::") 0 begins (omega arith) in
    let flag : true ≡ in_run text (at + 1) = sym s-is ∙ ap is_name_byte (sym first) ∙ after-one text at in
    let on : at + 1 + (size - 1) ≡ at + size = omega (arith, some) in
    ap (λ b. without_inlines b 0 (drop at text)) p.1
    ∙ ap (without_inlines false 0) here
    ∙ opened (get_or text at 0) (drop (at + 1) text) begins
    ∙ ap (λ t. std_front t ++ without_inlines true (std_size t - 1) (drop (at + 1) text)) (sym here)
    ∙ ap (λ n. std_front (drop at text) ++ without_inlines true (n - 1) (drop (at + 1) text)) (sym size-is)
    ∙ ap (λ b. std_front (drop at text) ++ without_inlines b (size - 1) (drop (at + 1) text)) flag
    ∙ ap (λ t. std_front (drop at text) ++ t) (skips text (size - 1) (at + 1) (omega (arith, some, room)))
    ∙ ap (λ k. std_front (drop at text) ++ from_on text k) on

-- ## Names with inline namespaces, and without

module _ (text : List ℕ) (run front inner nested : ℕ) (is : is_std_at text run ≡ true)
    (front-is : front ≡ front_of (drop (run + 5) text)) (inner-is : inner ≡ inner_of (drop (run + 5) text)) (nested-is : nested ≡ nested_of (drop (run + 5) text))
    (room : run + 5 + (front + inner + nested) ≤ length text) where
  behind-five : drop 5 (drop run text) ≡ drop (run + 5) text
  behind-five = drop-drop 5 run text

  size-is : 5 + (front + inner + nested) ≡ std_size (drop run text)
  size-is =
      let f = front-is ∙ ap front_of (sym behind-five) in
      let i = inner-is ∙ ap inner_of (sym behind-five) in
      let n = nested-is ∙ ap nested_of (sym behind-five) in
      ap (λ a. 5 + (a + inner + nested)) f ∙ ap (λ a. 5 + (front_of (drop 5 (drop run text)) + a + nested)) i
      ∙ ap (λ a. 5 + (front_of (drop 5 (drop run text)) + inner_of (drop 5 (drop run text)) + a)) n

  std-piece : codes "std::" ≡ piece text run (run + 5)
  std-piece =
      let p = parts-of-std (begins_std (drop run text)) (in_run text run) (sym (std-at text run) ∙ is) in
      let five : run + 5 - run ≡ 5 = omega arith in
      sym (ap (λ n. take n (drop run text)) five ∙ ap (take 5) (front-text (drop run text) (codes "std::") p.0) ∙ take_at (codes "std::") (drop 5 (drop run text)) 5 refl)

  inner-piece : take (inner_of (drop 5 (drop run text))) (drop (front_of (drop 5 (drop run text))) (drop 5 (drop run text))) ≡ piece text (run + 5 + front) (run + 5 + front + inner)
  inner-piece =
      let long : inner ≡ run + 5 + front + inner - (run + 5 + front) = omega arith in
      ap (λ t. take (inner_of t) (drop (front_of t) t)) behind-five
      ∙ ap (λ n. take n (drop (front_of (drop (run + 5) text)) (drop (run + 5) text))) (sym inner-is ∙ long)
      ∙ ap (λ n. take (run + 5 + front + inner - (run + 5 + front)) (drop n (drop (run + 5) text))) (sym front-is)
      ∙ ap (take (run + 5 + front + inner - (run + 5 + front))) (drop-drop front (run + 5) text)

  from-run : from_on text run ≡ piece text run (run + 5) ++ piece text (run + 5 + front) (run + 5 + front + inner) ++ from_on text (run + 5 + front + inner + nested)
  from-run =
      let on : run + (5 + (front + inner + nested)) ≡ run + 5 + front + inner + nested = omega arith in
      behind-std text run (5 + (front + inner + nested)) is size-is (omega arith) (omega (arith, room))
      ∙ ap₂ (λ a b. a ++ b ++ from_on text (run + (5 + (front + inner + nested)))) std-piece inner-piece
      ∙ ap (λ k. piece text run (run + 5) ++ piece text (run + 5 + front) (run + 5 + front + inner) ++ from_on text k) on

  module _ (copied at : ℕ) (low : copied ≤ at) (high : at ≤ run) (none : (k : ℕ) → at ≤ k → k < run → is_std_at text k ≡ false) where
    up-to-run : piece text copied at ++ from_on text at ≡ piece text copied run ++ from_on text run
    up-to-run =
        let on : at + (run - at) ≡ run = omega (arith, high) in
        ap (λ t. piece text copied at ++ t) (keeps text (run - at) at (omega (arith, high, room)) (λ k a b. none k a (omega (arith, b, high))))
        ∙ ap (λ k. piece text copied at ++ (piece text at run ++ from_on text k)) on
        ∙ sym (append_assoc (piece text copied at) (piece text at run) (from_on text run))
        ∙ ap (λ t. t ++ from_on text run) (piece-join text copied at run low high)

    to-name : piece text copied at ++ from_on text at ≡ piece text copied (run + 5) ++ (piece text (run + 5 + front) (run + 5 + front + inner) ++ from_on text (run + 5 + front + inner + nested))
    to-name =
        let rest = piece text (run + 5 + front) (run + 5 + front + inner) in
        let last = from_on text (run + 5 + front + inner + nested) in
        up-to-run
        ∙ ap (λ t. piece text copied run ++ t) (from-run ∙ append_assoc (piece text run (run + 5)) rest last)
        ∙ sym (append_assoc (piece text copied run) (piece text run (run + 5)) (rest ++ last))
        ∙ ap (λ t. t ++ (rest ++ last)) (piece-join text copied run (run + 5) (omega (arith, low, high)) (omega arith))

    -- what is written for a name with inline namespaces, after which nothing is copied yet
    pub some-left-out : (out first : List ℕ) → out ++ (piece text copied at ++ from_on text at) ≡ first
        → out ++ piece text copied (run + 5) ++ piece text (run + 5 + front) (run + 5 + front + inner)
        ++ (piece text (run + 5 + front + inner + nested) (run + 5 + front + inner + nested) ++ from_on text (run + 5 + front + inner + nested)) ≡ first
    some-left-out out first so_far =
        let next = run + 5 + front + inner + nested in
        let empty : next - next ≡ 0 = omega arith in
        let a = piece text copied (run + 5) in
        let b = piece text (run + 5 + front) (run + 5 + front + inner) in
        ap (λ n. out ++ a ++ b ++ (take n (drop next text) ++ from_on text next)) empty
        ∙ append_assoc (out ++ a) b (from_on text next) ∙ append_assoc out a (b ++ from_on text next)
        ∙ ap (λ t. out ++ t) (sym to-name) ∙ so_far

    -- what is written for a name without inline namespaces
    pub none-left-out : front + nested ≡ 0 → (out first : List ℕ) → out ++ (piece text copied at ++ from_on text at) ≡ first
        → out ++ (piece text copied (run + 5 + front + inner + nested) ++ from_on text (run + 5 + front + inner + nested)) ≡ first
    none-left-out nothing out first so_far =
        let next = run + 5 + front + inner + nested in
        let a = piece text copied (run + 5) in
        let name : run + 5 + front ≡ run + 5 = omega (arith, nothing) in
        let end : run + 5 + front + inner ≡ next = omega (arith, nothing) in
        let middle : piece text (run + 5 + front) (run + 5 + front + inner) ≡ piece text (run + 5) next = ap₂ (piece text) name end in
        ap (λ t. out ++ (t ++ from_on text next)) (sym (piece-join text copied (run + 5) next (omega (arith, low, high)) (omega arith)))
        ∙ ap (λ t. out ++ t) (append_assoc a (piece text (run + 5) next) (from_on text next))
        ∙ ap (λ t. out ++ (a ++ (t ++ from_on text next))) (sym middle)
        ∙ ap (λ t. out ++ t) (sym to-name) ∙ so_far

-- what is written once no name of std is left
pub all-copied : (text : List ℕ) (copied at : ℕ) → copied ≤ at → at ≤ length text → ((k : ℕ) → at ≤ k → is_std_at text k ≡ false)
    → (out first : List ℕ) → out ++ (piece text copied at ++ from_on text at) ≡ first → out ++ drop copied text ≡ first
unfolding without_inlines
all-copied text copied at low high none out first so_far =
    let n = length text in
    let on : at + (n - at) ≡ n = omega (arith, high) in
    let rest : from_on text at ≡ piece text at n =
    keeps text (n - at) at (omega (arith, high)) (λ k a b. none k a)
    ∙ ap (λ k. piece text at n ++ from_on text k) on
    ∙ ap (λ t. piece text at n ++ without_inlines (in_run text n) 0 t) (drop_all n text (omega arith))
    ∙ append-nil (piece text at n) in
    ap (λ t. out ++ t) (sym (take_all (n - copied) (drop copied text) (omega (arith, length-drop copied text))) ∙ sym (piece-join text copied at n low high) ∙ ap (λ t. piece text copied at ++ t) (sym rest))
    ∙ so_far

-- ## By the first byte of a name and the third

abbrev may_begin : List ℕ → Bool
may_begin t = not (bit_and (get_or INLINE_FIRSTS (get_or t 0 0) 0) (get_or INLINE_THIRDS (get_or t 2 0) 0) == 0)

marked_row : List ℕ → Bool
marked_row t = nat_lt 2 (length t) && may_begin t

inlines-marked : list_all (λ row. marked_row (text_of row)) INLINES ≡ true
unfolding text_of marked_row
inlines-marked = refl

inners-marked : list_all (λ row. marked_row (text_of row)) INNERS ≡ true
unfolding text_of marked_row
inners-marked = refl

-- if the first and the third byte of a name rule out a row at its front, the name begins with no row
unmarked : (name t : List ℕ) → may_begin name ≡ false → marked_row t ≡ true → starts_with nat_eq name t ≡ false
unfolding marked_row
unmarked name t other is =
    let parts = and_parts (nat_lt 2 (length t)) (may_begin t) is in
    let long = ltb-true 2 (length t) parts.0 in
    false-from (starts_with nat_eq name t) (λ begins.
    let first = front-byte name t 0 begins (omega (arith, long)) in
    let third = front-byte name t 2 begins long in
    let same = ap₂ (λ a b. not (bit_and (get_or INLINE_FIRSTS a 0) (get_or INLINE_THIRDS b 0) == 0)) first third in
    absurd (true≢false (sym parts.1 ∙ sym same ∙ other)))

short-row : (name t : List ℕ) → length name < 3 → marked_row t ≡ true → starts_with nat_eq name t ≡ false
unfolding marked_row
short-row name t short is =
    let long = ltb-true 2 (length t) (and_parts (nat_lt 2 (length t)) (may_begin t) is).0 in
    false-from (starts_with nat_eq name t) (λ begins. absurd (omega (arith, short, long, front-length name t begins)))

pub none-begin : (name : List ℕ) → may_begin name ≡ false → (row_in INLINES name ≡ None) × (row_in INNERS name ≡ None)
none-begin name other = (none-in marked_row name (λ t. unmarked name t other) INLINES inlines-marked, none-in marked_row name (λ t. unmarked name t other) INNERS inners-marked)

pub none-short : (name : List ℕ) → length name < 3 → (row_in INLINES name ≡ None) × (row_in INNERS name ≡ None)
none-short name short = (none-in marked_row name (λ t. short-row name t short) INLINES inlines-marked, none-in marked_row name (λ t. short-row name t short) INNERS inners-marked)

module _ (name : List ℕ) (none : (row_in INLINES name ≡ None) × (row_in INNERS name ≡ None)) where
  pub none-front : front_of name ≡ 0
  none-front = size-none INLINES name (ap size_of none.0)

  pub none-inner : inner_of name ≡ 0
  none-inner = ap (λ n. size_of (row_in INNERS (drop n name))) none-front ∙ ap size_of none.1

  pub none-nested : nested_of name ≡ 0
  none-nested = ap (λ n. if n == 0 then 0 else inlines_size INNER_INLINES 0 (drop (front_of name + inner_of name) name)) none-inner

-- ## The table

pub inlines-low : list_all begins_low INLINES ≡ true
unfolding text_of
inlines-low = refl

pub inner-inlines-low : list_all begins_low INNER_INLINES ≡ true
unfolding text_of
inner-inlines-low = refl

pub nested-none : (name : List ℕ) → inner_of name ≡ 0 → nested_of name ≡ 0
nested-none name none = ap (λ n. if n == 0 then 0 else inlines_size INNER_INLINES 0 (drop (front_of name + inner_of name) name)) none

pub nested-some : (name : List ℕ) → (inner_of name ≡ 0 → ⊥) → nested_of name ≡ inlines_size INNER_INLINES 0 (drop (front_of name + inner_of name) name)
nested-some name some = ap (λ b. if b then 0 else inlines_size INNER_INLINES 0 (drop (front_of name + inner_of name) name)) (ne_eqb (inner_of name) 0 some)

-- ## The parts of a name

pub size-end : (rows : List Place) (name : List ℕ) (size : ℕ) → length name ≤ size → inlines_size rows 0 (drop size name) ≡ 0
unfolding inlines_size
size-end rows name size past = ap (inlines_size rows 0) (drop_all size name past)

pub inner-same : (name : List ℕ) (f i : ℕ) → f ≡ inlines_size INLINES 0 name → i ≡ size_of (row_in INNERS (take (length name - f) (drop f name))) → i ≡ inner_of name
inner-same name f i front inner = inner ∙ ap (λ t. size_of (row_in INNERS t)) (rest-all name f) ∙ ap (λ n. size_of (row_in INNERS (drop n name))) front

pub nested-same : (name : List ℕ) (f i n : ℕ) → f ≡ inlines_size INLINES 0 name → i ≡ inner_of name → (i ≡ 0 → ⊥)
    → n ≡ inlines_size INNER_INLINES 0 (take (length name - (f + i)) (drop (f + i) name)) → n ≡ nested_of name
nested-same name f i n front inner some nested =
    nested
    ∙ ap (inlines_size INNER_INLINES 0) (rest-all name (f + i))
    ∙ ap₂ (λ a b. inlines_size INNER_INLINES 0 (drop (a + b) name)) front inner
    ∙ sym (nested-some name (λ none. some (inner ∙ none)))
