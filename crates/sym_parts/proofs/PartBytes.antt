-- The parts of a text with the bytes that spell them: where they are in the text, and in the symbol.
use Rattle.sym_parts.proofs.Basics.{◌≡◌, inr, ℕ, zero, suc, ◌+◌, ◌≤◌, List, [], ◌∷◌, length, Bool, true, false, cond, refl, subst, arith, Option, Some, None, map, nat_le, nat_lt, slice_get, All, AllPairs, nat_tests, All-append, All-cons, All-head, All-map, All-nil, All-tail, All-weaker, AllPairs-cons, Marked, text_of, stretches_of, IsSlice, AreInOrder, ArePlaced, AreStretchesPlaced, start_of, end_of, Spelling, element_of, item_of, once, or_others, part_of, parts_spelled, span_of, unprinted, role_number, Part, Role, Item, Ordinal, Span, Spelled, Stretch}
use Rattle.sym_parts.specs.Within.{IsSpanWithin, IsSpelledWithin, IsUnprinted, IsWithin}
use Rattle.sym_parts.specs.declared.role.Role.TheVariants as role
use Rattle.sym_parts.proofs.Placing.{AllPairs-append, AllPairs-first, AllPairs-nil, AllPairs-tail, placed}
use Rattle.sym_parts.proofs.Spans.{unprinted_part}

-- ## Parts that aren't in the text

-- all parts have a property if all others have it, and so does the part that a test may have added
either : (P : Part → Type 0) → (b : Bool) (part : Part) (rest : List Part) → (b ≡ true → P part) → All P rest → All P (cond {A = List Part} b (part ∷ rest) rest)
either P true part rest is others = All-cons P part rest (is refl) others
either P false part rest is others = others

pub all-unprinted : (end : ℕ) (spans : List Spelled) → All (IsUnprinted end) (unprinted end spans)
unfolding unprinted
all-unprinted end [] = All-nil (IsUnprinted end)
all-unprinted end (first ∷ rest) =
    either (IsUnprinted end) (nat_le (role_number role.Hash) (role_number first.role)) (unprinted_part end first) (unprinted end rest)
    (λ test. record { start = refl; length = refl; role = grind (arith, nat_tests, test) }) (all-unprinted end rest)

-- ## Where parts are in the text

module _ {X Y : Type 0} (R : Y → Y → Type 0) (f : X → Y) where
  AllPairs-map : (xs : List X) → AllPairs (λ x y. R (f x) (f y)) xs → AllPairs R (map f xs)
  AllPairs-map [] pairs = AllPairs-nil R
  AllPairs-map (x ∷ xs) pairs =
      AllPairs-cons R (f x) (map f xs) (All-map (R (f x)) f xs (AllPairs-first (λ x y. R (f x) (f y)) x xs pairs))
      (AllPairs-map xs (AllPairs-tail (λ x y. R (f x) (f y)) x xs pairs))

module _ {X : Type 0} (P : X → Type 0) (R : X → X → Type 0) (related : (x y : X) → P x → P y → R x y) where
  -- a list of elements with a property is related pairwise, if each two such elements are related
  AllPairs-all : (xs : List X) → All P xs → AllPairs R xs
  AllPairs-all [] all = AllPairs-nil R
  AllPairs-all (x ∷ xs) all =
      AllPairs-cons R x xs (All-weaker P (R x) (λ y is. related x y (All-head P x xs all) is) xs (All-tail P x xs all)) (AllPairs-all xs (All-tail P x xs all))

abbrev IsInOrder : (earlier later : Part) → Type 0
IsInOrder earlier later = AreInOrder start_of end_of earlier later

-- each unprinted part is after any part of the text
before-unprinted : (n : ℕ) (x y : Part) → end_of x ≤ n → IsUnprinted n y → IsInOrder x y
before-unprinted n x y ends is = (omega (arith, ends, is.start), inr (omega (arith, ends, is.start)))

spelled-slices : (s : Spelling) (n : ℕ) (stretches : List Stretch) → AreStretchesPlaced n stretches → All (IsSlice 0 n) (map (part_of s) stretches)
unfolding part_of
spelled-slices s n stretches are = All-map (IsSlice 0 n) (part_of s) stretches are.slices

spelled-order : (s : Spelling) (n : ℕ) (stretches : List Stretch) → AreStretchesPlaced n stretches → AllPairs IsInOrder (map (part_of s) stretches)
unfolding part_of
spelled-order s n stretches are = AllPairs-map IsInOrder (part_of s) stretches are.order

unprinted-slices : (n : ℕ) (spans : List Spelled) → All (IsSlice 0 n) (unprinted n spans)
unprinted-slices n spans =
    All-weaker (IsUnprinted n) (IsSlice 0 n) (λ y is. (omega arith, omega (arith, is.start, is.length))) (unprinted n spans) (all-unprinted n spans)

placed-with : (s : Spelling) (n : ℕ) (stretches : List Stretch) → AreStretchesPlaced n stretches → ArePlaced n (parts_spelled s n stretches)
placed-with s n stretches are =
    let slices = spelled-slices s n stretches are in record {
      slices = All-append (IsSlice 0 n) (map (part_of s) stretches) (unprinted n s.spans) slices (unprinted-slices n s.spans);
      order =
          AllPairs-append IsInOrder (map (part_of s) stretches) (unprinted n s.spans) (spelled-order s n stretches are)
          (AllPairs-all (IsUnprinted n) IsInOrder (λ x y one other. before-unprinted n x y (omega (arith, one.start, one.length)) other) (unprinted n s.spans) (all-unprinted n s.spans))
          (All-weaker (IsSlice 0 n) (λ x. All (IsInOrder x) (unprinted n s.spans))
          (λ x slice. All-weaker (IsUnprinted n) (IsInOrder x) (λ y is. before-unprinted n x y slice.1 is) (unprinted n s.spans) (all-unprinted n s.spans))
          (map (part_of s) stretches) slices);
    }

pub parts-placed : (s : Spelling) (m : Marked) → ArePlaced (length (text_of m)) (parts_spelled s (length (text_of m)) (stretches_of m))
parts-placed s m = placed-with s (length (text_of m)) (stretches_of m) (placed m)

-- ## Where their bytes are in the symbol

module _ {X : Type 0} (P : X → Type 0) where
  -- an element that is found in a list has the property that all have
  found-all : (xs : List X) (n : ℕ) (x : X) → All P xs → slice_get xs n ≡ Some x → P x
  found-all [] n x all is = absurd (none is)
    where
      none : slice_get {X = X} [] n ≡ Some x → ⊥
      none same = cc (same)
  found-all (y ∷ ys) zero x all is = subst P (some y x is) (All-head P y ys all)
    where
      some : (a b : X) → Some a ≡ Some b → a ≡ b
      some a b same = cc (same)
  found-all (y ∷ ys) (suc n) x all is = found-all ys n x (All-tail P y ys all) is

module _ (n : ℕ) where
  or-within : (others : Span) (spans : List Span) (k : ℕ) → IsSpanWithin n others → All (IsSpanWithin n) spans → IsSpanWithin n (or_others others (slice_get spans k))
  unfolding or_others
  or-within others spans k outer all = by (slice_get spans k) refl
    where
      by : (o : Option Span) → slice_get spans k ≡ o → IsSpanWithin n (or_others others o)
      by None none = outer
      by (Some found) is = found-all (IsSpanWithin n) spans k found all is

  either-span : (b : Bool) (one other : Span) → IsSpanWithin n one → IsSpanWithin n other → IsSpanWithin n (cond {A = Span} b one other)
  either-span true one other first second = first
  either-span false one other first second = second

  once-within : (others : Span) (r : Role) (spans : List Spelled) → IsSpanWithin n others → All (λ spelled. IsSpanWithin n spelled.span) spans → IsSpanWithin n (once others r spans)
  unfolding once
  once-within others r [] outer all = outer
  once-within others r (first ∷ rest) outer all =
      either-span _ first.span (once others r rest) (All-head (λ spelled. IsSpanWithin n spelled.span) first rest all)
      (once-within others r rest outer (All-tail (λ spelled. IsSpanWithin n spelled.span) first rest all))

  element-within : (elements : List Span) (item : Item) (k : ℕ) → IsSpanWithin n item.span → All (IsSpanWithin n) elements → IsSpanWithin n (element_of elements item k)
  unfolding element_of
  element-within elements item zero own all = own
  element-within elements item (suc k) own all =
      either-span (nat_lt k item.count) (or_others item.span (slice_get elements (item.first + k))) item.span (or-within item.span elements (item.first + k) own all) own

  item-within : (others : Span) (elements : List Span) (items : List Item) (k e : ℕ) → IsSpanWithin n others → All (IsSpanWithin n) elements
      → All (λ item. IsSpanWithin n item.span) items → IsSpanWithin n (item_of others elements (slice_get items k) e)
  unfolding item_of
  item-within others elements items k e outer inner all = by (slice_get items k) refl
    where
      by : (o : Option Item) → slice_get items k ≡ o → IsSpanWithin n (item_of others elements o e)
      by None none = outer
      by (Some item) is = element-within elements item e (found-all (λ item. IsSpanWithin n item.span) items k item all is) inner

  span-within : (s : Spelling) (r : Role) (o : Ordinal) → IsWithin n s → IsSpanWithin n (span_of s r o)
  unfolding span_of
  span-within s role.Special o within = or-within s.others s.specials o.item within.others within.specials
  span-within s role.AbiTag o within = or-within s.others s.tags o.item within.others within.tags
  span-within s role.GenericArguments o within = or-within s.others s.argument_lists o.item within.others within.argument_lists
  span-within s role.GenericArgument o within = item-within s.others s.elements s.arguments o.item o.element within.others within.elements within.arguments
  span-within s role.Parameter o within = item-within s.others s.elements s.parameters o.item o.element within.others within.elements within.parameters
  span-within s r o within = once-within s.others r s.spans within.others within.spans

  spelled-within : (s : Spelling) → IsWithin n s → (stretches : List Stretch) → All (IsSpelledWithin n) (map (part_of s) stretches)
  unfolding part_of
  spelled-within s within [] = All-nil (IsSpelledWithin n)
  spelled-within s within (first ∷ rest) =
      All-cons (IsSpelledWithin n) (part_of s first) (map (part_of s) rest) (span-within s first.role first.ordinal within) (spelled-within s within rest)

  unprinted-within : (end : ℕ) (spans : List Spelled) → All (λ spelled. IsSpanWithin n spelled.span) spans → All (IsSpelledWithin n) (unprinted end spans)
  unfolding unprinted
  unprinted-within end [] all = All-nil (IsSpelledWithin n)
  unprinted-within end (first ∷ rest) all =
      either (IsSpelledWithin n) _ (unprinted_part end first) (unprinted end rest) (λ test. All-head (λ spelled. IsSpanWithin n spelled.span) first rest all)
      (unprinted-within end rest (All-tail (λ spelled. IsSpanWithin n spelled.span) first rest all))

pub parts-within : (symbol : ℕ) (s : Spelling) (length : ℕ) (stretches : List Stretch) → IsWithin symbol s → All (IsSpelledWithin symbol) (parts_spelled s length stretches)
parts-within symbol s length stretches within =
    All-append (IsSpelledWithin symbol) (map (part_of s) stretches) (unprinted length s.spans) (spelled-within symbol s within stretches) (unprinted-within symbol length s.spans within.spans)
