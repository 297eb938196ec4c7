-- Keys of nodes, and a map of keys after one more key.
use Rattle.cpp_press.proofs.Basics.{◌≡◌, ℕ, zero, suc, ◌+◌, ◌-◌, ◌<◌, ◌≤◌, length, take, slice_get, List, [], ◌∷◌, ◌++◌, get_or, Option, Some, None, Bool, true, false, refl, ap, arith, sym, subst, ◌∙◌, length-append, map, cond, All, eqb, lt-ltb, le-ltb, eqb-true, eq-eqb, fields_of, Term, ReadSymbol, whole_of, plain_at, Told, tree_told, same_tree, equal-tree, tree-itself, ComeNext, IsKey, IsKeyOf, IsPartNumber, both_at, key_cmp, part_number, AreBelow, TellApart, number_at, AreFirsts, AreKeys, IsLookUp, first-below, firsts-more, none-first, found_in, mark_of}
use Rattle.std.proofs.lemmas.List.{length-take, length-map, get_or_append_left, get_or-append-add, append_assoc}
use Rattle.cpp_tree.specs.Views.{IsSlotBelow}
use Rattle.cpp_press.proofs.Telling.{one_tree, three_parts}
use Rattle.std.specs.BTreeMap.{get}
use Rattle.std.specs.Ordering.{is_eq}
use Rattle.sym_core.specs.declared.Span.{Span}
use Rattle.cpp_press.specs.declared.numbering.Key.{Key}
use Rattle.sym_spell.proofs.Entering.{old-number}
use Rattle.sym_spell.specs.declared.firsts.Firsts.{Firsts}
use Rattle.sym_spell.proofs.Placed.{same-first}
use Rattle.sym_spell.proofs.Orders.{equal-is, first-tied, then-tied, number-tied, number-itself, list-tied, list-itself, same-look}

-- ## Four texts and three parts

pub four-texts : (f : Span → List ℕ) (d : Span) (spans : List Span) (given : List (List ℕ)) (a b c e : List ℕ) → length spans ≡ 4 → map f spans ≡ given
    → a ≡ f (get_or spans 0 d) → b ≡ f (get_or spans 1 d) → c ≡ f (get_or spans 2 d) → e ≡ f (get_or spans 3 d) → a ∷ b ∷ c ∷ e ∷ [] ≡ given
four-texts f d (x ∷ y ∷ z ∷ w ∷ []) given a b c e long is one two three four = rw (one, two, three, four) is
four-texts f d [] given a b c e long is one two three four = absurd (omega (arith, long))
four-texts f d (x ∷ []) given a b c e long is one two three four = absurd (omega (arith, long))
four-texts f d (x ∷ y ∷ []) given a b c e long is one two three four = absurd (omega (arith, long))
four-texts f d (x ∷ y ∷ z ∷ []) given a b c e long is one two three four = absurd (omega (arith, long))
four-texts f d (x ∷ y ∷ z ∷ w ∷ v ∷ more) given a b c e long is one two three four = absurd (omega (arith, long))

-- an option that is part k of a node, or `None` if the node has no part k, is item k of the node's parts
pub slot_is : (count : ℕ) (parts : List ℕ) (k d : ℕ) (o : Option ℕ) → k < length parts → (k < count → o ≡ Some (get_or parts k d)) → (count ≤ k → o ≡ None)
    → o ≡ slice_get (take count parts) k
slot_is count [] k d o low some none = absurd (omega (arith, low))
slot_is zero (x ∷ parts) k d o low some none = none (omega arith)
slot_is (suc count) (x ∷ parts) zero d o low some none = some (omega arith)
slot_is (suc count) (x ∷ parts) (suc k) d o low some none =
    slot_is count parts k d o (omega (arith, low)) (λ h. some (omega (arith, h))) (λ h. none (omega (arith, h)))

slot_below : (n : ℕ) (parts : List ℕ) (k : ℕ) → All (λ part. part < n) parts → IsSlotBelow n (slice_get parts k)
slot_below n [] k all = tt
slot_below n (p ∷ parts) zero all = all 0 0 (omega arith)
slot_below n (p ∷ parts) (suc k) all = slot_below n parts k (λ j d low. all (suc j) d (omega (arith, low)))

pub part_low : (n m : ℕ) (parts : List ℕ) (k : ℕ) (o : Option ℕ) → n ≡ m → All (λ part. part < m) parts → o ≡ slice_get parts k → IsSlotBelow n o
part_low n m parts k o same all is =
    subst (λ v. IsSlotBelow v o) (sym same) (subst (IsSlotBelow m) (sym is) (slot_below m parts k all))

part_is : (at : ℕ → Term) (ns parts : List ℕ) (k m : ℕ) → All (λ part. part < length ns) parts → m ≡ part_number ns (slice_get parts k)
    → IsPartNumber at ns (slice_get (map at parts) k) m
part_is at ns [] k m low is = is
part_is at ns (p ∷ parts) zero m low is = (p, low 0 0 (omega arith), refl, is)
part_is at ns (p ∷ parts) (suc k) m low is = part_is at ns parts k m (λ j d h. low (suc j) d (omega (arith, h))) is

-- the number of part k of a tree whose parts are the trees of these nodes
pub part_numbered : (at : ℕ → Term) (ns parts : List ℕ) (n k m : ℕ) (o : Option ℕ) (given : List Term) → length ns ≡ n → All (λ part. part < n) parts
    → map at parts ≡ given → o ≡ slice_get parts k → m ≡ part_number ns o → IsPartNumber at ns (slice_get given k) m
part_numbered at ns parts n k m o given same low are is number =
    subst (λ l. IsPartNumber at ns (slice_get l k) m) are
    (part_is at ns parts k m (subst (λ v. All (λ part. part < v) parts) (sym same) low) (number ∙ ap (part_number ns) is))

pub few_parts : (at : ℕ → Term) (count : ℕ) (parts : List ℕ) (given : List Term) → map at (take count parts) ≡ given → count ≤ 3 → length given ≤ 3
few_parts at count parts given are few =
    subst (λ l. length l ≤ 3) are (omega (arith, length-map (take count parts) at, length-take count parts, few))

-- ## Keys

-- two keys agree in each field, so that the map takes them for one key
pub record AreOne (a b : Key) : Type 0 where
  pub production : a.production ≡ b.production
  pub own_numbers : a.numbers ≡ b.numbers
  pub first_text : a.first_text.now ≡ b.first_text.now
  pub second_text : a.second_text.now ≡ b.second_text.now
  pub third_text : a.third_text.now ≡ b.third_text.now
  pub fourth_text : a.fourth_text.now ≡ b.fourth_text.now
  pub first_part : a.first_part ≡ b.first_part
  pub second_part : a.second_part ≡ b.second_part
  pub third_part : a.third_part ≡ b.third_part

-- ## Keys and fields

part-grown : (at : ℕ → Term) (ns : List ℕ) (n : ℕ) (part : Option Term) (m : ℕ) → IsPartNumber at ns part m → IsPartNumber at (ns ++ n ∷ []) part m
part-grown at ns n None m is = is
part-grown at ns n (Some t) m (p, low, is, told) = (p, omega (arith, low, length-append ns (n ∷ [])), is, told ∙ ap suc-of (sym (old-number ns n p low)))
  where
    suc-of : ℕ → ℕ
    suc-of k = k + 1

key-grown : (at : ℕ → Term) (ns : List ℕ) (n : ℕ) (t : Term) (key : Key) → IsKeyOf at ns t key → IsKeyOf at (ns ++ n ∷ []) t key
key-grown at ns n t key h = record {
  production = h.production;
  own_numbers = h.own_numbers;
  texts = h.texts;
  few = h.few;
  first = part-grown at ns n (slice_get (fields_of t).parts 0) key.first_part h.first;
  second = part-grown at ns n (slice_get (fields_of t).parts 1) key.second_part h.second;
  third = part-grown at ns n (slice_get (fields_of t).parts 2) key.third_part h.third;
}

-- a key that agrees in each field with a key of a tree is a key of that tree
taken-over : (at : ℕ → Term) (ns : List ℕ) (a b : Key) (t : Term) → IsKeyOf at ns t a → AreOne a b → IsKeyOf at ns t b
taken-over at ns a b t h same = record {
  production = sym same.production ∙ h.production;
  own_numbers = sym same.own_numbers ∙ h.own_numbers;
  texts = rw (sym same.first_text, sym same.second_text, sym same.third_text, sym same.fourth_text) refl ∙ h.texts;
  few = h.few;
  first = subst (IsPartNumber at ns (slice_get (fields_of t).parts 0)) same.first_part h.first;
  second = subst (IsPartNumber at ns (slice_get (fields_of t).parts 1)) same.second_part h.second;
  third = subst (IsPartNumber at ns (slice_get (fields_of t).parts 2)) same.third_part h.third;
}

-- parts with equal numbers are equal
one-part : (at : ℕ → Term) (ns : List ℕ) (a b : Option Term) (m n : ℕ) → TellApart at ns → IsPartNumber at ns a m → IsPartNumber at ns b n → m ≡ n → a ≡ b
one-part at ns None None m n good h k is = refl
one-part at ns None (Some u) m n good h (q, low, here, number) is = absurd (omega (arith, h, number, is))
one-part at ns (Some t) None m n good (p, low, there, number) k is = absurd (omega (arith, k, number, is))
one-part at ns (Some t) (Some u) m n good (p, low, there, number) (q, other, here, also) is =
    ap Some (sym there ∙ good.same p q low other (omega (arith, number, also, is)) ∙ here)

-- equal parts have equal numbers
part-one : (at : ℕ → Term) (ns : List ℕ) (a b : Option Term) (m n : ℕ) → TellApart at ns → IsPartNumber at ns a m → IsPartNumber at ns b n → a ≡ b → m ≡ n
part-one at ns None None m n good h k is = h ∙ sym k
part-one at ns None (Some u) m n good h k is = cc
part-one at ns (Some t) None m n good h k is = cc
part-one at ns (Some t) (Some u) m n good (p, low, there, number) (q, other, here, also) is =
    omega (arith, number, also, good.equal p q low other (there ∙ some-one is ∙ sym here))
  where
    some-one : {v w : Term} → Some v ≡ Some w → v ≡ w
    some-one h = cc

told_alike : (a b : Told) → a.numbers ≡ b.numbers → a.texts ≡ b.texts → a ≡ b
told_alike a b one two = go a.numbers b.numbers a.texts b.texts one two
  where
    go : (ns ms : List ℕ) (ts us : List (List ℕ)) → ns ≡ ms → ts ≡ us → ◌≡◌ {A = Told} (record { numbers = ns; texts = ts }) (record { numbers = ms; texts = us })
    go ns ms ts us one two = rw (one, two) refl

-- trees with equal keys are equal
key_tree : (at : ℕ → Term) (ns : List ℕ) (a b : Key) (one other : Term) → TellApart at ns → IsKeyOf at ns one a → IsKeyOf at ns other b → AreOne a b → one ≡ other
key_tree at ns a b one other good h k same =
    one_tree one other (sym h.production ∙ same.production ∙ k.production)
    (three_parts (fields_of one).parts (fields_of other).parts h.few k.few
    (one-part at ns _ _ a.first_part b.first_part good h.first k.first same.first_part)
    (one-part at ns _ _ a.second_part b.second_part good h.second k.second same.second_part)
    (one-part at ns _ _ a.third_part b.third_part good h.third k.third same.third_part))
    (told_alike (tree_told one) (tree_told other) (sym h.own_numbers ∙ same.own_numbers ∙ k.own_numbers)
    (sym h.texts ∙ rw (same.first_text, same.second_text, same.third_text, same.fourth_text) refl ∙ k.texts))

-- equal trees have equal keys
tree_key : (at : ℕ → Term) (ns : List ℕ) (a b : Key) (t : Term) → TellApart at ns → IsKeyOf at ns t a → IsKeyOf at ns t b → AreOne a b
tree_key at ns a b t good h k = record {
  production = h.production ∙ sym k.production;
  own_numbers = h.own_numbers ∙ sym k.own_numbers;
  first_text = (fours (h.texts ∙ sym k.texts)).0;
  second_text = (fours (h.texts ∙ sym k.texts)).1;
  third_text = (fours (h.texts ∙ sym k.texts)).2;
  fourth_text = (fours (h.texts ∙ sym k.texts)).3;
  first_part = part-one at ns _ _ a.first_part b.first_part good h.first k.first refl;
  second_part = part-one at ns _ _ a.second_part b.second_part good h.second k.second refl;
  third_part = part-one at ns _ _ a.third_part b.third_part good h.third k.third refl;
}
  where
    fours : {A : Type 0} {x z v w p q r s : A} → x ∷ z ∷ v ∷ w ∷ [] ≡ p ∷ q ∷ r ∷ s ∷ [] → (x ≡ p) × (z ≡ q) × (v ≡ r) × (w ≡ s)
    fours e = (cc, cc, cc, cc)

-- ## Keys of nodes

one-itself : (a : Key) → AreOne a a
one-itself a = record {
  production = refl;
  own_numbers = refl;
  first_text = refl;
  second_text = refl;
  third_text = refl;
  fourth_text = refl;
  first_part = refl;
  second_part = refl;
  third_part = refl;
}

pub are-keys : (at : ℕ → Term) (count : ℕ) → AreKeys AreOne at count (IsKey at)
are-keys at count = record {
  grown = λ ns n i a h. key-grown at ns n (at i) a h;
  one = λ ns i j a b low other so h k same. key_tree at ns a b (at i) (at j) so h k same;
  alike = λ ns i j a b so is h k. tree_key at ns a b (at j) so (subst (λ t. IsKeyOf at ns t a) is h) k;
  taken = λ ns i a b h same. taken-over at ns a b (at i) h same;
  itself = one-itself;
}

-- ## Look-ups by the order of keys that is derived

abbrev pub test : Key → Key → Bool
test a b = is_eq (key_cmp a b)

test-one : (a b : Key) → test a b ≡ true → AreOne a b
test-one a b h =
    let h1 = first-tied _ _ h in
    let h2 = first-tied _ _ h1.1 in
    let h3 = first-tied _ _ h2.1 in
    let h4 = first-tied _ _ h3.1 in
    let h5 = first-tied _ _ h4.1 in
    let h6 = first-tied _ _ h5.1 in
    let h7 = first-tied _ _ h6.1 in
    let h8 = first-tied _ _ h7.1 in
    record {
      production = number-tied a.production b.production h4.0;
      own_numbers = list-tied a.numbers b.numbers h5.0;
      first_text = list-tied a.first_text.now b.first_text.now h6.0;
      second_text = list-tied a.second_text.now b.second_text.now h7.0;
      third_text = list-tied a.third_text.now b.third_text.now h8.0;
      fourth_text = list-tied a.fourth_text.now b.fourth_text.now (equal-is _ h8.1);
      first_part = number-tied a.first_part b.first_part h1.0;
      second_part = number-tied a.second_part b.second_part h2.0;
      third_part = number-tied a.third_part b.third_part h3.0;
    }

test-passed : (a b : Key) → AreOne a b → test a b ≡ true
test-passed a b h =
    then-tied _ _ (number-itself a.first_part b.first_part h.first_part)
    (then-tied _ _ (number-itself a.second_part b.second_part h.second_part)
    (then-tied _ _ (number-itself a.third_part b.third_part h.third_part)
    (then-tied _ _ (number-itself a.production b.production h.production)
    (then-tied _ _ (list-itself a.numbers b.numbers h.own_numbers)
    (then-tied _ _ (list-itself a.first_text.now b.first_text.now h.first_text)
    (then-tied _ _ (list-itself a.second_text.now b.second_text.now h.second_text)
    (then-tied _ _ (list-itself a.third_text.now b.third_text.now h.third_text)
    (ap is_eq (list-itself a.fourth_text.now b.fourth_text.now h.fourth_text)))))))))

cmp-same : (a b : Key) → AreOne a b → (q : Key) → key_cmp a q ≡ key_cmp b q
cmp-same a b h q = rw (h.production, h.own_numbers, h.first_text, h.second_text, h.third_text, h.fourth_text, h.first_part, h.second_part, h.third_part) refl

same-right : (a b : Key) → AreOne a b → (q : Key) → key_cmp q a ≡ key_cmp q b
same-right a b h q = rw (h.production, h.own_numbers, h.first_text, h.second_text, h.third_text, h.fourth_text, h.first_part, h.second_part, h.third_part) refl

mark-same : (a b : Key) → AreOne a b → mark_of a ≡ mark_of b
mark-same a b h = rw (h.production, h.own_numbers, h.first_text, h.first_part, h.second_part, h.third_part) refl

pub looked-up : (keys : Firsts Key) → IsLookUp AreOne test (found_in keys)
looked-up keys = record {
  told = test-one;
  passed = test-passed;
  respects = λ a b h.
      same-first key_cmp mark_of keys.places.items keys.seen.items (get key_cmp keys.more) a b (same-right a b h) (mark-same a b h)
      (same-look key_cmp a b (cmp-same a b h) keys.more);
}

-- ## The nodes of a symbol after other nodes

-- a part's number in the list of its own symbol's first nodes is its number in the list of the first nodes of all nodes so far
part-after : (one at : ℕ → Term) (firsts own : List ℕ) (part : Option Term) (m : ℕ) → ((i : ℕ) → i < length own → at (length firsts + i) ≡ one i)
    → IsPartNumber one own part m → IsPartNumber at (firsts ++ own) part m
part-after one at firsts own None m next is = is
part-after one at firsts own (Some t) m next (p, low, there, number) = (
  length firsts + p,
  omega (arith, low, length-append firsts own),
  next p low ∙ there,
  number ∙ ap suc-of (sym (get_or-append-add firsts own p 0)),
)
  where
    suc-of : ℕ → ℕ
    suc-of k = k + 1

pub key-after : (one at : ℕ → Term) (firsts own : List ℕ) (t : Term) (key : Key) → ((i : ℕ) → i < length own → at (length firsts + i) ≡ one i)
    → IsKeyOf one own t key → IsKeyOf at (firsts ++ own) t key
key-after one at firsts own t key next h = record {
  production = h.production;
  own_numbers = h.own_numbers;
  texts = h.texts;
  few = h.few;
  first = part-after one at firsts own (slice_get (fields_of t).parts 0) key.first_part next h.first;
  second = part-after one at firsts own (slice_get (fields_of t).parts 1) key.second_part next h.second;
  third = part-after one at firsts own (slice_get (fields_of t).parts 2) key.third_part next h.third;
}

-- the first nodes of a symbol are below the number of all nodes
pub after-below : (at : ℕ → Term) (firsts own : List ℕ) (first : Key → Option ℕ) (bound : ℕ) → length firsts + length own ≤ bound
    → AreFirsts at (IsKey at) (firsts ++ own) first → AreBelow own bound
after-below at firsts own first bound few are i low =
    omega (
      arith,
      few,
      length-append firsts own,
      get_or-append-add firsts own i 0,
      first-below at (IsKey at) (firsts ++ own) first are (length firsts + i) (omega (arith, low, length-append firsts own)),
    )

-- the map of first nodes, after one more node of a symbol
pub after-more : (y : ReadSymbol) (at : ℕ → Term) (firsts own : List ℕ) (before node n : ℕ) (start : Key → Option ℕ) (old : Firsts Key) (new : Key → Option ℕ) (key : Key)
    → ComeNext y at firsts before start → length own ≡ node → node < length y.table.nodes
    → IsKeyOf (plain_at y) own (plain_at y node) key
    → ((m : ℕ) → found_in old key ≡ Some m → (n ≡ m) × ((q : Key) → new q ≡ found_in old q))
    → (found_in old key ≡ None → (n ≡ before + node) × ((q : Key) → new q ≡ cond (test key q) (Some (before + node)) (found_in old q)))
    → AreFirsts at (IsKey at) (firsts ++ own) (found_in old)
    → AreFirsts at (IsKey at) (firsts ++ (own ++ n ∷ [])) new
after-more y at firsts own before node n start old new key comes long room mine known fresh are =
    subst (λ l. AreFirsts at (IsKey at) l new) (append_assoc firsts own (n ∷ []))
    (firsts-more AreOne test at (before + length y.table.nodes) (IsKey at) (firsts ++ own) (found_in old) new key (before + node) n
    (are-keys at (before + length y.table.nodes)) (looked-up old) are
    (omega (arith, comes.many, long, length-append firsts own)) (omega (arith, room)) here known fresh)
  where
    at-own : (i : ℕ) → i < length own → at (length firsts + i) ≡ plain_at y i
    at-own i low = ap (λ m. at (m + i)) comes.many ∙ comes.next i (omega (arith, low, long, room))

    here : IsKeyOf at (firsts ++ own) (at (before + node)) key
    here =
        subst (λ t. IsKeyOf at (firsts ++ own) t key) (sym (comes.next node room))
        (key-after (plain_at y) at firsts own (plain_at y node) key at-own mine)

-- ## Two symbols

at-one : (one other : ReadSymbol) (i : ℕ) → i < length one.table.nodes → both_at one other i ≡ plain_at one i
at-one one other i low = ap (λ b. cond b (plain_at one i) (plain_at other (i - length one.table.nodes))) (lt-ltb i (length one.table.nodes) low)

at-other : (one other : ReadSymbol) (i : ℕ) → both_at one other (length one.table.nodes + i) ≡ plain_at other i
at-other one other i =
    let n = length one.table.nodes in
    ap (λ b. cond b (plain_at one (n + i)) (plain_at other (n + i - n))) (le-ltb (n + i) n (omega arith))
    ∙ ap (plain_at other) (omega arith)

-- after an empty map, the nodes of a symbol come next, with no node before them
pub begins-alone : (y : ReadSymbol) (first : Key → Option ℕ) → ((q : Key) → first q ≡ None) → ComeNext y (plain_at y) [] 0 first
begins-alone y first empty = record {
  known = none-first (plain_at y) (IsKey (plain_at y)) [] first refl empty;
  many = refl;
  next = λ i low. ap (plain_at y) (omega arith);
}

pub begins-one : (one other : ReadSymbol) (first : Key → Option ℕ) → ((q : Key) → first q ≡ None) → ComeNext one (both_at one other) [] 0 first
begins-one one other first empty = record {
  known = none-first (both_at one other) (IsKey (both_at one other)) [] first refl empty;
  many = refl;
  next = λ i low. ap (both_at one other) (omega arith) ∙ at-one one other i low;
}

pub goes-on : (one other : ReadSymbol) (firsts : List ℕ) (first : Key → Option ℕ) → length firsts ≡ length one.table.nodes
    → AreFirsts (both_at one other) (IsKey (both_at one other)) ([] ++ firsts) first
    → ComeNext other (both_at one other) firsts (length one.table.nodes) first
goes-on one other firsts first long are = record { known = are; many = long; next = λ i low. at-other one other i }

truth : (b : Bool) (t u : Term) → (b ≡ true → t ≡ u) → (t ≡ u → b ≡ true) → b ≡ same_tree t u
truth b t u one other = go b (same_tree t u) refl refl
  where
    go : (c d : Bool) → b ≡ c → same_tree t u ≡ d → b ≡ same_tree t u
    go true true is same = is ∙ sym same
    go false false is same = is ∙ sym same
    go true false is same = is ∙ sym (tree-itself u) ∙ ap (λ v. same_tree v u) (sym (one is))
    go false true is same = other (equal-tree t u same) ∙ sym same

get_or-any : (l : List ℕ) (i d e : ℕ) → i < length l → get_or l i d ≡ get_or l i e
get_or-any [] i d e low = absurd (omega (arith, low))
get_or-any (x ∷ l) zero d e low = refl
get_or-any (x ∷ l) (suc i) d e low = get_or-any l i d e (omega (arith, low))

-- the item that `get_or` finds at a place within a list is the item at that place
pub item-is : (l : List ℕ) (i at a : ℕ) → a ≡ get_or l i a → i ≡ at → at < length l → a ≡ number_at l at
item-is l i at a is same low = is ∙ ap (λ k. get_or l k a) same ∙ get_or-any l at a 0 low

-- two whole trees are equal exactly if their roots have the same first node
pub told-one : (one other : ReadSymbol) (firsts others : List ℕ) (first : Key → Option ℕ) (a b : ℕ) → length firsts ≡ length one.table.nodes
    → length others ≡ length other.table.nodes → one.root < length one.table.nodes → other.root < length other.table.nodes
    → AreFirsts (both_at one other) (IsKey (both_at one other)) (firsts ++ others) first
    → a ≡ number_at firsts one.root → b ≡ number_at others other.root
    → eqb a b ≡ same_tree (whole_of one) (whole_of other)
told-one one other firsts others first a b long more root other_root are a_is b_is =
    truth (eqb a b) (plain_at one one.root) (plain_at other other.root)
    (λ is. sym (at-one one other one.root root)
    ∙ are.apart.same one.root (n + other.root) low behind (here ∙ eqb-true a b is ∙ sym there)
    ∙ at-other one other other.root)
    (λ is. eq-eqb a b (sym here ∙ are.apart.equal one.root (n + other.root) low behind (at-one one other one.root root ∙ is ∙ sym (at-other one other other.root)) ∙ there))
  where
    n : ℕ
    n = length one.table.nodes

    low : one.root < length (firsts ++ others)
    low = omega (arith, root, long, length-append firsts others)

    behind : n + other.root < length (firsts ++ others)
    behind = omega (arith, other_root, long, more, length-append firsts others)

    here : number_at (firsts ++ others) one.root ≡ a
    here = get_or_append_left firsts others 0 one.root (omega (arith, root, long)) ∙ sym a_is

    there : number_at (firsts ++ others) (n + other.root) ≡ b
    there = ap (λ m. number_at (firsts ++ others) (m + other.root)) (sym long) ∙ get_or-append-add firsts others other.root 0 ∙ sym b_is
