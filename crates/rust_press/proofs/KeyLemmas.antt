-- Keys of nodes, and a map of keys after one more key.
use Rattle.rust_press.proofs.Basics.{◌≡◌, ℕ, zero, suc, ◌<◌, ◌≤◌, length, List, [], ◌∷◌, ◌++◌, slice_get, get_or, Some, Bool, true, false, refl, ap, arith, sym, subst, ◌∙◌, length-append, same_Some, got-there, map, nat_lt, ltb-true, lt-ltb, Span, Tree, Fields, fields_of, tree_from, ReadSymbol, trees_of, fields_at, fields_in, number_at, TellApart, AreKeys, IsLookUp, IsKeyOf, IsPartNumber, key_cmp, mark_of, found_in}
use Rattle.std.specs.BTreeMap.{get}
use Rattle.std.specs.Ordering.{is_eq}
use Rattle.rust_tree.proofs.Rebuilding.{tree-made}
use Rattle.sym_spell.proofs.Entering.{old-number}
use Rattle.sym_spell.proofs.Orders.{equal-is, first-tied, then-tied, number-tied, number-itself, list-tied, list-itself, same-look}
use Rattle.rust_press.specs.declared.numbering.Key.{Key}
use Rattle.sym_spell.specs.declared.firsts.Firsts.{Firsts}
use Rattle.sym_spell.proofs.Placed.{same-first}

-- ## Three parts

pub parts-of-three : (all : List Tree) (numbers : List ℕ) (parts : List Tree) (a b c count : ℕ) → count ≤ 3 → count ≡ length parts
    → (0 < count → IsPartNumber all numbers parts 0 a) → (1 < count → IsPartNumber all numbers parts 1 b)
    → (2 < count → IsPartNumber all numbers parts 2 c)
    → (k : ℕ) → k < length parts → IsPartNumber all numbers parts k (number_at (a ∷ b ∷ c ∷ []) k)
parts-of-three all numbers parts a b c count few is one two three zero low = one (omega (arith, is, low))
parts-of-three all numbers parts a b c count few is one two three (suc zero) low = two (omega (arith, is, low))
parts-of-three all numbers parts a b c count few is one two three (suc (suc zero)) low = three (omega (arith, is, low))
parts-of-three all numbers parts a b c count few is one two three (suc (suc (suc k))) low = absurd (omega (arith, few, is, low))

pub rest-of-three : (parts : List Tree) (a b c count : ℕ) → count ≡ length parts → (count ≤ 0 → a ≡ 0) → (count ≤ 1 → b ≡ 0) → (count ≤ 2 → c ≡ 0)
    → (k : ℕ) → length parts ≤ k → number_at (a ∷ b ∷ c ∷ []) k ≡ 0
rest-of-three parts a b c count is one two three zero low = one (omega (arith, is, low))
rest-of-three parts a b c count is one two three (suc zero) low = two (omega (arith, is, low))
rest-of-three parts a b c count is one two three (suc (suc zero)) low = three (omega (arith, is, low))
rest-of-three parts a b c count is one two three (suc (suc (suc k))) low = refl

-- the texts of two spans
pub both-of-two : (f : Span → List ℕ) (d : Span) (spans : List Span) (given : List (List ℕ)) (a b : List ℕ) → length spans ≡ 2 → map f spans ≡ given
    → a ≡ f (get_or spans 0 d) → b ≡ f (get_or spans 1 d) → a ∷ b ∷ [] ≡ given
both-of-two f d (x ∷ y ∷ []) given a b long is one two = rw (one, two) is
both-of-two f d [] given a b long is one two = absurd (omega (arith, long))
both-of-two f d (x ∷ []) given a b long is one two = absurd (omega (arith, long))
both-of-two f d (x ∷ y ∷ z ∷ more) given a b long is one two = absurd (omega (arith, long))

-- ## Lists

true-false : true ≡ false → ⊥
true-false bad = cc

at-least : (a b : ℕ) → nat_lt a b ≡ false → b ≤ a
at-least a b h =
    let not-below : a < b → ⊥ = λ low. true-false (sym (lt-ltb a b low) ∙ h) in
    omega (arith, not-below)

equal-lists : {A : Type 0} (xs ys : List A) → length xs ≡ length ys → ((k : ℕ) → k < length xs → slice_get xs k ≡ slice_get ys k) → xs ≡ ys
equal-lists [] [] long each = refl
equal-lists [] (y ∷ ys) long each = absurd (omega (arith, long))
equal-lists (x ∷ xs) [] long each = absurd (omega (arith, long))
equal-lists (x ∷ xs) (y ∷ ys) long each =
    let one : x ≡ y = same_Some _ _ (each 0 (omega arith)) in
    let more : xs ≡ ys = equal-lists xs ys (omega (arith, long)) (λ k low. each (suc k) (omega (arith, low))) in
    rw (one, more) refl

equal-numbers : (xs ys : List ℕ) → length xs ≡ length ys → ((k : ℕ) → k < length xs → number_at xs k ≡ number_at ys k) → xs ≡ ys
equal-numbers [] [] long each = refl
equal-numbers [] (y ∷ ys) long each = absurd (omega (arith, long))
equal-numbers (x ∷ xs) [] long each = absurd (omega (arith, long))
equal-numbers (x ∷ xs) (y ∷ ys) long each =
    let more : xs ≡ ys = equal-numbers xs ys (omega (arith, long)) (λ k low. each (suc k) (omega (arith, low))) in
    rw (each 0 (omega arith), more) refl

-- ## A map of keys

-- two keys agree in each field, so that the map takes them for one key
pub record AreOne (a b : Key) : Type 0 where
  pub production : a.production ≡ b.production
  pub own_numbers : a.numbers ≡ b.numbers
  pub first : a.first_text.now ≡ b.first_text.now
  pub second : a.second_text.now ≡ b.second_text.now
  pub count : a.count ≡ b.count
  pub parts : a.parts ≡ b.parts

-- ## Keys and trees

-- the number of a part stays the same when another node gets a number
part-grown : (all : List Tree) (ns : List ℕ) (n : ℕ) (parts : List Tree) (k m : ℕ) → IsPartNumber all ns parts k m → IsPartNumber all (ns ++ n ∷ []) parts k m
part-grown all ns n parts k m (p, low, is, at) = (p, omega (arith, low, length-append ns (n ∷ [])), is, at ∙ sym (old-number ns n p low))

key-grown : (all : List Tree) (ns : List ℕ) (n : ℕ) (given : Fields) (key : Key) → IsKeyOf all ns given key → IsKeyOf all (ns ++ n ∷ []) given key
key-grown all ns n given key h = record {
  production = h.production;
  own_numbers = h.own_numbers;
  texts = h.texts;
  count = h.count;
  parts = λ k low. part-grown all ns n given.parts k (number_at key.parts k) (h.parts k low);
  rest = h.rest;
  long = h.long;
}

fields-equal : (a b : Fields) → a.production ≡ b.production → a.numbers ≡ b.numbers → a.texts ≡ b.texts → a.parts ≡ b.parts → a ≡ b
fields-equal a b one two three four = go a.production b.production a.numbers b.numbers a.texts b.texts a.parts b.parts one two three four
  where
    go : (p q : ℕ) (ns ms : List ℕ) (ts us : List (List ℕ)) (xs ys : List Tree) → p ≡ q → ns ≡ ms → ts ≡ us → xs ≡ ys
        → ◌≡◌ {A = Fields} (record { production = p; numbers = ns; texts = ts; parts = xs }) (record { production = q; numbers = ms; texts = us; parts = ys })
    go p q ns ms ts us xs ys one two three four = rw (one, two, three, four) refl

-- equal keys have equal fields
one-fields : (all : List Tree) (ns : List ℕ) (a b : Key) (one other : Fields) → TellApart (slice_get all) ns → IsKeyOf all ns one a → IsKeyOf all ns other b → AreOne a b → one ≡ other
one-fields all ns a b one other so h k same =
    fields-equal one other
    (sym h.production ∙ same.production ∙ k.production)
    (sym h.own_numbers ∙ same.own_numbers ∙ k.own_numbers)
    (sym h.texts ∙ rw (same.first, same.second) refl ∙ k.texts)
    (equal-lists one.parts other.parts long each)
  where
    long : length one.parts ≡ length other.parts
    long = sym h.count ∙ same.count ∙ k.count

    each : (i : ℕ) → i < length one.parts → slice_get one.parts i ≡ slice_get other.parts i
    each i low =
        let p = h.parts i low in
        let q = k.parts i (omega (arith, low, long)) in
        sym p.2 ∙ so.same p.0 q.0 p.1 q.1 (sym p.3 ∙ ap (λ l. number_at l i) same.parts ∙ q.3) ∙ q.2

-- equal fields have equal keys
fields-one : (all : List Tree) (ns : List ℕ) (a b : Key) (given : Fields) → TellApart (slice_get all) ns → IsKeyOf all ns given a → IsKeyOf all ns given b → AreOne a b
fields-one all ns a b given so h k = record {
  production = h.production ∙ sym k.production;
  own_numbers = h.own_numbers ∙ sym k.own_numbers;
  first = head-of (h.texts ∙ sym k.texts);
  second = next-of (h.texts ∙ sym k.texts);
  count = h.count ∙ sym k.count;
  parts = equal-numbers a.parts b.parts (h.long ∙ sym k.long) each;
}
  where
    head-of : {x y z w : List ℕ} → x ∷ y ∷ [] ≡ z ∷ w ∷ [] → x ≡ z
    head-of e = cc

    next-of : {x y z w : List ℕ} → x ∷ y ∷ [] ≡ z ∷ w ∷ [] → y ≡ w
    next-of e = cc

    each : (i : ℕ) → i < length a.parts → number_at a.parts i ≡ number_at b.parts i
    each i low = go (nat_lt i (length given.parts)) refl
      where
        go : (t : Bool) → nat_lt i (length given.parts) ≡ t → number_at a.parts i ≡ number_at b.parts i
        go true is =
            let p = h.parts i (ltb-true i (length given.parts) is) in
            let q = k.parts i (ltb-true i (length given.parts) is) in
            p.3 ∙ so.equal p.0 q.0 p.1 q.1 (p.2 ∙ sym q.2) ∙ sym q.3
        go false is = h.rest i (at-least i (length given.parts) is) ∙ sym (k.rest i (at-least i (length given.parts) is))

-- ## One more node

-- a key that agrees in each field with a key of these fields is a key of these fields
taken-over : (all : List Tree) (ns : List ℕ) (a b : Key) (given : Fields) → IsKeyOf all ns given a → AreOne a b → IsKeyOf all ns given b
taken-over all ns a b given h same = record {
  production = sym same.production ∙ h.production;
  own_numbers = sym same.own_numbers ∙ h.own_numbers;
  texts = rw (sym same.first, sym same.second) refl ∙ h.texts;
  count = sym same.count ∙ h.count;
  parts = λ k low. subst (λ l. IsPartNumber all ns given.parts k (number_at l k)) same.parts (h.parts k low);
  rest = λ k low. subst (λ l. number_at l k ≡ 0) same.parts (h.rest k low);
  long = ap length (sym same.parts) ∙ h.long;
}

-- nodes with equal fields have equal trees
fields-tree : (y : ReadSymbol) (i j : ℕ) → i < length (trees_of y) → j < length (trees_of y) → fields_at y i ≡ fields_at y j
    → slice_get (trees_of y) i ≡ slice_get (trees_of y) j
fields-tree y i j low other same = go (got-there (trees_of y) i low) (got-there (trees_of y) j other)
  where
    go : ((t : Tree) × (slice_get (trees_of y) i ≡ Some t)) → ((t : Tree) × (slice_get (trees_of y) j ≡ Some t)) → slice_get (trees_of y) i ≡ slice_get (trees_of y) j
    go (t, here) (u, there) =
        let alike : fields_of t ≡ fields_of u = sym (ap fields_in here) ∙ same ∙ ap fields_in there in
        here ∙ ap Some (sym (tree-made t) ∙ ap tree_from alike ∙ tree-made u) ∙ sym there

-- ## Keys of nodes

abbrev pub IsKey : ReadSymbol → List ℕ → ℕ → Key → Type 0
IsKey y ns i key = IsKeyOf (trees_of y) ns (fields_at y i) key

one-itself : (a : Key) → AreOne a a
one-itself a = record { production = refl; own_numbers = refl; first = refl; second = refl; count = refl; parts = refl }

pub are-keys : (y : ReadSymbol) → AreKeys AreOne (slice_get (trees_of y)) (length (trees_of y)) (IsKey y)
are-keys y = record {
  grown = λ ns n i a h. key-grown (trees_of y) ns n (fields_at y i) a h;
  one = λ ns i j a b low other so h k same. fields-tree y i j low other (one-fields (trees_of y) ns a b (fields_at y i) (fields_at y j) so h k same);
  alike = λ ns i j a b so is h k. fields-one (trees_of y) ns a b (fields_at y j) so (subst (λ g. IsKeyOf (trees_of y) ns g a) (ap fields_in is) h) k;
  taken = λ ns i a b h same. taken-over (trees_of y) ns a b (fields_at y i) h same;
  itself = one-itself;
}

-- ## The derived order of keys

abbrev pub test : Key → Key → Bool
test a b = is_eq (key_cmp a b)

test-one : (a b : Key) → test a b ≡ true → AreOne a b
test-one a b h =
    let h1 = first-tied _ _ h in
    let h2 = first-tied _ _ h1.1 in
    let h3 = first-tied _ _ h2.1 in
    let h4 = first-tied _ _ h3.1 in
    let h5 = first-tied _ _ h4.1 in
    record {
      production = number-tied a.production b.production h1.0;
      own_numbers = list-tied a.numbers b.numbers h4.0;
      first = list-tied a.first_text.now b.first_text.now h5.0;
      second = list-tied a.second_text.now b.second_text.now (equal-is _ h5.1);
      count = number-tied a.count b.count h2.0;
      parts = list-tied a.parts b.parts h3.0;
    }

test-passed : (a b : Key) → AreOne a b → test a b ≡ true
test-passed a b h =
    then-tied _ _ (number-itself a.production b.production h.production)
    (then-tied _ _ (number-itself a.count b.count h.count)
    (then-tied _ _ (list-itself a.parts b.parts h.parts)
    (then-tied _ _ (list-itself a.numbers b.numbers h.own_numbers)
    (then-tied _ _ (list-itself a.first_text.now b.first_text.now h.first) (ap is_eq (list-itself a.second_text.now b.second_text.now h.second))))))

cmp-same : (a b : Key) → AreOne a b → (q : Key) → key_cmp a q ≡ key_cmp b q
cmp-same a b h q = rw (h.production, h.count, h.parts, h.own_numbers, h.first, h.second) refl

same-right : (a b : Key) → AreOne a b → (q : Key) → key_cmp q a ≡ key_cmp q b
same-right a b h q = rw (h.production, h.count, h.parts, h.own_numbers, h.first, h.second) refl

mark-same : (a b : Key) → AreOne a b → mark_of a ≡ mark_of b
mark-same a b h = rw (h.production, h.parts, h.own_numbers, h.first) refl

pub looked-up : (keys : Firsts Key) → IsLookUp AreOne test (found_in keys)
looked-up keys = record {
  told = test-one;
  passed = test-passed;
  respects = λ a b h.
      same-first key_cmp mark_of keys.places.items keys.seen.items (get key_cmp keys.more) a b (λ q. same-right a b h q) (mark-same a b h)
      (same-look key_cmp a b (cmp-same a b h) keys.more);
}

pub at-node : (y : ReadSymbol) (ns ms : List ℕ) (k : ℕ) (key : Key) → ms ≡ ns → IsKeyOf (trees_of y) ms (fields_at y k) key → IsKey y ns k key
at-node y ns ms k key same h = subst (λ l. IsKeyOf (trees_of y) l (fields_at y k) key) same h
