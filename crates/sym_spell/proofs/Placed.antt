-- Keys at places: what is known of each key after one more key.
use Rattle.std.proofs.Common.{◌≡◌, ℕ, zero, suc, ◌-◌, ◌%◌, ◌<◌, ◌≤◌, ◌⊎◌, inl, inr, length, List, [], ◌∷◌, ◌++◌, slice_get, get_or, slice_set, Option, Some, None, Bool, true, false, refl, ap, arith, sym, subst, ◌∙◌, length-append, Ordering, Equal}
use Rattle.std.specs.Prelude.{cond, ◌==◌, replicate}
use Rattle.std.specs.Cmp.{IsTotalOrder}
use Rattle.std.specs.Ordering.{is_eq}
use Rattle.std.proofs.lemmas.Bool.{eqb-true, eqb-false}
use Rattle.std.proofs.lemmas.Cmp.{tied_back}
use Rattle.std.proofs.lemmas.Grind.{get_or_default_zero}
use Rattle.std.proofs.lemmas.List.{get_or-set_same, get_or-set_other, length-set, length-replicate}
use Rattle.sym_spell.specs.declared.firsts.Seen.{Seen}
use Rattle.sym_spell.specs.Firsts.{IsIndex, first_in, first_or, numbered, place_of, seen_at, text_mark}
use Rattle.sym_spell.proofs.Orders.{equal-is}

-- ## A text without bytes

pub empty-mark : (text : List ℕ) → length text ≡ 0 → 0 ≡ text_mark text
unfolding text_mark
empty-mark [] none = refl
empty-mark (b ∷ bs) none = absurd (omega (arith, none))

-- ## Things and their numbers

none-some : {A : Type 0} {a : A} → None ≡ Some a → ⊥
none-some h = cc

some-one : {A : Type 0} {a b : A} → Some a ≡ Some b → a ≡ b
some-one h = cc

true-false : true ≡ false → ⊥
true-false h = cc

numbered-none : {A : Type 0} (n : ℕ) → numbered {A = A} [] n ≡ None
numbered-none zero = refl
numbered-none (suc k) = refl

slice_get-more : {A : Type 0} (xs : List A) (a : A) (k : ℕ) → k < length xs → slice_get (xs ++ a ∷ []) k ≡ slice_get xs k
slice_get-more [] a k low = absurd (omega (arith, low))
slice_get-more (x ∷ xs) a zero low = refl
slice_get-more (x ∷ xs) a (suc k) low = slice_get-more xs a k (omega (arith, low))

slice_get-new : {A : Type 0} (xs : List A) (a : A) → slice_get (xs ++ a ∷ []) (length xs) ≡ Some a
slice_get-new [] a = refl
slice_get-new (x ∷ xs) a = slice_get-new xs a

-- a thing keeps its number when one more thing is added, which gets the next number
numbered-more : {A : Type 0} (xs : List A) (a : A) (n : ℕ) → n ≤ length xs → numbered (xs ++ a ∷ []) n ≡ numbered xs n
numbered-more xs a zero low = refl
numbered-more xs a (suc k) low = slice_get-more xs a k (omega (arith, low))

numbered-new : {A : Type 0} (xs : List A) (a : A) (n : ℕ) → n ≡ suc (length xs) → numbered (xs ++ a ∷ []) n ≡ Some a
numbered-new xs a n is = ap (numbered (xs ++ a ∷ [])) is ∙ slice_get-new xs a

-- the thing that an index finds by a number that isn't 0
pub numbered-at : {A : Type 0} (xs : List A) (n : ℕ) (one : A) → 0 < n → n ≤ length xs → one ≡ get_or xs (n - 1) one → numbered xs n ≡ Some one
numbered-at {A} xs zero one some low is = absurd (omega (arith, some))
numbered-at {A} xs (suc k) one some low is = go xs k (omega (arith, low)) (subst (λ m. one ≡ get_or xs m one) (omega arith) is)
  where
    go : (ys : List A) (i : ℕ) → i < length ys → one ≡ get_or ys i one → slice_get ys i ≡ Some one
    go [] i h same = absurd (omega (arith, h))
    go (y ∷ ys) zero h same = ap Some (sym same)
    go (y ∷ ys) (suc i) h same = go ys i (omega (arith, h)) same

zeros : (n i : ℕ) → get_or {A = ℕ} (replicate n 0) i 0 ≡ 0
zeros zero i = refl
zeros (suc n) zero = refl
zeros (suc n) (suc i) = zeros n i

-- ## Marks

-- an order of keys, and marks that are the same for equal keys
pub record AreMarked {K : Type 0} (cmp : K → K → Ordering) (mark : K → ℕ) : Type 0 where
  pub total : IsTotalOrder cmp
  pub alike : (a b : K) → cmp a b ≡ Equal → mark a ≡ mark b

module _ {K : Type 0} (cmp : K → K → Ordering) (mark : K → ℕ) (laws : AreMarked cmp mark) where
  one-place : (a b : K) → is_eq (cmp a b) ≡ true → place_of mark a ≡ place_of mark b
  one-place a b is = ap (λ m. m % 509) (laws.alike a b (equal-is _ is))

  -- two keys that are equal to a third one are equal
  chained : (a b q : K) → is_eq (cmp a q) ≡ true → is_eq (cmp b q) ≡ true → is_eq (cmp a b) ≡ true
  chained a b q one other =
      ap is_eq (laws.total.congr a q b (equal-is _ one) ∙ tied_back laws.total b q (equal-is _ other))

  -- ## No keys

  pub no-keys : (places : List ℕ) (seen : List (Seen K)) (more : K → Option ℕ) → places ≡ replicate 509 0 → seen ≡ []
      → ((q : K) → more q ≡ None) → IsIndex mark places seen more
  no-keys places seen more are none empty = record {
    long = ap length are ∙ length-replicate {A = ℕ} 509 0;
    within = λ place. omega (arith, ap (λ l. get_or l place 0) are, zeros 509 place);
    own = λ place one is.
        absurd (none-some (sym (numbered-none (get_or places place 0)) ∙ ap (λ l. numbered l (get_or places place 0)) (sym none) ∙ is));
    empty = λ room key free. empty key;
  }

  -- ## One more key at a place

  module _ (places : List ℕ) (seen : List (Seen K)) (more : K → Option ℕ) (index : IsIndex mark places seen more) where
    module _ (one : Seen K) (number : ℕ) (free : get_or places (place_of mark one.key) 0 ≡ 0) (next : number ≡ suc (length seen)) where
      abbrev here : ℕ
      here = place_of mark one.key

      abbrev placed : List ℕ
      placed = slice_set places here number

      low : here < length places
      low = omega (arith, index.long)

      at-here : seen_at placed (seen ++ one ∷ []) here ≡ Some one
      at-here = ap (numbered (seen ++ one ∷ [])) (get_or-set_same places here number 0 low) ∙ numbered-new seen one number next

      at-other : (place : ℕ) → (place ≡ here → ⊥) → seen_at placed (seen ++ one ∷ []) place ≡ seen_at places seen place
      at-other place other =
          ap (numbered (seen ++ one ∷ [])) (get_or-set_other places here place number 0 other)
          ∙ numbered-more seen one (get_or places place 0) (index.within place)

      was-free : seen_at places seen here ≡ None
      was-free = ap (numbered seen) free

      pub index-placed : length seen < 65535 → IsIndex mark placed (seen ++ one ∷ []) more
      index-placed room = record { long = length-set places here number ∙ index.long; within = within; own = own; empty = empty }
        where
          within : (place : ℕ) → get_or placed place 0 ≤ length (seen ++ one ∷ [])
          within place = go (place == here) refl
            where
              go : (b : Bool) → (place == here) ≡ b → get_or placed place 0 ≤ length (seen ++ one ∷ [])
              go true is =
                  omega (
                    arith,
                    ap (λ p. get_or placed p 0) (eqb-true place here is) ∙ get_or-set_same places here number 0 low,
                    next,
                    length-append seen (one ∷ []),
                  )
              go false is =
                  omega (arith, get_or-set_other places here place number 0 (eqb-false place here is), index.within place, length-append seen (one ∷ []))

          own : (place : ℕ) (other : Seen K) → seen_at placed (seen ++ one ∷ []) place ≡ Some other → place_of mark other.key ≡ place
          own place other is = go (place == here) refl
            where
              go : (b : Bool) → (place == here) ≡ b → place_of mark other.key ≡ place
              go true same =
                  let at = eqb-true place here same in
                  let found : one ≡ other =
                  some-one (sym at-here ∙ ap (seen_at placed (seen ++ one ∷ [])) (sym at) ∙ is) in
                  ap (λ (s : Seen K). place_of mark s.key) (sym found) ∙ sym at
              go false apart = index.own place other (sym (at-other place (eqb-false place here apart)) ∙ is)

          empty : length (seen ++ one ∷ []) < 65535 → (key : K) → seen_at placed (seen ++ one ∷ []) (place_of mark key) ≡ None → more key ≡ None
          empty few key none = go (place_of mark key == here) refl
            where
              go : (b : Bool) → (place_of mark key == here) ≡ b → more key ≡ None
              go true same =
                  absurd (none-some (sym none ∙ ap (seen_at placed (seen ++ one ∷ [])) (eqb-true (place_of mark key) here same) ∙ at-here))
              go false apart =
                  index.empty room key (sym (at-other (place_of mark key) (eqb-false (place_of mark key) here apart)) ∙ none)

      pub fresh-placed : length seen < 65535 → (q : K)
          → first_in cmp mark placed (seen ++ one ∷ []) more q ≡ cond (is_eq (cmp one.key q)) (Some one.node) (first_in cmp mark places seen more q)
      fresh-placed room q = go (place_of mark q == here) refl
        where
          go : (b : Bool) → (place_of mark q == here) ≡ b
              → first_in cmp mark placed (seen ++ one ∷ []) more q ≡ cond (is_eq (cmp one.key q)) (Some one.node) (first_in cmp mark places seen more q)
          go true same =
              let at = eqb-true (place_of mark q) here same in
              ap (λ p. first_or cmp (seen_at placed (seen ++ one ∷ []) p) more q) at
              ∙ ap (λ o. first_or cmp o more q) at-here
              ∙ ap (λ o. cond (is_eq (cmp one.key q)) (Some one.node) (first_or cmp o more q)) (sym (ap (seen_at places seen) at ∙ was-free))
          go false apart = rest (is_eq (cmp one.key q)) refl
            where
              other : place_of mark q ≡ here → ⊥
              other = eqb-false (place_of mark q) here apart

              rest : (b : Bool) → is_eq (cmp one.key q) ≡ b
                  → first_in cmp mark placed (seen ++ one ∷ []) more q ≡ cond (is_eq (cmp one.key q)) (Some one.node) (first_in cmp mark places seen more q)
              rest true is = absurd (other (sym (one-place one.key q is)))
              rest false is =
                  ap (λ o. first_or cmp o more q) (at-other (place_of mark q) other)
                  ∙ ap (λ b. cond b (Some one.node) (first_in cmp mark places seen more q)) (sym is)

    -- the key that is read at a place
    at-place : (m a : ℕ) → a ≡ get_or places (m % 509) a → a ≡ get_or places (m % 509) 0
    at-place m a is = is ∙ get_or_default_zero places (m % 509) a (omega (arith, index.long))

    module _ (key : K) (node m a number : ℕ) (seen2 : List (Seen K)) (marked : m ≡ mark key) (read : a ≡ get_or places (m % 509) a) (free : a ≡ 0)
        (are : seen2 ≡ seen ++ record { key = key; node = node } ∷ []) (long : number ≡ length seen2) (room : length seen < 65535) where
      is-free : get_or places (place_of mark key) 0 ≡ 0
      is-free = ap (λ v. get_or places (v % 509) 0) (sym marked) ∙ sym (at-place m a read) ∙ free

      is-next : number ≡ suc (length seen)
      is-next = omega (arith, long, ap length are, length-append seen (record { key = key; node = node } ∷ []))

      pub fresh-at : (q : K) → first_in cmp mark (slice_set places (m % 509) number) seen2 more q
          ≡ cond (is_eq (cmp key q)) (Some node) (first_in cmp mark places seen more q)
      fresh-at q =
          subst (λ v. first_in cmp mark (slice_set places (v % 509) number) seen2 more q ≡ cond (is_eq (cmp key q)) (Some node) (first_in cmp mark places seen more q))
          (sym marked)
          (subst (λ l. first_in cmp mark (slice_set places (place_of mark key) number) l more q ≡ cond (is_eq (cmp key q)) (Some node) (first_in cmp mark places seen more q))
          (sym are) (fresh-placed (record { key = key; node = node }) number is-free is-next room q))

      pub index-at : IsIndex mark (slice_set places (m % 509) number) seen2 more
      index-at =
          subst (λ v. IsIndex mark (slice_set places (v % 509) number) seen2 more) (sym marked)
          (subst (λ l. IsIndex mark (slice_set places (place_of mark key) number) l more) (sym are)
          (index-placed (record { key = key; node = node }) number is-free is-next room))

    -- ## One more key in the map

    -- the key's place has another key, or there is no room for one more key
    abbrev pub IsElsewhere : K → Type 0
    IsElsewhere key =
        ((one : Seen K) × (seen_at places seen (place_of mark key) ≡ Some one) × (is_eq (cmp one.key key) ≡ false))
        ⊎ ((seen_at places seen (place_of mark key) ≡ None) × (65535 ≤ length seen))

    pub held-by-other : (key : K) (m a : ℕ) (one : Seen K) (b : Bool) → m ≡ mark key → a ≡ get_or places (m % 509) a → 0 < a
        → one ≡ get_or seen (a - 1) one → b ≡ is_eq (cmp one.key key) → b ≡ false → IsElsewhere key
    held-by-other key m a one b marked read some found test other =
        inl (one, ap (λ v. seen_at places seen (v % 509)) (sym marked) ∙ ap (numbered seen) (sym (at-place m a read)) ∙ there, sym test ∙ other)
      where
        there : numbered seen a ≡ Some one
        there = numbered-at seen a one some (omega (arith, at-place m a read, index.within (m % 509))) found

    pub no-room : (key : K) (m a : ℕ) → m ≡ mark key → a ≡ get_or places (m % 509) a → a ≡ 0 → 65535 ≤ length seen → IsElsewhere key
    no-room key m a marked read none full =
        inr (ap (λ v. seen_at places seen (v % 509)) (sym marked) ∙ ap (numbered seen) (sym (at-place m a read)) ∙ ap (numbered seen) none, full)

    module _ (more2 : K → Option ℕ) (key : K) (node n : ℕ) (there : IsElsewhere key)
        (known : (m : ℕ) → more key ≡ Some m → (n ≡ m) × ((q : K) → more2 q ≡ more q))
        (fresh : more key ≡ None → (n ≡ node) × ((q : K) → more2 q ≡ cond (is_eq (cmp key q)) (Some node) (more q))) where
      by-map : first_in cmp mark places seen more key ≡ more key
      by-map = go there
        where
          go : IsElsewhere key → first_in cmp mark places seen more key ≡ more key
          go (inl (one, at, apart)) =
              ap (λ o. first_or cmp o more key) at ∙ ap (λ b. cond b (Some one.node) (more key)) apart
          go (inr (none, full)) = ap (λ o. first_or cmp o more key) none

      -- a key that equals the added key is at none of the places
      not-here : (q : K) (one : Seen K) → seen_at places seen (place_of mark q) ≡ Some one → is_eq (cmp one.key q) ≡ true → is_eq (cmp key q) ≡ true → ⊥
      not-here q one at is same = go there
        where
          go : IsElsewhere key → ⊥
          go (inl (other, held, apart)) =
              let found : other ≡ one = some-one (sym held ∙ ap (seen_at places seen) (one-place key q same) ∙ at) in
              true-false (sym (chained one.key key q is same) ∙ ap (λ (s : Seen K). is_eq (cmp s.key key)) (sym found) ∙ apart)
          go (inr (none, full)) = none-some (sym none ∙ ap (seen_at places seen) (one-place key q same) ∙ at)

      pub known-in-map : (m : ℕ) → first_in cmp mark places seen more key ≡ Some m
          → (n ≡ m) × ((q : K) → first_in cmp mark places seen more2 q ≡ first_in cmp mark places seen more q)
      known-in-map m is =
          let told = known m (sym by-map ∙ is) in
          (told.0, λ q. go q (seen_at places seen (place_of mark q)) (told.1 q))
        where
          go : (q : K) (o : Option (Seen K)) → more2 q ≡ more q → first_or cmp o more2 q ≡ first_or cmp o more q
          go q None same = same
          go q (Some one) same = ap (λ other. cond (is_eq (cmp one.key q)) (Some one.node) other) same

      pub fresh-in-map : first_in cmp mark places seen more key ≡ None
          → (n ≡ node) × ((q : K) → first_in cmp mark places seen more2 q ≡ cond (is_eq (cmp key q)) (Some node) (first_in cmp mark places seen more q))
      fresh-in-map is =
          let told = fresh (sym by-map ∙ is) in
          (told.0, λ q. go q (seen_at places seen (place_of mark q)) refl (told.1 q))
        where
          go : (q : K) (o : Option (Seen K)) → seen_at places seen (place_of mark q) ≡ o
              → more2 q ≡ cond (is_eq (cmp key q)) (Some node) (more q)
              → first_or cmp o more2 q ≡ cond (is_eq (cmp key q)) (Some node) (first_or cmp o more q)
          go q None at new = new
          go q (Some one) at new = by (is_eq (cmp one.key q)) (is_eq (cmp key q)) refl refl
            where
              by : (b d : Bool) → is_eq (cmp one.key q) ≡ b → is_eq (cmp key q) ≡ d
                  → cond (is_eq (cmp one.key q)) (Some one.node) (more2 q) ≡ cond (is_eq (cmp key q)) (Some node) (cond (is_eq (cmp one.key q)) (Some one.node) (more q))
              by true true here same = absurd (not-here q one at here same)
              by true false here same = rw (here, same) refl
              by false d here same = rw here new

      pub index-in-map : IsIndex mark places seen more2
      index-in-map = record { long = index.long; within = index.within; own = index.own; empty = empty }
        where
          empty : length seen < 65535 → (q : K) → seen_at places seen (place_of mark q) ≡ None → more2 q ≡ None
          empty room q none = go there (more key) refl
            where
              go : IsElsewhere key → (o : Option ℕ) → more key ≡ o → more2 q ≡ None
              go (inr (free, full)) o was = absurd (omega (arith, room, full))
              go (inl (one, at, apart)) (Some m) was = (known m was).1 q ∙ index.empty room q none
              go (inl (one, at, apart)) None was = (fresh was).1 q ∙ by (is_eq (cmp key q)) refl
                where
                  by : (b : Bool) → is_eq (cmp key q) ≡ b → cond (is_eq (cmp key q)) (Some node) (more q) ≡ None
                  by true same =
                      absurd (none-some (sym none ∙ sym (ap (seen_at places seen) (one-place key q same)) ∙ at))
                  by false same = rw same (index.empty room q none)

-- keys that compare as equal and have the same mark have the same first thing
pub same-first : {K : Type 0} (cmp : K → K → Ordering) (mark : K → ℕ) (places : List ℕ) (seen : List (Seen K)) (more : K → Option ℕ) (a b : K)
    → ((q : K) → cmp q a ≡ cmp q b) → mark a ≡ mark b → more a ≡ more b → first_in cmp mark places seen more a ≡ first_in cmp mark places seen more b
same-first {K} cmp mark places seen more a b order marks rest =
    go (seen_at places seen (place_of mark a)) ∙ ap (λ m. first_or cmp (seen_at places seen (m % 509)) more b) marks
  where
    go : (o : Option (Seen K)) → first_or cmp o more a ≡ first_or cmp o more b
    go None = rest
    go (Some one) = rw (order one.key, rest) refl
