-- The numbers of candidates in the two lists that compilers may have.
use Rattle.cpp_link.proofs.Basics.{◌≡◌, refl, sym, ◌∙◌, ap, subst, arith, ℕ, zero, suc, ◌+◌, ◌-◌, ◌<◌, ◌≤◌, ◌⊎◌, inl, inr, List, [], ◌∷◌, ◌++◌, length, length-append, get_or, Bool, true, false, not, ◌&&◌, ◌||◌, slice_set, false≢true, cases_lt, get_or_append_left, get_or-append_seam, Counted, by_all, by_newer, by_gcc, by_clang, by_some, is_by_all, is_by_newer, joined, Term, is_before_holder, is_in_list, place_in, counted_so_far, both, Candidate}
use Rattle.cpp_term.specs.Values as values
use Rattle.cpp_references.specs.Around.{counted_of, candidate_of, candidates_of, AreNodesThere}
use Rattle.cpp_link.specs.Counting.{marks, inside, place_of, IsListed, placed, with_place}
use Rattle.cpp_link.proofs.Appending.{candidates_push, many_candidates}

-- ## One list

joined_all : (x y : Counted) → joined x y ≡ by_all → (x ≡ by_all) × (y ≡ by_all)
unfolding joined
joined_all by_all y is = (refl, is)
joined_all by_newer by_all is = absurd cc
joined_all by_newer by_newer is = absurd cc
joined_all by_newer by_gcc is = absurd cc
joined_all by_newer by_clang is = absurd cc
joined_all by_newer by_some is = absurd cc
joined_all by_gcc by_all is = absurd cc
joined_all by_gcc by_newer is = absurd cc
joined_all by_gcc by_gcc is = absurd cc
joined_all by_gcc by_clang is = absurd cc
joined_all by_gcc by_some is = absurd cc
joined_all by_clang by_all is = absurd cc
joined_all by_clang by_newer is = absurd cc
joined_all by_clang by_gcc is = absurd cc
joined_all by_clang by_clang is = absurd cc
joined_all by_clang by_some is = absurd cc
joined_all by_some y is = absurd cc

all_is : (x : Counted) → is_by_all x ≡ true → x ≡ by_all
unfolding is_by_all
all_is by_all is = refl
all_is by_newer is = absurd (false≢true is)
all_is by_gcc is = absurd (false≢true is)
all_is by_clang is = absurd (false≢true is)
all_is by_some is = absurd (false≢true is)

all_before : (x : Counted) (cs : List values.Candidate) → is_by_all (counted_so_far x cs) ≡ true → x ≡ by_all
unfolding counted_so_far
all_before x [] is = all_is x is
all_before x (c ∷ cs) is = (joined_all x c.counted (all_before (joined x c.counted) cs is)).0

-- if all compilers count each of these candidates, they count the first one and each of the others
all_first : (c : values.Candidate) (cs : List values.Candidate) → is_by_all (counted_so_far by_all (c ∷ cs)) ≡ true → (c.counted ≡ by_all) × (is_by_all (counted_so_far by_all cs) ≡ true)
unfolding counted_so_far joined
all_first c cs is = let first = all_before c.counted cs is in (first, subst (λ x. is_by_all (counted_so_far x cs) ≡ true) first is)

none_holds : (cs : List values.Candidate) → is_by_all (counted_so_far by_all cs) ≡ true → is_before_holder cs ≡ false
unfolding is_before_holder is_by_newer
none_holds [] all = refl
none_holds (c ∷ cs) all = ap is_by_newer (all_first c cs all).0

in_both : (sh : Bool) (c : values.Candidate) (cs : List values.Candidate) → is_by_all (counted_so_far by_all (c ∷ cs)) ≡ true → is_in_list sh c cs ≡ true
unfolding is_in_list is_by_all
in_both sh c cs all =
    let first = all_first c cs all in
    both (λ b x. not b && (not sh || is_by_all x)) (none_holds cs first.1) first.0 ∙ go sh
  where
    go : (b : Bool) → not false && (not b || is_by_all by_all) ≡ true
    go true = refl
    go false = refl

-- where all compilers count alike, a candidate's number is its place
pub one_place : (sh : Bool) (cs : List values.Candidate) (k : ℕ) → is_by_all (counted_so_far by_all cs) ≡ true → place_in sh cs k ≡ k
unfolding place_in
one_place sh [] k all = refl
one_place sh (c ∷ cs) k all = ap (λ b. elim b as (λ _. ℕ) [ false ↦ suc (place_in sh cs k) | true ↦ elim k [ zero ↦ zero | suc j ↦ suc (place_in sh cs j) ] ]) (in_both sh c cs all) ∙ go k (λ j. one_place sh cs j (all_first c cs all).1)
  where
    go : (m : ℕ) → ((j : ℕ) → place_in sh cs j ≡ j) → elim m as (λ _. ℕ) [ zero ↦ zero | suc j ↦ suc (place_in sh cs j) ] ≡ m
    go zero more = refl
    go (suc j) more = ap suc (more j)

pub all_inside : (sh : Bool) (cs : List values.Candidate) → is_by_all (counted_so_far by_all cs) ≡ true → inside sh cs ≡ length cs
unfolding inside
all_inside sh [] all = refl
all_inside sh (c ∷ cs) all = ap (λ b. elim b as (λ _. ℕ) [ true ↦ suc (inside sh cs) | false ↦ inside sh cs ]) (in_both sh c cs all) ∙ ap suc (all_inside sh cs (all_first c cs all).1)

-- ## Places

-- a number of the list has a place
pub place_there : (sh : Bool) (cs : List values.Candidate) (k : ℕ) → k < inside sh cs → place_in sh cs k < length cs
unfolding place_in inside
place_there sh [] k less = absurd (omega (arith, less))
place_there sh (c ∷ cs) k less = go (is_in_list sh c cs) k less (λ j. place_there sh cs j)
  where
    go : (b : Bool) (m : ℕ) → m < elim b as (λ _. ℕ) [ true ↦ suc (inside sh cs) | false ↦ inside sh cs ] → ((j : ℕ) → j < inside sh cs → place_in sh cs j < length cs)
        → elim b as (λ _. ℕ) [ false ↦ suc (place_in sh cs m) | true ↦ elim m [ zero ↦ zero | suc j ↦ suc (place_in sh cs j) ] ] < suc (length cs)
    go false m less more = omega (arith, more m less)
    go true zero less more = omega arith
    go true (suc j) less more = omega (arith, more j (omega (arith, less)))

-- a number past the list has no place
pub place_past : (sh : Bool) (cs : List values.Candidate) (k : ℕ) → inside sh cs ≤ k → length cs ≤ place_in sh cs k
unfolding place_in inside
place_past sh [] k past = omega arith
place_past sh (c ∷ cs) k past = go (is_in_list sh c cs) k past (λ j. place_past sh cs j)
  where
    go : (b : Bool) (m : ℕ) → elim b as (λ _. ℕ) [ true ↦ suc (inside sh cs) | false ↦ inside sh cs ] ≤ m → ((j : ℕ) → inside sh cs ≤ j → length cs ≤ place_in sh cs j)
        → suc (length cs) ≤ elim b as (λ _. ℕ) [ false ↦ suc (place_in sh cs m) | true ↦ elim m [ zero ↦ zero | suc j ↦ suc (place_in sh cs j) ] ]
    go false m past more = omega (arith, more m past)
    go true zero past more = absurd (omega (arith, past))
    go true (suc j) past more = omega (arith, more j (omega (arith, past)))

-- no number is greater than its place
pub place_behind : (sh : Bool) (cs : List values.Candidate) (k : ℕ) → k ≤ place_in sh cs k
unfolding place_in
place_behind sh [] k = omega arith
place_behind sh (c ∷ cs) k = go (is_in_list sh c cs) k (λ j. place_behind sh cs j)
  where
    go : (b : Bool) (m : ℕ) → ((j : ℕ) → j ≤ place_in sh cs j) → m ≤ elim b as (λ _. ℕ) [ false ↦ suc (place_in sh cs m) | true ↦ elim m [ zero ↦ zero | suc j ↦ suc (place_in sh cs j) ] ]
    go false m more = omega (arith, more m)
    go true zero more = omega arith
    go true (suc j) more = omega (arith, more j)

-- ## One more that takes no other's place

module _ (sh : Bool) (d : values.Candidate) (plain : is_by_newer d.counted ≡ false) where
  before_same : (cs : List values.Candidate) → is_before_holder (cs ++ d ∷ []) ≡ is_before_holder cs
  unfolding is_before_holder
  before_same [] = plain
  before_same (c ∷ cs) = refl

  in_same : (c : values.Candidate) (cs : List values.Candidate) → is_in_list sh c (cs ++ d ∷ []) ≡ is_in_list sh c cs
  unfolding is_in_list
  in_same c cs = ap (λ b. not b && (not sh || is_by_all c.counted)) (before_same cs)

  pub inside_more : (cs : List values.Candidate) → inside sh (cs ++ d ∷ []) ≡ inside sh cs + inside sh (d ∷ [])
  unfolding inside
  inside_more [] = omega arith
  inside_more (c ∷ cs) = ap (λ b. elim b as (λ _. ℕ) [ true ↦ suc (inside sh (cs ++ d ∷ [])) | false ↦ inside sh (cs ++ d ∷ []) ]) (in_same c cs) ∙ go (is_in_list sh c cs) (inside_more cs)
    where
      go : (b : Bool) → inside sh (cs ++ d ∷ []) ≡ inside sh cs + inside sh (d ∷ [])
          → elim b as (λ _. ℕ) [ true ↦ suc (inside sh (cs ++ d ∷ [])) | false ↦ inside sh (cs ++ d ∷ []) ] ≡ elim b as (λ _. ℕ) [ true ↦ suc (inside sh cs) | false ↦ inside sh cs ] + inside sh (d ∷ [])
      go true more = omega (arith, more)
      go false more = more

  pub place_before : (cs : List values.Candidate) (k : ℕ) → k < inside sh cs → place_in sh (cs ++ d ∷ []) k ≡ place_in sh cs k
  unfolding place_in inside
  place_before [] k less = absurd (omega (arith, less))
  place_before (c ∷ cs) k less =
      ap (λ b. elim b as (λ _. ℕ) [ false ↦ suc (place_in sh (cs ++ d ∷ []) k) | true ↦ elim k [ zero ↦ zero | suc j ↦ suc (place_in sh (cs ++ d ∷ []) j) ] ]) (in_same c cs)
      ∙ go (is_in_list sh c cs) k less (λ j. place_before cs j)
    where
      go : (b : Bool) (m : ℕ) → m < elim b as (λ _. ℕ) [ true ↦ suc (inside sh cs) | false ↦ inside sh cs ] → ((j : ℕ) → j < inside sh cs → place_in sh (cs ++ d ∷ []) j ≡ place_in sh cs j)
          → elim b as (λ _. ℕ) [ false ↦ suc (place_in sh (cs ++ d ∷ []) m) | true ↦ elim m [ zero ↦ zero | suc j ↦ suc (place_in sh (cs ++ d ∷ []) j) ] ]
          ≡ elim b as (λ _. ℕ) [ false ↦ suc (place_in sh cs m) | true ↦ elim m [ zero ↦ zero | suc j ↦ suc (place_in sh cs j) ] ]
      go false m less more = ap suc (more m less)
      go true zero less more = refl
      go true (suc j) less more = ap suc (more j (omega (arith, less)))

  -- the number of the added candidate is the next one, if it is in the list
  pub place_last : is_in_list sh d [] ≡ true → (cs : List values.Candidate) (k : ℕ) → k ≡ inside sh cs → place_in sh (cs ++ d ∷ []) k ≡ length cs
  unfolding place_in inside
  place_last last [] k is = rw is (ap (λ b. elim b as (λ _. ℕ) [ false ↦ suc 0 | true ↦ zero ]) last)
  place_last last (c ∷ cs) k is =
      ap (λ b. elim b as (λ _. ℕ) [ false ↦ suc (place_in sh (cs ++ d ∷ []) k) | true ↦ elim k [ zero ↦ zero | suc j ↦ suc (place_in sh (cs ++ d ∷ []) j) ] ]) (in_same c cs)
      ∙ go (is_in_list sh c cs) k is (λ j. place_last last cs j)
    where
      go : (b : Bool) (m : ℕ) → m ≡ elim b as (λ _. ℕ) [ true ↦ suc (inside sh cs) | false ↦ inside sh cs ] → ((j : ℕ) → j ≡ inside sh cs → place_in sh (cs ++ d ∷ []) j ≡ length cs)
          → elim b as (λ _. ℕ) [ false ↦ suc (place_in sh (cs ++ d ∷ []) m) | true ↦ elim m [ zero ↦ zero | suc j ↦ suc (place_in sh (cs ++ d ∷ []) j) ] ] ≡ suc (length cs)
      go false m is more = ap suc (more m is)
      go true zero is more = absurd (omega (arith, is))
      go true (suc j) is more = ap suc (more j (omega (arith, is)))

-- ## A name with its M, which takes the place of the one before it

-- whether all compilers count the last candidate
unfoldable pub last_all : List values.Candidate → Bool
last_all [] = false
last_all (c ∷ []) = is_by_all c.counted
last_all (c ∷ e ∷ cs) = last_all (e ∷ cs)

longer_one : (c : values.Candidate) → inside false (c ∷ []) ≡ 1
unfolding inside is_in_list is_before_holder
longer_one c = refl

pub some_longer : (c : values.Candidate) (cs : List values.Candidate) → 1 ≤ inside false (c ∷ cs)
unfolding inside
some_longer c [] = omega (arith, longer_one c)
some_longer c (e ∷ cs) = go (is_in_list false c (e ∷ cs)) (some_longer e cs)
  where
    go : (b : Bool) → 1 ≤ inside false (e ∷ cs) → 1 ≤ elim b as (λ _. ℕ) [ true ↦ suc (inside false (e ∷ cs)) | false ↦ inside false (e ∷ cs) ]
    go true more = omega arith
    go false more = more

module _ (d : values.Candidate) (holds : d.counted ≡ by_newer) where
  out : (sh : Bool) (c : values.Candidate) → is_in_list sh c (d ∷ []) ≡ false
  unfolding is_in_list is_before_holder is_by_newer
  out sh c = ap (λ x. not (is_by_newer x) && (not sh || is_by_all c.counted)) holds

  alone_longer : is_in_list false d [] ≡ true
  unfolding is_in_list is_before_holder
  alone_longer = refl

  alone_shorter : is_in_list true d [] ≡ false
  unfolding is_in_list is_before_holder is_by_all
  alone_shorter = ap (λ x. not false && (not true || is_by_all x)) holds

  longer_two : (c : values.Candidate) → inside false (c ∷ d ∷ []) ≡ 1
  unfolding inside
  longer_two c =
      ap (λ b. elim b as (λ _. ℕ) [ true ↦ suc (elim (is_in_list false d []) as (λ _. ℕ) [ true ↦ 1 | false ↦ 0 ]) | false ↦ elim (is_in_list false d []) as (λ _. ℕ) [ true ↦ 1 | false ↦ 0 ] ]) (out false c)
      ∙ ap (λ b. elim b as (λ _. ℕ) [ true ↦ 1 | false ↦ 0 ]) alone_longer

  pub longer_same : (c : values.Candidate) (cs : List values.Candidate) → inside false ((c ∷ cs) ++ d ∷ []) ≡ inside false (c ∷ cs)
  unfolding inside is_in_list is_before_holder
  longer_same c [] = longer_two c ∙ sym (longer_one c)
  longer_same c (e ∷ cs) = ap (λ n. elim (is_in_list false c (e ∷ cs)) as (λ _. ℕ) [ true ↦ suc n | false ↦ n ]) (longer_same e cs)

  -- the number that was the last one of the longer list now names the added candidate
  pub longer_last : (c : values.Candidate) (cs : List values.Candidate) (k : ℕ) → suc k ≡ inside false (c ∷ cs) → place_in false ((c ∷ cs) ++ d ∷ []) k ≡ length (c ∷ cs)
  unfolding place_in inside is_in_list is_before_holder
  longer_last c [] k is =
      let first : k ≡ 0 = omega (arith, is, longer_one c) in
      rw first (ap (λ b. elim b as (λ _. ℕ) [ false ↦ suc (elim (is_in_list false d []) as (λ _. ℕ) [ false ↦ suc 0 | true ↦ zero ]) | true ↦ zero ]) (out false c) ∙ ap (λ b. suc (elim b as (λ _. ℕ) [ false ↦ suc 0 | true ↦ zero ])) alone_longer)
  longer_last c (e ∷ cs) k is = go (is_in_list false c (e ∷ cs)) k is (λ j. longer_last e cs j)
    where
      go : (b : Bool) (m : ℕ) → suc m ≡ elim b as (λ _. ℕ) [ true ↦ suc (inside false (e ∷ cs)) | false ↦ inside false (e ∷ cs) ] → ((j : ℕ) → suc j ≡ inside false (e ∷ cs) → place_in false ((e ∷ cs) ++ d ∷ []) j ≡ suc (length cs))
          → elim b as (λ _. ℕ) [ false ↦ suc (place_in false ((e ∷ cs) ++ d ∷ []) m) | true ↦ elim m [ zero ↦ zero | suc j ↦ suc (place_in false ((e ∷ cs) ++ d ∷ []) j) ] ] ≡ suc (suc (length cs))
      go false m is more = ap suc (more m is)
      go true zero is more = absurd (omega (arith, is, some_longer e cs))
      go true (suc j) is more = ap suc (more j (omega (arith, is)))

  -- the numbers before the last one keep their places
  pub longer_before : (c : values.Candidate) (cs : List values.Candidate) (k : ℕ) → suc k < inside false (c ∷ cs) → place_in false ((c ∷ cs) ++ d ∷ []) k ≡ place_in false (c ∷ cs) k
  unfolding place_in inside is_in_list is_before_holder
  longer_before c [] k less = absurd (omega (arith, less, longer_one c))
  longer_before c (e ∷ cs) k less = go (is_in_list false c (e ∷ cs)) k less (λ j. longer_before e cs j)
    where
      go : (b : Bool) (m : ℕ) → suc m < elim b as (λ _. ℕ) [ true ↦ suc (inside false (e ∷ cs)) | false ↦ inside false (e ∷ cs) ]
          → ((j : ℕ) → suc j < inside false (e ∷ cs) → place_in false ((e ∷ cs) ++ d ∷ []) j ≡ place_in false (e ∷ cs) j)
          → elim b as (λ _. ℕ) [ false ↦ suc (place_in false ((e ∷ cs) ++ d ∷ []) m) | true ↦ elim m [ zero ↦ zero | suc j ↦ suc (place_in false ((e ∷ cs) ++ d ∷ []) j) ] ]
          ≡ elim b as (λ _. ℕ) [ false ↦ suc (place_in false (e ∷ cs) m) | true ↦ elim m [ zero ↦ zero | suc j ↦ suc (place_in false (e ∷ cs) j) ] ]
      go false m less more = ap suc (more m less)
      go true zero less more = refl
      go true (suc j) less more = ap suc (more j (omega (arith, less)))

  shorter_none : (c : values.Candidate) → inside true (c ∷ d ∷ []) ≡ 0
  unfolding inside
  shorter_none c =
      ap (λ b. elim b as (λ _. ℕ) [ true ↦ suc (elim (is_in_list true d []) as (λ _. ℕ) [ true ↦ 1 | false ↦ 0 ]) | false ↦ elim (is_in_list true d []) as (λ _. ℕ) [ true ↦ 1 | false ↦ 0 ] ]) (out true c)
      ∙ ap (λ b. elim b as (λ _. ℕ) [ true ↦ 1 | false ↦ 0 ]) alone_shorter

  shorter_one : (c : values.Candidate) → inside true (c ∷ []) ≡ elim (last_all (c ∷ [])) [ true ↦ 1 | false ↦ 0 ]
  unfolding inside is_in_list is_before_holder last_all
  shorter_one c = refl

  -- the shorter list has neither the added candidate nor the one before it
  pub shorter_less : (c : values.Candidate) (cs : List values.Candidate) → inside true ((c ∷ cs) ++ d ∷ []) + elim (last_all (c ∷ cs)) [ true ↦ 1 | false ↦ 0 ] ≡ inside true (c ∷ cs)
  unfolding inside last_all is_in_list is_before_holder
  shorter_less c [] = omega (arith, shorter_none c, shorter_one c)
  shorter_less c (e ∷ cs) = go (is_in_list true c (e ∷ cs)) (shorter_less e cs)
    where
      go : (b : Bool) → inside true ((e ∷ cs) ++ d ∷ []) + elim (last_all (e ∷ cs)) [ true ↦ 1 | false ↦ 0 ] ≡ inside true (e ∷ cs)
          → elim b as (λ _. ℕ) [ true ↦ suc (inside true ((e ∷ cs) ++ d ∷ [])) | false ↦ inside true ((e ∷ cs) ++ d ∷ []) ] + elim (last_all (e ∷ cs)) [ true ↦ 1 | false ↦ 0 ]
          ≡ elim b as (λ _. ℕ) [ true ↦ suc (inside true (e ∷ cs)) | false ↦ inside true (e ∷ cs) ]
      go true more = omega (arith, more)
      go false more = more

  pub shorter_before : (c : values.Candidate) (cs : List values.Candidate) (k : ℕ) → k < inside true ((c ∷ cs) ++ d ∷ []) → place_in true ((c ∷ cs) ++ d ∷ []) k ≡ place_in true (c ∷ cs) k
  unfolding place_in inside is_in_list is_before_holder
  shorter_before c [] k less = absurd (omega (arith, less, shorter_none c))
  shorter_before c (e ∷ cs) k less = go (is_in_list true c (e ∷ cs)) k less (λ j. shorter_before e cs j)
    where
      go : (b : Bool) (m : ℕ) → m < elim b as (λ _. ℕ) [ true ↦ suc (inside true ((e ∷ cs) ++ d ∷ [])) | false ↦ inside true ((e ∷ cs) ++ d ∷ []) ]
          → ((j : ℕ) → j < inside true ((e ∷ cs) ++ d ∷ []) → place_in true ((e ∷ cs) ++ d ∷ []) j ≡ place_in true (e ∷ cs) j)
          → elim b as (λ _. ℕ) [ false ↦ suc (place_in true ((e ∷ cs) ++ d ∷ []) m) | true ↦ elim m [ zero ↦ zero | suc j ↦ suc (place_in true ((e ∷ cs) ++ d ∷ []) j) ] ]
          ≡ elim b as (λ _. ℕ) [ false ↦ suc (place_in true (e ∷ cs) m) | true ↦ elim m [ zero ↦ zero | suc j ↦ suc (place_in true (e ∷ cs) j) ] ]
      go false m less more = ap suc (more m less)
      go true zero less more = refl
      go true (suc j) less more = ap suc (more j (omega (arith, less)))

-- ## A candidate that holds another place

placed_same : (sh : Bool) (ts : List Term) (p : ℕ) (c : Candidate) → candidate_of ts (placed sh p c) ≡ candidate_of ts c
unfolding placed
placed_same false ts p c = refl
placed_same true ts p c = refl

pub with_same : (sh : Bool) (ts : List Term) (cs : List Candidate) (n p : ℕ) → candidates_of ts (with_place sh cs n p) ≡ candidates_of ts cs
with_same sh ts [] n p = refl
with_same sh ts (c ∷ cs) zero p = ap (λ x. x ∷ candidates_of ts cs) (placed_same sh ts p c)
with_same sh ts (c ∷ cs) (suc n) p = ap (λ xs. candidate_of ts c ∷ xs) (with_same sh ts cs n p)

pub longer_set : (cs : List Candidate) (n p : ℕ) (c : Candidate) → n < length cs → c ≡ get_or cs n c → slice_set cs n (record c { longer = p }) ≡ with_place false cs n p
unfolding placed
longer_set cs n p c less is = ap (λ d. slice_set cs n (record d { longer = p })) is ∙ go cs n c less
  where
    go : (ds : List Candidate) (k : ℕ) (d : Candidate) → k < length ds → slice_set ds k (record (get_or ds k d) { longer = p }) ≡ with_place false ds k p
    go [] k d less = absurd (omega (arith, less))
    go (e ∷ ds) zero d less = refl
    go (e ∷ ds) (suc k) d less = ap (λ xs. e ∷ xs) (go ds k d (omega (arith, less)))

pub shorter_set : (cs : List Candidate) (n p : ℕ) (c : Candidate) → n < length cs → c ≡ get_or cs n c → slice_set cs n (record c { shorter = p }) ≡ with_place true cs n p
unfolding placed
shorter_set cs n p c less is = ap (λ d. slice_set cs n (record d { shorter = p })) is ∙ go cs n c less
  where
    go : (ds : List Candidate) (k : ℕ) (d : Candidate) → k < length ds → slice_set ds k (record (get_or ds k d) { shorter = p }) ≡ with_place true ds k p
    go [] k d less = absurd (omega (arith, less))
    go (e ∷ ds) zero d less = refl
    go (e ∷ ds) (suc k) d less = ap (λ xs. e ∷ xs) (go ds k d (omega (arith, less)))

pub with_length : (sh : Bool) (cs : List Candidate) (n p : ℕ) → length (with_place sh cs n p) ≡ length cs
with_length sh [] n p = refl
with_length sh (c ∷ cs) zero p = refl
with_length sh (c ∷ cs) (suc n) p = ap suc (with_length sh cs n p)

placed_node : (sh : Bool) (n p : ℕ) (c : Candidate) → c.node < n → (placed sh p c).node < n
unfolding placed
placed_node false n p c less = less
placed_node true n p c less = less

pub with_nodes : (sh : Bool) (n : ℕ) (cs : List Candidate) (k p : ℕ) → AreNodesThere n cs → AreNodesThere n (with_place sh cs k p)
with_nodes sh n [] k p there = there
with_nodes sh n (c ∷ cs) zero p there = (placed_node sh n p c there.0, there.1)
with_nodes sh n (c ∷ cs) (suc k) p there = (there.0, with_nodes sh n cs k p there.1)

placed_own : (sh : Bool) (p : ℕ) (c : Candidate) → place_of sh (placed sh p c) ≡ p
unfolding placed place_of
placed_own false p c = refl
placed_own true p c = refl

with_own : (sh : Bool) (cs : List Candidate) (n p : ℕ) (d : Candidate) → n < length cs → place_of sh (get_or (with_place sh cs n p) n d) ≡ p
with_own sh [] n p d less = absurd (omega (arith, less))
with_own sh (c ∷ cs) zero p d less = placed_own sh p c
with_own sh (c ∷ cs) (suc n) p d less = with_own sh cs n p d (omega (arith, less))

with_else : (sh : Bool) (cs : List Candidate) (n p k : ℕ) (d : Candidate) → (k ≡ n → ⊥) → get_or (with_place sh cs n p) k d ≡ get_or cs k d
with_else sh [] n p k d other = refl
with_else sh (c ∷ cs) zero p zero d other = absurd (other refl)
with_else sh (c ∷ cs) zero p (suc k) d other = refl
with_else sh (c ∷ cs) (suc n) p zero d other = refl
with_else sh (c ∷ cs) (suc n) p (suc k) d other = with_else sh cs n p k d (λ same. other (ap suc same))

shorter_stays : (cs : List Candidate) (n p k : ℕ) (d : Candidate) → place_of true (get_or (with_place false cs n p) k d) ≡ place_of true (get_or cs k d)
unfolding placed place_of
shorter_stays [] n p k d = refl
shorter_stays (c ∷ cs) zero p zero d = refl
shorter_stays (c ∷ cs) zero p (suc k) d = refl
shorter_stays (c ∷ cs) (suc n) p zero d = refl
shorter_stays (c ∷ cs) (suc n) p (suc k) d = shorter_stays cs n p k d

longer_stays : (cs : List Candidate) (n p k : ℕ) (d : Candidate) → place_of false (get_or (with_place true cs n p) k d) ≡ place_of false (get_or cs k d)
unfolding placed place_of
longer_stays [] n p k d = refl
longer_stays (c ∷ cs) zero p zero d = refl
longer_stays (c ∷ cs) zero p (suc k) d = refl
longer_stays (c ∷ cs) (suc n) p zero d = refl
longer_stays (c ∷ cs) (suc n) p (suc k) d = longer_stays cs n p k d

pub shorter_kept : (apart : ℕ) (cs : List Candidate) (n p : ℕ) → IsListed true apart cs → IsListed true apart (with_place false cs n p)
shorter_kept apart cs n p listed = record {
  count = ap (λ xs. apart + inside true xs) (with_same false [] cs n p) ∙ listed.count ∙ sym (with_length false cs n p);
  place = λ k d less. shorter_stays cs n p k d ∙ listed.place k d (subst (λ xs. k < inside true xs) (with_same false [] cs n p) less) ∙ ap (λ xs. place_in true xs k) (sym (with_same false [] cs n p));
}

pub longer_kept : (apart : ℕ) (cs : List Candidate) (n p : ℕ) → IsListed false apart cs → IsListed false apart (with_place true cs n p)
longer_kept apart cs n p listed = record {
  count = ap (λ xs. apart + inside false xs) (with_same true [] cs n p) ∙ listed.count ∙ sym (with_length true cs n p);
  place = λ k d less. longer_stays cs n p k d ∙ listed.place k d (subst (λ xs. k < inside false xs) (with_same true [] cs n p) less) ∙ ap (λ xs. place_in false xs k) (sym (with_same true [] cs n p));
}

-- ## The list with one more

length_more : (cs : List Candidate) (c : Candidate) → length (cs ++ c ∷ []) ≡ length cs + 1
length_more cs c = length-append cs (c ∷ [])

module _ (sh : Bool) (apart : ℕ) (cs : List Candidate) (c : Candidate) (listed : IsListed sh apart cs) where
  abbrev mark : values.Candidate
  mark = candidate_of [] c

  pushed : marks (cs ++ c ∷ []) ≡ marks cs ++ mark ∷ []
  pushed = candidates_push [] cs c

  old_place : (k : ℕ) (d : Candidate) → k < inside sh (marks cs) → place_of sh (get_or (cs ++ c ∷ []) k d) ≡ place_in sh (marks cs) k
  old_place k d less = ap (place_of sh) (get_or_append_left cs (c ∷ []) d k (omega (arith, less, listed.count))) ∙ listed.place k d less

  module _ (plain : is_by_newer (counted_of c.counted) ≡ false) where
    many : inside sh (marks (cs ++ c ∷ [])) ≡ inside sh (marks cs) + inside sh (mark ∷ [])
    many = ap (λ xs. inside sh xs) pushed ∙ inside_more sh mark plain (marks cs)

    -- the added candidate isn't in the list
    pub listed_out : inside sh (mark ∷ []) ≡ 0 → IsListed sh (apart + 1) (cs ++ c ∷ [])
    listed_out out = record {
      count = omega (arith, many, out, listed.count, length_more cs c);
      place = λ k d less. (
          let less_before : k < inside sh (marks cs) = omega (arith, less, many, out) in
          old_place k d less_before ∙ sym (place_before sh mark plain (marks cs) k less_before) ∙ ap (λ xs. place_in sh xs k) (sym pushed));
    }

    module _ (last : is_in_list sh mark [] ≡ true) (alone : inside sh (mark ∷ []) ≡ 1) where
      -- the added candidate holds its own place
      pub listed_same : inside sh (marks cs) ≡ length cs → place_of sh c ≡ length cs → IsListed sh apart (cs ++ c ∷ [])
      listed_same all own = record {
        count = omega (arith, many, alone, listed.count, length_more cs c);
        place = λ k d less. by k d (cases_lt k (inside sh (marks cs))) (omega (arith, less, many, alone));
      }
        where
          by : (k : ℕ) (d : Candidate) → (k < inside sh (marks cs)) ⊎ (inside sh (marks cs) ≤ k) → k < inside sh (marks cs) + 1 → place_of sh (get_or (cs ++ c ∷ []) k d) ≡ place_in sh (marks (cs ++ c ∷ [])) k
          by k d (inl less_before) less =
              old_place k d less_before ∙ sym (place_before sh mark plain (marks cs) k less_before) ∙ ap (λ xs. place_in sh xs k) (sym pushed)
          by k d (inr past) less =
              let here : k ≡ inside sh (marks cs) = omega (arith, past, less) in
              ap (λ n. place_of sh (get_or (cs ++ c ∷ []) n d)) (here ∙ all) ∙ ap (place_of sh) (get_or-append_seam cs c [] d) ∙ own
              ∙ sym (many_candidates [] cs) ∙ sym (place_last sh mark plain last (marks cs) k here) ∙ ap (λ xs. place_in sh xs k) (sym pushed)

      -- a candidate is added, and the entry with its number holds its place
      pub listed_put : (number place : ℕ) → number ≡ length cs - apart → place ≡ length cs → IsListed sh apart (with_place sh (cs ++ c ∷ []) number place)
      listed_put number place number_is place_is = record {
        count = ap (λ xs. apart + inside sh xs) (with_same sh [] (cs ++ c ∷ []) number place) ∙ omega (arith, many, alone, listed.count, length_more cs c) ∙ sym (with_length sh (cs ++ c ∷ []) number place);
        place = λ k d less. by k d (cases_lt k (inside sh (marks cs))) (omega (arith, less, ap (λ xs. inside sh xs) (with_same sh [] (cs ++ c ∷ []) number place), many, alone))
            ∙ ap (λ xs. place_in sh xs k) (sym (with_same sh [] (cs ++ c ∷ []) number place));
      }
        where
          by : (k : ℕ) (d : Candidate) → (k < inside sh (marks cs)) ⊎ (inside sh (marks cs) ≤ k) → k < inside sh (marks cs) + 1
              → place_of sh (get_or (with_place sh (cs ++ c ∷ []) number place) k d) ≡ place_in sh (marks (cs ++ c ∷ [])) k
          by k d (inl less_before) less =
              ap (place_of sh) (with_else sh (cs ++ c ∷ []) number place k d (λ same. omega (arith, same, less_before, number_is, listed.count)))
              ∙ old_place k d less_before ∙ sym (place_before sh mark plain (marks cs) k less_before) ∙ ap (λ xs. place_in sh xs k) (sym pushed)
          by k d (inr past) less =
              let here : k ≡ inside sh (marks cs) = omega (arith, past, less) in
              let same : k ≡ number = omega (arith, here, number_is, listed.count) in
              ap (λ n. place_of sh (get_or (with_place sh (cs ++ c ∷ []) number place) n d)) same
              ∙ with_own sh (cs ++ c ∷ []) number place d (omega (arith, number_is, length_more cs c)) ∙ place_is
              ∙ sym (many_candidates [] cs) ∙ sym (place_last sh mark plain last (marks cs) k here) ∙ ap (λ xs. place_in sh xs k) (sym pushed)

-- ## A name with its M

module _ (apart : ℕ) (b : Candidate) (bs : List Candidate) (c : Candidate) (holds : counted_of c.counted ≡ by_newer) where
  abbrev before : List Candidate
  before = b ∷ bs

  abbrev held : values.Candidate
  held = candidate_of [] c

  held_pushed : marks (before ++ c ∷ []) ≡ marks before ++ held ∷ []
  held_pushed = candidates_push [] before c

  pub holder_longer : (number place : ℕ) → number ≡ length before - (apart + 1) → place ≡ length before → IsListed false apart before
      → IsListed false (apart + 1) (with_place false (before ++ c ∷ []) number place)
  holder_longer number place number_is place_is listed = record {
    count = ap (λ xs. apart + 1 + inside false xs) (with_same false [] (before ++ c ∷ []) number place)
        ∙ omega (arith, many, listed.count, length_more before c) ∙ sym (with_length false (before ++ c ∷ []) number place);
    place = λ k d less. by k d (cases_lt (suc k) (inside false (marks before))) (omega (arith, less, ap (λ xs. inside false xs) (with_same false [] (before ++ c ∷ []) number place), many))
        ∙ ap (λ xs. place_in false xs k) (sym (with_same false [] (before ++ c ∷ []) number place));
  }
    where
      many : inside false (marks (before ++ c ∷ [])) ≡ inside false (marks before)
      many = ap (λ xs. inside false xs) held_pushed ∙ longer_same held holds (candidate_of [] b) (marks bs)

      by : (k : ℕ) (d : Candidate) → (suc k < inside false (marks before)) ⊎ (inside false (marks before) ≤ suc k) → k < inside false (marks before)
          → place_of false (get_or (with_place false (before ++ c ∷ []) number place) k d) ≡ place_in false (marks (before ++ c ∷ [])) k
      by k d (inl less_before) less =
          ap (place_of false) (with_else false (before ++ c ∷ []) number place k d (λ same. omega (arith, same, less_before, number_is, listed.count)))
          ∙ ap (place_of false) (get_or_append_left before (c ∷ []) d k (omega (arith, less, listed.count))) ∙ listed.place k d less
          ∙ sym (longer_before held holds (candidate_of [] b) (marks bs) k less_before) ∙ ap (λ xs. place_in false xs k) (sym held_pushed)
      by k d (inr past) less =
          let last : suc k ≡ inside false (marks before) = omega (arith, past, less) in
          let same : k ≡ number = omega (arith, last, number_is, listed.count) in
          ap (λ n. place_of false (get_or (with_place false (before ++ c ∷ []) number place) n d)) same
          ∙ with_own false (before ++ c ∷ []) number place d (omega (arith, number_is, length_more before c)) ∙ place_is
          ∙ sym (many_candidates [] before) ∙ sym (longer_last held holds (candidate_of [] b) (marks bs) k last) ∙ ap (λ xs. place_in false xs k) (sym held_pushed)

  pub holder_shorter : (more : ℕ) → more ≡ elim (last_all (marks before)) [ true ↦ 2 | false ↦ 1 ] → IsListed true apart before → IsListed true (apart + more) (before ++ c ∷ [])
  holder_shorter more more_is listed = record {
    count = go (last_all (marks before)) more_is fewer;
    place = λ k d less. (
        let here : k < inside true (marks before ++ held ∷ []) = subst (λ xs. k < inside true xs) held_pushed less in
        let less_before : k < inside true (marks before) = omega (arith, here, fewer) in
        ap (place_of true) (get_or_append_left before (c ∷ []) d k (omega (arith, less_before, listed.count))) ∙ listed.place k d less_before
        ∙ sym (shorter_before held holds (candidate_of [] b) (marks bs) k here) ∙ ap (λ xs. place_in true xs k) (sym held_pushed));
  }
    where
      fewer : inside true (marks before ++ held ∷ []) + elim (last_all (marks before)) [ true ↦ 1 | false ↦ 0 ] ≡ inside true (marks before)
      fewer = shorter_less held holds (candidate_of [] b) (marks bs)

      go : (l : Bool) → more ≡ elim l [ true ↦ 2 | false ↦ 1 ] → inside true (marks before ++ held ∷ []) + elim l [ true ↦ 1 | false ↦ 0 ] ≡ inside true (marks before)
          → apart + more + inside true (marks (before ++ c ∷ [])) ≡ length (before ++ c ∷ [])
      go true is few = omega (arith, is, few, listed.count, length_more before c, ap (λ xs. inside true xs) held_pushed)
      go false is few = omega (arith, is, few, listed.count, length_more before c, ap (λ xs. inside true xs) held_pushed)

-- `last_all` says whether all compilers count the last candidate
pub last_is : (cs : List Candidate) (d : Candidate) → 0 < length cs → last_all (marks cs) ≡ is_by_all (counted_of (get_or cs (length cs - 1) d).counted)
unfolding last_all
last_is [] d some = absurd (omega (arith, some))
last_is (c ∷ []) d some = refl
last_is (c ∷ e ∷ cs) d some =
    let number : suc (length (e ∷ cs) - 1) ≡ length (c ∷ e ∷ cs) - 1 = omega arith in
    last_is (e ∷ cs) d (omega arith) ∙ ap (λ n. is_by_all (counted_of (get_or (c ∷ e ∷ cs) n d).counted)) number

-- ## By whom the longer list is counted

pub so_far_more : (x : Counted) (cs : List values.Candidate) (d : values.Candidate) → counted_so_far x (cs ++ d ∷ []) ≡ joined (counted_so_far x cs) d.counted
unfolding counted_so_far
so_far_more x [] d = refl
so_far_more x (c ∷ cs) d = so_far_more (joined x c.counted) cs d

-- which compilers count the list doesn't depend on the trees
pub so_far_same : (ts us : List Term) (x : Counted) (cs : List Candidate) → counted_so_far x (candidates_of ts cs) ≡ counted_so_far x (candidates_of us cs)
unfolding counted_so_far
so_far_same ts us x [] = refl
so_far_same ts us x (c ∷ cs) = so_far_same ts us (joined x (counted_of c.counted)) cs

pub place_same : (sh : Bool) (ts us : List Term) (cs : List Candidate) (k : ℕ) → place_in sh (candidates_of ts cs) k ≡ place_in sh (candidates_of us cs) k
unfolding place_in is_in_list is_before_holder
place_same sh ts us [] k = refl
place_same sh ts us (c ∷ cs) k =
    ap (λ b. elim (not b && (not sh || is_by_all (counted_of c.counted))) as (λ _. ℕ) [ false ↦ suc (place_in sh (candidates_of ts cs) k) | true ↦ elim k [ zero ↦ zero | suc j ↦ suc (place_in sh (candidates_of ts cs) j) ] ]) (next cs)
    ∙ go (is_in_list sh (candidate_of us c) (candidates_of us cs)) k (λ j. place_same sh ts us cs j)
  where
    next : (ds : List Candidate) → is_before_holder (candidates_of ts ds) ≡ is_before_holder (candidates_of us ds)
    next [] = refl
    next (d ∷ ds) = refl

    go : (b : Bool) (m : ℕ) → ((j : ℕ) → place_in sh (candidates_of ts cs) j ≡ place_in sh (candidates_of us cs) j)
        → elim b as (λ _. ℕ) [ false ↦ suc (place_in sh (candidates_of ts cs) m) | true ↦ elim m [ zero ↦ zero | suc j ↦ suc (place_in sh (candidates_of ts cs) j) ] ]
        ≡ elim b as (λ _. ℕ) [ false ↦ suc (place_in sh (candidates_of us cs) m) | true ↦ elim m [ zero ↦ zero | suc j ↦ suc (place_in sh (candidates_of us cs) j) ] ]
    go false m more = ap suc (more m)
    go true zero more = refl
    go true (suc j) more = ap suc (more j)

-- ## A number

pub number_there : (sh : Bool) (apart : ℕ) (cs : List Candidate) (k : ℕ) (c : Candidate) → IsListed sh apart cs → k < length cs - apart → c ≡ get_or cs k c
    → (place_of sh c ≡ place_in sh (marks cs) k) × (place_of sh c < length cs)
number_there sh apart cs k c listed less is =
    let inside_it : k < inside sh (marks cs) = omega (arith, less, listed.count) in
    let same : place_of sh c ≡ place_in sh (marks cs) k = ap (place_of sh) is ∙ listed.place k c inside_it in
    (same, omega (arith, same, place_there sh (marks cs) k inside_it, many_candidates [] cs))

pub number_past : (sh : Bool) (apart : ℕ) (cs : List Candidate) (k : ℕ) → IsListed sh apart cs → length cs - apart ≤ k → length cs ≤ place_in sh (marks cs) k
number_past sh apart cs k listed past = omega (arith, place_past sh (marks cs) k (omega (arith, past, listed.count)), many_candidates [] cs)
