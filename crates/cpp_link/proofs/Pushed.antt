-- A candidate that was added is numbered in both lists.
use Rattle.cpp_link.proofs.Basics.{◌≡◌, refl, sym, ◌∙◌, ap, subst, arith, ℕ, zero, suc, ◌+◌, ◌-◌, ◌<◌, ◌≤◌, List, [], ◌∷◌, ◌++◌, length, get_or, Bool, true, false, vec_capacity, false≢true, Counted, by_all, by_newer, by_gcc, by_clang, by_some, is_by_all, is_by_newer, joined, is_before_holder, is_in_list, place_in, counted_so_far, Candidate, Candidates}
use Rattle.cpp_references.specs.declared.candidates.Counted.{Counted as Noted}
use Rattle.cpp_references.specs.declared.candidates.Counted.TheVariants as noted
use Rattle.cpp_references.specs.Around.{counted_of, candidate_of, candidates_of, AreNodesThere}
use Rattle.cpp_link.specs.Counting.{marks, inside, place_of, placed, with_place, IsListed, AreListed, AreNumbered}
use Rattle.cpp_link.proofs.Appending.{candidates_push}
use Rattle.cpp_link.proofs.Listed.{all_inside, some_longer, last_all, last_is, listed_out, listed_same, listed_put, holder_longer, holder_shorter, longer_kept, shorter_kept, so_far_more, with_same, with_length, with_nodes}

-- after one candidate, a list has one number if the candidate is in it, and none otherwise
alone_is : (sh : Bool) (c : Candidate) (b : Bool) → is_in_list sh (candidate_of [] c) [] ≡ b → inside sh (candidate_of [] c ∷ []) ≡ elim b [ true ↦ 1 | false ↦ 0 ]
unfolding inside
alone_is sh c b is = ap (λ x. elim x as (λ _. ℕ) [ true ↦ 1 | false ↦ 0 ]) is

longer_there : (c : Candidate) → is_in_list false (candidate_of [] c) [] ≡ true
unfolding is_in_list is_before_holder
longer_there c = refl

shorter_there : (c : Candidate) (b : Bool) → is_by_all (counted_of c.counted) ≡ b → is_in_list true (candidate_of [] c) [] ≡ b
unfolding is_in_list is_before_holder
shorter_there c b is = is

joined_none : (x : Counted) → joined x by_all ≡ x
unfolding joined
joined_none by_all = refl
joined_none by_newer = refl
joined_none by_gcc = refl
joined_none by_clang = refl
joined_none by_some = refl

with_both : (cs : List Candidate) (i p j q : ℕ) → with_place true (with_place false cs i p) j q ≡ with_place false (with_place true cs j q) i p
unfolding placed
with_both [] i p j q = refl
with_both (c ∷ cs) zero p zero q = refl
with_both (c ∷ cs) zero p (suc j) q = refl
with_both (c ∷ cs) (suc i) p zero q = refl
with_both (c ∷ cs) (suc i) p (suc j) q = ap (λ xs. c ∷ xs) (with_both cs i p j q)

-- which compilers count the longer list, once a candidate has been added
by_more : (x : Counted) (cs items : List Candidate) (c : Candidate) → x ≡ counted_so_far by_all (marks cs) → marks items ≡ marks (cs ++ c ∷ []) → joined x (counted_of c.counted) ≡ counted_so_far by_all (marks items)
by_more x cs items c is same =
    ap (λ y. joined y (counted_of c.counted)) is ∙ sym (so_far_more by_all (marks cs) (candidate_of [] c)) ∙ ap (λ xs. counted_so_far by_all xs) (sym (candidates_push [] cs c) ∙ sym same)

module _ (n m : ℕ) (by : Noted) (cs : List Candidate) (c : Candidate) (listed : AreListed n m by cs) where
  -- a candidate that all compilers count
  module _ (all : c.counted ≡ noted.ByAll) where
    is_all : is_by_all (counted_of c.counted) ≡ true
    unfolding is_by_all counted_of
    is_all = ap (λ x. is_by_all (counted_of x)) all

    not_newer : is_by_newer (counted_of c.counted) ≡ false
    unfolding is_by_newer counted_of
    not_newer = ap (λ x. is_by_newer (counted_of x)) all

    by_same : (items : List Candidate) → marks items ≡ marks (cs ++ c ∷ []) → counted_of by ≡ counted_so_far by_all (marks items)
    unfolding counted_of
    by_same items same = sym (joined_none (counted_of by)) ∙ ap (λ x. joined (counted_of by) (counted_of x)) (sym all) ∙ by_more (counted_of by) cs items c listed.by same

    pub both_listed : (i j own : ℕ) → own ≡ length cs → i ≡ own - n → j ≡ own - m → AreListed n m by (with_place true (with_place false (cs ++ c ∷ []) i own) j own)
    both_listed i j own here first second = record {
      longer = longer_kept n (with_place false (cs ++ c ∷ []) i own) j own
          (listed_put false n cs c listed.longer not_newer (longer_there c) (alone_is false c true (longer_there c)) i own (omega (arith, first, here)) here);
      shorter = subst (λ xs. IsListed true m xs) (sym (with_both (cs ++ c ∷ []) i own j own))
          (shorter_kept m (with_place true (cs ++ c ∷ []) j own) i own
          (listed_put true m cs c listed.shorter not_newer (shorter_there c true is_all) (alone_is true c true (shorter_there c true is_all)) j own (omega (arith, second, here)) here));
      by = by_same _ (with_same true [] (with_place false (cs ++ c ∷ []) i own) j own ∙ with_same false [] (cs ++ c ∷ []) i own);
    }

    -- where all compilers count alike, the candidate holds its own place
    pub one_listed : is_by_all (counted_of by) ≡ true → c.longer ≡ length cs → c.shorter ≡ length cs → AreListed n m by (cs ++ c ∷ [])
    unfolding place_of
    one_listed alike longer shorter =
        let same = ap is_by_all (sym listed.by) ∙ alike in record {
          longer = listed_same false n cs c listed.longer not_newer (longer_there c) (alone_is false c true (longer_there c)) (all_inside false (marks cs) same ∙ many_marks) longer;
          shorter = listed_same true m cs c listed.shorter not_newer (shorter_there c true is_all) (alone_is true c true (shorter_there c true is_all)) (all_inside true (marks cs) same ∙ many_marks) shorter;
          by = by_same (cs ++ c ∷ []) refl;
        }
      where
        many_marks : length (marks cs) ≡ length cs
        many_marks = many cs
          where
            many : (ds : List Candidate) → length (marks ds) ≡ length ds
            many [] = refl
            many (d ∷ ds) = ap suc (many ds)

  -- a candidate that only some compilers count, and that takes no other's place
  pub longer_listed : (now : Noted) (i own : ℕ) → is_by_all (counted_of c.counted) ≡ false → is_by_newer (counted_of c.counted) ≡ false → counted_of now ≡ joined (counted_of by) (counted_of c.counted)
      → own ≡ length cs → i ≡ own - n → AreListed n (m + 1) now (with_place false (cs ++ c ∷ []) i own)
  longer_listed now i own some plain joins here first = record {
    longer = listed_put false n cs c listed.longer plain (longer_there c) (alone_is false c true (longer_there c)) i own (omega (arith, first, here)) here;
    shorter = shorter_kept (m + 1) (cs ++ c ∷ []) i own (listed_out true m cs c listed.shorter plain (alone_is true c false (shorter_there c false some)));
    by = joins ∙ by_more (counted_of by) cs (with_place false (cs ++ c ∷ []) i own) c listed.by (with_same false [] (cs ++ c ∷ []) i own);
  }

-- a name with its `M`, after another candidate
pub holder_listed : (n m : ℕ) (by : Noted) (cs : List Candidate) (c : Candidate) → AreListed n m by cs → c.counted ≡ noted.ByNewer → (now : Noted) (more i own : ℕ) (other : Candidate) → counted_of now ≡ joined (counted_of by) (counted_of noted.ByNewer)
    → own ≡ length cs → 0 < own → more ≡ elim (is_by_all (counted_of (get_or cs (own - 1) other).counted)) [ true ↦ 2 | false ↦ 1 ] → i ≡ own - (n + 1)
    → AreListed (n + 1) (m + more) now (with_place false (cs ++ c ∷ []) i own)
unfolding counted_of
holder_listed n m by [] c listed newer now more i own other joins here some more_is first = absurd (omega (arith, here, some))
holder_listed n m by (b ∷ bs) c listed newer now more i own other joins here some more_is first =
    let is : counted_of c.counted ≡ by_newer = ap counted_of newer in
    let left : more ≡ elim (last_all (marks (b ∷ bs))) [ true ↦ 2 | false ↦ 1 ] =
    more_is ∙ ap (λ k. elim (is_by_all (counted_of (get_or (b ∷ bs) (k - 1) other).counted)) as (λ _. ℕ) [ true ↦ 2 | false ↦ 1 ]) here
    ∙ ap (λ x. elim x as (λ _. ℕ) [ true ↦ 2 | false ↦ 1 ]) (sym (last_is (b ∷ bs) other (omega arith))) in
    record {
      longer = holder_longer n b bs c is i own (omega (arith, first, here)) here listed.longer;
      shorter = shorter_kept (m + more) ((b ∷ bs) ++ c ∷ []) i own (holder_shorter m b bs c is more left listed.shorter);
      by = joins ∙ ap (λ x. joined (counted_of by) x) (sym is) ∙ by_more (counted_of by) (b ∷ bs) (with_place false ((b ∷ bs) ++ c ∷ []) i own) c listed.by (with_same false [] ((b ∷ bs) ++ c ∷ []) i own);
    }

pub holder_first : (n m : ℕ) (by : Noted) (cs : List Candidate) (c : Candidate) → AreListed n m by cs → c.counted ≡ noted.ByNewer → (now : Noted) → counted_of now ≡ joined (counted_of by) (counted_of noted.ByNewer)
    → 0 ≡ length cs → c.longer ≡ 0 → AreListed n 1 now (cs ++ c ∷ [])
unfolding counted_of is_by_all place_of place_in inside
holder_first n m by (b ∷ bs) c listed newer now joins none own = absurd (omega (arith, none))
holder_first n m by [] c listed newer now joins none own =
    let is : is_by_all (counted_of c.counted) ≡ false = ap (λ x. is_by_all (counted_of x)) newer in
    let one = alone_is false c true (longer_there c) in
    let out = alone_is true c false (shorter_there c false is) in
    record {
      longer = record {
        count = omega (arith, listed.longer.count, one);
        place = λ k d less. first k d (omega (arith, less, one));
      };
      shorter = record {
        count = omega (arith, out);
        place = λ k d less. absurd (omega (arith, less, out));
      };
      by = joins ∙ ap (λ x. joined (counted_of by) (counted_of x)) (sym newer) ∙ by_more (counted_of by) [] (c ∷ []) c listed.by refl;
    }
  where
    first : (k : ℕ) (d : Candidate) → k < 1 → place_of false (get_or (c ∷ []) k d) ≡ place_in false (marks (c ∷ [])) k
    first zero d less = own ∙ sym (ap (λ b. elim b as (λ _. ℕ) [ false ↦ suc 0 | true ↦ zero ]) (longer_there c))
    first (suc k) d less = absurd (omega (arith, less))

pub holder_few : (n : ℕ) (cs : List Candidate) (own : ℕ) → own ≡ length cs → 0 < own → IsListed false n cs → n + 1 ≤ own
holder_few n [] own here some listed = absurd (omega (arith, here, some))
holder_few n (b ∷ bs) own here some listed = omega (arith, here, listed.count, some_longer (candidate_of [] b) (marks bs))

pub noted_all : (x : Noted) → is_by_all (counted_of x) ≡ true → x ≡ noted.ByAll
unfolding is_by_all counted_of
noted_all noted.ByAll is = refl
noted_all noted.ByNewer is = absurd (false≢true is)
noted_all noted.ByGcc is = absurd (false≢true is)
noted_all noted.ByClang is = absurd (false≢true is)
noted_all noted.BySome is = absurd (false≢true is)

pub none_listed : AreListed 0 0 noted.ByAll []
unfolding inside counted_of counted_so_far
none_listed = record {
  longer = record { count = refl; place = λ k d less. absurd (omega (arith, less)) };
  shorter = record { count = refl; place = λ k d less. absurd (omega (arith, less)) };
  by = refl;
}

-- ## The candidates

module _ (old new : Candidates) (room : vec_capacity new.list ≡ vec_capacity old.list) where
  pub numbered_once : (i p : ℕ) → new.list.items ≡ with_place false old.list.items i p → AreListed new.not_longer new.not_shorter new.by (with_place false old.list.items i p) → AreNumbered old new
  numbered_once i p is listed = record {
    same = λ ts. ap (λ xs. candidates_of ts xs) is ∙ with_same false ts old.list.items i p;
    there = λ n there. subst (λ xs. AreNodesThere n xs) (sym is) (with_nodes false n old.list.items i p there);
    count = ap (λ xs. length xs) is ∙ with_length false old.list.items i p;
    room = room;
    counted = subst (λ xs. AreListed new.not_longer new.not_shorter new.by xs) (sym is) listed;
  }

  pub numbered_twice : (i p j q : ℕ) → new.list.items ≡ with_place true (with_place false old.list.items i p) j q
      → AreListed new.not_longer new.not_shorter new.by (with_place true (with_place false old.list.items i p) j q) → AreNumbered old new
  numbered_twice i p j q is listed = record {
    same = λ ts. ap (λ xs. candidates_of ts xs) is ∙ with_same true ts (with_place false old.list.items i p) j q ∙ with_same false ts old.list.items i p;
    there = λ n there. subst (λ xs. AreNodesThere n xs) (sym is) (with_nodes true n (with_place false old.list.items i p) j q (with_nodes false n old.list.items i p there));
    count = ap (λ xs. length xs) is ∙ with_length true (with_place false old.list.items i p) j q ∙ with_length false old.list.items i p;
    room = room;
    counted = subst (λ xs. AreListed new.not_longer new.not_shorter new.by xs) (sym is) listed;
  }

pub numbered_as_it_is : (old new : Candidates) → new.list ≡ old.list → AreListed new.not_longer new.not_shorter new.by old.list.items → AreNumbered old new
numbered_as_it_is old new same listed = record {
  same = λ ts. ap (λ v. candidates_of ts v.items) same;
  there = λ n there. subst (λ v. AreNodesThere n v.items) (sym same) there;
  count = ap (λ v. length v.items) same;
  room = ap (λ v. vec_capacity v) same;
  counted = subst (λ v. AreListed new.not_longer new.not_shorter new.by v.items) (sym same) listed;
}
