-- Which candidates compilers count, as noted by the linker.
use Rattle.std.specs.Prelude.{◌≡◌, ℕ, zero, suc, ◌+◌, ◌<◌, List, [], ◌∷◌, ◌++◌, length, get_or, Bool, true, false, nat_eq, Option, Some, vec_capacity}
use Rattle.cpp_grammar.specs.Values as plain
use Rattle.cpp_term.specs.Term.{Term}
use Rattle.cpp_term.specs.Values as values
use Rattle.cpp_term.specs.Rescoping.{is_in_list, place_in, counted_so_far}
use Rattle.cpp_tree.specs.Nodes.{tree_at}
use Rattle.cpp_references.specs.declared.around.Surroundings.{Surroundings}
use Rattle.cpp_references.specs.declared.candidates.Candidate.{Candidate}
use Rattle.cpp_references.specs.declared.candidates.Counted.{Counted}
use Rattle.cpp_references.specs.Around.{is_lambda, candidates_of, counted_of, AreNodesThere}
use Rattle.cpp_link.specs.declared.candidates.Candidates.{Candidates}
use Rattle.cpp_link.specs.declared.counting.Lists.{Lists}
use Rattle.cpp_link.specs.declared.counting.Expected.{Expected}
use Rattle.cpp_link.specs.declared.counting.Awaited.{Awaited}
use Rattle.cpp_link.specs.declared.counting.Counting.{Counting}

unfoldable pub lists_of : Lists → plain.Lists
lists_of Lists.Both = plain.both_lists
lists_of Lists.Longer = plain.longer_list
lists_of Lists.Shorter = plain.shorter_list
lists_of Lists.Neither = plain.no_list

unfoldable pub expected_of : Expected → plain.Expected
expected_of Expected.Anything = plain.anything
expected_of (Expected.PrefixAt place) = plain.prefix_at place
expected_of (Expected.QualifiedAt place) = plain.qualified_at place
expected_of (Expected.ItemAt place head) = plain.item_at place head

abbrev pub awaited_of : Awaited → plain.Awaited
awaited_of a = record { encoding = a.encoding; is_called = a.is_called; first = a.first; second = a.second; third = a.third; fourth = a.fourth }

abbrev pub counting_of : Counting → plain.Counting
counting_of c = record { lists = lists_of c.lists; expected = expected_of c.expected; awaited = awaited_of c.awaited }

-- ## Numbers of candidates

-- which compilers count each candidate, regardless of its tree
abbrev pub marks : List Candidate → List values.Candidate
marks cs = candidates_of [] cs

-- how many candidates are in the longer or in the shorter list
unfoldable pub inside : (is_shorter : Bool) → List values.Candidate → ℕ
inside is_shorter [] = 0
inside is_shorter (c ∷ cs) = elim (is_in_list is_shorter c cs) [ true ↦ suc (inside is_shorter cs) | false ↦ inside is_shorter cs ]

-- the place that a candidate holds for the longer or for the shorter list
unfoldable pub place_of : (is_shorter : Bool) → Candidate → ℕ
place_of false c = c.longer
place_of true c = c.shorter

-- `apart` candidates aren't in the list, and the first entries hold the places of those that are in it
pub record IsListed (is_shorter : Bool) (apart : ℕ) (cs : List Candidate) : Type 0 where
  pub count : apart + inside is_shorter (marks cs) ≡ length cs
  pub place : (number : ℕ) (other : Candidate) → number < inside is_shorter (marks cs) → place_of is_shorter (get_or cs number other) ≡ place_in is_shorter (marks cs) number

pub record AreListed (not_longer not_shorter : ℕ) (counted : Counted) (cs : List Candidate) : Type 0 where
  pub longer : IsListed false not_longer cs
  pub shorter : IsListed true not_shorter cs
  pub by : counted_of counted ≡ counted_so_far plain.by_all (marks cs)

abbrev pub IsCounted : Candidates → Type 0
IsCounted c = AreListed c.not_longer c.not_shorter c.by c.list.items

-- whether both lists have the same candidate, by its place
unfoldable pub is_one_place : Option ℕ → Option ℕ → Bool
is_one_place (Some at) (Some other) = nat_eq at other
is_one_place _ _ = false

-- ## One more

abbrev pub candidate_by : List Term → Surroundings → (node : ℕ) → Counted → values.Candidate
candidate_by ts kept node counted = record { tree = tree_at ts node; encoding = kept.encoding; in_lambda = is_lambda kept.scope; counted = counted_of counted }

-- A candidate was added at this place. The others are numbered, and this one holds its own place so far.
pub record IsPushed (c : Candidates) (place : ℕ) (counted : Counted) : Type 0 where
  pub before : List Candidate
  pub last : Candidate
  pub items : c.list.items ≡ before ++ last ∷ []
  pub own : place ≡ length before
  pub longer : last.longer ≡ place
  pub shorter : last.shorter ≡ place
  pub by : last.counted ≡ counted
  pub listed : AreListed c.not_longer c.not_shorter c.by before

-- the same candidates, which are numbered
pub record AreNumbered (old new : Candidates) : Type 0 where
  pub same : (ts : List Term) → candidates_of ts new.list.items ≡ candidates_of ts old.list.items
  pub there : (n : ℕ) → AreNodesThere n old.list.items → AreNodesThere n new.list.items
  pub count : length new.list.items ≡ length old.list.items
  pub room : vec_capacity new.list ≡ vec_capacity old.list
  pub counted : IsCounted new

-- a candidate that holds this place for a list
unfoldable pub placed : (is_shorter : Bool) → (place : ℕ) → Candidate → Candidate
placed false place c = record c { longer = place }
placed true place c = record c { shorter = place }

-- the candidates, where the one with this number holds this place
abbrev pub with_place : (is_shorter : Bool) → List Candidate → (number place : ℕ) → List Candidate
with_place is_shorter [] number place = []
with_place is_shorter (c ∷ cs) zero place = placed is_shorter place c ∷ cs
with_place is_shorter (c ∷ cs) (suc number) place = c ∷ with_place is_shorter cs number place
