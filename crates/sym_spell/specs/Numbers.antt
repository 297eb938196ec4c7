-- Numbers of things, counted from 0: equal things have the same number.
use Rattle.std.specs.Prelude.{◌≡◌, ℕ, ◌+◌, ◌<◌, ◌≤◌, max, List, length, fold, take, slice_get, get_or, Some}

-- the number of a thing
abbrev pub number_at : List ℕ → (thing : ℕ) → ℕ
number_at numbers thing = get_or numbers thing 0

-- how many entries a map has if it gives these numbers: one more than the greatest number
abbrev pub entries_of : List ℕ → ℕ
entries_of numbers = fold (λ most n. max most (n + 1)) 0 numbers

-- each number is below the bound
abbrev pub AreBelow : List ℕ → (bound : ℕ) → Type 0
AreBelow numbers bound = (i : ℕ) → i < length numbers → number_at numbers i < bound

-- Two things have the same number exactly if they are equal.
pub record TellApart {A : Type 0} (thing : ℕ → A) (numbers : List ℕ) : Type 0 where
  pub same : (i j : ℕ) → i < length numbers → j < length numbers → number_at numbers i ≡ number_at numbers j → thing i ≡ thing j
  pub equal : (i j : ℕ) → i < length numbers → j < length numbers → thing i ≡ thing j → number_at numbers i ≡ number_at numbers j

-- There are `count` numbers, each below `count`, and two things have the same number exactly if they are equal.
pub record AreTold {A : Type 0} (thing : ℕ → A) (count : ℕ) (numbers : List ℕ) : Type 0 where
  pub long : length numbers ≡ count
  pub same : (i j : ℕ) → i < length numbers → j < length numbers → number_at numbers i ≡ number_at numbers j → thing i ≡ thing j
  pub equal : (i j : ℕ) → i < length numbers → j < length numbers → thing i ≡ thing j → number_at numbers i ≡ number_at numbers j
  pub below : AreBelow numbers count

-- There are `count` numbers. Two things have the same number exactly if they are equal, and a thing that equals no earlier
-- one has the next number.
pub record AreNumbered {A : Type 0} (thing : ℕ → A) (count : ℕ) (numbers : List ℕ) : Type 0 where
  pub long : length numbers ≡ count
  pub same : (i j : ℕ) → i < length numbers → j < length numbers → number_at numbers i ≡ number_at numbers j → thing i ≡ thing j
  pub equal : (i j : ℕ) → i < length numbers → j < length numbers → thing i ≡ thing j → number_at numbers i ≡ number_at numbers j
  pub next : (i : ℕ) → i < length numbers → number_at numbers i ≤ entries_of (take i numbers)

-- The numbers of first things: each is the place of its thing among the entries, and there are no other entries.
pub record AreCounted (firsts numbers entries : List ℕ) : Type 0 where
  pub numbered : AreNumbered (number_at firsts) (length numbers) numbers
  pub each : (i : ℕ) → i < length numbers → slice_get entries (number_at numbers i) ≡ Some (number_at firsts i)
  pub many : entries_of numbers ≡ length entries
