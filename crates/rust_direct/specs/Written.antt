-- What the small functions of a writer do to its lists.
use Rattle.std.specs.Prelude.{◌≡◌, ℕ, ◌+◌, ◌-◌, ◌<◌, List, [], ◌∷◌, ◌++◌, length, slice_set, take, drop}
use Rattle.rust_direct.specs.declared.open.Open.{Open}
use Rattle.rust_direct.specs.declared.open.Forms.{Forms}
use Rattle.rust_direct.specs.declared.direct.Direct.{Direct}

-- a text was written, and nothing else changed
pub record Writes (old new : Direct) (bytes : List ℕ) : Type 0 where
  pub text : new.text.list.items ≡ old.text.list.items ++ bytes
  pub room : new.text.room ≡ old.text.room
  pub aside : new.aside ≡ old.aside
  pub is_aside : new.is_aside ≡ old.is_aside
  pub notes : new.notes ≡ old.notes
  pub numbers : new.numbers ≡ old.numbers
  pub waiting : new.waiting ≡ old.waiting
  pub at : new.at ≡ old.at

-- something was noted, and nothing else changed
pub record Notes (old new : Direct) (place from : ℕ) (forms : Forms) : Type 0 where
  pub text : new.text ≡ old.text
  pub aside : new.aside ≡ old.aside
  pub is_aside : new.is_aside ≡ old.is_aside
  pub notes : new.notes.list.items ≡ old.notes.list.items
      ++ record { from = from; to = length old.text.list.items; forms = forms; is_aside = old.is_aside } ∷ []
  pub room : new.notes.room ≡ old.notes.room
  pub inside : place < length old.numbers.items
  pub numbers : new.numbers.items ≡ slice_set old.numbers.items place (length old.notes.list.items + 1)
  pub waiting : new.waiting ≡ old.waiting
  pub at : new.at ≡ old.at

-- the bytes of a list between two places
abbrev pub piece : List ℕ → (from to : ℕ) → List ℕ
piece bytes from to = take (to - from) (drop from bytes)

-- a text was written, an entry waits, and the writer is at another place
pub record Opens (old new : Direct) (bytes : List ℕ) (entry : Open) (at : ℕ) : Type 0 where
  pub text : new.text.list.items ≡ old.text.list.items ++ bytes
  pub aside : new.aside ≡ old.aside
  pub is_aside : new.is_aside ≡ old.is_aside
  pub notes : new.notes ≡ old.notes
  pub numbers : new.numbers ≡ old.numbers
  pub waiting : new.waiting.list.items ≡ old.waiting.list.items ++ entry ∷ []
  pub room : new.text.room ≡ old.text.room
  pub waiting_room : new.waiting.room ≡ old.waiting.room
  pub at_is : new.at ≡ at

-- an entry waits from here on, and nothing else changed
pub record Pushes (old new : Direct) (entry : Open) : Type 0 where
  pub waiting : new.waiting.list.items ≡ old.waiting.list.items ++ entry ∷ []
  pub room : new.waiting.room ≡ old.waiting.room
  pub text : new.text ≡ old.text
  pub aside : new.aside ≡ old.aside
  pub is_aside : new.is_aside ≡ old.is_aside
  pub notes : new.notes ≡ old.notes
  pub numbers : new.numbers ≡ old.numbers
  pub at : new.at ≡ old.at
