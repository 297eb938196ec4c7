-- What the small functions of a writer do to its lists.
use Rattle.std.specs.Prelude.{◌≡◌, ◌⊎◌, ℕ, ◌+◌, List, [], ◌∷◌, ◌++◌, length, drop, take, Bool, true, false, ◌≤◌}
use Rattle.cpp_direct.specs.declared.open.Argument.{Argument}
use Rattle.cpp_direct.specs.declared.open.Candidate.{Candidate}
use Rattle.cpp_direct.specs.declared.open.Hiding.{Hiding}
use Rattle.cpp_direct.specs.declared.open.Hiding.TheVariants as hidings
use Rattle.sym_print.specs.declared.detail.Detail.{Detail}
use Rattle.cpp_direct.specs.declared.direct.Direct.{Direct}
use Rattle.cpp_direct.specs.declared.open.Open.{Open}
use Rattle.cpp_direct.specs.WrittenParts.{opening_bracket}
use Rattle.cpp_direct.specs.Bytes.{is_local}

-- a text was written, and nothing else changed
pub record Writes (old new : Direct) (bytes : List ℕ) : Type 0 where
  pub text : new.text.list.items ≡ old.text.list.items ++ bytes
  pub candidates : new.candidates ≡ old.candidates
  pub waiting : new.waiting ≡ old.waiting
  pub nest : new.nest ≡ old.nest
  pub scope : new.has_scope ≡ old.has_scope
  pub at : new.at ≡ old.at

-- likewise, except that the place may change
pub record Reads (old new : Direct) (bytes : List ℕ) : Type 0 where
  pub text : new.text.list.items ≡ old.text.list.items ++ bytes
  pub candidates : new.candidates ≡ old.candidates
  pub waiting : new.waiting ≡ old.waiting
  pub nest : new.nest ≡ old.nest
  pub scope : new.has_scope ≡ old.has_scope

-- the candidates are these, and nothing else changed
pub record Lists (old new : Direct) (ks : List Candidate) : Type 0 where
  pub candidates : new.candidates.list.items ≡ ks
  pub text : new.text ≡ old.text
  pub waiting : new.waiting ≡ old.waiting
  pub nest : new.nest ≡ old.nest
  pub scope : new.has_scope ≡ old.has_scope
  pub at : new.at ≡ old.at

-- a byte was read, and this entry was opened
pub record OpensEntry (old new : Direct) (entry : Open) : Type 0 where
  pub waiting : new.waiting.list.items ≡ old.waiting.list.items ++ entry ∷ []
  pub at : new.at ≡ old.at + 1
  pub text : new.text ≡ old.text
  pub candidates : new.candidates ≡ old.candidates
  pub nest : new.nest ≡ old.nest
  pub scope : new.has_scope ≡ old.has_scope

-- likewise, and the bracket before arguments was written
pub record OpensArguments (detail : Detail) (old new : Direct) (entry : Open) : Type 0 where
  pub waiting : new.waiting.list.items ≡ old.waiting.list.items ++ entry ∷ []
  pub at : new.at ≡ old.at + 1
  pub text : new.text.list.items ≡ old.text.list.items ++ opening_bracket detail
  pub candidates : new.candidates ≡ old.candidates
  pub nest : new.nest ≡ old.nest
  pub scope : new.has_scope ≡ old.has_scope

-- the candidates, and one more: what is written from a place on
abbrev pub added : Direct → (from : ℕ) → (is_reference is_dependent : Bool) → List Candidate
added w from is_reference is_dependent =
    w.candidates.list.items ++ record { from = from; to = length w.text.list.items; is_reference = is_reference; is_dependent = is_dependent } ∷ []

-- likewise unless the text is a candidate already
abbrev pub added_unless : Direct → (is_listed : Bool) → (from : ℕ) → (is_dependent : Bool) → List Candidate
added_unless w true from is_dependent = w.candidates.list.items
added_unless w false from is_dependent = added w from false is_dependent

-- the candidates, and one more: the text of an argument of the function's template
abbrev pub with_argument : Direct → Argument → List Candidate
with_argument w argument =
    w.candidates.list.items ++ record { from = argument.from; to = argument.to; is_reference = argument.is_reference; is_dependent = true } ∷ []

-- a candidate that ends before it begins
abbrev pub hidden : Candidate
hidden = record { from = 1; to = 0; is_reference = false; is_dependent = false }

-- a candidate stays what it was
abbrev pub Stays : Hiding → Candidate → Type 0
Stays (hidings.After to) k = k.to ≤ to
Stays hidings.Dependent k = k.is_dependent ≡ false
Stays hidings.All k = ⊥

-- a candidate stays what it was, or is nowhere
abbrev pub IsLeft : Hiding → (old new : Candidate) → Type 0
IsLeft hiding old new = ((new ≡ old) × Stays hiding old) ⊎ (new ≡ hidden)

-- each candidate stays what it was, or is nowhere
abbrev pub AreLeft : Hiding → (old new : List Candidate) → Type 0
AreLeft hiding [] [] = Unit {0}
AreLeft hiding (k ∷ ks) (n ∷ ns) = IsLeft hiding k n × AreLeft hiding ks ns
AreLeft hiding _ _ = ⊥

-- candidates with one more for a function type, and one for the pointer to it if there is one
abbrev pub hidden_behind : (is_pointer : Bool) → List Candidate → List Candidate
hidden_behind true ks = (ks ++ hidden ∷ []) ++ hidden ∷ []
hidden_behind false ks = ks ++ hidden ∷ []

abbrev pub with_hidden : Direct → (is_pointer : Bool) → List Candidate
with_hidden w is_pointer = hidden_behind is_pointer w.candidates.list.items

-- What was written up to a place was removed. If anything was, no candidates remain, except in the symbol of a local entity,
-- where each becomes nowhere.
pub record Cuts (s : List ℕ) (old new : Direct) (start : ℕ) : Type 0 where
  pub text : new.text.list.items ≡ drop start old.text.list.items
  pub candidates : ((start ≡ 0) × (new.candidates ≡ old.candidates)) ⊎ ((is_local s ≡ false) × (new.candidates.list.items ≡ []))
      ⊎ AreLeft hidings.All old.candidates.list.items new.candidates.list.items
  pub scope : new.has_scope ≡ old.has_scope
  pub at : new.at ≡ old.at

-- What was written after a place was removed. No candidates remain, except in the symbol of a local entity, where each
-- becomes nowhere.
pub record Leaves (s : List ℕ) (old new : Direct) (end : ℕ) : Type 0 where
  pub text : new.text.list.items ≡ take end old.text.list.items
  pub candidates : ((is_local s ≡ false) × (new.candidates.list.items ≡ [])) ⊎ AreLeft hidings.All old.candidates.list.items new.candidates.list.items
  pub scope : new.has_scope ≡ old.has_scope
  pub at : new.at ≡ old.at
