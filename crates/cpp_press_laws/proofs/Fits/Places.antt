-- Where a part is read: what is known of the candidates before it; and the value of a production after its parts.
use Rattle.cpp_press_laws.proofs.Basics.{◌≡◌, ℕ, ◌≤◌, List, [], ◌∷◌, false, ap, sym, ◌∙◌, Found, found, Production, State, Around, Value, AllOld, Term}
use Rattle.cpp_press_laws.proofs.Fits.Symbols.{WholeFits}
use Rattle.cpp_press_laws.proofs.Fits.Arguments.{EncodingFits}
use Rattle.cpp_press_laws.proofs.Fits.Read.{bytes-fitted}
use Rattle.cpp_press_laws.proofs.Fits.Solids.{LambdasAreBare}
use Rattle.cpp_press_laws.proofs.Fits.Sorts.{Meant, Later}

-- ## Places

-- what is known of the candidates before a part
pub record Placed (around : Around) (at : ℕ) (state : State) : Type 0 where
  pub lambda : LambdasAreBare around
  pub encoding : around.encoding ≤ at
  pub old : AllOld false around at state.candidates

-- ## The value of a production

first-value : Found (List Value) State → Value → Value
first-value r d = go r.value
  where
    go : List Value → Value
    go [] = d
    go (v ∷ vs) = v

-- the value of a production, and the state after it
pub record Ended (p : Production) (byte : ℕ) (around : Around) (old : State) (vs : List Value) (mid : State) (v : Value) (new : State) :
    Type 0 where
  pub comes : v ≡ Meant p byte around vs
  pub ends : new ≡ Later p byte around old vs mid

pub ended-as : (p : Production) (byte : ℕ) (around : Around) (old : State) (inner : Found (List Value) State) (one : Found Value State)
    (vs : List Value) (mid : State) (v : Value) (new : State)
    → found (Meant p byte around inner.value) (Later p byte around old inner.value inner.state) ≡ one → found vs mid ≡ inner
    → found (v ∷ []) new ≡ found (one.value ∷ []) one.state → Ended p byte around old vs mid v new
unfolding first-value
ended-as p byte around old inner one vs mid v new closes goes comes =
    let whole : found (Meant p byte around vs) (Later p byte around old vs mid) ≡ one =
    ap (λ r. found (Meant p byte around r.value) (Later p byte around old r.value r.state)) goes ∙ closes in
    record {
      comes = ap (λ r. first-value r v) comes ∙ ap (λ r. r.value) (sym whole);
      ends = ap (λ r. r.state) comes ∙ ap (λ r. r.state) (sym whole);
    }

-- ## Encodings

-- an encoding that fits also fits after bytes
pub behind-bytes : (around : Around) (e : Term) (old new : State) → WholeFits around e old new → EncodingFits around e old new
behind-bytes around e old new one bytes some =
    bytes-fitted bytes one
