-- Languages by meaning: what a rule without further rows means, and the inputs of the next part.
use Rattle.sym_link.proofs.Basics.{◌≡◌, refl, arith, append-nil, ℕ, ◌+◌, List, [], ◌∷◌, length, Ok, Forest, branch, empty, token, fixed, nothing, grown, row_count_all, ended, next_of, AreAll, Open}
use Rattle.sym_link.specs.Cases.{Language, meant, by_meaning}

-- In a language by meaning, a rule with no rows left has the meaning of its known parts.
pub plain_ended : {V S C : Type 0} (language : Language V S C) (rule : Open S C) (known : List V) (from : ℕ) (left : Forest) (state : S)
    → row_count_all left ≡ 0
    → ended (by_meaning language) rule known from left state ≡ meant language rule.rule.number rule.context rule.place known state
plain_ended language rule known from nothing state none = refl
plain_ended language rule known from (grown empty rest) state none =
    rw append-nil (plain_ended language rule known from rest state (omega (arith, none)))
plain_ended language rule known from (grown (fixed byte) rest) state none =
    rw append-nil (plain_ended language rule known (from + 1) rest state (omega (arith, none)))
plain_ended language rule known from (grown (token t) rest) state none = absurd (omega (arith, none))
plain_ended language rule known from (grown (branch r taken parts) rest) state none = absurd (omega (arith, none))

-- In a language by meaning, the parts without a row that precede the next part change nothing.
pub plain_next : {V S C : Type 0} (language : Language V S C) (rule : Open S C) (known : List V) (from : ℕ) (left : Forest) (state : S)
    → next_of (by_meaning language) rule known from left state
    ≡ Ok (record { context = language.context_behind rule.rule.number rule.context known; values = known; state = state })
plain_next language rule known from nothing state = refl
plain_next language rule known from (grown empty rest) state = rw append-nil (plain_next language rule known from rest state)
plain_next language rule known from (grown (fixed byte) rest) state = rw append-nil (plain_next language rule known (from + 1) rest state)
plain_next language rule known from (grown (token t) rest) state = refl
plain_next language rule known from (grown (branch r taken parts) rest) state = refl

pub as_many : {P V : Type 0} (Is : P → V → Type 0) (ps : List P) (vs : List V) → AreAll Is ps vs → length ps ≡ length vs
as_many Is [] [] are = refl
as_many Is (p ∷ ps) (v ∷ vs) are = omega (arith, as_many Is ps vs are.1)
as_many Is [] (v ∷ vs) are = absurd are
as_many Is (p ∷ ps) [] are = absurd are
