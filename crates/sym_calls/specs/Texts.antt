-- What the call over many names answers, and what it writes.
use Rattle.std.specs.Prelude.{◌≡◌, ◌-◌, ℕ, List, [], ◌∷◌, ◌++◌, drop, length, take, Option, Some, None, Bool, true, false, ◌==◌, ◌&&◌, nat_eq, nat_le, if◌then◌else◌}
use Rattle.sym_filter.specs.Runs.{Answering}
use Rattle.sym_calls.specs.Calls.{EndsAs, answers_at, ending_of, name_or_type_told}
use Rattle.sym_calls.specs.declared.outcome.Outcome.{Outcome}
use Rattle.sym_calls.specs.declared.flags.Asked.{Asked}

-- ends that increase from one place on, up to at most another place
unfoldable pub are_ends : (from most : ℕ) → List ℕ → Bool
are_ends from most [] = nat_le from most
are_ends from most (end ∷ ends) = nat_le from end && are_ends end most ends

-- how many bytes of the buffer a name's text took
abbrev pub placed : Outcome → ℕ
placed outcome = if outcome.status == 0 then outcome.length else 0

-- A name gets the answer of the call for one name over `left`, the rest of the buffer. After that call the rest is `after`.
abbrev pub IsTold : Answering → Asked → (name left : List ℕ) → Outcome → (after : List ℕ) → Type 0
IsTold answers asked name left outcome after = EndsAs (name_or_type_told answers asked name left) left (ending_of outcome after)

-- Names get their outcomes in order; each name begins where the one before it ends. A text's bytes stay in the buffer, and the rest of the
-- buffer is for the names after it.
unfoldable pub AreTold : Answering → Asked → (names : List ℕ) → (from : ℕ) → (ends left new : List ℕ) → List Outcome → Type 0
AreTold answers asked names from [] left new [] = new ≡ left
AreTold answers asked names from (end ∷ ends) left new (outcome ∷ others) =
    (after rest : List ℕ) × IsTold answers asked (take (end - from) (drop from names)) left outcome after
    × (new ≡ take (placed outcome) after ++ rest) × AreTold answers asked names end ends (drop (placed outcome) after) rest others
AreTold answers asked names from ends left new outcome = ⊥

-- Where the ends are right each name gets its outcome, and the status is 0. Otherwise the status is 10, and nothing is written.
unfoldable pub TextsEndBy : (are_right : Bool) → Answering → Asked → (names ends old new : List ℕ) → (untold told : List Outcome) → (status : ℕ) → Type 0
TextsEndBy true answers asked names ends old new untold told status = (status ≡ 0) × AreTold answers asked names 0 ends old new told
TextsEndBy false answers asked names ends old new untold told status = (status ≡ 10) × (new ≡ old) × (told ≡ untold)

-- How the call ends. Where one of the flags doesn't exist, the status is 8, and nothing is written. Otherwise the ending depends on
-- whether the ends increase to at most the length of all names and are as many as the outcomes.
unfoldable pub TextsEndAs : Option Asked → (limit : ℕ) → (names ends old new : List ℕ) → (untold told : List Outcome) → (status : ℕ) → Type 0
TextsEndAs None limit names ends old new untold told status = (status ≡ 8) × (new ≡ old) × (told ≡ untold)
TextsEndAs (Some asked) limit names ends old new untold told status =
    TextsEndBy (nat_eq (length untold) (length ends) && are_ends 0 (length names) ends) (answers_at asked limit) asked names ends old new untold told status
