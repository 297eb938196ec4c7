-- A condition that holds for each step of a row holds for what is done before any part of the row.
use Rattle.cpp_grammar.proofs.Basics.{◌≡◌, refl, ℕ, zero, suc, List, [], ◌∷◌, Bool, true, false, ◌&&◌, get_or, false≢true, Action, goes, Where, in_its_name, in_its_types, in_a_signature, Row, before_part}

-- the condition holds for these steps, and for what is done before each later part
unfoldable pub all_pass : (Action → Bool) → List Action → Action → Bool
all_pass passes [] onward = passes onward
all_pass passes (b ∷ rest) onward = passes b && all_pass passes rest onward

pub first_of_both : (x y : Bool) → (x && y) ≡ true → x ≡ true
first_of_both true y h = refl
first_of_both false y h = absurd (false≢true h)

pub second_of_both : (x y : Bool) → (x && y) ≡ true → y ≡ true
second_of_both true y h = h
second_of_both false y h = absurd (false≢true h)

one_passes : (passes : Action → Bool) (steps : List Action) (onward : Action) → all_pass passes steps onward ≡ true → (n : ℕ) → passes (get_or steps n onward) ≡ true
unfolding all_pass
one_passes passes [] onward h n = h
one_passes passes (b ∷ rest) onward h zero = first_of_both (passes b) (all_pass passes rest onward) h
one_passes passes (b ∷ rest) onward h (suc n) = one_passes passes rest onward (second_of_both (passes b) (all_pass passes rest onward) h) n

pub step_passes : (passes : Action → Bool) (row : Row) → all_pass passes row.before row.onward ≡ true → (n : ℕ) → passes (before_part row n) ≡ true
unfolding before_part
step_passes passes row h n = one_passes passes row.before row.onward h n

-- the part isn't in an encoding that begins here, nor in a signature
unfoldable pub is_here : Where → Bool
is_here in_its_name = false
is_here in_its_types = false
is_here in_a_signature = false
is_here _ = true

unfoldable pub goes_here : Action → Bool
goes_here (goes gain w) = is_here w
goes_here _ = true
