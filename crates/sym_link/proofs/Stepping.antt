-- The steps that are left after each move.
use Rattle.sym_link.proofs.Basics.{◌≡◌, refl, sym, ◌∙◌, ap, arith, ℕ, ◌+◌, List, ◌∷◌, Bool, true, false, if◌then◌else◌, Rule, Token, Forest, branch, empty, token, fixed, nothing, grown, row_count_all, skipped, no_part_has_row, closes_at_once, link_steps, link_steps_all, Due, waiting, starting, steps_ahead, IsDue, CountsClose, CountsToken}
use Rattle.sym_link.specs.Machine.{Frame}

-- ## Parts

-- parts without a row take no step
skip_steps : (left : Forest) → link_steps_all (skipped left) ≡ link_steps_all left
skip_steps (grown empty rest) = omega (arith, skip_steps rest)
skip_steps (grown (fixed byte) rest) = omega (arith, skip_steps rest)
skip_steps (grown (token t) rest) = refl
skip_steps (grown (branch rule taken parts) rest) = refl
skip_steps nothing = refl

skip_at_once : (left : Forest) → closes_at_once (skipped left) ≡ closes_at_once left
skip_at_once (grown empty rest) = skip_at_once rest
skip_at_once (grown (fixed byte) rest) = skip_at_once rest
skip_at_once (grown (token t) rest) = refl
skip_at_once (grown (branch rule taken parts) rest) = refl
skip_at_once nothing = refl

no_steps : (left : Forest) → row_count_all left ≡ 0 → link_steps_all left ≡ 0
no_steps nothing none = refl
no_steps (grown empty rest) none = omega (arith, no_steps rest (omega (arith, none)))
no_steps (grown (fixed byte) rest) none = omega (arith, no_steps rest (omega (arith, none)))
no_steps (grown (token t) rest) none = absurd (omega (arith, none))
no_steps (grown (branch rule taken parts) rest) none = absurd (omega (arith, none))

no_row : (left : Forest) → row_count_all left ≡ 0 → no_part_has_row left ≡ true
no_row nothing none = refl
no_row (grown empty rest) none = no_row rest (omega (arith, none))
no_row (grown (fixed byte) rest) none = no_row rest (omega (arith, none))
no_row (grown (token t) rest) none = absurd (omega (arith, none))
no_row (grown (branch rule taken parts) rest) none = absurd (omega (arith, none))

pub some_row : (left : Forest) → (row_count_all left ≡ 0 → ⊥) → no_part_has_row left ≡ false
some_row nothing some = absurd (some refl)
some_row (grown empty rest) some = some_row rest (λ none. some (omega (arith, none)))
some_row (grown (fixed byte) rest) some = some_row rest (λ none. some (omega (arith, none)))
some_row (grown (token t) rest) some = refl
some_row (grown (branch rule taken parts) rest) some = refl

pub none_at_once : (left : Forest) → row_count_all left ≡ 0 → closes_at_once left ≡ true
none_at_once nothing none = refl
none_at_once (grown empty rest) none = none_at_once rest (omega (arith, none))
none_at_once (grown (fixed byte) rest) none = none_at_once rest (omega (arith, none))
none_at_once (grown (token t) rest) none = absurd (omega (arith, none))
none_at_once (grown (branch rule taken parts) rest) none = absurd (omega (arith, none))

pub token_at_once : (left : Forest) (t : Token) (rest : Forest) → skipped left ≡ grown (token t) rest → row_count_all rest ≡ 0 → closes_at_once left ≡ true
token_at_once left t rest left_is none = sym (skip_at_once left) ∙ ap closes_at_once left_is ∙ no_row rest none

-- a rule in which a rule comes next doesn't close at once
pub rule_not_at_once : (left : Forest) (rule : Rule) (taken : List ℕ) (inner rest : Forest) → skipped left ≡ grown (branch rule taken inner) rest → closes_at_once left ≡ false
rule_not_at_once left rule taken inner rest left_is = sym (skip_at_once left) ∙ ap closes_at_once left_is

-- a rule in which a token comes next and other rows follow doesn't close at once, either
pub token_not_at_once : (left : Forest) (t : Token) (rest : Forest) → skipped left ≡ grown (token t) rest → (row_count_all rest ≡ 0 → ⊥) → closes_at_once left ≡ false
token_not_at_once left t rest left_is some = sym (skip_at_once left) ∙ ap closes_at_once left_is ∙ some_row rest some

-- ## Moves

pub chosen : (test : Bool) (steps : ℕ) → (if test then 1 else (2 + steps)) ≡ 1 + (if test then 0 else (steps + 1))
chosen true steps = omega arith
chosen false steps = omega arith

at_once_is : (test : Bool) (steps : ℕ) → test ≡ true → (if test then 0 else steps) ≡ 0
at_once_is test steps is = ap (λ b. if b then 0 else steps) is

later_is : (test : Bool) (steps : ℕ) → test ≡ false → (if test then 0 else steps) ≡ steps
later_is test steps is = ap (λ b. if b then 0 else steps) is

-- the innermost rule closes
pub close_due : {V S C : Type 0} (due : Due) (top : Frame V S C) (frames : List (Frame V S C)) (n : ℕ) → IsDue due (top ∷ frames) → row_count_all top.left ≡ 0 → CountsClose due n → IsDue (waiting n) frames
close_due (waiting m) top frames n is none counts = omega (arith, is, counts, no_steps top.left none)
close_due (starting m most) top frames n is none counts =
    omega (arith, is, counts, at_once_is (closes_at_once top.left) (link_steps_all top.left + 1) (none_at_once top.left none))

-- a token is taken in the innermost rule
pub token_due : {V S C : Type 0} (due : Due) (top : Frame V S C) (frames : List (Frame V S C)) (n : ℕ) (t : Token) (rest : Forest) → IsDue due (top ∷ frames)
    → skipped top.left ≡ grown (token t) rest → CountsToken due (row_count_all rest) n → link_steps_all rest + 1 + steps_ahead frames ≡ n
token_due (waiting m) top frames n t rest is left_is counts = omega (arith, is, counts, skip_steps top.left, ap link_steps_all left_is)
token_due (starting m most) top frames n t rest is left_is counts =
    omega (
      arith,
      is,
      counts.0,
      no_steps rest counts.1,
      at_once_is (closes_at_once top.left) (link_steps_all top.left + 1) (token_at_once top.left t rest left_is counts.1),
    )

-- a rule begins in the innermost rule
pub enter_due : {V S C : Type 0} (top : Frame V S C) (frames : List (Frame V S C)) (n : ℕ) (rule : Rule) (taken : List ℕ) (inner rest : Forest) → IsDue (waiting (n + 1)) (top ∷ frames)
    → skipped top.left ≡ grown (branch rule taken inner) rest
    → (if closes_at_once inner then 0 else (link_steps_all inner + 1)) + (link_steps_all rest + 1 + steps_ahead frames) ≡ n
enter_due top frames n rule taken inner rest is left_is =
    omega (arith, is, skip_steps top.left, ap link_steps_all left_is, chosen (closes_at_once inner) (link_steps_all inner))

-- the rule of the symbol begins
pub root_due : (n : ℕ) (rule : Rule) (taken : List ℕ) (inner : Forest) → link_steps (branch rule taken inner) ≡ n + 1
    → (if closes_at_once inner then 0 else (link_steps_all inner + 1)) + 0 ≡ n
root_due n rule taken inner is = omega (arith, is, chosen (closes_at_once inner) (link_steps_all inner))

-- a step in which a rule begins comes to its end
pub push_due : {V S C : Type 0} (top : Frame V S C) (frames : List (Frame V S C)) (n most : ℕ) → IsDue (starting n most) (top ∷ frames) → closes_at_once top.left ≡ false → IsDue (waiting n) (top ∷ frames)
push_due top frames n most is later = omega (arith, is, later_is (closes_at_once top.left) (link_steps_all top.left + 1) later)

-- an open rule takes at least one step
pub some_due : {V S C : Type 0} (top : Frame V S C) (frames : List (Frame V S C)) (steps : ℕ) → IsDue (waiting steps) (top ∷ frames) → (n : ℕ) × (steps ≡ n + 1)
some_due top frames steps is = (link_steps_all top.left + steps_ahead frames, omega (arith, is))
