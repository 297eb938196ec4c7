-- How a call ends over a name that may be a type.
use Rattle.sym_calls.proofs.Basics.{◌≡◌, ◌≤◌, inl, inr, ℕ, Bool, true, false, List, Result, Ok, Err, refl, sym, ap, subst, arith, ◌==◌, ◌&&◌, cond-true, cond-false, eqb-true, ne_eqb, symbol_of, Answering, Kind, is_type_word, type_answer, Ending, EndsAs, answered, ending_of, status_alone, told_of, type_or_told, Outcome}
use Rattle.sym_calls.proofs.Ending.{answered-low}

-- whether a name is read as a type after a status
abbrev ReadsType : (types : Bool) → (status : ℕ) → List ℕ → Bool → Type 0
ReadsType types status name test = types && (status == 11 && is_type_word name) ≡ test

second : (a b c : Bool) → a && (b && c) ≡ true → b ≡ true
second true true c is = refl
second true false c is = is
second false b c is = cc

none-second : (a b c : Bool) → b ≡ false → a && (b && c) ≡ false
none-second true false c is = refl
none-second true true c is = cc
none-second false b c is = refl

-- a name that is read as a type has no symbol
is-nameless : (types : Bool) (status : ℕ) (name : List ℕ) → ReadsType types status name true → status ≡ 11
is-nameless types status name is = eqb-true status 11 (second types (status == 11) (is_type_word name) is)

-- after an outcome for a symbol, or a lack of memory (at most 6), no name is read as a type
low-reads : (types : Bool) (status : ℕ) (name : List ℕ) → status ≤ 6 → ReadsType types status name false
low-reads types status name low = none-second types (status == 11) (is_type_word name) (ne_eqb status 11 (λ is. omega (arith, low, is)))

status-is : (outcome : Outcome) (after : List ℕ) (ending : Ending) → ending_of outcome after ≡ ending → outcome.status ≡ ending.status
status-is outcome after ending is = ap (λ (e : Ending). e.status) is

buffer-is : (outcome : Outcome) (after : List ℕ) (ending : Ending) → ending_of outcome after ≡ ending → after ≡ ending.buffer
buffer-is outcome after ending is = ap (λ (e : Ending). e.buffer) is

-- an outcome for a symbol isn't that of a name without a symbol (11)
not-nameless : (outcome : Outcome) → outcome.status ≤ 6 → outcome.status ≡ 11 → ⊥
not-nameless outcome low is = omega (arith, low, is)

-- a name that is answered as a type
pub type-told : (types : Bool) (answers : Answering) (kind : Result Kind ℕ) (name before after : List ℕ) (outcome : Outcome) (found : Ending) → ReadsType types outcome.status name true
    → EndsAs (told_of answers kind name before) before (ending_of outcome after) → EndsAs (answered (type_answer answers name) 0 after) after found → EndsAs (type_or_told types answers kind name before) before found
unfolding told_of type_or_told
type-told types answers (Ok kind) name before after outcome found reads (inl is) given =
    let low : (answered (answers kind (symbol_of kind name)) kind.skip before).status ≤ 6 = answered-low (answers kind (symbol_of kind name)) kind.skip before in
    absurd (not-nameless outcome (subst (λ n. n ≤ 6) (sym (status-is outcome after _ is)) low) (is-nameless types outcome.status name reads))
type-told types answers (Ok kind) name before after outcome found reads (inr (low, is)) given =
    absurd (not-nameless outcome (subst (λ n. n ≤ 6) (sym (status-is outcome after _ is)) (omega arith)) (is-nameless types outcome.status name reads))
type-told types answers (Err status) name before after outcome found reads (inl is) given =
    let reads_it : ReadsType types status name true = subst (λ n. ReadsType types n name true) (status-is outcome after _ is) reads in
    subst (λ e. EndsAs e before found) (sym (cond-true (types && (status == 11 && is_type_word name)) (answered (type_answer answers name) 0 before) (status_alone status before) reads_it))
    (subst (λ b. EndsAs (answered (type_answer answers name) 0 b) b found) (buffer-is outcome after _ is) given)
type-told types answers (Err status) name before after outcome found reads (inr (low, is)) given =
    absurd (not-nameless outcome (subst (λ n. n ≤ 6) (sym (status-is outcome after _ is)) (omega arith)) (is-nameless types outcome.status name reads))

-- a name that isn't answered as a type
pub symbol-told : (types : Bool) (answers : Answering) (kind : Result Kind ℕ) (name before after : List ℕ) (outcome : Outcome) → ReadsType types outcome.status name false
    → EndsAs (told_of answers kind name before) before (ending_of outcome after) → EndsAs (type_or_told types answers kind name before) before (ending_of outcome after)
unfolding told_of type_or_told
symbol-told types answers (Ok kind) name before after outcome reads given = given
symbol-told types answers (Err status) name before after outcome reads (inl is) =
    let reads_none : ReadsType types status name false = subst (λ n. ReadsType types n name false) (status-is outcome after _ is) reads in
    subst (λ e. EndsAs e before (ending_of outcome after)) (sym (cond-false (types && (status == 11 && is_type_word name)) (answered (type_answer answers name) 0 before) (status_alone status before) reads_none)) (inl is)
symbol-told types answers (Err status) name before after outcome reads (inr (low, is)) =
    subst (λ e. EndsAs e before (ending_of outcome after)) (sym (cond-false (types && (status == 11 && is_type_word name)) (answered (type_answer answers name) 0 before) (status_alone status before) (low-reads types status name low))) (inr (low, is))
