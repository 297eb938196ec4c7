-- What is done before a part, for any production: if a production in a lambda's signature has no scope, its parts have none
-- there.
use Rattle.cpp_press_laws.proofs.Basics.{◌≡◌, ℕ, ◌-◌, length, List, Bool, true, false, cond, Ok, Err, refl, subst, false≢true, BadReference, Next, Production, Term, parameter, State, Around, Value, nothing_there, part, parameter_named, in_name, in_types, in_signature, under_expansion, after, inside, Continuation, index_of, between, Where, in_its_name, in_its_types, in_a_signature, Action, quiet, goes, becomes, tests, holds, unread, before_part, around_part, packs_within, gained, made, tested, done, row_of, ok_same, behind_bind}
use Rattle.cpp_press_laws.proofs.Fits.Solids.{LambdasAreBare}

bare-next : (inner : Around) (vs : List Value) (s : State) (n : Next Value State Around) → LambdasAreBare inner
    → ◌≡◌ {A = Continuation} (Ok (record { context = inner; values = vs; state = s })) (Ok n) → LambdasAreBare n.context
bare-next inner vs s n bare e =
    subst (λ m. LambdasAreBare m.context) (ok_same (record { context = inner; values = vs; state = s }) n e) bare

bare-around : (w : Where) (around : Around) (place : ℕ) (vs : List Value) → LambdasAreBare around
    → LambdasAreBare (around_part around place vs w)
unfolding around_part in_name in_types in_signature under_expansion after inside
bare-around in_its_name around place vs bare = λ is. absurd (false≢true is)
bare-around in_its_types around place vs bare = λ is. absurd (false≢true is)
bare-around in_a_signature around place vs bare = λ is. refl
bare-around _ around place vs bare = bare

bare-name : (is_in is_name : Bool) (around : Around) (t : Term) (vs : List Value) (s : State) (n : Next Value State Around)
    → LambdasAreBare around
    → ◌≡◌ {A = Continuation} (Ok (record { context = cond is_name (after t is_in around) around; values = vs; state = s })) (Ok n)
    → LambdasAreBare n.context
unfolding after
bare-name is_in true around t vs s n bare e = bare-next (after t is_in around) vs s n bare e
bare-name is_in false around t vs s n bare e = bare-next around vs s n bare e

bare-done : (b : Action) (around : Around) (place : ℕ) (vs : List Value) (state : State) (n : Next Value State Around)
    → LambdasAreBare around → done b around place vs state ≡ Ok n → LambdasAreBare n.context
unfolding done tested
bare-done quiet around place vs state n bare e = bare-next around vs state n bare e
bare-done (goes gain w) around place vs state n bare e =
    bare-next (around_part around place vs w) vs (packs_within w (gained gain around vs nothing_there state)) n
    (bare-around w around place vs bare) e
bare-done (becomes m is_in is_name is_candidate) around place vs state n bare e =
    bare-name is_in is_name around (made 0 around vs m) _ _ n bare e
bare-done (tests after_t is_name) around place vs state n bare e =
    let k : ℕ = index_of (part vs 0) in
    let b = behind_bind (parameter_named around (cond after_t (place - 1) place) k state)
    (λ s. tested is_name around (parameter k) vs s state) n e in
    bare-name true is_name around (parameter k) _ _ n bare b.next
bare-done holds around place vs state n bare e = let clash : ◌≡◌ {A = Continuation} (Err (BadReference place)) (Ok n) = e in absurd cc
bare-done unread around place vs state n bare e = let clash : ◌≡◌ {A = Continuation} (Err (BadReference place)) (Ok n) = e in absurd cc

-- if a production in a lambda's signature has no scope, none of its parts has one there
pub lambdas-go : (p : Production) (around : Around) (place : ℕ) (vs : List Value) (state : State) (n : Next Value State Around)
    → LambdasAreBare around → between p around place vs state ≡ Ok n → LambdasAreBare n.context
unfolding between
lambdas-go p around place vs state n bare e = bare-done (before_part (row_of p) (length vs)) around place vs state n bare e
