-- The moves of a `dyn` and its bounds.
use Rattle.rust_direct.proofs.Basics.{◌≡◌, ℕ, ◌+◌, List, [], ◌∷◌, refl, arith, Base62, Rule, Kind, Number, TakesRule, standing, opened, StandsAt, Production, PATH, TYPE, BINDER, BOUNDS, BINDINGS, LIFETIME, v0_table, taking, chaining, State, number, a_path, a_type, a_lifetime, some_bounds, rust_language, Opened, Comes, Expects, within, behind, with_ended, Ends, BoundsGoOn}
use Rattle.sym_direct.proofs.Moves as moves
use Rattle.rust_tree.specs.Symbol as tree
use Rattle.rust_direct.proofs.Moves.{expects-moved, number-comes}
use Rattle.rust_direct.proofs.MovesOfArguments.{number_rule, no-digits, takes-number}

abbrev dyn_rule : Rule
dyn_rule = taking Production.Dyn (Kind BINDER ∷ Kind BOUNDS ∷ Kind LIFETIME ∷ [])

takes-dyn : TakesRule v0_table TYPE dyn_rule (68 ∷ [])
takes-dyn = record { byte = 68; is_byte = omega arith; found = refl; takes = refl }

-- an erased lifetime is read
lifetime-comes : (s : List ℕ) (os : List Opened) (at : ℕ) (st : State) → Expects s LIFETIME os at st → StandsAt s at (76 ∷ 95 ∷ [])
    → Comes s os (a_lifetime 0) (at + 1 + 1) (behind st)
lifetime-comes s os at st expects stands =
    let places = moves.stands-split s at (76 ∷ []) (95 ∷ []) stands in
    let own = standing number_rule (76 ∷ []) at 0 st in
    let digits = moves.first-of rust_language s LIFETIME number_rule (76 ∷ []) 0 os at st st (Number Base62) []
    (record { context = 0; values = []; state = within Production.Lifetime st }) takes-number (λ f. refl) refl refl expects places.0 in
    let counted = number-comes s Production.Lifetime (opened own [] [] ∷ os) (at + 1) st 0 (at + 1 + 1) (λ o. refl) digits (no-digits s (at + 1) places.1) in
    moves.last-of rust_language s own [] (number 0 ∷ []) os (at + 1 + 1) (within Production.Lifetime st) (a_lifetime 0) (behind st) refl counted

-- the bounds of a `dyn` are expected
pub dyn-opens : (s : List ℕ) (os : List Opened) (at : ℕ) (st : State) → Expects s TYPE os at st → StandsAt s at (68 ∷ [])
    → BoundsGoOn s os at (λ b. b) (at + 1) st
dyn-opens s os at st expects stands =
    let p = Production.Dyn in
    let rule = standing dyn_rule (68 ∷ []) at 0 st in
    let todo = Kind BOUNDS ∷ Kind LIFETIME ∷ [] in
    let binder = moves.first-of rust_language s TYPE dyn_rule (68 ∷ []) 0 os at st st (Kind BINDER) todo
    (record { context = 0; values = []; state = within p st }) takes-dyn (λ f. refl) refl refl expects stands in
    record {
      inner = opened rule [] (Kind LIFETIME ∷ []) ∷ os;
      production = p;
      awaits = moves.next-of rust_language s rule [] [] (Kind BOUNDS) (Kind LIFETIME ∷ []) os (at + 1) (within p st)
          (record { context = 0; values = []; state = within p st }) refl
          (moves.expects-empty rust_language s BINDER 0 (opened rule [] todo ∷ os) (at + 1) (within p st) binder refl);
      closes = λ bs here now came there.
          let w = a_type (tree.dyn 0 bs 0) in
          let lifetime = moves.next-of rust_language s rule [] (some_bounds bs ∷ []) (Kind LIFETIME) [] os here now
          (record { context = 0; values = some_bounds bs ∷ []; state = within p now }) refl came in
          moves.last-of rust_language s rule (some_bounds bs ∷ []) (a_lifetime 0 ∷ []) os (here + 1 + 1) (behind now) w (with_ended at w now) refl
          (lifetime-comes s (opened rule (some_bounds bs ∷ []) [] ∷ os) here (within p now) lifetime there);
    }

abbrev more_rule : Rule
more_rule = chaining Production.BoundsMore (Kind PATH ∷ Kind BINDINGS ∷ Kind BOUNDS ∷ [])

takes-more : TakesRule v0_table BOUNDS more_rule []
takes-more = record { byte = 67; is_byte = omega arith; found = refl; takes = refl }

abbrev end_rule : Rule
end_rule = taking Production.BoundsEnd []

takes-end : TakesRule v0_table BOUNDS end_rule (69 ∷ [])
takes-end = record { byte = 69; is_byte = omega arith; found = refl; takes = refl }

none-more : (n : ℕ) → n + 0 ≡ n
none-more n = omega arith

-- the entries that are open while the path of a bound is read
abbrev pub bound_awaits : (place : ℕ) → State → List Opened → List Opened
bound_awaits place st os = opened (standing more_rule [] place 0 st) [] (Kind BINDINGS ∷ Kind BOUNDS ∷ []) ∷ os

-- the path of a bound is expected
pub bound-opens : (s : List ℕ) (os : List Opened) (at : ℕ) (st : State) → Expects s BOUNDS os at st
    → Expects s PATH (bound_awaits at st os) at (within Production.BoundsMore st)
bound-opens s os at st expects =
    expects-moved s PATH (bound_awaits at st os) (at + 0) at (within Production.BoundsMore st) (none-more at)
    (moves.first-of rust_language s BOUNDS more_rule [] 0 os at st st (Kind PATH) (Kind BINDINGS ∷ Kind BOUNDS ∷ [])
    (record { context = 0; values = []; state = within Production.BoundsMore st }) takes-more (λ f. refl) refl refl expects (moves.stands-none s at))

-- the path of a bound is read, and the bounds continue
pub bound-goes-on : (s : List ℕ) (outer : List Opened) (place : ℕ) (made : tree.Bounds → tree.Bounds) (here : ℕ) (now : State)
    (goes : BoundsGoOn s outer place made here now) (place0 : ℕ) (before : State) (p : tree.Path) (at : ℕ) (st : State)
    → Comes s (bound_awaits place0 before goes.inner) (a_path p) at st
    → BoundsGoOn s outer place (λ r. made (tree.more_bounds p tree.no_bindings r)) at st
bound-goes-on s outer place made here now goes place0 before p at st comes =
    let q = Production.BoundsMore in
    let rule = standing more_rule [] place0 0 before in
    let known = a_path p ∷ [] in
    let bindings = moves.next-of rust_language s rule [] known (Kind BINDINGS) (Kind BOUNDS ∷ []) goes.inner at st
    (record { context = 0; values = known; state = within q st }) refl comes in
    record {
      inner = opened rule known [] ∷ goes.inner;
      production = q;
      awaits = moves.next-of rust_language s rule known [] (Kind BOUNDS) [] goes.inner at (within q st)
          (record { context = 0; values = known; state = within q st }) refl
          (moves.expects-empty rust_language s BINDINGS 0 (opened rule known (Kind BOUNDS ∷ []) ∷ goes.inner) at (within q st) bindings refl);
      closes = λ bs end then_ came there.
          let w = some_bounds (tree.more_bounds p tree.no_bindings bs) in
          goes.closes (tree.more_bounds p tree.no_bindings bs) end (behind then_)
          (moves.last-of rust_language s rule known (some_bounds bs ∷ []) goes.inner end then_ w (behind then_) refl came) there;
    }

-- bounds end at an E
pub bounds-close : (s : List ℕ) (outer : List Opened) (place : ℕ) (made : tree.Bounds → tree.Bounds) (at : ℕ) (st : State)
    → BoundsGoOn s outer place made at st → StandsAt s at (69 ∷ []) → StandsAt s (at + 1) (76 ∷ 95 ∷ [])
    → Ends s outer place (a_type (tree.dyn 0 (made tree.no_bounds) 0)) (at + 1 + 1 + 1) st
bounds-close s outer place made at st goes stands there =
    let first = within goes.production st in
    goes.closes tree.no_bounds (at + 1) (behind st)
    (moves.letter-comes rust_language s BOUNDS end_rule (69 ∷ []) 0 goes.inner at first first (some_bounds tree.no_bounds) (behind st) takes-end
    (λ f. refl) refl refl goes.awaits stands) there
