-- How a linker continues by a driver's steps.
use Rattle.sym_demangle.proofs.Basics.{◌≡◌, ◌∙◌, ap, subst, ℕ, ◌+◌, ◌*◌, ◌≤◌, List, [], length, Bool, true, false, Option, Some, Result, Ok, Err, arith, None, Refusal, Row, FitsSymbol, GrowsInto, AreFew, Table, Tree, AreRowsOf, Frame, View, link_steps, IsDriving, IsStepTo, IsDone, meaning_of, driving_few, Begins, IsLinker, never_done}
use Rattle.sym_demangle.proofs.Standing.{begun}

-- the bounds on the steps and rows of a linker
pub few_of : {N P K V S C : Type 0} (g : Table) (view : View N P K V S C) (s : List ℕ) (rows : List Row) (read : ℕ) (nodes : N) (steps : ℕ) (refused : Option Refusal) (next : ℕ)
    (frames : List (Frame K)) (parts : List P) (done : Bool) → IsLinker g view s rows read nodes steps refused next frames parts done
    → (read + steps ≤ 32 * length s + 48) × (length rows ≤ 4 * length s + 4)
few_of g view s rows read nodes steps refused next frames parts done is =
    (omega (arith, driving_few view s rows is.shape nodes steps refused next frames parts is.driving, is.few.steps_few, is.few.rows_few), is.few.rows_few)

-- what holds of a driver over some bytes and rows also holds over the linker's bytes and rows, which are equal
pub driving_same : {N P K V S C : Type 0} (view : List ℕ → View N P K V S C) (d s : List ℕ) (rs rows : List Row) (shape : Tree) (nodes : N) (steps : ℕ) (refused : Option Refusal) (next : ℕ)
    (frames : List (Frame K)) (parts : List P) → d ≡ s → rs ≡ rows → IsDriving (view d) d rs shape nodes steps refused next frames parts
    → IsDriving (view s) s rows shape nodes steps refused next frames parts
driving_same view d s rs rows shape nodes steps refused next frames parts same same_rows driving =
    subst (λ b. IsDriving (view b) b rows shape nodes steps refused next frames parts) same
    (subst (λ r. IsDriving (view d) d r shape nodes steps refused next frames parts) same_rows driving)

-- a driver that is done over some bytes and rows is also done over the linker's bytes and rows, which are equal
done_same : {N P K V S C : Type 0} (view : List ℕ → View N P K V S C) (d s : List ℕ) (rs rows : List Row) (shape : Tree) (nodes : N) (parts : List P) → d ≡ s → rs ≡ rows
    → IsDone (view d) d rs (meaning_of (view d) shape) nodes parts → IsDone (view s) s rows (meaning_of (view s) shape) nodes parts
done_same view d s rs rows shape nodes parts same same_rows done =
    subst (λ b. IsDone (view b) b rows (meaning_of (view b) shape) nodes parts) same
    (subst (λ r. IsDone (view d) d r (meaning_of (view d) shape) nodes parts) same_rows done)

-- a linker that isn't done continues
pub goes_on : {N P K V S C : Type 0} (g : Table) (view : List ℕ → View N P K V S C) (d s : List ℕ) (rs rows : List Row) (read : ℕ) (nodes new : N) (steps new_steps : ℕ)
    (refused new_refused : Option Refusal) (next new_next : ℕ) (frames new_frames : List (Frame K)) (parts new_parts : List P) (done : Bool)
    (is : IsLinker g (view s) s rows read nodes steps refused next frames parts done) → done ≡ false → d ≡ s → rs ≡ rows
    → IsDriving (view d) d rs is.shape new new_steps new_refused new_next new_frames new_parts
    → IsLinker g (view s) s rows read new new_steps new_refused new_next new_frames new_parts done
goes_on g view d s rs rows read nodes new steps new_steps refused new_refused next new_next frames new_frames parts new_parts done is isnt same same_rows driving = record {
  shape = is.shape;
  is_tree = is.is_tree;
  is_shape = is.is_shape;
  fits = is.fits;
  few = is.few;
  driving = driving_same view d s rs rows is.shape new new_steps new_refused new_next new_frames new_parts same same_rows driving;
  ended = λ over. absurd (never_done done over isnt);
  all_steps = λ over. absurd (never_done done over isnt);
}

-- a linker that has run to its end is done
pub has_run : {N P K V S C : Type 0} (g : Table) (view : List ℕ → View N P K V S C) (d s : List ℕ) (rs rows : List Row) (read : ℕ) (nodes new : N) (steps new_steps : ℕ)
    (refused new_refused : Option Refusal) (next new_next : ℕ) (frames new_frames : List (Frame K)) (parts new_parts : List P) (done : Bool)
    (is : IsLinker g (view s) s rows read nodes steps refused next frames parts done) → d ≡ s → rs ≡ rows
    → IsDriving (view d) d rs is.shape new new_steps new_refused new_next new_frames new_parts
    → IsDone (view d) d rs (meaning_of (view d) is.shape) new new_parts → new_steps ≡ link_steps is.shape
    → IsLinker g (view s) s rows read new new_steps new_refused new_next new_frames new_parts true
has_run g view d s rs rows read nodes new steps new_steps refused new_refused next new_next frames new_frames parts new_parts done is same same_rows driving ended counted = record {
  shape = is.shape;
  is_tree = is.is_tree;
  is_shape = is.is_shape;
  fits = is.fits;
  few = is.few;
  driving = driving_same view d s rs rows is.shape new new_steps new_refused new_next new_frames new_parts same same_rows driving;
  ended = λ over. done_same view d s rs rows is.shape new new_parts same same_rows ended;
  all_steps = λ over. counted;
}

-- the answer of a step that succeeds may be replaced by an equal one
answered : {N P K V S C : Type 0} (view : View N P K V S C) (s : List ℕ) (rows : List Row) (shape : Tree) (nodes : N) (steps new_steps : ℕ) (refused new_refused : Option Refusal) (parts : List P)
    (result : Result Bool Refusal) (done over : Bool) → result ≡ Ok done → done ≡ over → IsStepTo view s rows shape nodes steps new_steps refused new_refused parts result
    → IsStepTo view s rows shape nodes steps new_steps refused new_refused parts (Ok over)
answered view s rows shape nodes steps new_steps refused new_refused parts result done over is same to =
    let ok : Bool → Result Bool Refusal = λ b. Ok b in
    subst (λ r. IsStepTo view s rows shape nodes steps new_steps refused new_refused parts r) (is ∙ ap ok same) to

-- a linker whose step answered true is done
pub has_stepped : {N P K V S C : Type 0} (g : Table) (view : List ℕ → View N P K V S C) (d s : List ℕ) (rs rows : List Row) (read : ℕ) (nodes new : N) (steps new_steps : ℕ)
    (refused new_refused : Option Refusal) (next new_next : ℕ) (frames new_frames : List (Frame K)) (parts new_parts : List P) (was done : Bool) (result : Result Bool Refusal)
    (is : IsLinker g (view s) s rows read nodes steps refused next frames parts was) → d ≡ s → rs ≡ rows → result ≡ Ok done
    → IsDriving (view d) d rs is.shape new new_steps new_refused new_next new_frames new_parts
    → IsStepTo (view d) d rs is.shape new steps new_steps refused new_refused new_parts result
    → IsLinker g (view s) s rows read new new_steps new_refused new_next new_frames new_parts done
has_stepped g view d s rs rows read nodes new steps new_steps refused new_refused next new_next frames new_frames parts new_parts was done result is same same_rows ok driving to = record {
  shape = is.shape;
  is_tree = is.is_tree;
  is_shape = is.is_shape;
  fits = is.fits;
  few = is.few;
  driving = driving_same view d s rs rows is.shape new new_steps new_refused new_next new_frames new_parts same same_rows driving;
  ended = λ over. done_same view d s rs rows is.shape new new_parts same same_rows (answered (view d) d rs is.shape new steps new_steps refused new_refused new_parts result done true ok over to).0;
  all_steps = λ over. let to_end = answered (view d) d rs is.shape new steps new_steps refused new_refused new_parts result done true ok over to in omega (arith, to_end.1, to_end.3);
}

-- a step that answers false is counted
pub counts_step : {N P K V S C : Type 0} (view : View N P K V S C) (s : List ℕ) (rows : List Row) (shape : Tree) (nodes : N) (steps new_steps : ℕ) (refused new_refused : Option Refusal)
    (parts : List P) (result : Result Bool Refusal) (done : Bool) → result ≡ Ok done → done ≡ false
    → IsStepTo view s rows shape nodes steps new_steps refused new_refused parts result → new_steps ≡ steps + 1
counts_step view s rows shape nodes steps new_steps refused new_refused parts result done is over to =
    (answered view s rows shape nodes steps new_steps refused new_refused parts result done false is over to).0

-- a step that answers true isn't counted
pub counts_none : {N P K V S C : Type 0} (view : View N P K V S C) (s : List ℕ) (rows : List Row) (shape : Tree) (nodes : N) (steps new_steps : ℕ) (refused new_refused : Option Refusal)
    (parts : List P) (result : Result Bool Refusal) (done : Bool) → result ≡ Ok done → done ≡ true
    → IsStepTo view s rows shape nodes steps new_steps refused new_refused parts result → new_steps ≡ steps
counts_none view s rows shape nodes steps new_steps refused new_refused parts result done is over to =
    (answered view s rows shape nodes steps new_steps refused new_refused parts result done true is over to).1

-- a step that answers true or false leaves no refusal
pub stays_open : {N P K V S C : Type 0} (view : View N P K V S C) (s : List ℕ) (rows : List Row) (shape : Tree) (nodes : N) (steps new_steps : ℕ) (refused new_refused : Option Refusal)
    (parts : List P) (result : Result Bool Refusal) (done : Bool) → result ≡ Ok done
    → IsStepTo view s rows shape nodes steps new_steps refused new_refused parts result → new_refused ≡ None
stays_open view s rows shape nodes steps new_steps refused new_refused parts result true is to =
    (subst (λ r. IsStepTo view s rows shape nodes steps new_steps refused new_refused parts r) is to).2
stays_open view s rows shape nodes steps new_steps refused new_refused parts result false is to =
    (subst (λ r. IsStepTo view s rows shape nodes steps new_steps refused new_refused parts r) is to).1

-- the first step that refuses is counted, and its refusal is kept
pub counts_refusal : {N P K V S C : Type 0} (view : View N P K V S C) (s : List ℕ) (rows : List Row) (shape : Tree) (nodes : N) (steps new_steps : ℕ) (refused new_refused : Option Refusal)
    (parts : List P) (result : Result Bool Refusal) (e : Refusal) → result ≡ Err e → refused ≡ None
    → IsStepTo view s rows shape nodes steps new_steps refused new_refused parts result → (new_steps ≡ steps + 1) × (new_refused ≡ Some e)
counts_refusal view s rows shape nodes steps new_steps refused new_refused parts result e is none to =
    let refuses = subst (λ r. IsStepTo view s rows shape nodes steps new_steps refused new_refused parts r) is to in
    let first = subst (λ o. IsStepTo view s rows shape nodes steps new_steps o new_refused parts (Err e)) none refuses in
    (first.1, first.2)

-- a linker whose driver was reset has done nothing yet
pub reset_of : {N P K V S C : Type 0} (view : View N P K V S C) (g : Table) (s : List ℕ) (rows : List Row) (read : ℕ) (nodes : N) (steps : ℕ) (refused : Option Refusal) (next : ℕ)
    (frames : List (Frame K)) (parts : List P) → steps ≡ 0 → refused ≡ None → next ≡ 0 → frames ≡ [] → parts ≡ [] → GrowsInto g view.table → FitsSymbol s → AreRowsOf g s rows
    → AreFew read (length rows) (length s) → Begins view nodes → IsLinker g view s rows read nodes steps refused next frames parts false
reset_of view g s rows read nodes steps refused next frames parts no_step none first no_frame no_part grows fits are few begins =
    rw (no_step, none, first, no_frame, no_part) (begun view g s rows read nodes grows fits are few begins)
