-- How a driver's frames and parts correspond to those of the machine that unfolds a tree.
use Rattle.std.specs.Prelude.{◌≡◌, ◌≢◌, ◌⊎◌, ℕ, ◌+◌, ◌*◌, ◌≤◌, List, [], ◌∷◌, ◌++◌, length, drop, Result, Ok, Err, Option, Some, None, Bool, true, false}
use Rattle.sym_core.specs.Number.{FitsSymbol}
use Rattle.sym_core.specs.declared.refusal.Refusal.{Refusal}
use Rattle.sym_shape.specs.declared.rule.Row.{Row}
use Rattle.sym_shape.specs.declared.rule.Sym.TheVariants.{Kind}
use Rattle.sym_shape.specs.Table.{Table}
use Rattle.sym_shape.specs.Tree.{Tree, IsTree, spell, spell_all, rows_of, row_count_all}
use Rattle.sym_link.specs.declared.language.Frame.{Frame}
use Rattle.sym_link.specs.Reading.{Found}
use Rattle.sym_link.specs.Unfold.{found, unfold_tree}
use Rattle.sym_link.specs.Machine as machine
use Rattle.sym_link.specs.Parts.{Stands}
use Rattle.sym_link.specs.Driving.{AreAll, Fails}
use Rattle.sym_link.specs.Linking.{View, values_at_once}
use Rattle.sym_link.specs.Owing.{owed}
use Rattle.sym_link.specs.Stepping.{link_steps, closes_at_once, Due, waiting, starting, IsDue, CountsClose}

-- these are the rows of a tree that spells the symbol
pub record IsShape (g : Table) (s : List ℕ) (rows : List Row) (tree : Tree) : Type 0 where
  pub is_tree : IsTree g (Kind 0) tree
  pub spelled : spell tree ≡ s
  pub rows_are : rows ≡ rows_of tree 0 0 0

-- what a whole symbol means
abbrev pub meaning_of : {N P K V S C : Type 0} → View N P K V S C → Tree → Result (Found (List V) S) Refusal
meaning_of view tree = unfold_tree view.reading view.around 0 tree view.first

-- The last frame of code is that of the innermost rule, and the parts after its base denote the known values. The part that
-- began last still owes this many values.
pub record IsTop {N P K V S C : Type 0} (view : View N P K V S C) (s : List ℕ) (nodes : N) (top : machine.Frame V S C) (known : List V)
    (awaited row : ℕ) (codes : List (Frame K)) (parts : List P) : Type 0 where
  pub lower : List (Frame K)
  pub code : Frame K
  pub below : List P
  pub own : List P
  pub codes_are : codes ≡ lower ++ code ∷ []
  pub parts_are : parts ≡ below ++ own
  pub number : code.rule ≡ top.rule.rule.number
  pub place : code.place ≡ top.rule.place
  pub kept : view.IsKept nodes code.kept top.rule
  pub end : code.end ≡ row + row_count_all top.left
  pub base : code.base ≡ length below
  pub are : AreAll (view.IsPart nodes) own known
  pub stands : Stands view.table s (length view.reading.rowless) top.rule (length known + awaited) top.from top.left

-- The frames and parts of code are those of the open rules. The next row has this number.
abbrev pub HoldsAll : {N P K V S C : Type 0} → View N P K V S C → (s : List ℕ) → (nodes : N) → List (machine.Frame V S C) → (known : List V)
    → (awaited row : ℕ) → List (Frame K) → List P → Type 0
HoldsAll view s nodes [] known awaited row codes parts = (codes ≡ []) × AreAll (view.IsPart nodes) parts known
HoldsAll view s nodes (top ∷ frames) known awaited row codes parts =
    (one : IsTop view s nodes top known awaited row codes parts)
    × HoldsAll view s nodes frames top.outer 1 (row + row_count_all top.left) one.lower one.below

-- the place of the parts that the innermost rule has left, or the end of the symbol where no rule is open
abbrev pub left_from : {V S C : Type 0} → (end : ℕ) → List (machine.Frame V S C) → ℕ
left_from end [] = end
left_from end (top ∷ frames) = top.from

-- each rule ends where the remaining parts of the rule around it begin
abbrev pub Nests : {V S C : Type 0} → (end : ℕ) → List (machine.Frame V S C) → Type 0
Nests end [] = Unit {0}
Nests end (top ∷ frames) = (top.from + length (spell_all top.left) ≡ left_from end frames) × Nests end frames

-- while no value of the innermost rule is known, only bytes up to the rule's place have paid
abbrev pub IsEarly : {V S C : Type 0} → (reached : ℕ) → List (machine.Frame V S C) → (known : List V) → Type 0
IsEarly reached [] known = Unit {0}
IsEarly reached (top ∷ frames) known = length known ≡ 0 → reached ≤ top.rule.place

-- A rule has begun in a step that ends with at most n nodes. If the rule can close in that step, there are at most n nodes
-- after the step, whether the rule closes over its parts or is refused before.
pub record BeginsWithin {N P K V S C : Type 0} (view : View N P K V S C) (nodes : N) (top : machine.Frame V S C) (known : List V) (most : ℕ) : Type 0 where
  pub none_known : known ≡ []
  pub size : view.size nodes ≤ most
  pub closed : closes_at_once top.left ≡ true → (own : List P) → length own ≡ values_at_once (length view.reading.rowless) top.left
      → view.size nodes + view.owes top.rule.rule.number 0 + view.closes top.rule.rule.number own ≤ most + view.owes top.rule.rule.number (length own)
  pub refused : closes_at_once top.left ≡ true → view.size nodes + view.closes top.rule.rule.number [] ≤ most

-- the innermost open rule stays within the bound of the step in which it begins
abbrev pub IsLight : {N P K V S C : Type 0} → View N P K V S C → (nodes : N) → Due → List (machine.Frame V S C) → (known : List V) → Type 0
IsLight view nodes (waiting n) frames known = Unit {0}
IsLight view nodes (starting n most) [] known = ⊥
IsLight view nodes (starting n most) (top ∷ frames) known = BeginsWithin view nodes top known most

-- A driver is on the way to the result of the whole, in n steps. The open rules with the parts that they have left are known
-- only to proofs, and so is the place up to which the bytes have paid.
pub record Follows {N P K V S C : Type 0} (view : View N P K V S C) (s : List ℕ) (shape : List Row) (whole : Result (Found (List V) S) Refusal) (due : Due)
    (nodes : N) (next : ℕ) (codes : List (Frame K)) (parts : List P) : Type 0 where
  pub frames : List (machine.Frame V S C)
  pub known : List V
  pub state : S
  pub coming : machine.outcome_of view.reading frames known state ≡ whole
  pub rows : drop next shape ≡ machine.pending frames next
  pub within : next ≤ length shape
  pub holds : HoldsAll view s nodes frames known 0 next codes parts
  pub keeps : view.Holds nodes state
  pub nests : Nests (length s) frames
  pub size : view.size nodes + owed view.owes frames (length known) ≤ view.most (length s)
  pub reached : ℕ
  pub before : reached ≤ left_from (length s) frames
  pub early : IsEarly reached frames known
  pub is_due : IsDue due frames
  pub light : IsLight view nodes due frames known
  pub paid : view.IsPaid nodes reached

-- after a move the driver is still on the way, with n steps left, or the result is the refusal
abbrev pub FollowsAfter : {N P K V S C A : Type 0} → View N P K V S C → (s : List ℕ) → (shape : List Row) → Result (Found (List V) S) Refusal → (steps : ℕ)
    → (nodes : N) → (next : ℕ) → List (Frame K) → List P → Result A Refusal → Type 0
FollowsAfter view s shape whole steps nodes next codes parts (Ok done) = Follows view s shape whole (waiting steps) nodes next codes parts
FollowsAfter view s shape whole steps nodes next codes parts (Err e) = Fails e whole

-- after a move the driver is on the way to this row, with n steps left, or the result is the refusal
abbrev pub FollowsOn : {N P K V S C : Type 0} → View N P K V S C → (s : List ℕ) → (shape : List Row) → (whole : Result (Found (List V) S) Refusal) → (steps : ℕ)
    → (nodes : N) → List (Frame K) → List P → Result ℕ Refusal → Type 0
FollowsOn view s shape whole steps nodes codes parts (Ok next) = Follows view s shape whole (waiting steps) nodes next codes parts
FollowsOn view s shape whole steps nodes codes parts (Err e) = Fails e whole

-- After the only token of a rule, or in a rule without a token, the rule may close and leave n steps; or it has other rows,
-- and waits for them with n steps left.
abbrev pub FollowsAlone : {N P K V S C : Type 0} → View N P K V S C → (s : List ℕ) → (shape : List Row) → (whole : Result (Found (List V) S) Refusal) → (left : ℕ)
    → (nodes : N) → (lower : List (Frame K)) → (frame : Frame K) → List P → Result ℕ Refusal → Type 0
FollowsAlone view s shape whole left nodes lower frame parts (Ok behind) =
    (due : Due) × CountsClose due left × Follows view s shape whole due nodes behind (lower ++ frame ∷ []) parts
    × (frame.end ≢ behind → Follows view s shape whole (waiting left) nodes behind (lower ++ frame ∷ []) parts)
FollowsAlone view s shape whole left nodes lower frame parts (Err e) = Fails e whole

-- this is the last item
abbrev pub EndsWith : {A : Type 0} → List A → A → Type 0
EndsWith {A = A} items last = (lower : List A) × (items ≡ lower ++ last ∷ [])

-- The symbol and its rows are few enough to be numbered.
pub record Fits (s : List ℕ) (shape : List Row) : Type 0 where
  pub symbol : FitsSymbol s
  pub rows : length shape ≤ 4 * length s + 4

-- The frame's rule is the innermost one of a driver that is on its way, and the next row is after the rule's rows.
pub record CanClose {N P K V S C : Type 0} (view : View N P K V S C) (s : List ℕ) (nodes : N) (frame : Frame K) (parts : List P) : Type 0 where
  pub whole : Result (Found (List V) S) Refusal
  pub shape : List Row
  pub due : Due
  pub lower : List (Frame K)
  pub next : ℕ
  pub follows : Follows view s shape whole due nodes next (lower ++ frame ∷ []) parts
  pub ends : frame.end ≡ next
  pub fits : Fits s shape

-- The frame's rule is the innermost one of a driver that is on its way, and begins in this step.
pub record CanSettle {N P K V S C : Type 0} (view : View N P K V S C) (s : List ℕ) (shape : List Row) (nodes : N) (next : ℕ) (lower : List (Frame K)) (frame : Frame K) (parts : List P) : Type 0 where
  pub whole : Result (Found (List V) S) Refusal
  pub steps : ℕ
  pub most : ℕ
  pub follows : Follows view s shape whole (starting steps most) nodes next (lower ++ frame ∷ []) parts
  pub fits : Fits s shape

-- The frame's rule is the innermost one of a driver that is on its way, and the next row is one of the rule's rows.
pub record CanTake {N P K V S C : Type 0} (view : View N P K V S C) (s : List ℕ) (shape : List Row) (due : Due) (nodes : N) (next : ℕ) (codes : List (Frame K)) (frame : Frame K) (parts : List P) : Type 0 where
  pub whole : Result (Found (List V) S) Refusal
  pub follows : Follows view s shape whole due nodes next codes parts
  pub last : EndsWith codes frame
  pub open_still : frame.end ≢ next
  pub fits : Fits s shape

-- after the token of a rule there are at most n nodes, also if the rule closes there
abbrev pub StaysWithin : {N P K V S C : Type 0} → View N P K V S C → (nodes : N) → Frame K → List P → (most : ℕ) → Result ℕ Refusal → Type 0
StaysWithin view nodes frame parts most (Ok behind) =
    (view.size nodes ≤ most) × (frame.end ≡ behind → view.size nodes + view.closes frame.rule (drop frame.base parts) ≤ most)
StaysWithin view nodes frame parts most (Err e) = view.size nodes ≤ most

-- nothing is done yet
pub record IsFresh {N P K V S C : Type 0} (view : View N P K V S C) (nodes : N) (next : ℕ) (codes : List (Frame K)) (parts : List P) : Type 0 where
  pub next_is : next ≡ 0
  pub no_frame : codes ≡ []
  pub no_part : parts ≡ []
  pub no_node : view.size nodes ≡ 0
  pub holds : view.Holds nodes view.first
  pub paid : view.IsPaid nodes 0

-- A driver of a symbol with this shape hasn't begun yet.
pub record CanBegin {N P K V S C : Type 0} (view : View N P K V S C) (s : List ℕ) (shape : List Row) (nodes : N) (next : ℕ) (codes : List (Frame K)) (parts : List P) : Type 0 where
  pub tree : Tree
  pub is_shape : IsShape view.table s shape tree
  pub fresh : IsFresh view nodes next codes parts
  pub fits : Fits s shape

-- a driver that took n steps hasn't begun, or is on the way to what a tree means, with the rest of the tree's steps left
abbrev pub IsOnWay : {N P K V S C : Type 0} → View N P K V S C → (s : List ℕ) → (shape : List Row) → Tree → (taken : ℕ) → (nodes : N) → (next : ℕ) → List (Frame K) → List P → Type 0
IsOnWay view s shape tree taken nodes next codes parts =
    (IsFresh view nodes next codes parts × (taken ≡ 0))
    ⊎ ((left : ℕ) × (taken + left ≡ link_steps tree) × Follows view s shape (meaning_of view tree) (waiting left) nodes next codes parts)

-- A driver of a symbol with this shape is on its way.
pub record CanMove {N P K V S C : Type 0} (view : View N P K V S C) (s : List ℕ) (shape : List Row) (nodes : N) (next : ℕ) (codes : List (Frame K)) (parts : List P) : Type 0 where
  pub tree : Tree
  pub is_shape : IsShape view.table s shape tree
  pub taken : ℕ
  pub on_way : IsOnWay view s shape tree taken nodes next codes parts
  pub fits : Fits s shape

-- The one part denotes what the whole means.
pub record IsDone {N P K V S C : Type 0} (view : View N P K V S C) (s : List ℕ) (shape : List Row) (whole : Result (Found (List V) S) Refusal)
    (nodes : N) (parts : List P) : Type 0 where
  pub part : P
  pub value : V
  pub state : S
  pub parts_are : parts ≡ part ∷ []
  pub means : whole ≡ Ok (found (value ∷ []) state)
  pub is_part : view.IsPart nodes part value
  pub holds : view.Holds nodes state
  pub size : view.size nodes ≤ view.most (length s)
  pub paid : view.IsPaid nodes (length s)

-- A move is one step and continues to a row; or nothing is left to do, and all steps are taken.
abbrev pub Moves : {N P K V S C : Type 0} → View N P K V S C → (s : List ℕ) → (shape : List Row) → Tree → (taken : ℕ) → (nodes : N) → List (Frame K) → List P → Result (Option ℕ) Refusal → Type 0
Moves view s shape tree taken nodes codes parts (Ok (Some next)) = (left : ℕ) × (taken + 1 + left ≡ link_steps tree) × Follows view s shape (meaning_of view tree) (waiting left) nodes next codes parts
Moves view s shape tree taken nodes codes parts (Ok None) = IsDone view s shape (meaning_of view tree) nodes parts × (taken ≡ link_steps tree)
Moves view s shape tree taken nodes codes parts (Err e) = Fails e (meaning_of view tree)

-- A move takes at most two rows. If it takes one row, it leaves at most one more open rule; if two, no more; and if none, it
-- closes a rule. So, counting the open rules, there are at most two moves so far for each row, and at least one for two rows.
abbrev pub CountsMove : (rows next before after : ℕ) → Result (Option ℕ) Refusal → Type 0
CountsMove rows next before after (Ok (Some behind)) = (2 * next + after + 1 ≤ 2 * behind + before) × (behind ≤ next + 2)
CountsMove rows next before after (Ok None) = Unit {0}
CountsMove rows next before after (Err e) = 2 * next + 1 ≤ 2 * rows + before

-- A driver that took n steps is on its way, and n and the steps left add up to those of the tree; or it keeps a refusal, which is
-- what the symbol means.
abbrev pub IsDriving : {N P K V S C : Type 0} → View N P K V S C → (s : List ℕ) → (shape : List Row) → Tree → (nodes : N) → (steps : ℕ) → Option Refusal
    → (next : ℕ) → List (Frame K) → List P → Type 0
IsDriving view s shape tree nodes steps None next codes parts =
    IsOnWay view s shape tree steps nodes next codes parts × (steps + length codes ≤ 2 * next) × (next ≤ length shape) × (next ≤ 2 * steps)
IsDriving view s shape tree nodes steps (Some e) next codes parts = Fails e (meaning_of view tree) × (steps ≤ 2 * length shape)

-- The result of a step: true, if nothing was left to do after as many steps as the tree takes; false, if the driver moved, which
-- is counted; or a refusal, which is kept.
abbrev pub IsStepTo : {N P K V S C : Type 0} → View N P K V S C → (s : List ℕ) → (shape : List Row) → Tree → (nodes : N) → (steps new_steps : ℕ) → (refused new_refused : Option Refusal)
    → List P → Result Bool Refusal → Type 0
IsStepTo view s shape tree nodes steps new_steps refused new_refused parts (Ok true) =
    IsDone view s shape (meaning_of view tree) nodes parts × (new_steps ≡ steps) × (new_refused ≡ None) × (steps ≡ link_steps tree)
IsStepTo view s shape tree nodes steps new_steps refused new_refused parts (Ok false) = (new_steps ≡ steps + 1) × (new_refused ≡ None)
IsStepTo view s shape tree nodes steps new_steps None new_refused parts (Err e) =
    Fails e (meaning_of view tree) × (new_steps ≡ steps + 1) × (new_refused ≡ Some e)
IsStepTo view s shape tree nodes steps new_steps (Some kept) new_refused parts (Err e) =
    Fails e (meaning_of view tree) × (new_steps ≡ steps) × (e ≡ kept) × (new_refused ≡ Some kept)
