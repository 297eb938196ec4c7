-- A language in which each part, even one with no row, has one value, and in which something is done before each part.
use Rattle.std.specs.Prelude.{◌≡◌, ℕ, ◌+◌, ◌<◌, ◌≤◌, List, ◌++◌, length, take, drop, Result, Ok, Err}
use Rattle.sym_core.specs.declared.refusal.Refusal.{Refusal}
use Rattle.sym_shape.specs.declared.rule.Row.{Row}
use Rattle.sym_shape.specs.declared.rule.Rule.{Rule}
use Rattle.sym_shape.specs.Table.{Table, Token, symbols_of}
use Rattle.sym_shape.specs.declared.rule.Sym.TheVariants.{Kind}
use Rattle.sym_shape.specs.Tree.{Tree, Forest, branch, empty, fixed, grown, spell_all, TakesRule, IsTree, AreTrees, tree_count}
use Rattle.sym_link.specs.Parts.{skipped, joined, values_in}
use Rattle.sym_link.specs.declared.language.Frame.{Frame}
use Rattle.sym_link.specs.Reading.{Open, Next}
use Rattle.sym_link.specs.Unfold.{standing}
use Rattle.sym_link.specs.Machine.{Passed, passed}
use Rattle.sym_link.specs.Driving.{AreAll, Fails}
use Rattle.sym_link.specs.Linking.{View, IsLinking, IsRuleRow, IsTokenRow, Gives, Puts, AddsFew}

-- how many parts without a row come first
abbrev pub skips : Forest → ℕ
skips (grown empty rest) = 1 + skips rest
skips (grown (fixed byte) rest) = 1 + skips rest
skips left = 0

-- A rule of the grammar is at its place in the symbol, and the byte that the rule takes, if any, is at that place.
pub record IsThere {S C : Type 0} (g : Table) (s : List ℕ) (rule : Open S C) : Type 0 where
  pub kind : ℕ
  pub is_kind : kind < g.kinds
  pub takes : TakesRule g kind rule.rule rule.taken
  pub behind : List ℕ
  pub spelled : drop rule.place s ≡ rule.taken ++ behind

-- The frame of code is that of an open rule, whose parts so far have these values.
pub record IsAt {N P K V S C : Type 0} (view : View N P K V S C) (s : List ℕ) (nodes : N) (frame : Frame K) (own : List P)
    (rule : Open S C) (known : List V) (state : S) : Type 0 where
  pub there : IsThere view.table s rule
  pub number : frame.rule ≡ rule.rule.number
  pub place : frame.place ≡ rule.place
  pub kept : view.IsKept nodes frame.kept rule
  pub parts : AreAll (view.IsPart nodes) own known
  pub holds : view.Holds nodes state

-- The frame and the parts from its base on are those of an open rule at its place.
pub record IsOpenAt {N P K V S C : Type 0} (view : View N P K V S C) (s : List ℕ) (nodes : N) (frame : Frame K) (parts : List P) : Type 0 where
  pub rule : Open S C
  pub known : List V
  pub state : S
  pub at : IsAt view s nodes frame (drop frame.base parts) rule known state

-- The inputs of the next part are what is read: its context, the values so far, and the state.
abbrev pub Goes : {N P K V S C : Type 0} → View N P K V S C → (IsContext : N → K → C → Type 0) → (nodes : N) → (lower parts : List P)
    → Result K Refusal → Result (Next V S C) Refusal → Type 0
Goes {P = P} {V = V} {S = S} {C = C} view IsContext nodes lower parts (Ok context) read =
    (next : Next V S C) × (read ≡ Ok next) × IsContext nodes context next.context × view.Holds nodes next.state
    × (own : List P) × (parts ≡ lower ++ own) × AreAll (view.IsPart nodes) own next.values
Goes view IsContext nodes lower parts (Err e) read = Fails e read

-- The number of nodes added before the next part of the frame's rule is at most the difference between what the rule could add
-- before and what it may still add afterwards.
abbrev pub AddsBefore : {N P K V S C A : Type 0} → View N P K V S C → (old new : N) → Frame K → (parts own : List P) → Result A Refusal → Type 0
AddsBefore view old new frame parts own (Ok done) = view.size new + view.closes frame.rule own ≤ view.size old + view.closes frame.rule (drop frame.base parts)
AddsBefore view old new frame parts own (Err e) = AddsFew view old new frame parts

-- Before the next part of the frame's rule, the code does what the reading says.
abbrev pub GoesOn : {N P K V S C : Type 0} → View N P K V S C → (s : List ℕ) → (IsContext : N → K → C → Type 0) → (old new : N) → Frame K → (parts new_parts : List P)
    → Result K Refusal → Type 0
GoesOn {V = V} {S = S} {C = C} view s IsContext old new frame parts new_parts result =
    (rule : Open S C) (known : List V) (state : S) → IsAt view s old frame (drop frame.base parts) rule known state
    → Goes view IsContext new (take frame.base parts) new_parts result (view.reading.between rule known state)

-- Some of the parts without a row that precede the part with this number in the frame's rule are passed. The result of passing
-- them all is known.
pub record Passing {N P K V S C : Type 0} (view : View N P K V S C) (s : List ℕ) (nodes : N) (frame : Frame K) (lower parts : List P) (to : ℕ)
    (whole : Result (Passed V S) Refusal) : Type 0 where
  pub rule : Open S C
  pub known : List V
  pub from : ℕ
  pub left : Forest
  pub state : S
  pub base : frame.base ≤ length parts
  pub below : take frame.base parts ≡ lower
  pub at : IsAt view s nodes frame (drop frame.base parts) rule known state
  pub coming : passed view.reading rule known from left state ≡ whole
  pub count : length known + skips left ≡ to

-- One more part is passed.
abbrev pub PassesOne : {N P K V S C : Type 0} → View N P K V S C → (s : List ℕ) → (nodes : N) → Frame K → (lower parts : List P) → (to : ℕ) → (whole : Result (Passed V S) Refusal) → Result (Unit {0}) Refusal → Type 0
PassesOne view s nodes frame lower parts to whole (Ok done) = Passing view s nodes frame lower parts to whole
PassesOne view s nodes frame lower parts to whole (Err e) = Fails e whole

-- All these parts are passed, and the parts denote the values so far.
abbrev pub Passes : {N P K V S C : Type 0} → View N P K V S C → (nodes : N) → Frame K → (lower parts : List P) → Result (Unit {0}) Refusal → Result (Passed V S) Refusal → Type 0
Passes {P = P} {V = V} {S = S} view nodes frame lower parts (Ok done) whole =
    (p : Passed V S) × (whole ≡ Ok p) × view.Holds nodes p.state × (take frame.base parts ≡ lower) × (frame.base ≤ length parts)
    × AreAll (view.IsPart nodes) (drop frame.base parts) p.known
Passes view nodes frame lower parts (Err e) whole = Fails e whole

-- the laws that such a language keeps
pub record IsThreading {N P K V S C : Type 0} (view : View N P K V S C) : Type 0 where
  pub linking : IsLinking view
  pub grows_same : (nodes : N) → view.Grows nodes nodes
  pub grows_then : (a b c : N) → view.Grows a b → view.Grows b c → view.Grows a c
  pub one : length view.reading.rowless ≡ 1

-- ## The other moments

abbrev pub BeginsAs : {N P K V S C : Type 0} → View N P K V S C → (nodes : N) → Open S C → Result K Refusal → Result S Refusal → Type 0
BeginsAs {S = S} view nodes rule (Ok kept) read = (state : S) × (read ≡ Ok state) × view.IsKept nodes kept rule × view.Holds nodes state
BeginsAs view nodes rule (Err e) read = Fails e read

-- The rule of a row, which is one of the grammar, begins in a context as the reading says.
abbrev pub BeginsIn : {N P K V S C : Type 0} → View N P K V S C → (s : List ℕ) → (Surrounds : N → K → C → Type 0) → (rows : List Row) → (old new : N) → (context : K) → Row → Result K Refusal → Type 0
BeginsIn {S = S} {C = C} view s Surrounds rows old new context row result =
    (around : C) (state : S) (rule : Rule) (taken : List ℕ) (inner : Forest) (place : ℕ) → IsRuleRow rows row rule taken inner place
    → (kind : ℕ) → kind < view.table.kinds → IsTree view.table (Kind kind) (branch rule taken inner)
    → (behind : List ℕ) → drop place s ≡ taken ++ (spell_all inner ++ behind) → Surrounds old context around → view.Holds old state
    → BeginsAs view new (standing rule taken place around state) result (view.reading.begin (standing rule taken place around state) inner)

-- The frame's rule closes over all its parts as the reading says.
abbrev pub ClosesAll : {N P K V S C : Type 0} → View N P K V S C → (s : List ℕ) → (old new : N) → Frame K → (parts new_parts : List P) → Result (Unit {0}) Refusal → Type 0
ClosesAll {V = V} {S = S} {C = C} view s old new frame parts new_parts result =
    (rule : Open S C) (known : List V) (state : S) → IsAt view s old frame (drop frame.base parts) rule known state
    → Puts view new (take frame.base parts) new_parts result (view.reading.close rule known state)

-- A token in the frame's rule is what the reading says.
abbrev pub IsTaken : {N P K V S C : Type 0} → View N P K V S C → (s : List ℕ) → (old new : N) → Row → Result P Refusal → Type 0
IsTaken {S = S} view s old new row result =
    (state : S) (t : Token) (place : ℕ) → IsTokenRow s row t place → view.Holds old state → Gives view new result (view.reading.token place t state)

-- the rule of the grammar that has this number, if any, has n parts
abbrev pub IsCount : Table → (number count : ℕ) → Type 0
IsCount g number count = (kind : ℕ) (rule : Rule) (taken : List ℕ) → kind < g.kinds → TakesRule g kind rule taken → rule.number ≡ number → length (symbols_of rule) ≡ count

-- once `held` parts of the rule with this number are passed, and `after` parts follow the rule's next part with a row,
-- `ahead` parts precede that part
abbrev pub IsAhead : Table → (number held after ahead : ℕ) → Type 0
IsAhead g number held after ahead =
    (kind : ℕ) (rule : Rule) (taken : List ℕ) → kind < g.kinds → TakesRule g kind rule taken → rule.number ≡ number
    → (parts left rest : Forest) (next : Tree) → AreTrees g (symbols_of rule) (joined parts left) → values_in 1 parts ≡ held
    → skipped left ≡ grown next rest → after ≡ tree_count rest → ahead ≡ held + skips left
