-- How the nodes that a language makes correspond to what its reading says.
use Rattle.std.specs.Prelude.{◌≡◌, ℕ, ◌+◌, ◌-◌, ◌*◌, ◌≤◌, List, [], ◌∷◌, ◌++◌, length, take, drop, true, false, if◌then◌else◌, Result, Ok, Err, Vec}
use Rattle.std.specs.Result.{IfOk}
use Rattle.std.specs.Global.{Global}
use Rattle.sym_core.specs.Number.{FitsSymbol}
use Rattle.sym_core.specs.declared.refusal.Refusal.{Refusal}
use Rattle.sym_shape.specs.declared.rule.Row.{Row}
use Rattle.sym_shape.specs.declared.rule.Rule.{Rule}
use Rattle.sym_shape.specs.Table.{Table, Token}
use Rattle.sym_shape.specs.declared.rule.Sym.TheVariants.{Kind}
use Rattle.sym_shape.specs.Tree.{Tree, Forest, branch, token, grown, IsTree, row_count, row_count_all, rows_of_all, spell, spell_all, tree_count}
use Rattle.sym_link.specs.declared.language.Frame.{Frame}
use Rattle.sym_link.specs.Room.{Listed, one_by_one, KeepRoom, OnlyForRoom}
use Rattle.sym_link.specs.Reading.{Found, Open, Next, Reading, ◌>>=◌}
use Rattle.sym_link.specs.Unfold.{found, standing}
use Rattle.sym_link.specs.Machine.{passed, ended}
use Rattle.sym_link.specs.Owing.{Owes, cost}
use Rattle.sym_link.specs.Sound.{IsSound}
use Rattle.sym_link.specs.Parts.{skipped, passed_by, skipped_from, values_in, Stands}
use Rattle.sym_link.specs.Stepping.{no_part_has_row, closes_at_once}
use Rattle.sym_link.specs.Driving.{AreAll, Fails}

-- A language as its code has it. N are the nodes that it makes, P the parts and K what it keeps for an open rule in code;
-- V are the values, S the states and C the contexts of its reading.
pub record View (N P K V S C : Type 0) : Type 1 where
  pub table : Table
  pub reading : Reading V S C
  -- the context around a whole symbol, and the state before it
  pub around : C
  pub first : S
  -- which value a part denotes, which open rule the kept state belongs to, and which state the language has
  pub IsPart : N → P → V → Type 0
  pub IsKept : N → K → Open S C → Type 0
  pub Holds : N → S → Type 0
  -- the new nodes are the old ones and more
  pub Grows : (old new : N) → Type 0
  -- how many nodes there are, how many a rule may still add once n of its parts have values, and how many a symbol of n bytes
  -- may have
  pub size : N → ℕ
  pub owes : Owes
  -- how many nodes a rule may add after these parts, if no other part with a row follows or the rule is refused
  pub closes : (number : ℕ) → List P → ℕ
  pub most : (bytes : ℕ) → ℕ
  -- this many bytes of the symbol pay for what the language has written beside the nodes
  pub IsPaid : N → (bytes : ℕ) → Type 0
  -- the lists of the language, and which own bytes of a token take memory besides, in the rule with a number
  pub lists : N → List Listed
  pub TakesMemory : (number : ℕ) → (own : List ℕ) → Type 0

-- how many nodes the rule of a frame may still add, after these parts
abbrev pub owed_behind : {N P K V S C : Type 0} → View N P K V S C → Frame K → List P → ℕ
owed_behind view frame parts = view.owes frame.rule (length parts - frame.base)

-- how many nodes the rule of a frame may still add, after its next part
abbrev pub owed_next : {N P K V S C : Type 0} → View N P K V S C → Frame K → List P → ℕ
owed_next view frame parts = view.owes frame.rule (length parts - frame.base + 1)

-- how many values the parts up to the token have, in a rule that closes in the step that begins it; 0 without a token
abbrev pub values_at_once : (rowless : ℕ) → Forest → ℕ
values_at_once rowless parts = if no_part_has_row parts then 0 else (values_in rowless (passed_by parts) + 1)

-- A rule with these parts closes in the step that begins it. Together with the rule around it, it adds at most two nodes in
-- that step, whether it closes or is refused before. `before` and `behind` are what the rule around it may add before and
-- after.
pub record AddTwo {N P K V S C : Type 0} (view : View N P K V S C) (before behind number : ℕ) (parts : Forest) : Type 0 where
  pub closed : (own : List P) → length own ≡ values_at_once (length view.reading.rowless) parts
      → before + view.owes number 0 + view.closes number own ≤ behind + view.owes number (length own) + 2
  pub refused : before + view.closes number [] ≤ behind + 2

-- the laws that every language keeps
pub record IsLinking {N P K V S C : Type 0} (view : View N P K V S C) : Type 0 where
  pub sound : IsSound view.table
  -- a symbol has a row
  pub starts : view.table.may_be_empty 0 ≡ false
  -- parts and kept states denote what they denoted before
  pub part_stays : (old new : N) (part : P) (value : V) → view.Grows old new → view.IsPart old part value → view.IsPart new part value
  pub kept_stays : (old new : N) (kept : K) (rule : Open S C) → view.Grows old new → view.IsKept old kept rule → view.IsKept new kept rule
  -- more bytes pay for what fewer bytes pay for
  pub paid_more : (nodes : N) (few more : ℕ) → few ≤ more → view.IsPaid nodes few → view.IsPaid nodes more
  -- before a part, the number of known values stays the same
  pub keeps_count : (rule : Open S C) (known : List V) (state : S)
      → IfOk (view.reading.between rule known state) (λ next. length next.values ≡ length known)
  -- the rules of a symbol's tree may add no more nodes than the symbol may have
  pub few : (tree : Tree) → IsTree view.table (Kind 0) tree → row_count tree ≤ 4 * length (spell tree) + 4 → cost view.owes tree ≤ view.most (length (spell tree))
  -- a rule adds at most two nodes, and when it closes, no more than it may still add
  pub two : (number held : ℕ) → view.owes number held ≤ 2
  pub closing : (number : ℕ) (own : List P) → view.closes number own ≤ view.owes number (length own)
  -- a rule that closes in the step that begins it adds, together with the rule around it, at most two nodes
  pub two_at_once : (s : List ℕ) (around : Open S C) (held from : ℕ) (left : Forest) (rule : Rule) (taken : List ℕ) (parts rest : Forest)
      → Stands view.table s (length view.reading.rowless) around held from left → skipped left ≡ grown (branch rule taken parts) rest → closes_at_once parts ≡ true
      → AddTwo view (view.owes around.rule.number held) (view.owes around.rule.number (held + values_in (length view.reading.rowless) (passed_by left) + 1)) rule.number parts

-- the symbol can be read, and the language may add n nodes
pub record HasRoom {N P K V S C : Type 0} (view : View N P K V S C) (s : List ℕ) (nodes : N) (more : ℕ) : Type 0 where
  pub fits : FitsSymbol s
  pub size : view.size nodes + more ≤ view.most (length s)
  pub paid : view.IsPaid nodes (length s)

-- The frame of code is that of an open rule of the symbol: the first n values are known, and `left` are the parts that are
-- left.
pub record IsInside {N P K V S C : Type 0} (view : View N P K V S C) (s : List ℕ) (nodes : N) (frame : Frame K) (own : List P)
    (rule : Open S C) (known : List V) (from : ℕ) (left : Forest) (state : S) : Type 0 where
  pub number : frame.rule ≡ rule.rule.number
  pub place : frame.place ≡ rule.place
  pub kept : view.IsKept nodes frame.kept rule
  pub parts : AreAll (view.IsPart nodes) own known
  pub holds : view.Holds nodes state
  pub stands : Stands view.table s (length view.reading.rowless) rule (length known) from left

-- The frame and the parts from its base on are those of a rule that is open in the symbol.
pub record IsOpen {N P K V S C : Type 0} (view : View N P K V S C) (s : List ℕ) (nodes : N) (frame : Frame K) (parts : List P) : Type 0 where
  pub rule : Open S C
  pub known : List V
  pub from : ℕ
  pub left : Forest
  pub state : S
  pub inside : IsInside view s nodes frame (drop frame.base parts) rule known from left state

-- the row is that of a rule at a place, and the rows of its parts are after it
pub record IsRuleRow (rows : List Row) (row : Row) (rule : Rule) (taken : List ℕ) (parts : Forest) (place : ℕ) : Type 0 where
  pub number : ℕ
  pub more : List Row
  pub rows_are : drop number rows ≡ row ∷ (rows_of_all parts (place + length taken) (number + 1) ++ more)
  pub rule_is : row.rule ≡ rule.number
  pub from : row.from ≡ place
  pub to : row.to ≡ place + length (taken ++ spell_all parts)
  pub end : row.end ≡ number + 1 + row_count_all parts

-- the row is that of a token at a place
pub record IsTokenRow (s : List ℕ) (row : Row) (t : Token) (place : ℕ) : Type 0 where
  pub from : row.from ≡ place + length t.before
  pub to : row.to ≡ row.from + length t.own
  pub own : take (row.to - row.from) (drop row.from s) ≡ t.own

-- the inputs of the next part that has a row
abbrev pub next_of : {V S C : Type 0} → Reading V S C → Open S C → (known : List V) → (from : ℕ) → (left : Forest) → S → Result (Next V S C) Refusal
next_of reading rule known from left state = passed reading rule known from left state >>= λ p. reading.between rule p.known p.state

-- a rule that has begun, the values of the rule around it, and the state in which its parts begin
pub record Begun (V S C : Type 0) : Type 0 where
  pub rule : Open S C
  pub values : List V
  pub state : S

-- a rule begins, after these values of the rule around it
abbrev pub begun : {V S C : Type 0} → Reading V S C → Rule → (taken : List ℕ) → (place : ℕ) → (parts : Forest) → Next V S C → Result (Begun V S C) Refusal
begun reading rule taken place parts next =
    reading.begin (standing rule taken place next.context next.state) parts
    >>= λ state. Ok (record { rule = standing rule taken place next.context next.state; values = next.values; state = state })

-- a token after these values
abbrev pub taken_in : {V S C : Type 0} → Reading V S C → Token → (place : ℕ) → Next V S C → Result (Found (List V) S) Refusal
taken_in reading t place next = reading.token place t next.state >>= λ one. Ok (found (next.values ++ one.value ∷ []) one.state)

-- what is kept belongs to the rule that begins, and the parts after the lower ones are those of the rule around it
abbrev pub Begins : {N P K V S C : Type 0} → View N P K V S C → (nodes : N) → (lower parts : List P) → Result K Refusal → Result (Begun V S C) Refusal → Type 0
Begins {P = P} {V = V} {S = S} {C = C} view nodes lower parts (Ok kept) read =
    (begun : Begun V S C) × (read ≡ Ok begun) × view.IsKept nodes kept begun.rule × view.Holds nodes begun.state
    × (own : List P) × (parts ≡ lower ++ own) × AreAll (view.IsPart nodes) own begun.values
Begins view nodes lower parts (Err e) read = Fails e read

-- the parts after the lower ones denote what is read
abbrev pub Takes : {N P K V S C : Type 0} → View N P K V S C → (nodes : N) → (lower parts : List P) → Result (Unit {0}) Refusal → Result (Found (List V) S) Refusal → Type 0
Takes {P = P} {V = V} {S = S} view nodes lower parts (Ok done) read =
    (known : List V) × (state : S) × (read ≡ Ok (found known state)) × view.Holds nodes state
    × (own : List P) × (parts ≡ lower ++ own) × AreAll (view.IsPart nodes) own known
Takes view nodes lower parts (Err e) read = Fails e read

-- the part denotes what is read
abbrev pub Gives : {N P K V S C : Type 0} → View N P K V S C → (nodes : N) → Result P Refusal → Result (Found V S) Refusal → Type 0
Gives {V = V} {S = S} view nodes (Ok part) read =
    (value : V) × (state : S) × (read ≡ Ok (found value state)) × view.IsPart nodes part value × view.Holds nodes state
Gives view nodes (Err e) read = Fails e read

-- after the lower parts there is one part, which denotes what is read
abbrev pub Puts : {N P K V S C : Type 0} → View N P K V S C → (nodes : N) → (lower parts : List P) → Result (Unit {0}) Refusal → Result (Found V S) Refusal → Type 0
Puts {P = P} view nodes lower parts (Ok done) read = (part : P) × (parts ≡ lower ++ part ∷ []) × Gives view nodes (Ok part) read
Puts view nodes lower parts (Err e) read = Fails e read

-- The rule of a whole symbol begins as the reading says.
abbrev pub OpensRoot : {N P K V S C : Type 0} → View N P K V S C → (s : List ℕ) → (rows : List Row) → (old new : N) → Row → Result K Refusal → Type 0
OpensRoot view s rows old new row result =
    (rule : Rule) (taken : List ℕ) (parts : Forest) → IsRuleRow rows row rule taken parts 0 → view.Holds old view.first
    → Begins view new [] [] result (begun view.reading rule taken 0 parts (record { context = view.around; values = []; state = view.first }))

-- A rule begins in the frame's rule, after these parts, as the reading says.
abbrev pub Opens : {N P K V S C : Type 0} → View N P K V S C → (s : List ℕ) → (rows : List Row) → (old new : N) → Frame K → (parts new_parts : List P) → Row → Result K Refusal → Type 0
Opens {V = V} {S = S} {C = C} view s rows old new frame parts new_parts row result =
    (around : Open S C) (known : List V) (from : ℕ) (left : Forest) (state : S) (rule : Rule) (taken : List ℕ) (inner rest : Forest)
    → IsInside view s old frame (drop frame.base parts) around known from left state
    → skipped left ≡ grown (branch rule taken inner) rest → IsRuleRow rows row rule taken inner (skipped_from from left) → row.after ≡ tree_count rest
    → Begins view new (take frame.base parts) new_parts result
    (next_of view.reading around known from left state >>= begun view.reading rule taken (skipped_from from left) inner)

-- A token is taken in the frame's rule, after these parts, as the reading says.
abbrev pub TakesToken : {N P K V S C : Type 0} → View N P K V S C → (s : List ℕ) → (old new : N) → Frame K → (parts new_parts : List P) → Row → Result (Unit {0}) Refusal → Type 0
TakesToken {V = V} {S = S} {C = C} view s old new frame parts new_parts row result =
    (around : Open S C) (known : List V) (from : ℕ) (left : Forest) (state : S) (t : Token) (rest : Forest)
    → IsInside view s old frame (drop frame.base parts) around known from left state
    → skipped left ≡ grown (token t) rest → IsTokenRow s row t (skipped_from from left) → row.after ≡ tree_count rest
    → Takes view new (take frame.base parts) new_parts result
    (next_of view.reading around known from left state >>= taken_in view.reading t (skipped_from from left))

-- The frame's rule closes over its parts as the reading says: one part, which denotes what the rule means, takes their
-- place.
abbrev pub ClosesRule : {N P K V S C : Type 0} → View N P K V S C → (s : List ℕ) → (old new : N) → Frame K → (parts new_parts : List P) → Result (Unit {0}) Refusal → Type 0
ClosesRule {V = V} {S = S} {C = C} view s old new frame parts new_parts result =
    (rule : Open S C) (known : List V) (from : ℕ) (left : Forest) (state : S)
    → IsInside view s old frame (drop frame.base parts) rule known from left state → row_count_all left ≡ 0
    → Puts view new (take frame.base parts) new_parts result (ended view.reading rule known from left state)

-- The nodes are the old ones and some new ones; the new ones are at most as many as the allowance shrinks by.
abbrev pub Adds : {N P K V S C : Type 0} → View N P K V S C → (old new : N) → (before after : ℕ) → Type 0
Adds view old new before after = view.Grows old new × (view.size new + after ≤ view.size old + before)

-- A call that is refused, or closes the frame's rule, adds at most as many nodes as that rule may add after these parts.
abbrev pub AddsFew : {N P K V S C : Type 0} → View N P K V S C → (old new : N) → Frame K → List P → Type 0
AddsFew view old new frame parts = view.size new ≤ view.size old + view.closes frame.rule (drop frame.base parts)

-- If the bytes up to one place have paid so far, the bytes up to the other place pay now.
abbrev pub Pays : {N P K V S C : Type 0} → View N P K V S C → (old new : N) → (at to : ℕ) → Type 0
Pays view old new at to = view.IsPaid old at → view.IsPaid new to

-- the lists to which a call of the language adds: that of the parts, and the language's own
abbrev pub lists_with : {N P K V S C : Type 0} → View N P K V S C → N → Vec P Global → List Listed
lists_with view nodes parts = one_by_one parts ∷ view.lists nodes

-- A call has as much room after it as before.
abbrev pub KeepsRoom : {N P K V S C : Type 0} → View N P K V S C → (old new : N) → (parts new_parts : Vec P Global) → Type 0
KeepsRoom view old new parts new_parts = KeepRoom (lists_with view old parts) (lists_with view new new_parts)

-- A call answers `Memory` only where a list had no room.
abbrev pub NeedsRoom : {N P K V S C A : Type 0} → View N P K V S C → (old new : N) → (parts new_parts : Vec P Global) → Result A Refusal
    → Type 0
NeedsRoom view old new parts new_parts result = OnlyForRoom ⊥ (lists_with view old parts) (lists_with view new new_parts) result

-- `Memory` is answered for a token of the frame's rule only if a list had no room, or the token's bytes take memory.
abbrev pub TokenNeedsRoom : {N P K V S C : Type 0} → View N P K V S C → (s : List ℕ) → (old new : N) → Frame K
    → (parts new_parts : Vec P Global) → Row → Result (Unit {0}) Refusal → Type 0
TokenNeedsRoom view s old new frame parts new_parts row result =
    OnlyForRoom (view.TakesMemory frame.rule (take (row.to - row.from) (drop row.from s)))
    (lists_with view old parts) (lists_with view new new_parts) result

-- The symbol has a rule whose next part with a row is a token that takes memory of its own.
pub record TokenTakesMemory {N P K V S C : Type 0} (view : View N P K V S C) (s : List ℕ) : Type 0 where
  pub rule : Open S C
  pub held : ℕ
  pub from : ℕ
  pub left : Forest
  pub t : Token
  pub rest : Forest
  pub stands : Stands view.table s (length view.reading.rowless) rule held from left
  pub left_is : skipped left ≡ grown (token t) rest
  pub apart : view.TakesMemory rule.rule.number t.own

-- the lists to which a move of the driver adds: that of the frames, and those of the language's calls
abbrev pub all_lists : {N P K V S C : Type 0} → View N P K V S C → N → Vec (Frame K) Global → Vec P Global → List Listed
all_lists view nodes frames parts = one_by_one frames ∷ lists_with view nodes parts

-- A move has as much room after it as before.
abbrev pub KeepsAllRoom : {N P K V S C : Type 0} → View N P K V S C → (old new : N) → (frames new_frames : Vec (Frame K) Global)
    → (parts new_parts : Vec P Global) → Type 0
KeepsAllRoom view old new frames new_frames parts new_parts = KeepRoom (all_lists view old frames parts) (all_lists view new new_frames new_parts)

-- A move answers `Memory` only where a list had no room, or where the symbol has a token that takes memory of its own.
abbrev pub NeedsSomeRoom : {N P K V S C A : Type 0} → View N P K V S C → (s : List ℕ) → (old new : N) → (frames new_frames : Vec (Frame K) Global)
    → (parts new_parts : Vec P Global) → Result A Refusal → Type 0
NeedsSomeRoom view s old new frames new_frames parts new_parts result =
    OnlyForRoom (TokenTakesMemory view s) (all_lists view old frames parts) (all_lists view new new_frames new_parts) result
