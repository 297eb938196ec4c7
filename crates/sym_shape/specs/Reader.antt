-- The reader's steps.
use Rattle.std.specs.Prelude.{◌≡◌, ℕ, ◌+◌, ◌*◌, ◌≤◌, List, [], length, get_or, take, drop, reverse, Option, None, Some, ◌<◌, Bool, true, false, Result, Ok, Err, ⊤}
use Rattle.sym_core.specs.declared.refusal.Refusal.{Refusal}
use Rattle.sym_core.specs.declared.refusal.Refusal.TheVariants.{Malformed, BadReference, BadValue, TooLong, Memory}
use Rattle.sym_shape.specs.declared.rule.Row.{Row}
use Rattle.sym_shape.specs.declared.rule.Rule.{Rule}
use Rattle.sym_shape.specs.declared.rule.Sym.{Sym}
use Rattle.sym_core.specs.declared.NameClass.{NameClass}
use Rattle.sym_core.specs.declared.TokenPlace.{TokenPlace}
use Rattle.sym_shape.specs.declared.parse.Parse.{Parse}
use Rattle.sym_shape.specs.declared.parse.Progress.{Progress}
use Rattle.sym_core.specs.Token.{HasToken, HasNoToken, FindsToken as Finds}
use Rattle.sym_shape.specs.Table.{Table, IsToken}
use Rattle.sym_shape.specs.Tree.{IsMalformed, BeginsWellShaped}
use Rattle.sym_shape.specs.Reading.{Entry, IsReading, IsCounted, IsKnown, IsByteAt}
use Rattle.sym_shape.specs.Frame.{unfolded}

-- the longest token of the symbol at the front of q, which begins at a place
abbrev pub ReadsToken : NameClass → Sym → List ℕ → ℕ → TokenPlace → Type 0
ReadsToken names x q at place = HasToken (IsToken names x) q at place

-- no token of the symbol is at the front of q, and this is the length of the longest front that begins one
abbrev pub BreaksToken : NameClass → Sym → List ℕ → ℕ → Type 0
BreaksToken names x q size = HasNoToken (IsToken names x) q size

-- the result of finding a token of the symbol: its place, or the place where it breaks off
abbrev pub FindsToken : NameClass → Sym → List ℕ → ℕ → Result TokenPlace ℕ → Type 0
FindsToken names x bytes at found = Finds (IsToken names x) bytes at found

-- a token of the symbol is at a place, and what follows it is known
abbrev pub IsWholeToken : NameClass → Sym → Bool → List ℕ → ℕ → TokenPlace → Type 0
IsWholeToken names x ended bytes at place = ReadsToken names x (drop at bytes) at place × IsKnown ended bytes place.end

-- the kind takes the rule at the byte that is at the place
pub record HasRule (g : Table) (k : ℕ) (bytes : List ℕ) (at : ℕ) (rule : Rule) : Type 0 where
  pub byte : ℕ
  pub stands : IsByteAt bytes at byte
  pub chosen : g.rule k byte ≡ Some rule

-- the kind takes no rule at the byte at the place, or there is no byte
abbrev pub HasNoRule : Table → ℕ → List ℕ → ℕ → Type 0
HasNoRule g k bytes at = at < length bytes → g.rule k (get_or bytes at 0) ≡ None

-- the first `at` bytes are read, and the stack is still to be done
pub record IsParse (g : Table) (ended : Bool) (bytes : List ℕ) (steps at : ℕ) (stack : List Entry) (rows : List Row) : Type 0 where
  pub within : at ≤ length bytes
  pub reading : IsReading g steps ended (take at bytes) (drop at bytes) stack rows
  pub counted : IsCounted g steps at stack (length rows)

-- what a parse still has to do
abbrev pub to_do : (ℕ → List Sym) → Parse → List Entry
to_do listed parse = unfolded listed parse.top (reverse parse.below.items)

abbrev pub IsParsing : (ℕ → List Sym) → Table → Bool → List ℕ → Parse → Type 0
IsParsing listed g ended bytes parse = IsParse g ended bytes parse.steps parse.at (to_do listed parse) parse.rows.items

-- nothing is left to do with these bytes: they begin a well shaped symbol, and once the end is given all is read
pub record IsAtRest (listed : ℕ → List Sym) (g : Table) (ended : Bool) (bytes : List ℕ) (old new : Parse) : Type 0 where
  pub same : new ≡ old
  pub begins : BeginsWellShaped g bytes
  pub read : ended ≡ true → (to_do listed old ≡ []) × (old.at ≡ length bytes)

-- a step makes at most one row
abbrev pub MakesRow : Parse → Parse → Type 0
MakesRow old new = length new.rows.items ≤ length old.rows.items + 1

-- the result of a step: a move, which is counted; no move, since the reader waits for bytes or all is read; or a
-- refusal
abbrev pub IsStep : (ℕ → List Sym) → Table → Bool → List ℕ → Parse → Parse → Result Bool Refusal → Type 0
IsStep listed g ended bytes old new (Ok false) = IsParse g ended bytes (old.steps + 1) new.at (to_do listed new) new.rows.items × (new.steps ≡ old.steps) × MakesRow old new
IsStep listed g ended bytes old new (Ok true) = IsAtRest listed g ended bytes old new
IsStep listed g ended bytes old new (Err (Malformed at)) = IsMalformed g bytes at × IsKnown ended bytes at × (new.steps ≡ old.steps) × MakesRow old new
IsStep listed g ended bytes old new (Err Memory) = (new.steps ≡ old.steps) × MakesRow old new
IsStep listed g ended bytes old new (Err (BadReference at)) = ⊥
IsStep listed g ended bytes old new (Err (BadValue at)) = ⊥
IsStep listed g ended bytes old new (Err TooLong) = ⊥

-- likewise with the step counted
abbrev pub IsAdvance : (ℕ → List Sym) → Table → Bool → List ℕ → Parse → Parse → Result Bool Refusal → Type 0
IsAdvance listed g ended bytes old new (Ok false) = IsParsing listed g ended bytes new × (new.steps ≡ old.steps + 1) × MakesRow old new
IsAdvance listed g ended bytes old new (Ok true) = IsAtRest listed g ended bytes old new
IsAdvance listed g ended bytes old new (Err (Malformed at)) = IsMalformed g bytes at × IsKnown ended bytes at × (new.steps ≡ old.steps + 1) × MakesRow old new
IsAdvance listed g ended bytes old new (Err Memory) = (new.steps ≡ old.steps + 1) × MakesRow old new
IsAdvance listed g ended bytes old new (Err (BadReference at)) = ⊥
IsAdvance listed g ended bytes old new (Err (BadValue at)) = ⊥
IsAdvance listed g ended bytes old new (Err TooLong) = ⊥

-- the bytes aren't well shaped, and the place is that of the first bad byte; or memory ran out
abbrev pub IsMalformedOrMemory : Table → List ℕ → Refusal → Type 0
IsMalformedOrMemory g bytes (Malformed at) = IsMalformed g bytes at
IsMalformedOrMemory g bytes Memory = ⊤
IsMalformedOrMemory g bytes (BadReference at) = ⊥
IsMalformedOrMemory g bytes (BadValue at) = ⊥
IsMalformedOrMemory g bytes TooLong = ⊥

-- each step makes at most one row
abbrev pub MakeRows : Parse → Parse → Type 0
MakeRows old new = (old.steps ≤ new.steps) × (length new.rows.items + old.steps ≤ length old.rows.items + new.steps)

-- steps and rows are few for n bytes
pub record AreFew (steps rows bytes : ℕ) : Type 0 where
  pub steps_few : steps ≤ 18 * bytes + 14
  pub rows_few : rows ≤ 4 * bytes + 4
  pub each : rows ≤ steps

-- what holds after steps that end in a refusal
pub record AreSpent (bytes : List ℕ) (old new : Parse) : Type 0 where
  pub made : MakeRows old new
  pub few : AreFew new.steps (length new.rows.items) (length bytes)

-- at least one move, no move, or no memory for a move; the moves' count and place are kept apart from the parse
abbrev pub HasAdvanced : (ℕ → List Sym) → Table → Bool → List ℕ → Progress → Parse → Parse → Result (Option Progress) Refusal → Type 0
HasAdvanced listed g ended bytes progress old new (Ok (Some further)) = IsParse g ended bytes further.steps further.at (to_do listed new) new.rows.items × (progress.steps < further.steps) × (length new.rows.items + progress.steps ≤ length old.rows.items + further.steps)
HasAdvanced listed g ended bytes progress old new (Ok None) = new ≡ old
HasAdvanced listed g ended bytes progress old new (Err Memory) = MakesRow old new
HasAdvanced listed g ended bytes progress old new (Err (Malformed at)) = ⊥
HasAdvanced listed g ended bytes progress old new (Err (BadReference at)) = ⊥
HasAdvanced listed g ended bytes progress old new (Err (BadValue at)) = ⊥
HasAdvanced listed g ended bytes progress old new (Err TooLong) = ⊥

-- some moves, or no memory for a move
abbrev pub IsBatch : (ℕ → List Sym) → Table → Bool → List ℕ → Parse → Parse → Result (Unit {0}) Refusal → Type 0
IsBatch listed g ended bytes old new (Ok done) = IsParsing listed g ended bytes new × MakeRows old new
IsBatch listed g ended bytes old new (Err Memory) = AreSpent bytes old new
IsBatch listed g ended bytes old new (Err (Malformed at)) = ⊥
IsBatch listed g ended bytes old new (Err (BadReference at)) = ⊥
IsBatch listed g ended bytes old new (Err (BadValue at)) = ⊥
IsBatch listed g ended bytes old new (Err TooLong) = ⊥

-- steps until nothing is left to do with these bytes
pub record IsRead (listed : ℕ → List Sym) (g : Table) (ended : Bool) (bytes : List ℕ) (old new : Parse) : Type 0 where
  pub parsing : IsParsing listed g ended bytes new
  pub made : MakeRows old new
  pub begins : BeginsWellShaped g bytes
  pub read : ended ≡ true → (to_do listed new ≡ []) × (new.at ≡ length bytes)

-- steps until nothing is left to do, or until one refuses
abbrev pub IsRun : (ℕ → List Sym) → Table → Bool → List ℕ → Parse → Parse → Result (Unit {0}) Refusal → Type 0
IsRun listed g ended bytes old new (Ok done) = IsRead listed g ended bytes old new
IsRun listed g ended bytes old new (Err (Malformed at)) = IsMalformed g bytes at × IsKnown ended bytes at × AreSpent bytes old new
IsRun listed g ended bytes old new (Err Memory) = AreSpent bytes old new
IsRun listed g ended bytes old new (Err (BadReference at)) = ⊥
IsRun listed g ended bytes old new (Err (BadValue at)) = ⊥
IsRun listed g ended bytes old new (Err TooLong) = ⊥
