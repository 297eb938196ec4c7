-- What holds between two steps of the reader.
use Rattle.sym_shape.specs.declared.rule.TheConstants.{TOKEN}
use Rattle.std.specs.Prelude.{◌≡◌, ℕ, zero, suc, ◌+◌, ◌*◌, ◌<◌, ◌≤◌, List, [], ◌∷◌, ◌++◌, length, get_or, ◌⊎◌, None, if◌then◌else◌, Bool, true, false, ◌||◌, ◌&&◌, ⊤}
use Rattle.sym_shape.specs.declared.rule.Rule.{Rule}
use Rattle.sym_shape.specs.declared.rule.Row.{Row}
use Rattle.sym_shape.specs.declared.rule.Sym.{Sym}
use Rattle.sym_shape.specs.declared.rule.Sym.TheVariants.{Kind}
use Rattle.sym_core.specs.declared.TokenPlace.{TokenPlace}
use Rattle.sym_shape.specs.Table.{Table, symbols_of}
use Rattle.sym_shape.specs.Tree.{Tree, Forest, nothing, grown, spell, spell_all, IsTree, AreTrees, rows_of, read_steps, IsWellShaped}
use Rattle.sym_shape.specs.Law.{begins, can_be_empty, may_follow, AreSymbols, rank_of}

-- what is still to be done: read a symbol, or end the row of a rule whose symbols are all read
pub data Entry : Type 0 where
  Symbol : Sym → Entry
  Close : ℕ → Entry

-- the symbols still to be read, the next one first
abbrev pub symbols_in : List Entry → List Sym
symbols_in [] = []
symbols_in (Symbol x ∷ es) = x ∷ symbols_in es
symbols_in (Close i ∷ es) = symbols_in es

-- a list of symbols as entries
abbrev pub entries_of : List Sym → List Entry
entries_of [] = []
entries_of (x ∷ xs) = Symbol x ∷ entries_of xs

-- the rows with row i ended: its bytes end at `at`, and its subtree before row `end`
abbrev pub closed : List Row → ℕ → ℕ → ℕ → List Row
closed [] i at end = []
closed (row ∷ rows) zero at end = record row { to = at; end = end } ∷ rows
closed (row ∷ rows) (suc i) at end = row ∷ closed rows i at end

-- the row of a rule, before it is ended
abbrev pub open_row : Rule → (after at to end : ℕ) → Row
open_row rule after at to end = record { rule = rule.number; after = after; from = at; to = to; end = end }

-- the place after the byte that a rule takes, or the same place if it takes none
abbrev pub place_behind : Rule → ℕ → ℕ
place_behind rule at = if rule.eats then at + 1 else at

-- what is to be done once a rule is taken
abbrev pub rule_stack : List Entry → ℕ → Rule → List Entry
rule_stack stack number rule = entries_of (symbols_of rule) ++ Close number ∷ stack

-- the row of a token, by its place
abbrev pub place_row : (after : ℕ) → TokenPlace → (number : ℕ) → Row
place_row after place number = record { rule = TOKEN; after = after; from = place.from; to = place.to; end = number + 1 }

-- the row of a rule at a place whose only symbol is a token, and the row of that token
abbrev pub lone_rows : Rule → (after at : ℕ) → TokenPlace → (number : ℕ) → List Row
lone_rows rule after at place number = open_row rule after at place.end (number + 2) ∷ place_row 0 place (number + 1) ∷ []

-- how many symbols of the innermost rule are still to be read
abbrev pub symbols_left : List Entry → ℕ
symbols_left [] = 0
symbols_left (Close i ∷ es) = 0
symbols_left (Symbol x ∷ es) = 1 + symbols_left es

-- the rows once these trees are read as the symbols on the stack
abbrev pub finished : List Entry → Forest → ℕ → List Row → List Row
finished [] f at rows = rows
finished (Close i ∷ es) f at rows = finished es f at (closed rows i at (length rows))
finished (Symbol x ∷ es) nothing at rows = rows
finished (Symbol x ∷ es) (grown t f) at rows = finished es f (at + length (spell t)) (rows ++ rows_of t (symbols_left es) at (length rows))

-- the steps still to take to read these trees as the symbols on the stack
abbrev pub steps_left : List Entry → Forest → ℕ
steps_left [] f = 0
steps_left (Close i ∷ es) f = 1 + steps_left es f
steps_left (Symbol x ∷ es) nothing = 0
steps_left (Symbol x ∷ es) (grown t f) = read_steps t + steps_left es f

-- how many rules are being read
abbrev pub rules_in : List Entry → ℕ
rules_in [] = 0
rules_in (Symbol x ∷ es) = rules_in es
rules_in (Close i ∷ es) = 1 + rules_in es

-- each row that is to be ended exists
abbrev pub AreOpen : List Entry → ℕ → Type 0
AreOpen [] n = ⊤
AreOpen (Symbol x ∷ es) n = AreOpen es n
AreOpen (Close i ∷ es) n = (i < n) × AreOpen es n

-- these symbols may begin with the byte
abbrev pub first_of : Table → List Sym → ℕ → Bool
first_of g [] b = false
first_of g (x ∷ xs) b = begins g x b || (can_be_empty g x && first_of g xs b)

-- each symbol may be followed by the first bytes of the symbols after it
abbrev pub IsFollowed : Table → List Sym → Type 0
IsFollowed g [] = ⊤
IsFollowed g (x ∷ xs) = ((b : ℕ) → b < 256 → first_of g xs b ≡ true → may_follow g x b ≡ true) × IsFollowed g xs

-- w begins with the next byte, if that is known
abbrev pub Agrees : Bool → List ℕ → List ℕ → Type 0
Agrees ended [] w = ended ≡ true → w ≡ []
Agrees ended (b ∷ q) w = (rest : List ℕ) × (w ≡ b ∷ rest)

-- a tree of the start kind spells p and then what the forest spells, and these are its rows and its steps
abbrev pub IsCompleted : Table → List ℕ → List ℕ → List Row → ℕ → Type 0
IsCompleted g p w rows steps = (tree : Tree) × IsTree g (Kind 0) tree × (spell tree ≡ p ++ w) × (rows ≡ rows_of tree 0 0 0) × (steps ≡ read_steps tree)

-- these symbols spell the bytes
abbrev pub Spell : Table → List Sym → List ℕ → Type 0
Spell g xs w = (f : Forest) × AreTrees g xs f × (spell_all f ≡ w)

-- the byte is at the place
pub record IsByteAt (bytes : List ℕ) (at byte : ℕ) : Type 0 where
  pub within : at < length bytes
  pub is : get_or bytes at 0 ≡ byte
  pub fits : byte < 256

-- the byte at the place is known, or the end of the bytes is
abbrev pub IsKnown : Bool → List ℕ → ℕ → Type 0
IsKnown ended bytes at = (at < length bytes) ⊎ (ended ≡ true)

-- no rule of the kind may be taken here
abbrev pub TakesNone : Table → ℕ → Bool → List ℕ → Type 0
TakesNone g k ended [] = ended ≡ true
TakesNone g k ended (b ∷ q) = g.rule k b ≡ None

-- p is read in n steps, and q is what is known after p (all of it, if the end is given). The stack and the rows fit: whatever
-- the symbols on the stack spell completes p, with these rows and steps, and each well shaped symbol that begins with p and
-- the next byte is completed in this way.
pub record IsReading (g : Table) (steps : ℕ) (ended : Bool) (p q : List ℕ) (es : List Entry) (rows : List Row) : Type 0 where
  pub known : AreSymbols g (symbols_in es)
  pub followed : IsFollowed g (symbols_in es)
  pub opened : AreOpen es (length rows)
  pub sound : (f : Forest) → AreTrees g (symbols_in es) f → IsCompleted g p (spell_all f) (finished es f (length p) rows) (steps + steps_left es f)
  pub complete : (w : List ℕ) → Agrees ended q w → IsWellShaped g (p ++ w) → Spell g (symbols_in es) w

-- this many chains rest on one another at the top of the stack
abbrev pub StandsOn : Table → ℕ → List Entry → Type 0
StandsOn g zero es = ⊤
StandsOn g (suc n) [] = ⊥
StandsOn g (suc n) (Close i ∷ es) = ⊥
StandsOn g (suc n) (Symbol x ∷ es) = (can_be_empty g x ≡ false) × (rank_of g x + suc n ≤ 3)

-- bounds, by the bytes read, on the steps taken, the entries left and the rows; each rule that is being read has made a
-- row
pub record IsCounted (g : Table) (steps at : ℕ) (es : List Entry) (rows : ℕ) : Type 0 where
  pub chains : ℕ
  pub few : chains ≤ 3
  pub stands : StandsOn g chains es
  pub spent : steps + length es ≤ 1 + 18 * at + 4 * chains
  pub made : rows ≤ 4 * at + chains
  pub each : rows ≤ steps
  pub nested : rules_in es ≤ rows
