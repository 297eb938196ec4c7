-- A symbol of any language that is read from left to right: what the open rules still need, and that the whole is read
-- once they have it. Nothing is known of the bytes that follow.
use Rattle.std.specs.Prelude.{◌≡◌, ℕ, ◌+◌, List, ◌∷◌, [], ◌++◌, length, take, drop, Ok}
use Rattle.sym_shape.specs.declared.rule.Sym.{Sym}
use Rattle.sym_shape.specs.declared.rule.Sym.TheVariants.{Kind}
use Rattle.sym_shape.specs.Table.{Table}
use Rattle.sym_shape.specs.Tree.{Tree as Shape, Forest, IsTree, AreTrees, spell, spell_all}
use Rattle.sym_link.specs.Reading.{Open, Reading}
use Rattle.sym_link.specs.Unfold.{found, unfold_tree, unfold_forest}

-- A language: its table, what it says of the rules of a symbol, and the context and the state in which a symbol begins.
pub record Language (V S C : Type 0) : Type 0 where
  pub table : Table
  pub reading : (s : List ℕ) → Reading V S C
  pub first_context : C
  pub first_state : S

-- an open rule, the values of its parts so far, and the symbols that are still to be read
pub record Opened (V S C : Type 0) : Type 0 where
  pub rule : Open S C
  pub known : List V
  pub todo : List Sym

abbrev pub opened : {V S C : Type 0} → Open S C → (known : List V) → (todo : List Sym) → Opened V S C
opened rule known todo = record { rule = rule; known = known; todo = todo }

-- A shape that spells these bytes at a place of the symbol has these values, with this state after it.
pub record Reads {V S C : Type 0} (l : Language V S C) (s : List ℕ) (x : Sym) (context : C) (at : ℕ) (bytes : List ℕ) (before : S)
    (vs : List V) (after : S) : Type 0 where
  pub shape : Shape
  pub shaped : IsTree l.table x shape
  pub spelled : spell shape ≡ bytes
  pub unfolds : unfold_tree (l.reading s) context at shape before ≡ Ok (found vs after)

-- the remaining parts of a rule spell these bytes and have these values
pub record ReadsRest {V S C : Type 0} (l : Language V S C) (s : List ℕ) (rule : Open S C) (known : List V) (todo : List Sym) (at : ℕ)
    (bytes : List ℕ) (before : S) (vs : List V) (after : S) : Type 0 where
  pub forest : Forest
  pub shaped : AreTrees l.table todo forest
  pub spelled : spell_all forest ≡ bytes
  pub unfolds : unfold_forest (l.reading s) rule known at forest before ≡ Ok (found vs after)

-- the bytes are in the symbol at the place
abbrev pub StandsAt : (s : List ℕ) → (at : ℕ) → (bytes : List ℕ) → Type 0
StandsAt s at bytes = (rest : List ℕ) × (drop at s ≡ bytes ++ rest)

-- The innermost open rule has these next values, in this state. Whatever its remaining parts are read as, the whole
-- symbol is read.
abbrev pub Comes : {V S C : Type 0} → Language V S C → (s : List ℕ) → List (Opened V S C) → List V → (at : ℕ) → S → Type 0
Comes l s [] vs at state = Reads l s (Kind 0) l.first_context 0 (take at s) l.first_state vs state
Comes {V = V} {S = S} l s (o ∷ os) v at state =
    (bytes : List ℕ) (vs : List V) (inner : S) (w : V) (after : S)
    → ReadsRest l s o.rule (o.known ++ v) o.todo at bytes state vs inner → StandsAt s at bytes
    → (l.reading s).close o.rule vs inner ≡ Ok (found w after)
    → Comes l s os (w ∷ []) (at + length bytes) after

-- likewise for a rule with these values read and these symbols remaining
abbrev pub Needs : {V S C : Type 0} → Language V S C → (s : List ℕ) → List (Opened V S C) → Open S C → (known : List V) → (todo : List Sym)
    → (at : ℕ) → S → Type 0
Needs {V = V} {S = S} l s os rule known todo at state =
    (bytes : List ℕ) (vs : List V) (inner : S) (w : V) (after : S)
    → ReadsRest l s rule known todo at bytes state vs inner → StandsAt s at bytes
    → (l.reading s).close rule vs inner ≡ Ok (found w after)
    → Comes l s os (w ∷ []) (at + length bytes) after

-- likewise where a symbol is expected next
abbrev pub Expects : {V S C : Type 0} → Language V S C → (s : List ℕ) → Sym → C → List (Opened V S C) → (at : ℕ) → S → Type 0
Expects {V = V} {S = S} l s x context os at state =
    (bytes : List ℕ) (vs : List V) (after : S)
    → Reads l s x context at bytes state vs after → StandsAt s at bytes → Comes l s os vs (at + length bytes) after
