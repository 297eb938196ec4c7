-- What pressing keeps: after any spelled beginning, a shape of the grammar spells the pressed bytes and is read as what was
-- pressed.
use Rattle.std.specs.Prelude.{◌≡◌, ℕ, ◌+◌, ◌<◌, ◌≤◌, List, [], ◌∷◌, ◌++◌, length, Bool, Option, Some, None, Ok}
use Rattle.sym_shape.specs.declared.rule.Rule.{Rule}
use Rattle.sym_shape.specs.declared.rule.Sym.{Sym}
use Rattle.sym_shape.specs.Tree.{Tree as Shape, Forest, spell, spell_all, IsTree, AreTrees}
use Rattle.sym_link.specs.Unfold.{unfold_tree, unfold_forest, found, standing}
use Rattle.rust_grammar.specs.declared.production.Production.{Production}
use Rattle.rust_grammar.specs.Rules.{v0_table}
use Rattle.rust_grammar.specs.Value as value
use Rattle.rust_grammar.specs.Value.{Value, State, Ended}
use Rattle.rust_grammar.specs.Unfold.{v0, ended_at, unfolded, greatest_u64}
use Rattle.rust_tree.specs.Tree.{Tree, of_path, of_type, of_constant}
use Rattle.rust_tree.specs.Symbol as tree
use Rattle.rust_tree.specs.Need.{need}
use Rattle.sym_shape.specs.declared.rule.Sym.TheVariants.{Kind}
use Rattle.rust_press.specs.Spellable.{IsSpellable, IsSpellableSuffix}
use Rattle.rust_press.specs.Pressing.{Component, Pressed, Pressing, pressed}

-- the value that a component is read as
abbrev pub as_value : Tree → Value
as_value (of_path path) = value.a_path path
as_value (of_type type) = value.a_type type
as_value (of_constant constant) = value.a_constant constant
as_value _ = value.unsafe_mark

-- each component has ended, and began before the place
abbrev pub AreListed : List Ended → (place : ℕ) → List Component → Type 0
AreListed ended place [] = Unit {0}
AreListed ended place (c ∷ cs) = (ended_at ended c.place ≡ Some (as_value c.own)) × (2 ≤ c.place) × (c.place < place) × AreListed ended place cs

-- What has ended agrees with the components so far: each component has ended, and nothing that begins at the place or after it
-- has ended.
pub record Agrees (components : List Component) (ended : List Ended) (place : ℕ) : Type 0 where
  pub listed : AreListed ended place components
  pub behind : (q : ℕ) → place ≤ q → ended_at ended q ≡ None

abbrev pub state_of : List Ended → (inside : Option Production) → (minus : Bool) → State
state_of ended inside minus = record { ended = ended; inside = inside; minus = minus }

-- What was pressed at a place is the spelling of a shape for a symbol of the grammar. The shape is read there as values
-- for which Q holds.
pub record Reads (s : List ℕ) (bound : ℕ) (inside : Option Production) (minus : Bool) (symbol : Sym) (Q : List Value → Type 0) (place : ℕ) (ended : List Ended) (pressed : Pressed) : Type 0 where
  pub shape : Shape
  pub spelled : spell shape ≡ pressed.bytes
  pub shaped : IsTree v0_table symbol shape
  pub values : List Value
  pub good : Q values
  pub state : State
  pub unfolds : unfold_tree (v0 s) bound place shape (state_of ended inside minus) ≡ Ok (found values state)
  pub agrees : Agrees pressed.components state.ended (place + length pressed.bytes)
  pub keeps : (p : ℕ) → p < place → ended_at state.ended p ≡ ended_at ended p

-- what is pressed after any spelled beginning is read as `Reads` says
abbrev pub Presses : (s : List ℕ) → (bound : ℕ) → (inside : Option Production) → (minus : Bool) → Sym → Pressing → (List Value → Type 0) → Type 0
Presses s bound inside minus symbol pressing Q =
    (front back : List ℕ) (place : ℕ) (components : List Component) (ended : List Ended)
    → place ≡ length front
    → 2 ≤ place
    → Agrees components ended place
    → s ≡ front ++ ((pressing place components).bytes ++ back)
    → Reads s bound inside minus symbol Q place ended (pressing place components)

-- the parts of a rule that follow the known ones are read in the same way
pub record ReadsRow (s : List ℕ) (rule : Rule) (taken : List ℕ) (bound at : ℕ) (before : State) (symbols : List Sym) (known : List Value) (Q : List Value → Type 0) (place : ℕ) (start : State) (pressed : Pressed) : Type 0 where
  pub forest : Forest
  pub spelled : spell_all forest ≡ pressed.bytes
  pub shaped : AreTrees v0_table symbols forest
  pub values : List Value
  pub good : Q values
  pub state : State
  pub unfolds : unfold_forest (v0 s) (standing rule taken at bound before) known place forest start ≡ Ok (found values state)
  pub agrees : Agrees pressed.components state.ended (place + length pressed.bytes)
  pub keeps : (p : ℕ) → p < place → ended_at state.ended p ≡ ended_at start.ended p

abbrev pub PressesRow : (s : List ℕ) → Rule → (taken : List ℕ) → (bound : ℕ) → List Sym → (known : List Value) → Pressing → (List Value → Type 0) → Type 0
PressesRow s rule taken bound symbols known row Q =
    (at : ℕ) (before : State) (front back : List ℕ) (place : ℕ) (components : List Component) (start : State)
    → place ≡ length front
    → 2 ≤ place
    → Agrees components start.ended place
    → s ≡ front ++ ((row place components).bytes ++ back)
    → ReadsRow s rule taken bound at before symbols known Q place start (row place components)

-- ## Symbols

abbrev pub IsClosedOther : Option tree.Path → Type 0
IsClosedOther None = Unit {0}
IsClosedOther (Some path) = IsSpellable path × (need path ≤ 0)

-- what holds of each symbol that is read: it can be spelled, and each lifetime in it is bound
pub record IsSpellableSymbol (symbol : tree.Symbol) : Type 0 where
  pub path : IsSpellable symbol.path × (need symbol.path ≤ 0)
  pub other : IsClosedOther symbol.instantiating
  pub suffix : IsSpellableSuffix symbol.suffix

-- the bytes spell a shape of the grammar that is read as the symbol
pub record IsReadAs (s : List ℕ) (symbol : tree.Symbol) : Type 0 where
  pub shape : Shape
  pub shaped : IsTree v0_table (Kind 0) shape
  pub spelled : spell shape ≡ s
  pub unfolds : unfolded shape ≡ Ok symbol

-- the shape is read as the symbol
abbrev pub IsReadFrom : Shape → tree.Symbol → Type 0
IsReadFrom shape symbol = IsTree v0_table (Kind 0) shape × (unfolded shape ≡ Ok symbol)

-- If some symbol is read as a tree, the pressed spelling of the tree is well shaped, and every shape of the grammar
-- that spells it is read as the same tree. There may be at most 2^64 - 1 pressed bytes, as in any list.
abbrev pub PressedIsRead : Type 0
PressedIsRead =
    (shape : Shape) (symbol : tree.Symbol) → IsReadFrom shape symbol → length (pressed symbol) ≤ greatest_u64
    → IsReadAs (pressed symbol) symbol
    × ((other : Shape) → IsTree v0_table (Kind 0) other → spell other ≡ pressed symbol → unfolded other ≡ Ok symbol)

-- pressed bytes are read as a symbol that is pressed to the same bytes
abbrev pub PressedOnce : Type 0
PressedOnce =
    (shape : Shape) (symbol : tree.Symbol) → IsReadFrom shape symbol → length (pressed symbol) ≤ greatest_u64
    → (other : Shape) (again : tree.Symbol) → IsReadFrom other again → spell other ≡ pressed symbol → pressed again ≡ pressed symbol
