-- A symbol that is being linked.
use Rattle.std.specs.Prelude.{◌≡◌, ℕ, ◌+◌, ◌*◌, ◌≤◌, List, length, Bool, true, false, Option, None}
use Rattle.sym_core.specs.Number.{FitsSymbol}
use Rattle.sym_core.specs.declared.refusal.Refusal.{Refusal}
use Rattle.sym_shape.specs.declared.rule.Row.{Row}
use Rattle.sym_shape.specs.Reader.{AreFew}
use Rattle.sym_shape.specs.declared.rule.Sym.TheVariants.{Kind}
use Rattle.sym_shape.specs.Table.{Table}
use Rattle.sym_shape.specs.Tree.{Tree, IsTree, spell, read_steps}
use Rattle.sym_link.specs.declared.language.Frame.{Frame}
use Rattle.sym_link.specs.Room.{Listed}
use Rattle.sym_link.specs.Linking.{View}
use Rattle.sym_link.specs.Stepping.{link_steps}
use Rattle.sym_link.specs.Following.{Fits, IsShape, IsDone, IsDriving, meaning_of}

-- How far a symbol is linked: its bytes, the rows of its shape, the steps of the reader, the linker's own steps, and the
-- nodes. The other fields are whether the linker has answered that all is done, its refusal if there was one, and its lists:
-- of open rules, of parts, and those of the table.
pub record Progress : Type 0 where
  pub bytes : List ℕ
  pub rows : ℕ
  pub read_steps : ℕ
  pub steps : ℕ
  pub nodes : ℕ
  pub done : Bool
  pub refused : Option Refusal
  pub lists : List Listed

-- nothing is linked yet, and there are n nodes
abbrev pub unlinked : (bytes : List ℕ) → (rows read_steps nodes : ℕ) → List Listed → Progress
unlinked bytes rows read_steps nodes lists =
    record { bytes = bytes; rows = rows; read_steps = read_steps; steps = 0; nodes = nodes; done = false; refused = None; lists = lists }

-- Each step that was taken from one moment to the other has added at most two nodes.
abbrev pub AddsTwoEach : (old new : Progress) → Type 0
AddsTwoEach old new = new.nodes + 2 * old.steps ≤ old.nodes + 2 * new.steps

-- The steps of the reader and the linker together, and the rows, are few for the number of bytes.
pub record AreFewInAll (progress : Progress) : Type 0 where
  pub steps : progress.read_steps + progress.steps ≤ 32 * length progress.bytes + 48
  pub rows : progress.rows ≤ 4 * length progress.bytes + 4

-- the steps that a linker takes for the one tree that spells the symbol
abbrev pub AreLinkSteps : Table → List ℕ → ℕ → Type 0
AreLinkSteps g s steps = (tree : Tree) → IsTree g (Kind 0) tree → spell tree ≡ s → steps ≡ link_steps tree

-- the steps that reading the symbol takes: those of the reader and those of the linker
abbrev pub AreStepsInAll : Table → List ℕ → ℕ → Type 0
AreStepsInAll g s steps = (tree : Tree) → IsTree g (Kind 0) tree → spell tree ≡ s → steps ≡ read_steps tree + link_steps tree

-- The one tree that spells the symbol has this count of nodes; `Are` says which counts of nodes a tree has.
abbrev pub AreNodesOf : Table → (Are : Tree → ℕ → Type 0) → List ℕ → ℕ → Type 0
AreNodesOf g Are s nodes = (tree : Tree) → IsTree g (Kind 0) tree → spell tree ≡ s → Are tree nodes

-- The language's count of nodes is at most the table's size plus the number of first nodes, which is at most eight. Once
-- the table is paid for, the count is no less than this sum.
pub record CountsNodes {N P K V S C : Type 0} (view : View N P K V S C) (count : N → ℕ) (first : ℕ) : Type 0 where
  pub few : first ≤ 8
  pub most : (nodes : N) → count nodes ≤ view.size nodes + first
  pub least : (nodes : N) (bytes : ℕ) → view.IsPaid nodes bytes → view.size nodes + first ≤ count nodes

-- the table of nodes with which linking a symbol begins
pub record Begins {N P K V S C : Type 0} (view : View N P K V S C) (nodes : N) : Type 0 where
  pub size : view.size nodes ≡ 0
  pub holds : view.Holds nodes view.first
  pub paid : view.IsPaid nodes 0

-- A linker of the rows of a symbol's one tree is on its way, or at its end. The tree is one of the mangling's table, and so
-- also of the table that the nodes are made for, which may have more trees.
pub record IsLinker {N P K V S C : Type 0} (g : Table) (view : View N P K V S C) (s : List ℕ) (rows : List Row) (read : ℕ) (nodes : N) (steps : ℕ)
    (refused : Option Refusal) (next : ℕ) (frames : List (Frame K)) (parts : List P) (done : Bool) : Type 0 where
  pub shape : Tree
  pub is_tree : IsTree g (Kind 0) shape
  pub is_shape : IsShape view.table s rows shape
  pub fits : Fits s rows
  pub few : AreFew read (length rows) (length s)
  pub driving : IsDriving view s rows shape nodes steps refused next frames parts
  pub ended : done ≡ true → IsDone view s rows (meaning_of view shape) nodes parts
  pub all_steps : done ≡ true → steps ≡ link_steps shape

-- A symbol is linked: its nodes and its one part denote what its shape means, and rows and steps are few.
pub record IsLinked {N P K V S C : Type 0} (g : Table) (view : View N P K V S C) (s : List ℕ) (nodes : N) (parts : List P) (count steps : ℕ) (shape : Tree) : Type 0 where
  pub rows : List Row
  pub is_tree : IsTree g (Kind 0) shape
  pub is_shape : IsShape view.table s rows shape
  pub fits : FitsSymbol s
  pub done : IsDone view s rows (meaning_of view shape) nodes parts
  pub counted : count ≡ length rows
  pub rows_few : count ≤ 4 * length s + 4
  pub each : count ≤ steps
  pub steps_few : steps ≤ 32 * length s + 48
