-- The state before each step of a writer.
use Rattle.std.specs.Prelude.{◌≡◌, ℕ, List, [], ◌∷◌, ◌++◌, length, reverse, Bool, true, false, codes}
use Rattle.rust_grammar.specs.Value.{Value, State, a_path}
use Rattle.rust_tree.specs.Symbol as tree
use Rattle.rust_direct.specs.declared.open.Forms.{Forms}
use Rattle.rust_direct.specs.declared.open.Open.{Open}
use Rattle.rust_direct.specs.declared.direct.Direct.{Direct}
use Rattle.rust_direct.specs.Holes.{Opened, Comes, with_ended, EndsSymbol, TypeGoesOn, ImplementingGoesOn}
use Rattle.rust_direct.specs.Prints.{PathPrints, TypePrints}
use Rattle.rust_direct.specs.PrintsInForm.{Says, Holds, PathHas, HaveRoom}
use Rattle.rust_direct.specs.WriterInvariant.{Stands, TraitPrints, IsAwaited, IsRead, IsListing, separator_of, HasRooms, Keeps, parked_of}

-- nothing is written yet, and no list has room for more than a symbol may need
pub record IsFresh (s : List ℕ) (w : Direct) : Type 0 where
  pub text : w.text.list.items ≡ []
  pub aside : w.aside.list.items ≡ []
  pub shown : w.is_aside ≡ false
  pub notes : w.notes.list.items ≡ []
  pub numbers : w.numbers.items ≡ []
  pub waiting : w.waiting.list.items ≡ []
  pub rooms : HasRooms s w

-- a path, or a type, is expected
pub record Awaits (brief : Bool) (s : List ℕ) (w : Direct) (for_type : Bool) : Type 0 where
  pub state : State
  pub keeps : Keeps brief s w state
  pub awaited : IsAwaited brief s w state for_type

abbrev pub AwaitsPath : (brief : Bool) (s : List ℕ) → Direct → Type 0
AwaitsPath brief s w = (for_type : Bool) × Awaits brief s w for_type

-- A path or a type is read, and the entry that waited for it is removed.
pub record Receives (brief : Bool) (s : List ℕ) (w : Direct) (entry : Open) (from : ℕ) (forms : Forms) : Type 0 where
  pub state : State
  pub keeps : Keeps brief s w state
  pub read : IsRead brief s w state (entry ∷ reverse w.waiting.list.items) from forms

-- A value that began at a place is read, and is to be noted.
pub record IsEnded (brief : Bool) (s : List ℕ) (w : Direct) (place from : ℕ) (noted forms : Forms) : Type 0 where
  pub before : State
  pub keeps : Keeps brief s w before
  pub os : List Opened
  pub v : Value
  pub front : List ℕ
  pub bytes : List ℕ
  pub written : w.text.list.items ≡ front ++ bytes
  pub from_is : from ≡ length front
  pub says : Says brief noted v bytes
  pub holds : Holds brief forms v bytes
  pub comes : Comes s os v w.at (with_ended place v before)
  pub stands : Stands brief s (reverse w.waiting.list.items) os front (parked_of w)

-- A path that began at a place is read and not noted yet. The bound on its cost has room for one more path that prints the same
-- text.
pub record IsEndedWithRoom (brief : Bool) (s : List ℕ) (w : Direct) (place from : ℕ) (forms : Forms) : Type 0 where
  pub ended : IsEnded brief s w place from forms forms
  pub p : tree.Path
  pub is : ended.v ≡ a_path p
  pub has : PathHas brief forms p ended.bytes
  pub room : HaveRoom brief forms p ended.bytes

-- The path of an impl is read; the path isn't shown. The impl's type is expected, in angle brackets.
pub record AwaitsImplType (brief : Bool) (s : List ℕ) (w : Direct) (place : ℕ) : Type 0 where
  pub state : State
  pub keeps : Keeps brief s w state
  pub outer : List Opened
  pub made : tree.Ty → tree.Path
  pub prints : (value : Bool) (t : tree.Ty) (bytes : List ℕ) → TypePrints brief t bytes → PathPrints brief value (made t) (codes "<" ++ bytes ++ codes ">")
  pub goes : TypeGoesOn s outer place (λ t. a_path (made t)) w.at state
  pub stands : Stands brief s (reverse w.waiting.list.items) outer w.text.list.items (parked_of w)

-- The path of an impl of a trait is read; the path isn't shown. The impl's type is expected, and after it the trait.
pub record AwaitsTraitType (brief : Bool) (s : List ℕ) (w : Direct) (place : ℕ) : Type 0 where
  pub state : State
  pub keeps : Keeps brief s w state
  pub outer : List Opened
  pub made : tree.Ty → tree.Path → tree.Path
  pub prints : TraitPrints brief made
  pub goes : ImplementingGoesOn s outer place (λ t r. a_path (made t r)) w.at state
  pub stands : Stands brief s (reverse w.waiting.list.items) outer w.text.list.items (parked_of w)

-- the path of a symbol is read and written
pub record IsSymbolEnded (brief : Bool) (s : List ℕ) (w : Direct) : Type 0 where
  pub state : State
  pub keeps : Keeps brief s w state
  pub p : tree.Path
  pub prints : PathPrints brief true p w.text.list.items
  pub ends : EndsSymbol s p w.at

-- an argument is expected; the separator before it, if any, is written
pub record AwaitsArgument (brief : Bool) (s : List ℕ) (w : Direct) (is_first : Bool) : Type 0 where
  pub state : State
  pub keeps : Keeps brief s w state
  pub before : List ℕ
  pub written : w.text.list.items ≡ before ++ separator_of is_first
  pub listing : IsListing brief s w before state is_first
