-- What a writer's lists say while a symbol is read: the open entries wait for what comes next, and the written bytes are the text
-- of what was read.
use Rattle.std.specs.Prelude.{◌≡◌, ℕ, ◌+◌, ◌*◌, ◌≤◌, List, [], ◌∷◌, ◌++◌, length, reverse, Bool, true, false, Ok, codes, cond}
use Rattle.sym_print.specs.Unshared.{text_of, cost_of}
use Rattle.sym_demangle.specs.Mangled.{StandsFor}
use Rattle.rust_tree.specs.Symbol as tree
use Rattle.rust_tree.specs.Need.{need}
use Rattle.rust_tree.specs.Shown.{symbol_parts, closing_tuple}
use Rattle.rust_grammar.specs.Mangled.{v0_mangled}
use Rattle.rust_grammar.specs.Value.{Value, State, a_path}
use Rattle.rust_direct.specs.declared.open.Forms.{Forms}
use Rattle.rust_direct.specs.declared.open.Forms.TheVariants as forms
use Rattle.rust_direct.specs.declared.open.Closing.{Closing}
use Rattle.rust_direct.specs.declared.open.Closing.TheVariants as closings
use Rattle.rust_direct.specs.declared.open.Open.{Open}
use Rattle.rust_direct.specs.declared.open.Open.TheVariants as opens
use Rattle.rust_direct.specs.declared.open.Step.{Step}
use Rattle.rust_direct.specs.declared.open.Step.TheVariants as steps
use Rattle.rust_direct.specs.declared.direct.Direct.{Direct}
use Rattle.rust_direct.specs.Holes.{Opened, Comes, Expects, Wanted, kind_of, is_for_type, IsType, TypePasses, PathPasses, OtherGoesOn, EndsSymbol, NameGoesOn, TypeGoesOn, PathGoesOn, ArgumentsGoOn, TypesGoOn, ImplementingGoesOn}
use Rattle.rust_direct.specs.Constants.{SizeGoesOn}
use Rattle.rust_direct.specs.Bounds.{BoundsBegin, BoundsGoOn}
use Rattle.rust_direct.specs.Prints.{detail_by, IsWrittenAs, PathPrints, TypePrints, opening, ArgumentsBegin, TypesBegin}
use Rattle.rust_direct.specs.PrintsInForm.{Holds}
use Rattle.rust_direct.specs.Notes.{AreNotes}

-- the symbol's text was written as these bytes
pub record IsWhole (brief : Bool) (s : List ℕ) (text : List ℕ) : Type 0 where
  pub whole : tree.Symbol
  pub stands : StandsFor v0_mangled s (Ok whole)
  pub text_is : IsWrittenAs brief (text_of (symbol_parts (detail_by brief) whole)) text
  pub cost : cost_of (symbol_parts (detail_by brief) whole) ≤ 4 * length text

-- The symbol has this text, which costs at most four for each of n bytes.
pub record IsShown (brief : Bool) (s : List ℕ) (size : ℕ) (text : List ℕ) : Type 0 where
  pub whole : tree.Symbol
  pub stands : StandsFor v0_mangled s (Ok whole)
  pub text_is : text_of (symbol_parts (detail_by brief) whole) ≡ text
  pub cost : cost_of (symbol_parts (detail_by brief) whole) ≤ 4 * size

-- ## What is made of types and paths

-- an impl prints its type in angle brackets
abbrev pub ImplPrints : (brief : Bool) → (tree.Path → tree.Ty → tree.Path) → Type 0
ImplPrints brief made =
    (value : Bool) (q : tree.Path) (t : tree.Ty) (bytes : List ℕ) → need q ≡ 0 → TypePrints brief t bytes
    → PathPrints brief value (made q t) (codes "<" ++ bytes ++ codes ">")

-- an implemented trait prints the type that implements it, and itself
abbrev pub TraitPrints : (brief : Bool) → (tree.Ty → tree.Path → tree.Path) → Type 0
TraitPrints brief made =
    (value : Bool) (t : tree.Ty) (r : tree.Path) (bytes own : List ℕ) → TypePrints brief t bytes → PathPrints brief false r own
    → PathPrints brief value (made t r) ((codes "<" ++ bytes ++ codes " as ") ++ own ++ codes ">")

-- the text after the type, and what is made of the type then
abbrev pub closing_text : Closing → List ℕ
closing_text closings.Nothing = []
closing_text closings.Bracket = codes "]"
closing_text closings.Angle = codes ">"

abbrev pub closing_forms : Closing → Forms
closing_forms closings.Angle = forms.Alike
closing_forms _ = forms.Typed

abbrev pub WrapHolds : (brief : Bool) (mark : List ℕ) → Closing → (tree.Ty → Value) → Type 0
WrapHolds brief mark closing made =
    (t : tree.Ty) (bytes : List ℕ) → TypePrints brief t bytes → Holds brief (closing_forms closing) (made t) (mark ++ bytes ++ closing_text closing)

-- what closes a tuple, after its first type and after a later one
abbrev pub tuple_end : (is_first : Bool) → List ℕ
tuple_end is_first = cond is_first (codes ",)") (codes ")")

pub record TypesCount (is_first : Bool) (made : tree.Tys → tree.Tys) : Type 0 where
  pub last : (t : tree.Ty) → closing_tuple (made (tree.more_types t tree.no_types)) ≡ tuple_end is_first
  pub more : (t u : tree.Ty) (rest : tree.Tys) → closing_tuple (made (tree.more_types t (tree.more_types u rest))) ≡ codes ")"

-- ## What is open

-- The innermost entry accepts a path or a type, after the written text. If that path or type isn't shown, the shown text is
-- parked. After the path of an impl that isn't shown itself, the impl's own text begins, after any other text.
abbrev pub Stands : (brief : Bool) (s : List ℕ) → List Open → List Opened → (text parked : List ℕ) → Type 0
Stands brief s [] os text parked = ⊥
Stands brief s (opens.Symbol ∷ rest) os text parked =
    (text ≡ []) × (parked ≡ []) × ((p : tree.Path) (at : ℕ) (st : State) → Comes s os (a_path p) at st → OtherGoesOn s p at st)
Stands brief s (opens.Other ∷ rest) os text parked =
    (p : tree.Path) × PathPrints brief true p parked × ((q : tree.Path) (at : ℕ) (st : State) → Comes s os (a_path q) at st → EndsSymbol s p at)
Stands brief s (opens.Nest letter place ∷ rest) os text parked =
    (outer : List Opened)
    × ((p : tree.Path) (at : ℕ) (st : State) → Comes s os (a_path p) at st → NameGoesOn s outer letter place p at st)
    × Stands brief s rest outer text parked
Stands brief s (opens.Generic is_value place ∷ rest) os text parked =
    (outer : List Opened)
    × ((p : tree.Path) (at : ℕ) (st : State) → Comes s os (a_path p) at st → ArgumentsGoOn s outer place p (λ a. a) at st)
    × Stands brief s rest outer text parked
Stands brief s (opens.Argument place from is_value ∷ rest) os text parked =
    (outer : List Opened) × (front : List ℕ) × (p : tree.Path) × (own : List ℕ) × (made : tree.Arguments → tree.Arguments) × (bytes : List ℕ)
    × (separator : List ℕ) × (from ≡ length front) × PathPrints brief is_value p own × ArgumentsBegin brief made separator bytes
    × (text ≡ front ++ (own ++ opening brief is_value ++ bytes ++ separator))
    × ((v : Value) (t : tree.Ty) (at : ℕ) (st : State) → IsType v t → Comes s os v at st
    → ArgumentsGoOn s outer place p (λ r. made (tree.type_argument t r)) at st)
    × Stands brief s rest outer front parked
Stands brief s (opens.Impl place ∷ rest) os text parked =
    (outer : List Opened) × (made : tree.Path → tree.Ty → tree.Path) × ImplPrints brief made
    × ((q : tree.Path) (at : ℕ) (st : State) → Comes s os (a_path q) at st → TypeGoesOn s outer place (λ t. a_path (made q t)) at st)
    × Stands brief s rest outer parked []
Stands brief s (opens.TraitImpl place ∷ rest) os text parked =
    (outer : List Opened) × (made : tree.Path → tree.Ty → tree.Path → tree.Path) × ((q : tree.Path) → need q ≡ 0 → TraitPrints brief (made q))
    × ((q : tree.Path) (at : ℕ) (st : State) → Comes s os (a_path q) at st → ImplementingGoesOn s outer place (λ t r. a_path (made q t r)) at st)
    × Stands brief s rest outer parked []
Stands brief s (opens.InnerImpl place ∷ rest) os text parked =
    (outer : List Opened) × (made : tree.Path → tree.Ty → tree.Path) × ImplPrints brief made
    × ((q : tree.Path) (at : ℕ) (st : State) → Comes s os (a_path q) at st → TypeGoesOn s outer place (λ t. a_path (made q t)) at st)
    × ((any : List ℕ) → Stands brief s rest outer any parked)
Stands brief s (opens.InnerTraitImpl place ∷ rest) os text parked =
    (outer : List Opened) × (made : tree.Path → tree.Ty → tree.Path → tree.Path) × ((q : tree.Path) → need q ≡ 0 → TraitPrints brief (made q))
    × ((q : tree.Path) (at : ℕ) (st : State) → Comes s os (a_path q) at st → ImplementingGoesOn s outer place (λ t r. a_path (made q t r)) at st)
    × ((any : List ℕ) → Stands brief s rest outer any parked)
Stands brief s (opens.Wrap place from closing ∷ rest) os text parked =
    (outer : List Opened) × (front : List ℕ) × (mark : List ℕ) × (made : tree.Ty → Value) × (from ≡ length front) × (text ≡ front ++ mark)
    × WrapHolds brief mark closing made × TypePasses s os outer place made × Stands brief s rest outer front parked
Stands brief s (opens.Implementing place from ∷ rest) os text parked =
    (outer : List Opened) × (front : List ℕ) × (made : tree.Ty → tree.Path → tree.Path) × (from ≡ length front) × (text ≡ front ++ codes "<")
    × TraitPrints brief made
    × ((v : Value) (t : tree.Ty) (at : ℕ) (st : State) → IsType v t → Comes s os v at st
    → PathGoesOn s outer place (λ r. a_path (made t r)) at st)
    × Stands brief s rest outer front parked
Stands brief s (opens.Implemented place from ∷ rest) os text parked =
    (outer : List Opened) × (front : List ℕ) × (mark : List ℕ) × (made : tree.Path → tree.Path) × (from ≡ length front) × (text ≡ front ++ mark)
    × ((value : Bool) (r : tree.Path) (c : List ℕ) → PathPrints brief false r c → PathPrints brief value (made r) (mark ++ c ++ codes ">"))
    × PathPasses s os outer place (λ r. a_path (made r)) × Stands brief s rest outer front parked
Stands brief s (opens.Tuple place from is_first ∷ rest) os text parked =
    (outer : List Opened) × (front : List ℕ) × (made : tree.Tys → tree.Tys) × (bytes : List ℕ) × (separator : List ℕ)
    × (from ≡ length front) × TypesBegin brief made separator bytes × TypesCount is_first made
    × (text ≡ front ++ (codes "(" ++ bytes ++ separator))
    × ((v : Value) (t : tree.Ty) (at : ℕ) (st : State) → IsType v t → Comes s os v at st
    → TypesGoOn s outer place (λ r. made (tree.more_types t r)) at st)
    × Stands brief s rest outer front parked
Stands brief s (opens.Dyn place from ∷ rest) os text parked =
    (outer : List Opened) × (front : List ℕ) × (made : tree.Bounds → tree.Bounds) × (bytes : List ℕ) × (separator : List ℕ)
    × (from ≡ length front) × BoundsBegin brief made separator bytes × (text ≡ front ++ (codes "dyn " ++ bytes ++ separator))
    × ((p : tree.Path) (at : ℕ) (st : State) → Comes s os (a_path p) at st
    → BoundsGoOn s outer place (λ r. made (tree.more_bounds p tree.no_bindings r)) at st)
    × Stands brief s rest outer front parked
Stands brief s (opens.Array place from ∷ rest) os text parked =
    (outer : List Opened) × (front : List ℕ) × (from ≡ length front) × (text ≡ front ++ codes "[")
    × ((v : Value) (t : tree.Ty) (at : ℕ) (st : State) → IsType v t → Comes s os v at st → SizeGoesOn s outer place t at st)
    × Stands brief s rest outer front parked

-- Nothing hidden is written yet: only entries for paths wait, and the text of each begins with the text of the path that it
-- waits for.
abbrev pub IsUnbegun : List Open → Type 0
IsUnbegun [] = ⊥
IsUnbegun (opens.Nest letter place ∷ rest) = IsUnbegun rest
IsUnbegun (opens.Generic is_value place ∷ rest) = IsUnbegun rest
IsUnbegun (opens.Other ∷ rest) = Unit {0}
IsUnbegun (opens.Impl place ∷ rest) = Unit {0}
IsUnbegun (opens.TraitImpl place ∷ rest) = Unit {0}
IsUnbegun (opens.InnerImpl place ∷ rest) = Unit {0}
IsUnbegun (opens.InnerTraitImpl place ∷ rest) = Unit {0}
IsUnbegun (_ ∷ rest) = ⊥

-- the shown text, while hidden text is written
abbrev pub parked_of : Direct → List ℕ
parked_of w = cond w.is_aside w.aside.list.items []

-- ## What comes next

-- a path or a type is expected
pub record IsAwaited (brief : Bool) (s : List ℕ) (w : Direct) (state : State) (for_type : Bool) : Type 0 where
  pub wanted : Wanted
  pub is_for : is_for_type wanted ≡ for_type
  pub os : List Opened
  pub awaits : Expects s (kind_of wanted) os w.at state
  pub stands : Stands brief s (reverse w.waiting.list.items) os w.text.list.items (parked_of w)

-- a path or a type whose text begins at a place was read
pub record IsRead (brief : Bool) (s : List ℕ) (w : Direct) (state : State) (waiting : List Open) (from : ℕ) (forms : Forms) : Type 0 where
  pub os : List Opened
  pub v : Value
  pub front : List ℕ
  pub bytes : List ℕ
  pub written : w.text.list.items ≡ front ++ bytes
  pub from_is : from ≡ length front
  pub holds : Holds brief forms v bytes
  pub comes : Comes s os v w.at state
  pub stands : Stands brief s waiting os front (parked_of w)

-- the text before an argument: none before the first, and otherwise a separator
abbrev pub separator_of : (is_first : Bool) → List ℕ
separator_of is_first = cond is_first [] (codes ", ")

pub record IsListing (brief : Bool) (s : List ℕ) (w : Direct) (text : List ℕ) (state : State) (is_first : Bool) : Type 0 where
  pub place : ℕ
  pub from : ℕ
  pub is_value : Bool
  pub rest : List Open
  pub open_is : reverse w.waiting.list.items ≡ opens.Argument place from is_value ∷ rest
  pub outer : List Opened
  pub front : List ℕ
  pub p : tree.Path
  pub own : List ℕ
  pub made : tree.Arguments → tree.Arguments
  pub bytes : List ℕ
  pub from_is : from ≡ length front
  pub prints : PathPrints brief is_value p own
  pub begin : ArgumentsBegin brief made (separator_of is_first) bytes
  pub written : text ≡ front ++ (own ++ opening brief is_value ++ bytes)
  pub goes : ArgumentsGoOn s outer place p made w.at state
  pub stands : Stands brief s rest outer front (parked_of w)

-- where a writer is, before it takes a step
abbrev pub IsBefore : (brief : Bool) (s : List ℕ) → Direct → State → Step → Type 0
IsBefore brief s w st (steps.Path is_value) = IsAwaited brief s w st false
IsBefore brief s w st steps.Type = IsAwaited brief s w st true
IsBefore brief s w st (steps.Value from forms) = IsRead brief s w st (reverse w.waiting.list.items) from forms
IsBefore brief s w st (steps.Arguments is_first) = IsListing brief s w w.text.list.items st is_first
IsBefore brief s w st steps.Ended = IsWhole brief s w.text.list.items

-- the notes of a writer
abbrev pub AreNotesOf : (brief : Bool) → Direct → State → Type 0
AreNotesOf brief w st = AreNotes brief w.is_aside w.text.list.items w.aside.list.items w.notes.list.items w.numbers.items st.ended

-- No list has room for more than eight bytes of text for each byte of the symbol and a kilobyte, or for more entries
-- than the symbol has bytes.
pub record AreRooms (s : List ℕ) (text aside notes numbers waiting : ℕ) : Type 0 where
  pub text_is_within : text ≤ 8 * length s + 1024
  pub aside_is_within : aside ≤ 8 * length s + 1024
  pub notes_are_within : notes ≤ length s
  pub numbers_are_within : numbers ≤ length s
  pub waiting_is_within : waiting ≤ length s

abbrev pub HasRooms : (s : List ℕ) → Direct → Type 0
HasRooms s w = AreRooms s w.text.room w.aside.room w.notes.room (length w.numbers.items) w.waiting.room

-- what a writer keeps from one step to the next
abbrev pub Keeps : (brief : Bool) (s : List ℕ) → Direct → State → Type 0
Keeps brief s w st = AreNotesOf brief w st × HasRooms s w

-- how far a writer has come, and what comes next
pub record IsWriting (brief : Bool) (s : List ℕ) (w : Direct) (step : Step) : Type 0 where
  pub state : State
  pub keeps : Keeps brief s w state
  pub is_before : IsBefore brief s w state step
