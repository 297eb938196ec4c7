-- A small language: a rule means the number of its parts, at most three.
use Rattle.std.specs.Prelude.{◌≡◌, ℕ, ◌+◌, ◌*◌, ◌<◌, ◌≤◌, nat_lt, List, [], ◌∷◌, ◌++◌, length, get_or, true, false, if◌then◌else◌, Result, Ok, Err, vec_capacity}
use Rattle.sym_core.specs.declared.NumberKind.{NumberKind}
use Rattle.sym_core.specs.declared.refusal.Refusal.{Refusal}
use Rattle.sym_core.specs.declared.NameClass.{NameClass}
use Rattle.sym_shape.specs.declared.rule.Rule.{Rule}
use Rattle.sym_shape.specs.declared.rule.Sym.{Sym}
use Rattle.sym_shape.specs.Sheet.{KindSheet, range, table_of}
use Rattle.sym_link.specs.declared.counting.Counts.{Counts}
use Rattle.sym_link.specs.declared.counting.Part.{Part}
use Rattle.sym_link.specs.declared.counting.Part.TheVariants as parts
use Rattle.sym_link.specs.Reading.{Found}
use Rattle.sym_link.specs.Driving.{Fails}
use Rattle.sym_link.specs.Unfold.{found}
use Rattle.sym_link.specs.Cases.{Language, by_meaning}
use Rattle.sym_link.specs.Linking.{View}
use Rattle.sym_link.specs.Room.{one_by_one}

abbrev pub blank : KindSheet
blank = record { choices = []; may_be_empty = false; after = []; rank = 0; height = 0 }

abbrev pub unused : Sym
unused = Sym.Byte 0

-- A node is "(", digits, a list of nodes and ")".
abbrev pub node_rule : Rule
node_rule = record { number = 0; eats = true; count = 3; symbols = Sym.Number NumberKind.Digits ∷ Sym.Kind 1 ∷ Sym.Byte 41 ∷ unused ∷ unused ∷ [] }

-- A list is empty, or a node and a list.
abbrev pub list_rule : Rule
list_rule = record { number = 1; eats = false; count = 2; symbols = Sym.Kind 0 ∷ Sym.Kind 1 ∷ unused ∷ unused ∷ unused ∷ [] }

abbrev pub sheet : List KindSheet
sheet =
    record { choices = record { ranges = 1; bytes = range 40 40 ∷ range 0 0 ∷ range 0 0 ∷ range 0 0 ∷ []; rule = node_rule } ∷ []; may_be_empty = false; after = range 40 41 ∷ []; rank = 0; height = 1 }
    ∷ record { choices = record { ranges = 1; bytes = range 40 40 ∷ range 0 0 ∷ range 0 0 ∷ range 0 0 ∷ []; rule = list_rule } ∷ []; may_be_empty = true; after = range 41 41 ∷ []; rank = 1; height = 0 }
    ∷ []

-- The state counts the rules that have closed.
abbrev pub counted_language : Language ℕ ℕ (Unit {0})
counted_language = record {
  symbol = [];
  token = λ own. length own;
  context_behind = λ number context known. context;
  meaning = λ number at known. if nat_lt 3 (length known) then Err (Refusal.BadValue at.place) else Ok (found (length known) (at.state + 1));
}

-- the number that a part denotes
abbrev pub IsNumber : Counts → Part → ℕ → Type 0
IsNumber nodes (parts.Token span) value = span.to ≡ span.from + value
IsNumber nodes (parts.Node node) value = (node < length nodes.counts.items) × (get_or nodes.counts.items node 0 ≡ value)

abbrev pub counting : List ℕ → View Counts Part (Unit {0}) ℕ ℕ (Unit {0})
counting s = record {
  table = table_of blank sheet NameClass.Rust;
  reading = by_meaning counted_language;
  around = tt;
  first = 0;
  IsPart = IsNumber;
  IsKept = λ nodes kept rule. Unit {0};
  Holds = λ nodes state. length nodes.counts.items ≡ state;
  Grows = λ old new. (more : List ℕ) × (new.counts.items ≡ old.counts.items ++ more);
  size = λ nodes. length nodes.counts.items;
  owes = λ number held. 1;
  closes = λ number own. 1;
  most = λ bytes. 4 * bytes + 4;
  IsPaid = λ nodes bytes. length nodes.text.items ≤ bytes;
  lists = λ nodes. one_by_one nodes.counts ∷ record { room = vec_capacity nodes.text; held = length nodes.text.items; most = length s } ∷ [];
  TakesMemory = λ number own. ⊥;
}

-- the number is the one value that was read, or the refusal is that of the reading
abbrev pub Means : Result ℕ Refusal → Result (Found (List ℕ) ℕ) Refusal → Type 0
Means (Ok number) read = (state : ℕ) × (read ≡ Ok (found (number ∷ []) state))
Means (Err e) read = Fails e read
