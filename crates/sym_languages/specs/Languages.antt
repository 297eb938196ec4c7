-- What is answered for a symbol of each mangling.
use Rattle.std.specs.Prelude.{◌≡◌, ℕ, ◌+◌, ◌*◌, ◌≤◌, List, ◌++◌, length, Bool, if◌then◌else◌, Result, Ok, Err}
use Rattle.sym_core.specs.declared.refusal.Refusal.{Refusal}
use Rattle.sym_print.specs.declared.detail.Detail.{Detail}
use Rattle.sym_shape.specs.declared.rule.Row.{Row}
use Rattle.sym_shape.specs.Tree.{Tree, AreRowsOf}
use Rattle.sym_demangle.specs.Mangled.{Mangled, IsReading, answer}
use Rattle.sym_demangle.specs.Standing.{AreStepsInAll, AreNodesOf}
use Rattle.cpp_grammar.specs.Mangled.{cpp_mangled, wide_mangled}
use Rattle.cpp_grammar.specs.Term.{Term}
use Rattle.cpp_layout.specs.Layout as cpp
use Rattle.cpp_link.specs.LinkRescoping.{are_wide_nodes}
use Rattle.cpp_link.specs.NodeCount as cpp_count
use Rattle.rust_legacy.specs.Text.{legacy_answer}
use Rattle.rust_tree.specs.Counts.{IsRead}
use Rattle.rust_tree.specs.Layout.{ReadSymbol}
use Rattle.rust_tree.specs.Symbol.{Symbol}
use Rattle.rust_grammar.specs.Mangled.{v0_mangled}
use Rattle.rust_v0.specs.Whole.{whole_of}
use Rattle.rust_v0.specs.NodeCount as rust_count
use Rattle.sym_core.specs.declared.counts.Counts.{Counts}
use Rattle.cpp_press_laws.specs.Pressing as cpp_spelling
use Rattle.rust_press.specs.Pressing as rust_spelling
use Rattle.sym_filter.specs.Kinds.{underscore_of}
use Rattle.sym_filter.specs.Runs.{Answering}
use Rattle.sym_languages.specs.Pressed.{pressed_answer}
use Rattle.sym_filter.specs.declared.kinds.Kind.{Kind}
use Rattle.sym_filter.specs.declared.kinds.Lang.{Lang}
use Rattle.sym_filter.specs.declared.kinds.Lang.TheVariants.{Cpp, Rust}

-- what is answered for a symbol of a language at a limit and in a detail, with this mangling for C++
abbrev pub language_answer_by : {W : Type 0} → Mangled W → ℕ → Detail → Lang → List ℕ → Result (List ℕ) Refusal
language_answer_by cpp limit detail Cpp symbol = answer cpp detail symbol limit
language_answer_by cpp limit detail Rust symbol = answer v0_mangled detail symbol limit

abbrev pub language_answer : ℕ → Detail → Lang → List ℕ → Result (List ℕ) Refusal
language_answer limit detail lang symbol = language_answer_by cpp_mangled limit detail lang symbol

-- the text is the same whether an underscore was dropped or not
abbrev pub answer_of : ℕ → Detail → Kind → List ℕ → Result (List ℕ) Refusal
answer_of limit detail kind symbol = language_answer limit detail kind.lang symbol

-- what is answered with C++ by the wide grammar
abbrev pub wide_answer_of : ℕ → Detail → Kind → List ℕ → Result (List ℕ) Refusal
wide_answer_of limit detail kind symbol = language_answer_by wide_mangled limit detail kind.lang symbol

-- what is answered with this grammar of C++. A legacy Rust name is also a C++ symbol: it is answered as a C++ symbol, or as the path that
-- it denotes.
abbrev pub answers_by : {W : Type 0} → Mangled W → (legacy : Bool) → (limit : ℕ) → Detail → Answering
answers_by cpp legacy limit detail =
    if legacy then (λ kind symbol. legacy_answer limit symbol (language_answer_by cpp limit detail kind.lang symbol))
    else (λ kind symbol. language_answer_by cpp limit detail kind.lang symbol)

-- C++ by the wide grammar, or by the ABI's
abbrev pub cpp_by : (wide : Bool) → Mangled Term
cpp_by wide = if wide then wide_mangled else cpp_mangled

-- an answer with these bytes before it, if it isn't a refusal
abbrev pub with_front : List ℕ → Result (List ℕ) Refusal → Result (List ℕ) Refusal
with_front front (Ok text) = Ok (front ++ text)
with_front front (Err refusal) = Err refusal

-- what is answered where symbols are pressed
abbrev pub pressed_language : Lang → List ℕ → Result (List ℕ) Refusal
pressed_language Cpp symbol = pressed_answer cpp_mangled cpp_spelling.pressed symbol
pressed_language Rust symbol = pressed_answer v0_mangled rust_spelling.pressed symbol

-- the pressed spelling follows the underscore that was dropped
abbrev pub pressed_of : Kind → List ℕ → Result (List ℕ) Refusal
pressed_of kind symbol = with_front (underscore_of kind.skip) (pressed_language kind.lang symbol)

-- The symbols of a mangling that are read: W are the trees that they denote, R what is kept of them.
pub record Readings (W R : Type 0) : Type 1 where
  pub mangled : Mangled W
  -- what holds of each symbol that was read
  pub IsRead : R → Type 0
  pub bytes_of : R → List ℕ
  pub whole_of : R → W
  -- whether a symbol of a shape has this many nodes
  pub are_nodes : Tree → ℕ → Type 0
  -- the most nodes for each byte
  pub nodes_a_byte : ℕ

abbrev pub cpp_readings : Readings Term cpp.ReadSymbol
cpp_readings = record {
  mangled = cpp_mangled;
  IsRead = λ read. cpp.IsRead read;
  bytes_of = λ read. read.bytes;
  whole_of = λ read. cpp.whole_of read;
  are_nodes = cpp_count.are_nodes;
  nodes_a_byte = 2;
}

abbrev pub wide_readings : Readings Term cpp.ReadSymbol
wide_readings = record {
  mangled = wide_mangled;
  IsRead = λ read. cpp.IsRead read;
  bytes_of = λ read. read.bytes;
  whole_of = λ read. cpp.whole_of read;
  are_nodes = are_wide_nodes;
  nodes_a_byte = 2;
}

abbrev pub v0_readings : Readings Symbol ReadSymbol
v0_readings = record {
  mangled = v0_mangled;
  IsRead = λ read. IsRead read;
  bytes_of = λ read. read.bytes;
  whole_of = λ read. whole_of read;
  are_nodes = rust_count.are_nodes;
  nodes_a_byte = 4;
}

-- The counts of a symbol that is read and denotes a tree: the rows, the steps and the nodes of its one shape. There is at least one step
-- for each row, and there are no more rows, steps and nodes than the symbol's bytes allow.
pub record AreCounts {W R : Type 0} (readings : Readings W R) (symbol : List ℕ) (counts : Counts) : Type 0 where
  pub shape : List Row
  pub are_rows : AreRowsOf readings.mangled.table symbol shape
  pub rows : counts.rows ≡ length shape
  pub read : R
  pub is_read : readings.IsRead read
  pub bytes : readings.bytes_of read ≡ symbol
  pub stands : IsReading readings.mangled symbol (Ok (readings.whole_of read))
  pub nodes : AreNodesOf readings.mangled.table readings.are_nodes symbol counts.nodes
  pub nodes_few : counts.nodes ≤ readings.nodes_a_byte * length symbol + 8
  pub steps : AreStepsInAll readings.mangled.table symbol counts.steps
  pub steps_few : counts.steps ≤ 32 * length symbol + 48
  pub steps_enough : counts.rows ≤ counts.steps

-- the counts of a symbol of each language, with this reading of C++
abbrev pub AreCountsBy : {W R : Type 0} → Readings W R → Lang → List ℕ → Counts → Type 0
AreCountsBy cpp Cpp symbol counts = AreCounts cpp symbol counts
AreCountsBy cpp Rust symbol counts = AreCounts v0_readings symbol counts

abbrev pub AreCountsOf : Lang → List ℕ → Counts → Type 0
AreCountsOf lang symbol counts = AreCountsBy cpp_readings lang symbol counts

abbrev pub AreWideCountsOf : Lang → List ℕ → Counts → Type 0
AreWideCountsOf lang symbol counts = AreCountsBy wide_readings lang symbol counts
