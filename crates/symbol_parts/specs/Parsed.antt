-- The answer for a symbol, with the parts of its text.
use Rattle.std.specs.Prelude.{ℕ, ◌+◌, List, length, map, min, nat_eq, Result, Ok, Err, Bool, Some, None, if◌then◌else◌}
use Rattle.std.specs.List.{list_any}
use Rattle.sym_core.specs.declared.refusal.Refusal.{Refusal}
use Rattle.sym_core.specs.declared.refusal.Refusal.TheVariants.{Malformed}
use Rattle.sym_shape.specs.Tree.{Tree, rows_of, spell}
use Rattle.sym_shape.specs.declared.rule.Row.{Row}
use Rattle.sym_shape.proofs.Deciding.{outcome}
use Rattle.sym_print.specs.declared.detail.Detail.{Detail}
use Rattle.sym_print.specs.Answer.{text_within}
use Rattle.sym_print.specs.Unshared.{Unshared}
use Rattle.sym_demangle.specs.Mangled.{Mangled}
use Rattle.sym_parts.specs.Marked.{Marked, stretches_of}
use Rattle.sym_parts.specs.Spelling.{Spelling, parts_spelled}
use Rattle.sym_parts.specs.Words.{role_number}
use Rattle.sym_parts.specs.declared.role.Role.TheVariants as role
use Rattle.sym_parts.specs.declared.kind.NameKind.{NameKind}
use Rattle.sym_parts.specs.declared.part.Part.{Part}
use Rattle.sym_parts.specs.declared.stretch.Stretch.{Stretch}
use Rattle.cpp_grammar.specs.Term.{Term}
use Rattle.cpp_parts.specs.Kinds as cpp_kinds
use Rattle.cpp_parts.specs.Roles as cpp_roles
use Rattle.cpp_spelled.specs.Spelled as cpp_spelled
use Rattle.rust_grammar.specs.Mangled.{v0_mangled}
use Rattle.rust_parts.specs.Kinds as rust_kinds
use Rattle.rust_parts.specs.Roles as rust_roles
use Rattle.rust_spelled.specs.Spelling as rust_spelled
use Rattle.legacy_parts.specs.Kinds as legacy_kinds
use Rattle.legacy_parts.specs.Roles as legacy_roles
use Rattle.legacy_parts.specs.Spelled as legacy_spelled
use Rattle.rust_legacy.specs.Path.{Path, legacy_of}
use Rattle.rust_legacy.specs.Text.{shown_path}
use Rattle.rust_tree.specs.Symbol.{Symbol}
use Rattle.sym_filter.specs.declared.kinds.Kind.{Kind}
use Rattle.sym_filter.specs.declared.kinds.Lang.{Lang}
use Rattle.sym_filter.specs.declared.kinds.Lang.TheVariants.{Cpp, Rust}
use Rattle.symbol_parts.specs.declared.parsed.Parsed.{Parsed as Found}

-- the text of a symbol, what the symbol is, and the parts of the text
pub record Parsed : Type 0 where
  pub text : List ℕ
  pub kind : NameKind
  pub parts : List Part

-- what the code found
abbrev pub found : Found → Parsed
found parsed = record { text = parsed.text.items; kind = parsed.kind; parts = parsed.parts.items }

-- which bytes spell the parts of a text, by the stretches of the text that are its parts
abbrev pub Spelled : Type 0
Spelled = List Stretch → Spelling

-- a text with the parts that its marks make, and the bytes that spell them, or the refusal
unfoldable pub with_parts : NameKind → Spelled → Marked → Result (List ℕ) Refusal → Result Parsed Refusal
with_parts what spelled marks (Ok shown) =
    Ok (record { text = shown; kind = what; parts = parts_spelled (spelled (stretches_of marks)) (length shown) (stretches_of marks) })
with_parts what spelled marks (Err refusal) = Err refusal

-- the text without its parts, or the refusal
unfoldable pub without_parts : Result Parsed Refusal → Result (List ℕ) Refusal
without_parts (Ok parsed) = Ok parsed.text
without_parts (Err refusal) = Err refusal

-- How the texts of a mangling's symbols are marked, what the symbols are, and which of their bytes spell which parts. `W` is
-- the type of the trees that symbols denote. The bytes of parts are known from a symbol's bytes, the rows of its shape and the
-- stretches of its text.
pub record Marking (W : Type 0) : Type 0 where
  pub marked : W → Unshared → Marked
  pub kind : W → NameKind
  pub spelled : (symbol : List ℕ) → List Row → Spelled

-- ## A mangling

-- the answer for a symbol by its tree or its refusal, with the bytes that spell its parts
abbrev pub parsed_of_symbol : {W : Type 0} → Mangled W → Marking W → Detail → ℕ → Spelled → Result W Refusal → Result Parsed Refusal
parsed_of_symbol m marking detail limit spelled (Ok symbol) =
    with_parts (marking.kind symbol) spelled (marking.marked symbol (m.shown detail symbol)) (text_within limit (m.shown detail symbol))
parsed_of_symbol m marking detail limit spelled (Err refusal) = Err refusal

-- the answer for a well shaped symbol
abbrev pub parsed_of_shape : {W : Type 0} → Mangled W → Marking W → Detail → ℕ → Tree → Result Parsed Refusal
parsed_of_shape m marking detail limit shape = parsed_of_symbol m marking detail limit (marking.spelled (spell shape) (rows_of shape 0 0 0)) (m.unfolded shape)

-- The answer for a symbol at a limit, by its shape, or the refusal at its first bad byte. A list of numbers that aren't all bytes is refused at once.
unfoldable pub parsed : {W : Type 0} → Mangled W → Marking W → Detail → List ℕ → ℕ → Result Parsed Refusal
parsed m marking detail s limit = outcome m.table m.lawful (parsed_of_shape m marking detail limit) (λ at. Err (Malformed at)) (Err (Malformed 0)) s

-- ## Both languages

-- one of the stretches is a return type
abbrev pub returns : List Stretch → Bool
returns stretches = list_any (λ stretch. nat_eq (role_number stretch.role) (role_number role.ReturnType)) stretches

abbrev pub cpp_marking : Marking Term
cpp_marking = record { marked = cpp_roles.symbol_marked; kind = cpp_kinds.kind_of_symbol; spelled = λ symbol rows stretches. cpp_spelled.spelling_of rows (returns stretches) }

abbrev pub v0_marking : Marking Symbol
v0_marking = record { marked = rust_roles.symbol_marked; kind = rust_kinds.kind_of_symbol; spelled = λ symbol rows stretches. rust_spelled.spelling_of symbol rows }

-- the answer with parts for a symbol of a language, at a limit and in a detail, with this mangling for C++
abbrev pub language_parsed_by : {W : Type 0} → Mangled W → Marking W → ℕ → Detail → Lang → List ℕ → Result Parsed Refusal
language_parsed_by cpp marking limit detail Cpp symbol = parsed cpp marking detail symbol limit
language_parsed_by cpp marking limit detail Rust symbol = parsed v0_mangled v0_marking detail symbol limit

-- the text of a legacy name's path, with its parts
abbrev pub path_parsed : (limit : ℕ) → (symbol : List ℕ) → Path → Result Parsed Refusal
path_parsed limit symbol path =
    with_parts (legacy_kinds.kind_of_path path) (λ stretches. legacy_spelled.spelling_of_path symbol path) (legacy_roles.path_marked path) (text_within limit (shown_path path))

-- the answer for a symbol where legacy names are paths: `other`, if it isn't a legacy name
abbrev pub legacy_parsed : (limit : ℕ) → List ℕ → (other : Result Parsed Refusal) → Result Parsed Refusal
legacy_parsed limit s other = elim (legacy_of s) [ Some path ↦ path_parsed limit s path | None ↦ other ]

-- ## Words

-- A part of a word's text, made of the part of its symbol's text. The word has `skip` bytes before its symbol, and the bytes that spell the
-- part are counted from the word's first byte. Places take 32 bits.
unfoldable pub part_behind : (skip : ℕ) → Part → Part
part_behind skip part = record {
  role = part.role;
  start = part.start;
  length = part.length;
  from = min (part.from + skip) 4294967295;
  to = min (part.to + skip) 4294967295;
}

-- the answer for a word, by the answer for its symbol
unfoldable pub parsed_behind : (skip : ℕ) → Result Parsed Refusal → Result Parsed Refusal
parsed_behind skip (Ok parsed) = Ok (record { text = parsed.text; kind = parsed.kind; parts = map (part_behind skip) parsed.parts })
parsed_behind skip (Err refusal) = Err refusal

-- the answers for the symbols of words of each kind
abbrev pub Parsing : Type 0
Parsing = Kind → List ℕ → Result Parsed Refusal

-- the answers with this grammar of C++. A legacy Rust name is also a C++ symbol: it is answered as a C++ symbol, or as the path that it
-- denotes.
abbrev pub parsed_by : {W : Type 0} → Mangled W → Marking W → (legacy : Bool) → (limit : ℕ) → Detail → Parsing
parsed_by cpp marking legacy limit detail =
    if legacy then (λ kind symbol. parsed_behind kind.skip (legacy_parsed limit symbol (language_parsed_by cpp marking limit detail kind.lang symbol)))
    else (λ kind symbol. parsed_behind kind.skip (language_parsed_by cpp marking limit detail kind.lang symbol))
