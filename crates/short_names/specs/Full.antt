-- Full texts, from which short ones come: with what the library's templates in `std` have by default, and with templates for usual names.
use Rattle.std.specs.Prelude.{ℕ, zero, suc, List, [], ◌∷◌, ◌++◌, ◌+◌, ◌-◌, ◌==◌, ◌&&◌, ◌||◌, nat_eq, length, take, drop, codes, Option, None, Some, is_some, if◌then◌else◌}
use Rattle.std.specs.List.{starts_with}
use Rattle.short_names.specs.declared.table.Place.{Place}
use Rattle.short_names.specs.declared.table.Alias.{Alias}
use Rattle.short_names.specs.declared.table.TheConstants.{ALIASES}
use Rattle.short_names.specs.declared.names.Named.{Named}
use Rattle.short_names.specs.Elements.{listed, filled_for, defaults_of, left_of}
use Rattle.short_names.specs.Names.{StdName, std_name, table_name, named_in, last_part, front_size, is_constructor, class_of, ends_name}
use Rattle.short_names.specs.Patterns.{filled}
use Rattle.short_names.specs.Texts.{text_of}
use Rattle.short_names.specs.Walk.{Answer, Rules, by_rules}

-- ## Defaults

-- elements, and after them the defaults of the next places, each as a full text, up to a place without a default
unfoldable pub with_defaults : (full : List ℕ → List ℕ) → Named → List (List ℕ) → (places : List Place) → List (List ℕ)
with_defaults full named elements [] = elements
with_defaults full named elements (place ∷ places) =
    if length (text_of place) == 0 then elements
    else with_defaults full named (elements ++ full (filled_for named elements (text_of place)) ∷ []) places

-- the same, for the first `count` places
abbrev pub defaulted : (full : List ℕ → List ℕ) → Named → ℕ → List (List ℕ) → List (List ℕ)
defaulted full named count elements = with_defaults full named elements (drop (length elements) (take count (defaults_of named.template)))

-- ## Names of `std::pmr`

-- a name of std without its `pmr::`, as a name of the table
abbrev pub without_pmr : Option StdName → Option StdName
without_pmr None = None
without_pmr (Some std) = if starts_with nat_eq std.name (codes "pmr::") then Some (record std { name = drop 5 std.name }) else None

abbrev pub if_polymorphic : Option Named → Option Named
if_polymorphic None = None
if_polymorphic (Some named) = if length (text_of named.template.polymorphic) == 0 then None else Some named

abbrev pub pmr_in : (run : List ℕ) → Option Named
pmr_in run = if_polymorphic (table_name (without_pmr (std_name run)))

-- the list of a name of `std::pmr`: the elements with the allocator of `std::pmr`, and the name without `pmr::`. Where the
-- last element is a default, the list stays, since no short text has such a list
abbrev pub pmr_list : (full : List ℕ → List ℕ) → Named → (run : List ℕ) → List (List ℕ) → List ℕ
pmr_list full named run elements =
    let all = defaulted full named (named.template.count - 1) elements in
    let from = length run - length (text_of named.template.name) in
    if length all + 1 == named.template.count && left_of named elements (length elements) == length elements
    then take (from - 5) run ++ drop from run ++ listed (all ++ full (filled_for named all (text_of named.template.polymorphic)) ∷ [])
    else run ++ listed elements

abbrev pub for_pmr : (full : List ℕ → List ℕ) → (run : List ℕ) → List (List ℕ) → Option Named → Answer
for_pmr full run elements None = record { bytes = run ++ listed elements; size = 0 }
for_pmr full run elements (Some named) = record { bytes = pmr_list full named run elements; size = 0 }

abbrev pub for_list : (full : List ℕ → List ℕ) → (run : List ℕ) → List (List ℕ) → Option Named → Answer
for_list full run elements None = for_pmr full run elements (pmr_in run)
for_list full run elements (Some named) = record { bytes = run ++ listed (defaulted full named named.template.count elements); size = 0 }

-- ## Usual names

-- the first row with a usual name that begins the name and isn't the beginning of a longer one; `text` is the name and
-- what comes after it
unfoldable pub usual_in : List Alias → (name text : List ℕ) → Option Alias
usual_in [] name text = None
usual_in (row ∷ rows) name text =
    if starts_with nat_eq name (text_of row.name) && ends_name (drop (length (text_of row.name)) text) then Some row else usual_in rows name text

-- the constructor or destructor that follows a usual name, by the template's name
abbrev pub constructor : Alias → (rest : List ℕ) → Answer
constructor alias rest =
    if is_constructor rest (class_of alias) then record {
      bytes = take (front_size rest) rest ++ last_part (text_of alias.template);
      size = front_size rest + length (class_of alias);
    } else record { bytes = []; size = 0 }

-- the template with the arguments that a usual name is for
abbrev pub instance : StdName → Alias → List ℕ
instance std alias = text_of alias.template ++ 60 ∷ filled [] [] (text_of std.whole) (text_of alias.arguments) ++ 62 ∷ []

abbrev pub usual : (full : List ℕ → List ℕ) → StdName → (run rest : List ℕ) → Option Alias → Option Answer
usual full std run rest None = None
usual full std run rest (Some alias) =
    let from = length run - length std.name in
    let behind = from + length (text_of alias.name) in
    let answer = constructor alias (drop behind (run ++ rest)) in
    Some (record { bytes = full (take from run ++ instance std alias) ++ answer.bytes; size = behind + answer.size })

abbrev pub for_name : (full : List ℕ → List ℕ) → (run rest : List ℕ) → Option StdName → Option Answer
for_name full run rest None = None
for_name full run rest (Some std) = usual full std run rest (usual_in ALIASES std.name (std.name ++ rest))

-- ## Texts

abbrev pub full_rules : (full : List ℕ → List ℕ) → Rules
full_rules full = record {
  opens = λ run. is_some (named_in run) || is_some (pmr_in run);
  for_name = λ run rest. for_name full run rest (std_name run);
  for_list = λ run elements rest. for_list full run elements (named_in run);
}

-- the full text of a text to a depth: what a rule writes in it is full to a depth of one less
unfoldable pub full_to : ℕ → List ℕ → List ℕ
full_to zero text = text
full_to (suc depth) text = by_rules (full_rules (full_to depth)) text

-- The full text of a text, to a depth of 4. No usual names and defaults of the table are nested more deeply.
unfoldable pub full : List ℕ → List ℕ
full text = full_to 4 text
