-- Short texts: without what the library's templates in `std` have by default, and with the usual names of their instances.
use Rattle.std.specs.Prelude.{ℕ, List, [], ◌++◌, ◌+◌, ◌-◌, Bool, true, false, not, ◌&&◌, ◌||◌, length, take, drop, codes, Option, None, Some, is_some, if◌then◌else◌}
use Rattle.short_names.specs.declared.table.Alias.{Alias}
use Rattle.short_names.specs.declared.table.TheConstants.{ALIASES}
use Rattle.short_names.specs.declared.names.Named.{Named}
use Rattle.short_names.specs.Elements.{listed, left, left_of, is_polymorphic, alias_in, aliases_of}
use Rattle.short_names.specs.Inlines.{without_inlines}
use Rattle.short_names.specs.Names.{StdName, std_name, named_in, last_part, front_size, is_constructor, class_of, ends_name, member_in}
use Rattle.short_names.specs.Texts.{text_of}
use Rattle.short_names.specs.Walk.{Answer, Rules, by_rules}

-- the part of a run before the template's name; the run is a name of the table
abbrev pub before_name : Named → List ℕ → List ℕ
before_name named run = take (length run - length (text_of named.template.name)) run

-- What is written instead of a constructor or destructor that follows a usual name and has the template's name: one
-- with the name that `class_of` gives. Nothing if none follows.
abbrev pub constructor : Alias → (rest : List ℕ) → Answer
constructor alias rest =
    if is_constructor rest (last_part (text_of alias.template)) then record {
      bytes = take (front_size rest) rest ++ class_of alias;
      size = front_size rest + length (last_part (text_of alias.template));
    } else record { bytes = []; size = 0 }

-- an answer with some bytes before it
abbrev pub behind : List ℕ → Answer → Answer
behind bytes answer = record { bytes = bytes ++ answer.bytes; size = answer.size }

-- no constructor or destructor by the class's name follows, unless the template has that name, too
abbrev pub is_own : (rest : List ℕ) → Alias → Bool
is_own rest alias = is_constructor rest (last_part (text_of alias.template)) || not (is_constructor rest (class_of alias))

-- A usual name ends before the rest of the text, and is read back as the same name.
abbrev pub is_read_back : (rest : List ℕ) → Alias → Bool
is_read_back rest alias = ends_name rest && is_own rest alias

abbrev pub if_read_back : (rest : List ℕ) → Option Alias → Option Alias
if_read_back rest None = None
if_read_back rest (Some alias) = if is_read_back rest alias then Some alias else None

-- What is written for a name of the table and its list: the usual name; or the name in `std::pmr`, and the list without the
-- allocator; or the name, and the list without its defaults.
unfoldable pub short_list : Named → (run : List ℕ) → (elements : List (List ℕ)) → (rest : List ℕ) → Answer
short_list named run elements rest = elim (if_read_back rest (alias_in (aliases_of named) named elements (left named elements))) [
  | Some alias ↦ behind (before_name named run ++ text_of alias.name) (constructor alias rest)
  | None ↦ if is_polymorphic named elements then record {
    bytes = before_name named run ++ codes "pmr::" ++ text_of named.template.name ++ listed (take (left_of named elements (length elements - 1)) elements);
    size = 0;
  } else record { bytes = run ++ listed (take (left named elements) elements); size = 0 }
]

-- a name and its list
abbrev pub for_list : Option Named → (run : List ℕ) → (elements : List (List ℕ)) → (rest : List ℕ) → Answer
for_list None run elements rest = record { bytes = run ++ listed elements; size = 0 }
for_list (Some named) run elements rest = short_list named run elements rest

-- A usual name that was written already, with a constructor or destructor that has the template's name. What comes after the usual name in
-- the run is looked at with the text after the run.
abbrev pub member : (run rest name : List ℕ) → Option Alias → Option Answer
member run rest name None = None
member run rest name (Some alias) =
    let from = length run - length name + length (text_of alias.name) in
    let answer = constructor alias (drop from (run ++ rest)) in
    Some (record { bytes = take from run ++ answer.bytes; size = from + answer.size })

abbrev pub for_name : (run rest : List ℕ) → Option StdName → Option Answer
for_name run rest None = None
for_name run rest (Some std) = member run rest std.name (member_in ALIASES std.name (std.name ++ rest))

abbrev pub short_rules : Rules
short_rules = record {
  opens = λ run. is_some (named_in run);
  for_name = λ run rest. for_name run rest (std_name run);
  for_list = λ run elements rest. for_list (named_in run) run elements rest;
}

-- The short text of a text.
unfoldable pub short : List ℕ → List ℕ
short text = by_rules short_rules text

-- a text with its inline namespaces of `std`, or without them
unfoldable pub taken : (keeps_inline : Bool) → List ℕ → List ℕ
taken true text = text
taken false text = without_inlines false 0 text

-- The short text of a text, with its inline namespaces of `std` or without them.
unfoldable pub shortened : (keeps_inline : Bool) → List ℕ → List ℕ
shortened keeps_inline text = short (taken keeps_inline text)
