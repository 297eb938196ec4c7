-- What becomes shorter at a name of `std`, or may do so.
use Rattle.std.specs.Prelude.{◌≡◌, ◌≤◌, ◌<◌, ℕ, List, ◌++◌, ◌+◌, Bool, true, false, ◌&&◌, nat_eq, length, take, drop, codes, slice_get, Option, None, Some, is_some}
use Rattle.std.specs.List.{starts_with}
use Rattle.short_names.specs.declared.names.Change.{Change}
use Rattle.short_names.specs.declared.names.Change.TheVariants as changes
use Rattle.short_names.specs.declared.table.Alias.{Alias}
use Rattle.short_names.specs.declared.table.TheConstants.{ALIASES, TEMPLATES}
use Rattle.short_names.specs.Names.{std_name, named_in, with_template, is_constructor, last_part}
use Rattle.short_names.specs.Short.{constructor, for_name}
use Rattle.short_names.specs.Texts.{text_of}

-- a list follows a name of the table
abbrev pub has_list : (run rest : List ℕ) → Bool
has_list run rest = starts_with nat_eq rest (codes "<") && is_some (named_in run)

-- A usual name ends after some bytes of a run, and a constructor or destructor of its template follows.
pub record IsMember (run rest : List ℕ) (size : ℕ) (alias : Alias) : Type 0 where
  pub within : size ≤ length run
  pub constructs : is_constructor (drop size (run ++ rest)) (last_part (text_of alias.template)) ≡ true
  pub answer : for_name run rest (std_name run) ≡ Some (record {
    bytes = take size run ++ (constructor alias (drop size (run ++ rest))).bytes;
    size = size + (constructor alias (drop size (run ++ rest))).size;
  })

abbrev pub IsMemberOf : (run rest : List ℕ) → (size : ℕ) → Option Alias → Type 0
IsMemberOf run rest size None = ⊥
IsMemberOf run rest size (Some alias) = IsMember run rest size alias

-- what becomes shorter at a run that begins with `std::`, before the rest of the text
abbrev pub IsChange : (run rest : List ℕ) → Change → Type 0
IsChange run rest changes.Nothing = (has_list run rest ≡ false) × (for_name run rest (std_name run) ≡ None)
IsChange run rest (changes.List whole row) = (starts_with nat_eq rest (codes "<") ≡ true) × (row < length TEMPLATES) × (named_in run ≡ with_template whole (slice_get TEMPLATES row))
IsChange run rest (changes.Member row size) = (has_list run rest ≡ false) × (row < length ALIASES) × IsMemberOf run rest size (slice_get ALIASES row)

-- nothing becomes shorter
abbrev pub is_nothing : Change → Bool
is_nothing changes.Nothing = true
is_nothing (changes.List whole row) = false
is_nothing (changes.Member row size) = false
