-- Which bytes of a legacy Rust name spell which part of its text: those of the names of its path, each with its length.
use Rattle.std.specs.Prelude.{ℕ, ◌+◌, ◌-◌, List, [], ◌∷◌, length, drop, Some, None}
use Rattle.rust_legacy.specs.Path.{Path, name_in}
use Rattle.sym_parts.specs.Spelling.{Spelling}
use Rattle.sym_parts.specs.declared.role.Role.{Role}
use Rattle.sym_parts.specs.declared.role.Role.TheVariants as role
use Rattle.sym_parts.specs.declared.spelling.Spelled.{Spelled}
use Rattle.sym_parts.specs.declared.spelling.Span.{Span}

-- how many bytes the name at a place takes, with its length
unfoldable pub size_at : (symbol : List ℕ) → (at : ℕ) → ℕ
size_at symbol at = elim (name_in (drop at symbol)) [ Some name ↦ name.size | None ↦ 0 ]

-- where the last name begins, if the first is at a place
unfoldable pub last_at : (symbol : List ℕ) → (at : ℕ) → List (List ℕ) → ℕ
last_at symbol at [] = at
last_at symbol at (name ∷ []) = at
last_at symbol at (name ∷ next ∷ rest) = last_at symbol (at + size_at symbol at) (next ∷ rest)

-- where names end, if the first is at a place
unfoldable pub end_at : (symbol : List ℕ) → (at : ℕ) → List (List ℕ) → ℕ
end_at symbol at [] = at
end_at symbol at (name ∷ rest) = end_at symbol (at + size_at symbol at) rest

abbrev pub bytes : (from to : ℕ) → Span
bytes from to = record { from = from; to = to }

abbrev pub spelled : Role → (from to : ℕ) → Spelled
spelled r from to = record { role = r; span = bytes from to }

-- The parts of a path's text, by five places: where the path's first name ends, its last name begins, the hash begins, the suffix begins
-- and the symbol ends. The first name is at the symbol's fourth byte, and an E is between the hash and the suffix. A first name is a
-- crate or an implementation, by what it shows; a path of one name has no scope.
unfoldable pub spelling_by : (first last hash suffix end : ℕ) → Spelling
spelling_by first last hash suffix end = record {
  others = bytes 3 hash;
  spans =
      spelled role.Scope 3 last ∷ spelled role.Crate 3 first ∷ spelled role.Impl 3 first ∷ spelled role.Base last hash
      ∷ spelled role.Suffix suffix end ∷ spelled role.Hash hash (suffix - 1) ∷ [];
  specials = [];
  tags = [];
  argument_lists = [];
  arguments = [];
  parameters = [];
  elements = [];
}

-- the parts of a symbol's path
unfoldable pub spelling_of_path : (symbol : List ℕ) → Path → Spelling
spelling_of_path symbol path =
    spelling_by (3 + size_at symbol 3) (last_at symbol 3 path.names) (end_at symbol 3 path.names) (length symbol - length path.suffix) (length symbol)
