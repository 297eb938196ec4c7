-- What a table of texts keeps.
use Rattle.std.specs.Prelude.{◌≡◌, ◌+◌, ◌≤◌, ℕ, List, Result, Ok, take, drop, length}
use Rattle.std.specs.List.{All}
use Rattle.sym_core.specs.declared.refusal.Refusal.{Refusal}
use Rattle.sym_filter.specs.declared.kinds.Kind.{Kind}
use Rattle.sym_recent.specs.declared.table.Entry.{Entry}
use Rattle.sym_recent.specs.declared.table.Table.{Table}

-- An entry's symbol and its text are among these bytes, one after the other, and the text is what is answered for the symbol.
abbrev pub IsKept : (Kind → List ℕ → Result (List ℕ) Refusal) → List ℕ → Entry → Type 0
IsKept answer bytes entry = (entry.at + entry.symbol + entry.text ≤ length bytes)
    × (answer entry.kind (take entry.symbol (drop entry.at bytes)) ≡ Ok (take entry.text (drop (entry.at + entry.symbol) bytes)))

-- Each text that a table keeps is what is answered for its symbol.
abbrev pub Keeps : (Kind → List ℕ → Result (List ℕ) Refusal) → Table → Type 0
Keeps answer table = All (IsKept answer table.bytes.items) table.entries.items

-- A table has few bytes and few entries, whatever symbols came.
abbrev pub IsFew : Table → Type 0
IsFew table = (length table.bytes.items ≤ 1_179_648) × (length table.entries.items ≤ 8_193)
