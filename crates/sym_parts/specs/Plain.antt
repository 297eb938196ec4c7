-- What is printed, without a mark or as one part; and the suffix of a symbol.
use Rattle.std.specs.Prelude.{ℕ, List}
use Rattle.sym_print.specs.Unshared.{Unshared, bytes}
use Rattle.sym_print.specs.Unshared as printed
use Rattle.sym_parts.specs.Marked.{Marked, done, text, marked}
use Rattle.sym_parts.specs.declared.role.Role.{Role}
use Rattle.sym_parts.specs.declared.spelling.Ordinal.{Ordinal}
use Rattle.sym_parts.specs.declared.role.Role.TheVariants as role

-- an item by its number
abbrev pub numbered : ℕ → Ordinal
numbered n = record { item = n; element = 0 }

-- the ordinal of a part that comes once
abbrev pub only : Ordinal
only = numbered 0

-- what is printed, without a mark
abbrev pub plain : Unshared → Marked
plain u = text (printed.text_of u) done

-- what is printed, as one part
abbrev pub whole : Role → Ordinal → Unshared → Marked
whole r o u = marked r o (plain u) done

-- a text as one part, before the rest
abbrev pub alone : Role → Ordinal → List ℕ → (rest : Marked) → Marked
alone r o b rest = marked r o (text b done) rest

-- the suffix of a clone, which has parentheses around it
unfoldable pub suffixed : Unshared → Marked
suffixed (bytes opening (bytes suffix rest)) = text opening (alone role.Suffix only suffix (plain rest))
suffixed u = plain u
