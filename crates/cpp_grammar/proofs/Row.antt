-- Rows of symbols with their answers, and a test that computes them.
use Rattle.cpp_grammar.proofs.Basics.{ℕ, List, [], ◌∷◌, Bool, true, false, ◌&&◌, nat_eq, codes, Refusal, BadReference, BadValue, Detail, same_bytes}
use Prim.Native.String.{String}
use Rattle.sym_print.specs.declared.detail.Detail.TheVariants.{Full, Brief}
use Rattle.cpp_grammar.proofs.Reader.{Seen, no_shape, refused, seen, see}

pub record Row : Type 0 where
  pub detail : Detail
  pub symbol : List ℕ
  pub wanted : Seen

-- the symbol has this text, at this cost
abbrev pub prints : String → String → ℕ → Row
prints symbol text cost = record { detail = Full; symbol = codes symbol; wanted = seen (codes text) cost }

-- likewise in the brief detail
abbrev pub briefly : String → String → ℕ → Row
briefly symbol text cost = record { detail = Brief; symbol = codes symbol; wanted = seen (codes text) cost }

-- the first bad token of the symbol is a reference at this place
abbrev pub refers_badly : String → ℕ → Row
refers_badly symbol at = record { detail = Full; symbol = codes symbol; wanted = refused (BadReference at) }

-- the first bad token of the symbol is a number at this place
abbrev pub counts_badly : String → ℕ → Row
counts_badly symbol at = record { detail = Full; symbol = codes symbol; wanted = refused (BadValue at) }

-- the symbol isn't well shaped
abbrev pub has_no_shape : String → Row
has_no_shape symbol = record { detail = Full; symbol = codes symbol; wanted = no_shape }

unfoldable pub same_refusal : Refusal → Refusal → Bool
same_refusal (BadReference a) (BadReference b) = nat_eq a b
same_refusal (BadValue a) (BadValue b) = nat_eq a b
same_refusal _ _ = false

unfoldable pub same_seen : Seen → Seen → Bool
same_seen no_shape no_shape = true
same_seen (refused a) (refused b) = same_refusal a b
same_seen (seen t c) (seen u d) = nat_eq c d && same_bytes t u
same_seen _ _ = false

unfoldable pub are_right : List Row → Bool
are_right [] = true
are_right (row ∷ rows) = same_seen (see row.detail row.symbol) row.wanted && are_right rows
