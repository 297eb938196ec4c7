-- A grammar as a table, and the symbols of its rules.
use Rattle.std.specs.Prelude.{ℕ, List, take, Bool, Option}
use Rattle.sym_core.specs.declared.NameClass.{NameClass}
use Rattle.sym_core.specs.Token.{IsName, IsNumberToken}
pub use Rattle.sym_core.specs.Token.{Token, bytes_of}
use Rattle.sym_shape.specs.declared.rule.Rule.{Rule}
use Rattle.sym_shape.specs.declared.rule.Sym.{Sym}
use Rattle.sym_shape.specs.declared.rule.Sym.TheVariants.{Kind, Name, Number, Byte}

-- A grammar: its number of kinds, the rule that a kind takes at a byte, whether the kind may be empty, the bytes that may follow
-- it, how many chains may rest on one another from it, how high its lowest tree is, and how the grammar's names are spelled.
pub record Table : Type 0 where
  pub kinds : ℕ
  pub rule : ℕ → ℕ → Option Rule
  pub may_be_empty : ℕ → Bool
  pub after : ℕ → ℕ → Bool
  pub rank : ℕ → ℕ
  pub height : ℕ → ℕ
  pub names : NameClass

-- the symbols of a rule
abbrev pub symbols_of : Rule → List Sym
symbols_of rule = take rule.count rule.symbols

-- the token is spelled as the symbol requires, in a grammar with such names
abbrev pub IsToken : NameClass → Sym → Token → Type 0
IsToken names (Kind k) token = ⊥
IsToken names Name token = IsName names token
IsToken names (Number kind) token = IsNumberToken kind token
IsToken names (Byte b) token = ⊥
