-- A mangling, and what it says of the bytes of a symbol: what they are read as, and what the answer is.
use Rattle.std.specs.Prelude.{◌≡◌, ◌⊎◌, ℕ, List, Result, Ok, Err, ⊤}
use Rattle.std.specs.Result.{IfErr}
use Rattle.sym_core.specs.declared.refusal.Refusal.{Refusal}
use Rattle.sym_core.specs.declared.refusal.Refusal.TheVariants.{Malformed, BadReference, BadValue, TooLong, Memory}
use Rattle.sym_shape.specs.declared.rule.Sym.TheVariants.{Kind}
use Rattle.sym_shape.specs.Law.{IsLawful}
use Rattle.sym_shape.specs.Table.{Table}
use Rattle.sym_shape.specs.Tree.{Tree, IsTree, IsMalformed, IsWellShaped, spell}
use Rattle.sym_shape.proofs.Deciding.{outcome}
use Rattle.sym_print.specs.declared.detail.Detail.{Detail}
use Rattle.sym_print.specs.Unshared.{Unshared}
use Rattle.sym_print.specs.Answer.{text_within}

-- a refusal that a well shaped symbol may have
abbrev pub IsBadToken : Refusal → Type 0
IsBadToken (BadReference at) = ⊤
IsBadToken (BadValue at) = ⊤
IsBadToken _ = ⊥

-- A mangling: its grammar, what a shape denotes, and how that is shown. W are the trees that symbols denote.
pub record Mangled (W : Type 0) : Type 0 where
  pub table : Table
  pub unfolded : Tree → Result W Refusal
  pub shown : Detail → W → Unshared
  pub lawful : IsLawful table

-- a well shaped symbol is refused only for a bad token
abbrev pub RefusesBadTokens : {W : Type 0} → Mangled W → Type 0
RefusesBadTokens m = (shape : Tree) → IsTree m.table (Kind 0) shape → IfErr (m.unfolded shape) IsBadToken

-- the symbol has one shape, which denotes this result
abbrev pub StandsFor : {W : Type 0} → Mangled W → List ℕ → Result W Refusal → Type 0
StandsFor m s result = (shape : Tree) × IsTree m.table (Kind 0) shape × (spell shape ≡ s) × (result ≡ m.unfolded shape)

-- a linker refuses for want of memory, or because the symbol's shape denotes the refusal
abbrev pub IsRefused : {W : Type 0} → Mangled W → List ℕ → Refusal → Type 0
IsRefused m s refusal = (refusal ≡ Memory) ⊎ StandsFor m s (Err refusal)

-- what a symbol is read as: a refusal at its first bad byte or, if no byte is bad, what its shape denotes
pub data IsReading {W : Type 0} (m : Mangled W) (s : List ℕ) (result : Result W Refusal) : Type 0 where
  misshapen : (at : ℕ) → IsMalformed m.table s at → result ≡ Err (Malformed at) → IsReading m s result
  well_shaped : StandsFor m s result → IsReading m s result

-- the answer to a symbol that has this reading
abbrev pub answer_of_symbol : {W : Type 0} → Mangled W → Detail → ℕ → Result W Refusal → Result (List ℕ) Refusal
answer_of_symbol m detail limit (Ok symbol) = text_within limit (m.shown detail symbol)
answer_of_symbol m detail limit (Err refusal) = Err refusal

-- the answer to a well shaped symbol
abbrev pub answer_of_shape : {W : Type 0} → Mangled W → Detail → ℕ → Tree → Result (List ℕ) Refusal
answer_of_shape m detail limit shape = answer_of_symbol m detail limit (m.unfolded shape)

-- the result is the answer to the symbol at a limit, in a detail
pub data IsAnswer {W : Type 0} (m : Mangled W) (detail : Detail) (s : List ℕ) (limit : ℕ) (result : Result (List ℕ) Refusal) : Type 0 where
  malformed : (at : ℕ) → IsMalformed m.table s at → result ≡ Err (Malformed at) → IsAnswer m detail s limit result
  shaped : (shape : Tree) → IsTree m.table (Kind 0) shape → spell shape ≡ s → result ≡ answer_of_shape m detail limit shape → IsAnswer m detail s limit result

-- The answer to a symbol at a limit: the answer to its shape, or a refusal at its first bad byte. A list with an item that
-- isn't a byte is refused at once.
unfoldable pub answer : {W : Type 0} → Mangled W → Detail → List ℕ → ℕ → Result (List ℕ) Refusal
answer m detail s limit = outcome m.table m.lawful (answer_of_shape m detail limit) (λ at. Err (Malformed at)) (Err (Malformed 0)) s

-- A refusal has its reason in the symbol. Only what isn't well shaped is malformed, and only what is well shaped is refused for
-- a bad token or for what its text costs. Want of memory isn't a property of the symbol.
abbrev pub HasReason : Table → List ℕ → Refusal → Type 0
HasReason g s (Malformed at) = IsMalformed g s at
HasReason g s (BadReference at) = IsWellShaped g s
HasReason g s (BadValue at) = IsWellShaped g s
HasReason g s TooLong = IsWellShaped g s
HasReason g s Memory = ⊥
