-- The laws of a grammar, each about one rule.
use Rattle.sym_shape.specs.declared.rule.TheConstants.{TOKEN}
use Rattle.std.specs.Prelude.{◌≡◌, ℕ, ◌<◌, ◌≤◌, List, [], ◌∷◌, length, Bool, true, false, ◌&&◌, ◌||◌, ◌==◌, Some, is_some, ⊤, ◌⊎◌}
use Rattle.sym_core.specs.Number.{is_decimal_digit}
pub use Rattle.sym_core.specs.Token.{begins_number, ends_name, ends_number}
use Rattle.sym_shape.specs.declared.rule.Rule.{Rule}
use Rattle.sym_shape.specs.declared.rule.Sym.{Sym}
use Rattle.sym_shape.specs.declared.rule.Sym.TheVariants.{Kind, Name, Number, Byte}
use Rattle.sym_shape.specs.Table.{Table, symbols_of}

-- the symbol may begin with the byte
abbrev pub begins : Table → Sym → ℕ → Bool
begins g (Kind k) b = is_some (g.rule k b)
begins g Name b = is_decimal_digit b
begins g (Number kind) b = begins_number kind b
begins g (Byte c) b = c == b

abbrev pub can_be_empty : Table → Sym → Bool
can_be_empty g (Kind k) = g.may_be_empty k
can_be_empty g Name = false
can_be_empty g (Number kind) = false
can_be_empty g (Byte c) = false

-- the byte may follow the symbol
abbrev pub may_follow : Table → Sym → ℕ → Bool
may_follow g (Kind k) b = g.after k b
may_follow g Name b = ends_name g.names b
may_follow g (Number kind) b = ends_number kind b
may_follow g (Byte c) b = true

-- these symbols may begin with the byte, or they may all be empty and the byte may follow their kind
abbrev pub comes_next : Table → ℕ → List Sym → ℕ → Bool
comes_next g k [] b = g.after k b
comes_next g k (x ∷ xs) b = begins g x b || (can_be_empty g x && comes_next g k xs b)

-- each symbol of a rule of kind k may be followed by the bytes that may come after it there
abbrev pub KeepsAfter : Table → ℕ → List Sym → Type 0
KeepsAfter g k [] = ⊤
KeepsAfter g k (x ∷ xs) = ((b : ℕ) → b < 256 → comes_next g k xs b ≡ true → may_follow g x b ≡ true) × KeepsAfter g k xs

-- the symbol is one of the grammar
abbrev pub IsSymbol : Table → Sym → Type 0
IsSymbol g (Kind k) = k < g.kinds
IsSymbol g Name = ⊤
IsSymbol g (Number kind) = ⊤
IsSymbol g (Byte c) = c < 256

abbrev pub AreSymbols : Table → List Sym → Type 0
AreSymbols g [] = ⊤
AreSymbols g (x ∷ xs) = IsSymbol g x × AreSymbols g xs

-- a kind's rank is above those of the kinds that its chains begin with, so at most three chains rest on one another
abbrev pub rank_of : Table → Sym → ℕ
rank_of g (Kind k) = g.rank k
rank_of g Name = 0
rank_of g (Number kind) = 0
rank_of g (Byte c) = 0

-- a chain of kind k begins with a symbol of a smaller rank that is never empty; the chain is taken at each byte that begins this
-- symbol
abbrev pub IsChain : Table → ℕ → Rule → List Sym → Type 0
IsChain g k rule [] = ⊥
IsChain g k rule (x ∷ xs) =
    (can_be_empty g x ≡ false) × (rank_of g x < g.rank k) × (length xs ≤ 2)
    × ((b : ℕ) → b < 256 → begins g x b ≡ true → g.rule k b ≡ Some rule)

abbrev pub IsBelow : Table → ℕ → Sym → Type 0
IsBelow g h (Kind k) = g.height k < h
IsBelow g h Name = ⊤
IsBelow g h (Number kind) = ⊤
IsBelow g h (Byte c) = ⊤

-- each kind among the symbols has a tree of less than this height
abbrev pub AreBelow : Table → ℕ → List Sym → Type 0
AreBelow g h [] = ⊤
AreBelow g h (x ∷ xs) = IsBelow g h x × AreBelow g h xs

-- the kind has a rule whose kinds have lower trees
pub record HasLowRule (g : Table) (k : ℕ) : Type 0 where
  pub byte : ℕ
  pub is_byte : byte < 256
  pub rule : Rule
  pub found : g.rule k byte ≡ Some rule
  pub below : AreBelow g (g.height k) (symbols_of rule)

-- the laws of the rule that a kind takes at a byte
pub record IsLawfulRule (g : Table) (k : ℕ) (rule : Rule) : Type 0 where
  pub count : rule.count ≤ 5
  pub number : rule.number < TOKEN
  pub symbols : AreSymbols g (symbols_of rule)
  pub after : KeepsAfter g k (symbols_of rule)
  pub chain : rule.eats ≡ false → IsChain g k rule (symbols_of rule)

pub record IsLawful (g : Table) : Type 0 where
  pub start : 0 < g.kinds
  pub rule : (k b : ℕ) (rule : Rule) → k < g.kinds → b < 256 → g.rule k b ≡ Some rule → IsLawfulRule g k rule
  -- a byte that begins a kind that may be empty doesn't follow that kind
  pub apart : (k b : ℕ) → k < g.kinds → b < 256 → g.may_be_empty k ≡ true → is_some (g.rule k b) ≡ true → g.after k b ≡ false
  -- at most three chains rest on one another
  pub rank : (k : ℕ) → k < g.kinds → g.rank k ≤ 3
  -- each kind has a tree
  pub height : (k : ℕ) → k < g.kinds → (g.may_be_empty k ≡ true) ⊎ HasLowRule g k
