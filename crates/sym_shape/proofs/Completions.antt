-- Symbols have trees.
use Rattle.sym_shape.proofs.Basics.{ℕ, zero, suc, ◌+◌, ◌<◌, ◌≤◌, inl, inr, List, [], ◌∷◌, refl, arith, if◌then◌else◌, Sym, Kind, Name, Number, Byte, Table, symbols_of, Tree, branch, empty, token, fixed, Forest, nothing, grown, IsTree, AreTrees, TakesRule, IsSymbol, AreSymbols, AreBelow, IsBelow, IsLawful}
use Rattle.sym_shape.proofs.Tokens.{number_made, name_made}

abbrev HasTree : Table → Sym → Type 0
HasTree g x = (t : Tree) × IsTree g x t

abbrev HasForest : Table → List Sym → Type 0
HasForest g xs = (f : Forest) × AreTrees g xs f

abbrev HasLowTrees : Table → ℕ → Type 0
HasLowTrees g n = (k : ℕ) → k < g.kinds → g.height k < n → HasTree g (Kind k)

low_symbol : (g : Table) (n : ℕ) → HasLowTrees g n → (h : ℕ) → h ≤ n → (x : Sym) → IsSymbol g x → IsBelow g h x → HasTree g x
low_symbol g n trees h le (Kind k) known below = trees k known (omega arith)
low_symbol g n trees h le Name known below = let made = name_made g in (token made.0, made.1)
low_symbol g n trees h le (Number kind) known below = let made = number_made kind g in (token made.0, made.1)
low_symbol g n trees h le (Byte c) known below = (fixed c, refl)

low_forest : (g : Table) (n : ℕ) → HasLowTrees g n → (h : ℕ) → h ≤ n → (xs : List Sym) → AreSymbols g xs → AreBelow g h xs → HasForest g xs
low_forest g n trees h le [] known below = (nothing, tt)
low_forest g n trees h le (x ∷ xs) known below =
    let first = low_symbol g n trees h le x known.0 below.0 in
    let rest = low_forest g n trees h le xs known.1 below.1 in
    (grown first.0 rest.0, (first.1, rest.1))

low_kind : (g : Table) (lawful : IsLawful g) (n : ℕ) → HasLowTrees g n
low_kind g lawful zero k known low = absurd (omega arith)
low_kind g lawful (suc n) k known low =
    elim (lawful.height k known) [
      | inl bare ↦ (empty, bare)
      | inr has ↦ (
          let law = lawful.rule k has.byte has.rule known has.is_byte has.found in
          let parts = low_forest g n (low_kind g lawful n) (g.height k) (omega arith) (symbols_of has.rule) law.symbols has.below in
          let taken : List ℕ = if has.rule.eats then has.byte ∷ [] else [] in
          let takes : TakesRule g k has.rule taken = record { byte = has.byte; is_byte = has.is_byte; found = has.found; takes = refl } in
          (branch has.rule taken parts.0, (takes, parts.1)))
    ]

-- each list of symbols has a forest
pub some_forest : (g : Table) (lawful : IsLawful g) (xs : List Sym) → AreSymbols g xs → HasForest g xs
some_forest g lawful [] known = (nothing, tt)
some_forest g lawful (x ∷ xs) known =
    let rest = some_forest g lawful xs known.1 in
    let first = some_symbol x known.0 in
    (grown first.0 rest.0, (first.1, rest.1))
  where
    some_symbol : (y : Sym) → IsSymbol g y → HasTree g y
    some_symbol (Kind k) is = low_kind g lawful (g.height k + 1) k is (omega arith)
    some_symbol Name is = let made = name_made g in (token made.0, made.1)
    some_symbol (Number kind) is = let made = number_made kind g in (token made.0, made.1)
    some_symbol (Byte c) is = (fixed c, refl)
