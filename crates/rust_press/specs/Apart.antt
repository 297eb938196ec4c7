-- No two components that are spelled out are the same.
use Rattle.std.specs.Prelude.{◌≡◌, List, [], ◌∷◌, false}
use Rattle.rust_tree.specs.Symbol as tree
use Rattle.rust_tree.specs.Tree.{Tree}
use Rattle.rust_press.specs.Same.{same_tree}
use Rattle.rust_press.specs.Pressing.{Component, press_symbol}

-- no component is the tree
abbrev pub IsNew : Tree → List Component → Type 0
IsNew own [] = Unit {0}
IsNew own (c ∷ cs) = (same_tree own c.own ≡ false) × IsNew own cs

abbrev pub AreApart : List Component → Type 0
AreApart [] = Unit {0}
AreApart (c ∷ cs) = IsNew c.own cs × AreApart cs

-- the components that pressing a symbol spells out
abbrev pub spelled_components : tree.Symbol → List Component
spelled_components symbol = (press_symbol symbol 0 []).components

abbrev pub ComponentsAreApart : Type 0
ComponentsAreApart = (symbol : tree.Symbol) → AreApart (spelled_components symbol)
