-- Components whose tree is spelled out again, although an earlier component has the same tree.
use Rattle.std.specs.Prelude.{◌≡◌, List, [], ◌∷◌, ◌++◌, ◌⊎◌, Bool, true, false, ◌||◌}
use Rattle.cpp_grammar.specs.Term.{Term}
use Rattle.cpp_grammar.specs.Scope.{is_open}
use Rattle.cpp_press_laws.specs.Components.{Component}
use Rattle.cpp_press_laws.specs.Same.{same_tree}
use Rattle.cpp_press_laws.specs.Apart.{IsNeverReferred, spelled_components}

-- one of the components has the tree, in whatever encoding
unfoldable pub is_spelled : Term → List Component → Bool
is_spelled own [] = false
is_spelled own (c ∷ cs) = same_tree own c.tree || is_spelled own cs

unfoldable pub repeated : (before components : List Component) → List Component
repeated before [] = []
repeated before (c ∷ cs) = elim (is_spelled c.tree before) [ true ↦ c ∷ repeated (before ++ c ∷ []) cs | false ↦ repeated (before ++ c ∷ []) cs ]

-- the repeated components of a symbol's tree
abbrev pub repeated_components : Term → List Component
repeated_components t = repeated [] (spelled_components t)

-- each repeated component has free parameters, or is a template name at a place in the tree where no reference may
-- occur
abbrev pub HaveReasons : Term → (repeated : List Component) → Type 0
HaveReasons tree [] = Unit {0}
HaveReasons tree (c ∷ cs) = ((is_open c.tree ≡ true) ⊎ IsNeverReferred c.tree tree) × HaveReasons tree cs

abbrev pub RepeatedComponentsHaveReasons : Type 0
RepeatedComponentsHaveReasons = (t : Term) → HaveReasons t (repeated_components t)
