-- How trees compare with the components before them.
use Rattle.std.specs.Prelude.{ℕ, Bool, true, false, ◌&&◌, codes, Option, Some, None}
use Rattle.cpp_grammar.specs.Term.{Term, in_std, within, instance, tagged}
use Rattle.cpp_press_laws.specs.Components.{Spelling}
use Rattle.cpp_press_laws.specs.Pressing.{is_operator, is_name, is_nested}
use Rattle.cpp_grammar.specs.Scope.{without_tags}
use Rattle.cpp_spelling.specs.declared.steps.Standing.{Standing}
use Rattle.cpp_spelling.specs.declared.task.Way.{Way}
use Rattle.cpp_spelling.specs.Tasks.{◌onto◌, written, in_way, ending}
use Rattle.cpp_spelling.specs.Spelled.{is_compared, arguments_onto}

-- how a compared tree compares with the components, by the number of the first component that is equal to it
unfoldable pub compared : Option ℕ → Standing
compared (Some number) = Standing.Known number
compared None = Standing.Fresh

unfoldable pub standing_of : Way → Term → (first : Option ℕ) → Standing
standing_of way t first = elim (is_compared way t) [ true ↦ compared first | false ↦ Standing.Apart ]

unfoldable pub template_standing_of : Term → (first : Option ℕ) → Standing
template_standing_of name first = elim (is_name name) [ true ↦ compared first | false ↦ Standing.Apart ]

unfoldable pub needs_N : (in_type : Bool) → Term → Bool
needs_N in_type (in_std p) = in_type && is_operator p
needs_N in_type (within prefix p) = true
needs_N in_type (tagged of_structor name tag) = is_nested (without_tags name)
needs_N in_type _ = false

unfoldable pub is_instance : Term → Bool
is_instance (instance template arguments) = true
is_instance _ = false

-- a template name that is spelled out, the end of its component, and its arguments
abbrev pub between_arguments_onto : (n : ℕ) → (name arguments : Term) → Spelling → Spelling
between_arguments_onto n name arguments rest =
    elim (is_instance name) [
      | true ↦ ending n name onto arguments_onto n arguments rest
      | false ↦ in_way n Way.Between name onto ending n name onto arguments_onto n arguments rest
    ]

unfoldable pub template_onto : (n : ℕ) → (in_type : Bool) → (name arguments : Term) → Spelling → Spelling
template_onto n in_type name arguments rest =
    elim (needs_N in_type name) [
      | true ↦ written (codes "N") onto between_arguments_onto n name arguments (written (codes "E") onto rest)
      | false ↦ between_arguments_onto n name arguments rest
    ]
