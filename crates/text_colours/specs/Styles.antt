-- The styles of parts, as the sequences for a terminal that begin and end them.
use Rattle.std.specs.Prelude.{ℕ, List, [], ◌∷◌}
use Rattle.sym_parts.specs.declared.role.Role.{Role}
use Rattle.sym_parts.specs.declared.role.Role.TheVariants.{Base, GenericArguments, Parameters}

-- ESC, a bracket, a digit and an m
abbrev pub sequence : (digit : ℕ) → List ℕ
sequence digit = 27 ∷ 91 ∷ digit ∷ 109 ∷ []

-- 1 is bold, 2 is dim, and 0 is plain again
abbrev pub bold : List ℕ
bold = sequence 49

abbrev pub dim : List ℕ
dim = sequence 50

abbrev pub plain : List ℕ
plain = sequence 48

-- the name itself is bold, arguments and parameters are dim, and nothing else has a style
abbrev pub style_of : Role → List ℕ
style_of Base = bold
style_of GenericArguments = dim
style_of Parameters = dim
style_of other = []
