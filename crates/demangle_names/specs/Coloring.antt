-- When texts are coloured.
use Rattle.std.specs.Prelude.{◌≡◌, ◌≢◌, ℕ, List, Bool, true, false, Option, Some, None, codes}
use Rattle.demangle_names.specs.declared.coloring.Coloring.{Coloring}
use Rattle.demangle_names.specs.declared.coloring.Coloring.TheVariants as coloring

-- the colouring with this name, or none
abbrev pub IsColoring : List ℕ → Option Coloring → Type 0
IsColoring name (Some coloring.Auto) = name ≡ codes "auto"
IsColoring name (Some coloring.Always) = name ≡ codes "always"
IsColoring name (Some coloring.Never) = name ≡ codes "never"
IsColoring name None = (name ≢ codes "auto") × (name ≢ codes "always") × (name ≢ codes "never")

-- whether texts are coloured, by whether they are written to a terminal
abbrev pub colors : Coloring → (terminal : Bool) → Bool
colors coloring.Auto terminal = terminal
colors coloring.Always terminal = true
colors coloring.Never terminal = false
