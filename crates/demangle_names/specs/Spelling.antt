-- How texts are spelled.
use Rattle.std.specs.Prelude.{◌≡◌, ◌≢◌, ℕ, List, Bool, true, false, Option, Some, None, codes}
use Rattle.demangle_names.specs.declared.spelling.Spelling.{Spelling}
use Rattle.demangle_names.specs.declared.spelling.Spelling.TheVariants as spelling

-- the spelling with this name, or none
abbrev pub IsSpelling : List ℕ → Option Spelling → Type 0
IsSpelling name (Some spelling.Plain) = name ≡ codes "plain"
IsSpelling name (Some spelling.Gnu) = name ≡ codes "gnu"
IsSpelling name None = (name ≢ codes "plain") × (name ≢ codes "gnu")

-- whether texts are spelled as GNU's demangler spells them
abbrev pub is_gnu : Spelling → Bool
is_gnu spelling.Plain = false
is_gnu spelling.Gnu = true
