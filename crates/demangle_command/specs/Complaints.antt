-- What is said of a command line that isn't accepted.
use Rattle.std.specs.Prelude.{◌≡◌, ℕ, List, [], ◌∷◌, ◌++◌, codes}
use Rattle.demangle_command.specs.Texts.{bytes_of}

-- the line of a reason
abbrev pub complaint_of : List ℕ → List ℕ
complaint_of reason = codes "demangle: " ++ reason ++ codes "; see demangle --help" ++ 10 ∷ []

-- a line is the complaint for some reason
abbrev pub IsComplaint : List ℕ → Type 0
IsComplaint line = (reason : List ℕ) × (line ≡ complaint_of reason)

-- a message that ends with the given word in quotes
abbrev pub quoted : List ℕ → List ℕ → List ℕ
quoted words text = words ++ codes " '" ++ bytes_of text ++ 39 ∷ []

-- no style has the name that is given
abbrev pub unknown_style : List ℕ → List ℕ
unknown_style name = quoted (codes "unknown style") name ++ codes "; known: auto, gnu-v3, rust, none"

-- no spelling has the name that is given
abbrev pub unknown_spelling : List ℕ → List ℕ
unknown_spelling name = quoted (codes "unknown spelling") name ++ codes "; known: plain, gnu"

-- no colouring has the name that is given
abbrev pub unknown_coloring : List ℕ → List ℕ
unknown_coloring name = quoted (codes "unknown color") name ++ codes "; known: auto, always, never"

-- what is said where no argument is a symbol, and one of them is a file
abbrev pub hint_of : List ℕ → List ℕ
hint_of word = codes "demangle: " ++ word ++ codes " is not a name; for a file: demangle < " ++ word ++ 10 ∷ []
