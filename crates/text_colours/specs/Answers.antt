-- What is answered where the parts of texts are coloured.
use Rattle.std.specs.Prelude.{ℕ, List, Option, Some, None}
use Rattle.sym_filter.specs.Runs.{Answering}
use Rattle.text_details.specs.Details.{Details, Detailing}
use Rattle.sym_short.specs.Rewriting.{answers_with}
use Rattle.text_colours.specs.Colored.{colored}

-- a text with its parts in their styles, where its parts are known
abbrev pub colored_text : Option Details → List ℕ → List ℕ
colored_text None text = text
colored_text (Some details) text = colored text details.parts

-- the answers with coloured texts, by the answers without colours; a symbol that is refused is refused for the same reason
abbrev pub colored_answers : Detailing → Answering → Answering
colored_answers details answers = answers_with (λ kind symbol. colored_text (details kind symbol)) answers
