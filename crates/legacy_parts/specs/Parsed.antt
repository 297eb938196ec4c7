-- What is found for a legacy Rust name: its text, what it is, and the parts of the text.
use Rattle.std.specs.Prelude.{◌≡◌, ℕ, List, Ok, length}
use Rattle.rust_legacy.specs.Path.{Path}
use Rattle.rust_legacy.specs.Text.{shown_path}
use Rattle.sym_print.specs.Answer.{text_within}
use Rattle.sym_parts.specs.Marked.{stretches_of}
use Rattle.sym_parts.specs.Spelling.{parts_spelled}
use Rattle.legacy_parts.specs.Kinds.{kind_of_path}
use Rattle.legacy_parts.specs.Roles.{path_marked}
use Rattle.legacy_parts.specs.Spelled.{spelling_of_path}
use Rattle.legacy_parts.specs.declared.parsing.LegacyName.{LegacyName}

-- The name has the path's kind and text, and the text costs at most the limit. The parts are those of the text, with the bytes
-- of the symbol that spell them.
pub record IsParsed (limit : ℕ) (symbol : List ℕ) (path : Path) (found : LegacyName) : Type 0 where
  pub text : text_within limit (shown_path path) ≡ Ok found.text.items
  pub kind : found.kind ≡ kind_of_path path
  pub parts : found.parts.items ≡ parts_spelled (spelling_of_path symbol path) (length found.text.items) (stretches_of (path_marked path))
