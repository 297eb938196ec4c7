-- What is known of a text: what its symbol is, and its parts.
use Rattle.std.specs.Prelude.{ℕ, List, Option, Some, None}
use Rattle.sym_filter.specs.declared.kinds.Kind.{Kind}
use Rattle.sym_parts.specs.declared.kind.NameKind.{NameKind}
use Rattle.sym_parts.specs.declared.part.Part.{Part}
use Rattle.text_details.specs.declared.details.Details.{Details as Details-type}

-- what a symbol is, and the parts of its text
pub record Details : Type 0 where
  pub kind : NameKind
  pub parts : List Part

-- which details are known of the texts of symbols
abbrev pub Detailing : Type 0
Detailing = Kind → List ℕ → Option Details

-- no details
abbrev pub no_details : Detailing
no_details kind symbol = None

-- details as code has them
abbrev pub details_in : Option Details-type → Option Details
details_in (Some details) = Some (record { kind = details.kind; parts = details.parts.items })
details_in None = None
