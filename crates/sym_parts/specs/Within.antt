-- What parts take from their stretches, and spellings whose bytes are within a symbol.
use Rattle.std.specs.Prelude.{◌≡◌, ℕ, ◌≤◌}
use Rattle.std.specs.List.{All}
use Rattle.sym_parts.specs.declared.part.Part.{Part}
use Rattle.sym_parts.specs.declared.spelling.Span.{Span}
use Rattle.sym_parts.specs.declared.role.Role.TheVariants as role
use Rattle.sym_parts.specs.declared.stretch.Stretch.{Stretch}
use Rattle.sym_parts.specs.Spelling.{Spelling}
use Rattle.sym_parts.specs.Words.{role_number}

-- the part has the role, the place and the length of the stretch
pub record IsAsStretch (stretch : Stretch) (part : Part) : Type 0 where
  pub role : part.role ≡ stretch.role
  pub start : part.start ≡ stretch.start
  pub length : part.length ≡ stretch.length

-- the part is at the end of a text, without a byte of it, and is of a role that isn't printed
pub record IsUnprinted (end : ℕ) (part : Part) : Type 0 where
  pub start : part.start ≡ end
  pub length : part.length ≡ 0
  pub role : role_number role.Hash ≤ role_number part.role

-- the span is within a symbol of this length
abbrev pub IsSpanWithin : (length : ℕ) → Span → Type 0
IsSpanWithin length span = (span.from ≤ span.to) × (span.to ≤ length)

-- all spans of the spelling are within a symbol of this length
pub record IsWithin (length : ℕ) (s : Spelling) : Type 0 where
  pub others : IsSpanWithin length s.others
  pub spans : All (λ spelled. IsSpanWithin length spelled.span) s.spans
  pub specials : All (IsSpanWithin length) s.specials
  pub tags : All (IsSpanWithin length) s.tags
  pub argument_lists : All (IsSpanWithin length) s.argument_lists
  pub arguments : All (λ item. IsSpanWithin length item.span) s.arguments
  pub parameters : All (λ item. IsSpanWithin length item.span) s.parameters
  pub elements : All (IsSpanWithin length) s.elements

-- the bytes of a part are within a symbol of this length
abbrev pub IsSpelledWithin : (length : ℕ) → Part → Type 0
IsSpelledWithin length part = (part.from ≤ part.to) × (part.to ≤ length)
