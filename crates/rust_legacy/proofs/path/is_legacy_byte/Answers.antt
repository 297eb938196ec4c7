-- The table is compared with the definition at each of the 256 bytes, by computing.
use Rattle.rust_legacy.proofs.Basics.{◌≡◌, ℕ, ◌<◌, false, map, get_or, refl, ap, ◌∙◌, arith, range_with_len, is_legacy_byte}
use Rattle.std.proofs.lemmas.List.FromFn.{get_or-map-range_with_len}
use Rattle.rust_legacy.specs.declared.path.TheConstants.{LEGACY_BYTES}
use Rattle.rust_legacy.proofs.path.is_legacy_byte.Goals as goal

table_is : LEGACY_BYTES ≡ map is_legacy_byte (range_with_len 0 256)
table_is = refl

told : (byte : ℕ) → byte < 256 → get_or LEGACY_BYTES byte false ≡ is_legacy_byte byte
told byte h = ap (λ t. get_or t byte false) table_is ∙ get_or-map-range_with_len is_legacy_byte 0 256 byte byte false h (omega arith)

pub returns : goal.returns
returns c = told c.args.byte (omega arith)
