-- The small language keeps the laws of every language.
use Rattle.std.proofs.Common.{◌≡◌, refl, ◌∙◌, ap, arith, ℕ, List, ◌++◌, length, length-append}
use Rattle.std.proofs.lemmas.List.{get_or_append_left}
use Rattle.sym_core.specs.declared.NameClass.{NameClass}
use Rattle.sym_shape.specs.Sheet.{table_of}
use Rattle.sym_shape.specs.SheetLaws.{lawful_sheet}
use Rattle.sym_link.specs.declared.counting.Counts.{Counts}
use Rattle.sym_link.specs.declared.counting.Part.{Part}
use Rattle.sym_link.specs.declared.counting.Part.TheVariants as parts
use Rattle.sym_link.specs.Linking.{IsLinking}
use Rattle.sym_link.specs.Sound.{lawful_sound}
use Rattle.sym_link.specs.OwingLaws.{cost_rows}
use Rattle.sym_link.specs.Counting.{blank, sheet, IsNumber, counting}

stays : (old new : Counts) (part : Part) (value : ℕ) → (more : List ℕ) × (new.counts.items ≡ old.counts.items ++ more) → IsNumber old part value → IsNumber new part value
stays old new (parts.Token span) value grows is = is
stays old new (parts.Node node) value grows is = (
  omega (arith, is.0, ap (λ xs. length xs) grows.1, length-append old.counts.items grows.0),
  rw grows.1 (get_or_append_left old.counts.items grows.0 0 node is.0 ∙ is.1),
)

pub counting_laws : (s : List ℕ) → IsLinking (counting s)
counting_laws s = record {
  sound = lawful_sound (table_of blank sheet NameClass.Rust) (lawful_sheet blank sheet NameClass.Rust refl);
  starts = refl;
  part_stays = stays;
  kept_stays = λ old new kept rule grows is. is;
  paid_more = λ nodes few more le paid. omega (arith, le, paid);
  keeps_count = λ rule known state. refl;
  few = λ tree is rows. omega (arith, rows, cost_rows (λ number held. 1) (λ number. omega arith) tree);
  two = λ number held. omega arith;
  closing = λ number own. omega arith;
  two_at_once = λ s around held from left rule taken parts rest stands next at_once. record { closed = λ own counted. omega arith; refused = omega arith };
}
