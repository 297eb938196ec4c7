-- What callers may know of a printer, without its fields.
use Rattle.std.specs.Prelude.{◌≡◌, ℕ, ◌+◌, ◌<◌, length, Option, None, List, [], ◌∷◌, vec_capacity}
use Rattle.sym_core.specs.declared.Refusal.{Refusal}
use Rattle.sym_print.specs.declared.layout.Item.{Item}
use Rattle.sym_print.specs.declared.layout.Part.{Part}
use Rattle.sym_print.specs.declared.layout.Part.TheVariants.{Sub}
use Rattle.sym_print.specs.declared.printer.Printer.{Printer}
use Rattle.sym_print.specs.Progress.{refusals}

module _ {C : Type 0} where
  -- the parts that are still to be printed, the next one last
  abbrev pub entries : Printer C → List (Part C)
  entries printer = printer.stack.items

  -- the bytes printed so far
  abbrev pub written : Printer C → List ℕ
  written printer = printer.text.items

  -- the cost of the bytes and the items so far
  abbrev pub spent : Printer C → ℕ
  spent printer = printer.meter.spent

  -- the most that may be spent
  abbrev pub may_spend : Printer C → ℕ
  may_spend printer = printer.meter.limit

  -- how many steps were taken; a refused step counts, too
  abbrev pub taken : Printer C → ℕ
  taken printer = printer.meter.steps + refusals printer.refusal

  -- the refusal that was answered, if any was
  abbrev pub refused : Printer C → Option Refusal
  refused printer = printer.refusal

  -- how many entries fit without taking memory
  abbrev pub entry_room : Printer C → ℕ
  entry_room printer = vec_capacity printer.stack

  -- how many bytes of text fit without taking memory
  abbrev pub text_room : Printer C → ℕ
  text_room printer = vec_capacity printer.text

  -- the list that grows when the part is taken lacks room: that of entries for eight parts, or the text for the part's bytes
  abbrev pub LacksRoom : Printer C → (bytes_of : Part C → List ℕ) → Part C → Type 0
  LacksRoom printer bytes_of (Sub _) = entry_room printer < length (entries printer) + 8
  LacksRoom printer bytes_of part = text_room printer < length (written printer) + length (bytes_of part)

  -- all of the root is still to be printed, and nothing was spent or refused
  pub record Begins (printer : Printer C) (root : Item C) (limit : ℕ) : Type 0 where
    pub whole : entries printer ≡ Sub root ∷ []
    pub no_text : written printer ≡ []
    pub nothing_spent : spent printer ≡ 0
    pub bounded : may_spend printer ≡ limit
    pub no_step : taken printer ≡ 0
    pub no_refusal : refused printer ≡ None
