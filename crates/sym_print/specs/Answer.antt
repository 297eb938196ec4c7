-- What printing an item answers within a limit.
use Rattle.std.specs.Prelude.{ℕ, true, false, List, Result, Ok, Err, nat_le}
use Rattle.sym_core.specs.declared.Refusal.{Refusal}
use Rattle.sym_print.specs.Unshared.{Unshared, text_of, cost_of}

-- the text of an item with these parts, where the item costs at most the limit; otherwise the refusal that it is too
-- long
abbrev pub text_within : ℕ → Unshared → Result (List ℕ) Refusal
text_within limit parts = elim (nat_le (cost_of parts) limit) [ true ↦ Ok (text_of parts) | false ↦ Err Refusal.TooLong ]
