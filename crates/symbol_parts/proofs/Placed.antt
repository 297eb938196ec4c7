-- The parts that are answered are in the text, and what spells them is in the symbol.
use Rattle.std.proofs.Common.{◌≡◌, ℕ, List, length, Bool, true, false, Result, Ok, Err, inl, inr, refl, sym, subst}
use Rattle.std.specs.Prelude.{IfOk, nat_le}
use Rattle.std.specs.List.{All}
use Rattle.sym_core.specs.declared.refusal.Refusal.{Refusal}
use Rattle.sym_core.specs.declared.refusal.Refusal.TheVariants.{Malformed, TooLong}
use Rattle.sym_shape.specs.Decided.{AreBytes}
use Rattle.sym_shape.specs.Tree.{AreRowsOf, rows_of}
use Rattle.sym_shape.specs.declared.rule.Row.{Row}
use Rattle.sym_shape.proofs.Deciding.{decided}
use Rattle.sym_print.specs.declared.detail.Detail.{Detail}
use Rattle.sym_print.specs.Unshared.{Unshared, cost_of, text_of}
use Rattle.sym_parts.specs.Marked.{Marked, stretches_of}
use Rattle.sym_parts.specs.Marked as marked
use Rattle.sym_parts.specs.Placed.{ArePlaced}
use Rattle.sym_parts.specs.Spelling.{parts_spelled}
use Rattle.sym_parts.specs.Within.{IsSpelledWithin, IsWithin}
use Rattle.sym_parts.specs.declared.kind.NameKind.{NameKind}
use Rattle.sym_parts.specs.declared.stretch.Stretch.{Stretch}
use Rattle.sym_parts.proofs.PartBytes.{parts-placed, parts-within}
use Rattle.sym_demangle.specs.Mangled.{Mangled, misshapen, well_shaped}
use Rattle.symbol_parts.specs.Parsed.{Marking, Parsed, Spelled, parsed, parsed_of_symbol, with_parts}
use Rattle.symbol_parts.specs.ParsedLaws.{reading_parsed}

-- ## A text

abbrev ArePartsPlaced : Parsed → Type 0
ArePartsPlaced p = ArePlaced (length p.text) p.parts

abbrev ArePartsWithin : ℕ → Parsed → Type 0
ArePartsWithin n p = All (IsSpelledWithin n) p.parts

-- a text, or its refusal where it costs more than the limit
text-placed : (what : NameKind) (spelled : Spelled) (marks : Marked) (shown : Unshared) (b : Bool) → marked.text_of marks ≡ text_of shown
    → IfOk (with_parts what spelled marks (elim b as (λ x. Result (List ℕ) Refusal) [ true ↦ Ok (text_of shown) | false ↦ Err TooLong ])) ArePartsPlaced
unfolding with_parts
text-placed what spelled marks shown true same =
    subst (λ (t : List ℕ). ArePlaced (length t) (parts_spelled (spelled (stretches_of marks)) (length t) (stretches_of marks))) same (parts-placed (spelled (stretches_of marks)) marks)
text-placed what spelled marks shown false same = tt

text-within : (n : ℕ) (what : NameKind) (spelled : Spelled) (marks : Marked) (shown : Unshared) (b : Bool) → IsWithin n (spelled (stretches_of marks))
    → IfOk (with_parts what spelled marks (elim b as (λ x. Result (List ℕ) Refusal) [ true ↦ Ok (text_of shown) | false ↦ Err TooLong ])) (ArePartsWithin n)
unfolding with_parts
text-within n what spelled marks shown true within = parts-within n (spelled (stretches_of marks)) (length (text_of shown)) (stretches_of marks) within
text-within n what spelled marks shown false within = tt

-- ## A symbol

module _ {W : Type 0} (m : Mangled W) (marking : Marking W) (detail : Detail) (limit : ℕ) where
  symbol-placed : ((w : W) (shown : Unshared) → marked.text_of (marking.marked w shown) ≡ text_of shown) → (spelled : Spelled) (r : Result W Refusal)
      → IfOk (parsed_of_symbol m marking detail limit spelled r) ArePartsPlaced
  symbol-placed only spelled (Ok w) =
      text-placed (marking.kind w) spelled (marking.marked w (m.shown detail w)) (m.shown detail w) (nat_le (cost_of (m.shown detail w)) limit) (only w (m.shown detail w))
  symbol-placed only spelled (Err refusal) = tt

  symbol-within : (n : ℕ) (spelled : Spelled) (r : Result W Refusal) → ((stretches : List Stretch) → IsWithin n (spelled stretches)) → IfOk (parsed_of_symbol m marking detail limit spelled r) (ArePartsWithin n)
  symbol-within n spelled (Ok w) within =
      text-within n (marking.kind w) spelled (marking.marked w (m.shown detail w)) (m.shown detail w) (nat_le (cost_of (m.shown detail w)) limit) (within (stretches_of (marking.marked w (m.shown detail w))))
  symbol-within n spelled (Err refusal) within = tt

  pub parsed-placed : ((w : W) (shown : Unshared) → marked.text_of (marking.marked w shown) ≡ text_of shown) → (s : List ℕ) → AreBytes s → IfOk (parsed m marking detail s limit) ArePartsPlaced
  parsed-placed only s bytes = elim (decided m.table m.lawful s bytes) [
    | inl whole ↦ (
        let is = reading_parsed m marking detail limit s (m.unfolded whole.0) bytes (well_shaped (whole.0, whole.1, whole.2, refl)) in
        subst (λ (r : Result Parsed Refusal). IfOk r ArePartsPlaced) (sym is.answers) (symbol-placed only is.spelled (m.unfolded whole.0)))
    | inr bad ↦ (
        let is = reading_parsed m marking detail limit s (Err (Malformed bad.0)) bytes (misshapen bad.0 bad.1 refl) in
        subst (λ (r : Result Parsed Refusal). IfOk r ArePartsPlaced) (sym is.answers) tt)
  ]

  pub parsed-within : ((s : List ℕ) (rows : List Row) → AreRowsOf m.table s rows → (stretches : List Stretch) → IsWithin (length s) (marking.spelled s rows stretches)) → (s : List ℕ) → AreBytes s
      → IfOk (parsed m marking detail s limit) (ArePartsWithin (length s))
  parsed-within within s bytes = elim (decided m.table m.lawful s bytes) [
    | inl whole ↦ (
        let is = reading_parsed m marking detail limit s (m.unfolded whole.0) bytes (well_shaped (whole.0, whole.1, whole.2, refl)) in
        let rows = rows_of whole.0 0 0 0 in
        let are : AreRowsOf m.table s rows = (whole.0, whole.1, whole.2, refl) in
        subst (λ (r : Result Parsed Refusal). IfOk r (ArePartsWithin (length s))) (sym is.answers)
        (symbol-within (length s) is.spelled (m.unfolded whole.0) (λ stretches. subst (λ (f : Spelled). IsWithin (length s) (f stretches)) (is.rows_spell rows are) (within s rows are stretches))))
    | inr bad ↦ (
        let is = reading_parsed m marking detail limit s (Err (Malformed bad.0)) bytes (misshapen bad.0 bad.1 refl) in
        subst (λ (r : Result Parsed Refusal). IfOk r (ArePartsWithin (length s))) (sym is.answers) tt)
  ]
