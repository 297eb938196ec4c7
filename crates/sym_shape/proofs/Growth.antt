-- Tables, one growing into the other.
use Rattle.sym_shape.proofs.Basics.{◌≡◌, ℕ, ◌+◌, ◌<◌, ◌≤◌, inl, inr, List, ◌++◌, take, ap, sym, ◌∙◌, subst, arith, cases_lt, take-take, take-append-le, length-take, Row, Table, rows_of, BeginsWellShaped, IsFirstBad, AreRowsOf, IsLawful}
use Rattle.sym_shape.specs.Grown.{GrowsInto}
use Rattle.sym_shape.proofs.Uniqueness.{one_tree}
use Rattle.sym_shape.proofs.Fronts.{front_begins}

pub grown_rows : (old new : Table) (s : List ℕ) (rows : List Row) → GrowsInto old new → AreRowsOf old s rows → AreRowsOf new s rows
grown_rows old new s rows grows h = (h.0, grows h.0 h.1, h.2, h.3)

pub grown_same : (old new : Table) (lawful : IsLawful new) (s : List ℕ) (rows others : List Row) → GrowsInto old new → AreRowsOf old s rows → AreRowsOf new s others → others ≡ rows
grown_same old new lawful s rows others grows h k =
    k.3 ∙ ap (λ tree. rows_of tree 0 0 0) (one_tree new lawful k.0 h.0 k.1 (grows h.0 h.1) (k.2 ∙ sym h.2)) ∙ sym h.3

grown_begins : (old new : Table) (front : List ℕ) → GrowsInto old new → BeginsWellShaped old front → BeginsWellShaped new front
grown_begins old new front grows h = (h.0, (h.1.0, grows h.1.0 h.1.1, h.1.2))

pub grown_places : (old new : Table) (s : List ℕ) (before after : ℕ) → GrowsInto old new → IsFirstBad old s before → IsFirstBad new s after → before ≤ after
grown_places old new s before after grows h k = elim (cases_lt after before) [
  | inl less ↦ absurd (k.next (omega (arith, h.within)) (shorter less (grown_begins old new (take before s) grows h.front)))
  | inr behind ↦ behind
]
  where
    shorter : after < before → BeginsWellShaped new (take before s) → BeginsWellShaped new (take (after + 1) s)
    shorter less b =
        let text : take (after + 1) (take before s ++ b.0) ≡ take (after + 1) s =
        take-append-le (after + 1) (take before s) b.0 (omega (arith, length-take before s, h.within)) ∙ take-take (after + 1) before s (omega arith) in
        subst (λ u. BeginsWellShaped new u) text (front_begins new (take before s ++ b.0) (after + 1) b.1)
