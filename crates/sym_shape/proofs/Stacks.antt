-- Rows whose ends are set.
use Rattle.sym_shape.proofs.Basics.{◌≡◌, ℕ, zero, suc, ◌<◌, List, [], ◌∷◌, length, set, get_or, refl, ap, ◌∙◌, arith, Row, closed}

pub closed_is_set : (rows : List Row) (i at end : ℕ) (d : Row) → i < length rows → set rows i (record (get_or rows i d) { to = at; end = end }) ≡ closed rows i at end
closed_is_set [] i at end d lt = absurd (omega arith)
closed_is_set (row ∷ rows) zero at end d lt = refl
closed_is_set (row ∷ rows) (suc i) at end d lt = ap (λ v. row ∷ v) (closed_is_set rows i at end d (omega arith))

-- likewise for a row that was read
pub close_read : (rows : List Row) (i at end : ℕ) (row : Row) → i < length rows → row ≡ get_or rows i row → end ≡ length rows → set rows i (record { rule = row.rule; after = row.after; from = row.from; to = at; end = end }) ≡ closed rows i at (length rows)
close_read rows i at end row lt is last =
    ap (λ r. set rows i (record r { to = at; end = end })) is ∙ ap (λ n. set rows i (record (get_or rows i row) { to = at; end = n })) last ∙ closed_is_set rows i at (length rows) row lt
