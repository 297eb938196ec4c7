-- Symbols that are cut off or changed.
use Rattle.sym_shape.proofs.Basics.{◌≡◌, ℕ, ◌+◌, ◌<◌, ◌≤◌, inl, inr, List, length, take, drop, set, sym, subst, arith, cases_lt, take-append-drop, take-take, take_all, length-take, take-set-le, length-set, Table, IsWellShaped, BeginsWellShaped, IsFirstBad, IsMalformed}

-- each front of a well shaped symbol is the beginning of a well shaped symbol
pub front_begins : (g : Table) (s : List ℕ) (n : ℕ) → IsWellShaped g s → BeginsWellShaped g (take n s)
front_begins g s n whole = (drop n s, subst (λ u. IsWellShaped g u) (sym (take-append-drop n s)) whole)

pub front_first : (g : Table) (s : List ℕ) (n : ℕ) → IsWellShaped g s → IsFirstBad g (take n s) (length (take n s))
front_first g s n whole = record {
  within = omega arith;
  front = subst (λ u. BeginsWellShaped g u) (sym (take_all (length (take n s)) (take n s) (omega arith))) (front_begins g s n whole);
  next = λ lt more. omega arith;
}

pub front_only : (g : Table) (s : List ℕ) (n at : ℕ) → IsWellShaped g s → IsFirstBad g (take n s) at → at ≡ length (take n s)
front_only g s n at whole bad = elim (cases_lt at (length (take n s))) [
  | inl before ↦ absurd (bad.next before (subst (λ u. BeginsWellShaped g u) (sym (take-take (at + 1) n s (omega (arith, length-take n s)))) (front_begins g s (at + 1) whole)))
  | inr there ↦ omega (arith, bad.within)
]

pub change_behind : (g : Table) (s : List ℕ) (p byte at : ℕ) → p < length s → IsWellShaped g s → IsMalformed g (set s p byte) at → p ≤ at
change_behind g s p byte at lt whole bad = elim (cases_lt at p) [
  | inl before ↦ absurd (bad.first.next (omega (arith, length-set s p byte)) (subst (λ u. BeginsWellShaped g u) (sym (take-set-le (at + 1) s p byte (omega arith))) (front_begins g s (at + 1) whole)))
  | inr behind ↦ behind
]
