-- An operator's sign is within its text.
use Rattle.short_names.proofs.Basics.{◌≡◌, ◌≤◌, ◌||◌, refl, ap, ℕ, arith, Bool, true, false, List, length, nat_eq, codes, length-take, if◌then◌else◌, starts_with, sign_size}
use Rattle.short_names.proofs.SignLemmas.{begun}

within : (text front : List ℕ) → starts_with nat_eq text front ≡ true → length front ≤ length text
within text front h = omega (arith, ap length (begun text front h), length-take (length front) text)

pub sign-room : (text : List ℕ) → sign_size text ≤ length text
unfolding sign_size
sign-room text =
    three (starts_with nat_eq text (codes "<=>")) refl _
    (two (starts_with nat_eq text (codes "<<")) (starts_with nat_eq text (codes ">>")) (starts_with nat_eq text (codes "->")) refl refl refl _
    (one (starts_with nat_eq text (codes "<")) (starts_with nat_eq text (codes ">")) refl refl))
  where
    one : (a b : Bool) → starts_with nat_eq text (codes "<") ≡ a → starts_with nat_eq text (codes ">") ≡ b → (if a || b then 1 else 0) ≤ length text
    one true b h k = within text (codes "<") h
    one false true h k = within text (codes ">") k
    one false false h k = omega arith

    two : (a b c : Bool) → starts_with nat_eq text (codes "<<") ≡ a → starts_with nat_eq text (codes ">>") ≡ b → starts_with nat_eq text (codes "->") ≡ c
        → (size : ℕ) → size ≤ length text → (if a || b || c then 2 else size) ≤ length text
    two true b c h k l size le = within text (codes "<<") h
    two false true c h k l size le = within text (codes ">>") k
    two false false true h k l size le = within text (codes "->") l
    two false false false h k l size le = le

    three : (a : Bool) → starts_with nat_eq text (codes "<=>") ≡ a → (size : ℕ) → size ≤ length text → (if a then 3 else size) ≤ length text
    three true h size le = within text (codes "<=>") h
    three false h size le = le
