-- Passing the parts that have no row, and the results of one call after another.
use Rattle.sym_link.proofs.Basics.{◌≡◌, refl, arith, ℕ, ◌+◌, List, ◌++◌, Ok, Err, Result, IfOk, Refusal, Forest, branch, empty, token, fixed, nothing, grown, row_count_all, Open, Reading, ◌>>=◌, Passed, passed, HasRowNext}

pub ok_bind : {A B : Type 0} (m : Result A Refusal) (f : A → Result B Refusal) (P : A → Type 0) (Q : B → Type 0)
    → IfOk m P → ((x : A) → P x → IfOk (f x) Q) → IfOk (m >>= f) Q
ok_bind (Ok x) f P Q p q = q x p
ok_bind (Err e) f P Q p q = tt

pub ok_any : {A B : Type 0} (m : Result A Refusal) (f : A → Result B Refusal) (Q : B → Type 0)
    → ((x : A) → IfOk (f x) Q) → IfOk (m >>= f) Q
ok_any (Ok x) f Q q = q x
ok_any (Err e) f Q q = tt

pub ok_weaker : {A : Type 0} (m : Result A Refusal) (P Q : A → Type 0) → ((x : A) → P x → Q x) → IfOk m P → IfOk m Q
ok_weaker (Ok x) P Q f p = f x p
ok_weaker (Err e) P Q f p = tt

-- the parts that were passed have no row
pub record IsPassed {V S : Type 0} (left : Forest) (p : Passed V S) : Type 0 where
  pub counts : row_count_all p.left ≡ row_count_all left
  pub next : HasRowNext p.left

pub passed_rows : {V S C : Type 0} (reading : Reading V S C) (rule : Open S C) (known : List V) (from : ℕ) (left : Forest) (state : S)
    → IfOk (passed reading rule known from left state) (IsPassed left)
passed_rows reading rule known from (grown empty rest) state =
    ok_any (reading.between rule known state) (λ next. passed reading rule (next.values ++ reading.rowless) from rest next.state) (IsPassed (grown empty rest))
    (λ next. ok_weaker (passed reading rule (next.values ++ reading.rowless) from rest next.state) (IsPassed rest) (IsPassed (grown empty rest))
    (λ p is. record { counts = omega (arith, is.counts); next = is.next }) (passed_rows reading rule (next.values ++ reading.rowless) from rest next.state))
passed_rows reading rule known from (grown (fixed byte) rest) state =
    ok_any (reading.between rule known state) (λ next. passed reading rule (next.values ++ reading.rowless) (from + 1) rest next.state) (IsPassed (grown (fixed byte) rest))
    (λ next. ok_weaker (passed reading rule (next.values ++ reading.rowless) (from + 1) rest next.state) (IsPassed rest) (IsPassed (grown (fixed byte) rest))
    (λ p is. record { counts = omega (arith, is.counts); next = is.next }) (passed_rows reading rule (next.values ++ reading.rowless) (from + 1) rest next.state))
passed_rows reading rule known from (grown (branch r taken parts) rest) state = record { counts = refl; next = tt }
passed_rows reading rule known from (grown (token t) rest) state = record { counts = refl; next = tt }
passed_rows reading rule known from nothing state = record { counts = refl; next = tt }

pub bind_where : {A B : Type 0} (m : Result A Refusal) (f g : A → Result B Refusal) (P : A → Type 0) → IfOk m P → ((x : A) → P x → f x ≡ g x) → (m >>= f) ≡ (m >>= g)
bind_where (Ok x) f g P p e = e x p
bind_where (Err r) f g P p e = refl

pub bind_ok : {A : Type 0} (m : Result A Refusal) → (m >>= λ x. Ok x) ≡ m
bind_ok (Ok x) = refl
bind_ok (Err e) = refl
