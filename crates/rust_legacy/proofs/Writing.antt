-- What calls that write have done together.
use Rattle.rust_legacy.proofs.Basics.{◌≡◌, ◌≤◌, ◌<◌, ℕ, ◌+◌, ◌++◌, List, length, take, drop, refl, ap, sym, ◌∙◌, subst, arith, inl, inr, Result, Ok, Err, Vec, vec_len, vec_capacity, Bool, true, false, nat_le, IfErr, IfOk, IsErrAnd, nat_tests, length-take, take-append-drop, take-append-le, Refusal, text_within, Unshared, cost_of, text_of, IsRefused, Keeps}
use Rattle.std.specs.Global.{Global}
use Rattle.std.proofs.Math.Seq.{take-length}

-- what holds at the exit of a `?`
pub at_exit : {T : Type 0} (r : Result T Refusal) (found : Refusal) (P : Refusal → Type 0) → IsErrAnd r (λ e. e ≡ found) → P found → IfErr r P
at_exit (Ok x) found P h p = absurd h
at_exit (Err e) found P h p = subst P (sym h) p

-- if a part is refused, so is the whole
pub wider : (refusal : Refusal) (left : ℕ) (text : List ℕ) (cost : ℕ) (mid : Vec ℕ Global) (limit : ℕ) (whole : List ℕ) (all : ℕ) (old : Vec ℕ Global)
    → IsRefused refusal left text cost mid
    → (vec_capacity mid < vec_len mid + length text → vec_capacity old < vec_len old + length whole)
    → (left < cost → limit < all)
    → IsRefused refusal limit whole all old
wider refusal left text cost mid limit whole all old (inl memory) room dear = inl (memory.0, room memory.1)
wider refusal left text cost mid limit whole all old (inr long) room dear = inr (long.0, dear long.1)

front_within : (n : ℕ) (xs ys : List ℕ) → take n xs ≡ ys → n ≡ length ys → n ≤ length xs
front_within n xs ys is same = omega (arith, length-take n xs, ap length is, same)

-- what was kept in both steps is kept
pub keeps_on : (old mid new : Vec ℕ Global) → Keeps old mid → Keeps mid new → Keeps old new
keeps_on old mid new a b =
    let n = vec_len old in
    let m = vec_len mid in
    let within : n ≤ length mid.items = front_within n mid.items old.items a.front old.ok.0 in
    let split : new.items ≡ mid.items ++ drop m new.items = sym (take-append-drop m new.items) ∙ ap (λ f. f ++ drop m new.items) b.front in
    record {
      front = ap (take n) split ∙ take-append-le n mid.items (drop m new.items) within ∙ a.front;
      capacity = omega (arith, a.capacity, b.capacity);
    }

pub keeps_same : (old : Vec ℕ Global) → Keeps old old
keeps_same old = record { front = ap (λ n. take n old.items) old.ok.0 ∙ take-length old.items; capacity = omega arith }

-- a result, with weaker facts
pub ok_on : {T E : Type 0} (r : Result T E) (P Q : T → Type 0) → IfOk r P → ((x : T) → P x → Q x) → IfOk r Q
ok_on (Ok x) P Q h f = f x h
ok_on (Err e) P Q h f = tt

pub err_on : {T E : Type 0} (r : Result T E) (P Q : E → Type 0) → IfErr r P → ((e : E) → P e → Q e) → IfErr r Q
err_on (Ok x) P Q h f = tt
err_on (Err e) P Q h f = f e h

abbrev answer_by : Bool → Unshared → Result (List ℕ) Refusal
answer_by b parts = elim b [ true ↦ Ok (text_of parts) | false ↦ Err Refusal.TooLong ]

-- a text that doesn't cost too much is the answer
pub within_limit : (limit : ℕ) (parts : Unshared) → cost_of parts ≤ limit → text_within limit parts ≡ Ok (text_of parts)
within_limit limit parts few = by (nat_le (cost_of parts) limit) refl
  where
    by : (b : Bool) → nat_le (cost_of parts) limit ≡ b → answer_by b parts ≡ Ok (text_of parts)
    by true e = refl
    by false e = (let more : limit < cost_of parts = grind (arith, nat_tests, e) in absurd (omega (arith, more, few)))
