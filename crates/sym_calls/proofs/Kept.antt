-- The bytes of a text that are kept while bytes are added to it.
use Rattle.sym_calls.proofs.Basics.{◌≡◌, ◌+◌, ◌∙◌, ◌++◌, ◌∷◌, [], List, ℕ, true, false, sym, ap, subst, replicate, append_assoc, not, append-nil, replicate_more, not-true, not-false, cond-true, cond-false, following, Adds, Holds}
use Rattle.sym_filter.specs.declared.words.Taken.{Taken}
use Rattle.sym_calls.specs.declared.counted.Counted.{Counted}

pub Holds-as : (kept : Counted) (most : ℕ) (a b : List ℕ) → a ≡ b → Holds kept most a → Holds kept most b
Holds-as kept most a b same h = subst (λ (t : List ℕ). Holds kept most t) same h

-- what follows taken bytes: only the dots if these bytes don't stay, and otherwise the dots and the bytes
pub following-dots : (taken : Taken) (bytes : List ℕ) → not taken.stay ≡ true → replicate taken.dots 46 ≡ following taken bytes
following-dots taken bytes h = sym (ap (λ (t : List ℕ). replicate taken.dots 46 ++ t) (cond-false taken.stay bytes [] (not-true taken.stay h)) ∙ append-nil (replicate taken.dots 46))

pub following-bytes : (taken : Taken) (bytes : List ℕ) → not taken.stay ≡ false → replicate taken.dots 46 ++ bytes ≡ following taken bytes
following-bytes taken bytes h = ap (λ (t : List ℕ). replicate taken.dots 46 ++ t) (sym (cond-true taken.stay bytes [] (not-false taken.stay h)))

-- ## Bytes that are counted after others

pub Adds-none : (kept : Counted) → Adds kept kept []
Adds-none kept = λ most text h. Holds-as kept most text (text ++ []) (sym (append-nil text)) h

pub Adds-as : (old new : Counted) (a b : List ℕ) → a ≡ b → Adds old new a → Adds old new b
Adds-as old new a b same h = subst (λ (t : List ℕ). Adds old new t) same h

pub Adds-join : (old mid new : Counted) (a b : List ℕ) → Adds old mid a → Adds mid new b → Adds old new (a ++ b)
Adds-join old mid new a b h i = λ most text so_far. Holds-as new most ((text ++ a) ++ b) (text ++ (a ++ b)) (append_assoc text a b) (i most (text ++ a) (h most text so_far))

-- dots that are counted, and one more dot
pub Adds-dot : (old mid new : Counted) (n : ℕ) → Adds old mid (replicate n 46) → Adds mid new (46 ∷ []) → Adds old new (replicate (n + 1) 46)
Adds-dot old mid new n h i = Adds-as old new (replicate n 46 ++ 46 ∷ []) (replicate (n + 1) 46) (replicate_more n 46) (Adds-join old mid new (replicate n 46) (46 ∷ []) h i)
