-- Why a reader that is fed refuses.
use Rattle.sym_demangle.proofs.Basics.{◌≡◌, ◌≢◌, ◌++◌, ◌+◌, ◌∙◌, ap, append-nil, subst, ℕ, List, [], Bool, true, false, length, take, drop, eqb, Bor, Option, Some, MatchOption, Refusal, Malformed, IsReason, IsMalformedOrMemory, Table}
use Rattle.std.specs.Cmp.Lexicographic.{pointwise}
use Rattle.std.proofs.lemmas.Bool.Decides.{Decides-eqb}
use Rattle.std.proofs.lemmas.Slice.Eq.{strip_prefix_is}

-- a reader that was given the end refuses for a reason of the whole symbol
pub reason_told : (g : Table) (s : List ℕ) (ended : Bool) (e : Refusal) → ended ≡ true → IsReason g ended s e → IsMalformedOrMemory g s e
reason_told g s ended (Malformed at) told reason = subst (λ b. IsReason g b s (Malformed at)) told reason
reason_told g s ended e told reason = reason

-- a reader that wasn't given the end refuses for a reason that holds whatever bytes follow
pub reason_whatever : (g : Table) (s rest : List ℕ) (ended : Bool) (e : Refusal) → ended ≡ false → IsReason g ended s e → IsMalformedOrMemory g (s ++ rest) e
reason_whatever g s rest ended (Malformed at) untold reason = subst (λ b. IsReason g b s (Malformed at)) untold reason rest
reason_whatever g s rest ended e untold reason = reason

-- if a reader had read the first bytes, and then was fed the rest and given the end, its bytes are the first ones and
-- the rest
pub fed_all : (told more ran first rest : List ℕ) → told ≡ more ++ [] → more ≡ ran ++ rest → ran ≡ first → told ≡ first ++ rest
fed_all told more ran first rest end fed same = end ∙ append-nil more ∙ fed ∙ ap (λ bs. bs ++ rest) same

-- bytes that begin with a prefix are the prefix and the bytes after it
pub behind_prefix : (s prefix front : List ℕ) (found : Option (Bor (List ℕ))) (rest : Bor (List ℕ))
    → MatchOption found (pointwise eqb (take (length prefix) s) prefix ≡ false) (λ x. (pointwise eqb (take (length prefix) s) prefix ≡ true) × (x.now ≡ drop (length prefix) s) × (length x.now + length prefix ≡ length s))
    → found ≡ Some rest → prefix ≡ front → s ≡ front ++ rest.now
behind_prefix s prefix front found rest cases is same =
    subst (λ (r : Option (Bor (List ℕ))). MatchOption r ((xs : List ℕ) → s ≢ prefix ++ xs) (λ x. s ≡ prefix ++ x.now)) is (strip_prefix_is Decides-eqb s prefix found cases)
    ∙ ap (λ bs. bs ++ rest.now) same
