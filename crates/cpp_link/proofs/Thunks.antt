-- The thunk that was added last.
use Rattle.cpp_link.proofs.Basics.{◌≡◌, refl, ℕ, List, [], ◌∷◌, ◌++◌, length, Some, slice_get, Term, tree_at, thunk_of, Thunk}
use Rattle.cpp_term.specs.Term as term

last_is : (us : List Thunk) (u : Thunk) → slice_get (us ++ u ∷ []) (length us) ≡ Some u
last_is [] u = refl
last_is (v ∷ us) u = last_is us u

pub thunk_is : (s : List ℕ) (us vs : List Thunk) (u : Thunk) (k e : ℕ) (ts rs : List Term) → vs ≡ us ++ u ∷ [] → k ≡ length us → ts ≡ rs
    → term.thunk (thunk_of s (slice_get vs k)) (tree_at ts e) ≡ term.thunk (thunk_of s (Some u)) (tree_at rs e)
thunk_is s us vs u k e ts rs more last same = rw (more, last, same, last_is us u) refl
