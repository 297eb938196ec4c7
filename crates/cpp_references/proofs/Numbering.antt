-- Candidates by their numbers.
use Rattle.cpp_references.proofs.Basics.{◌≡◌, refl, ℕ, zero, suc, ◌<◌, List, [], ◌∷◌, slice_get, IfSome, Term, candidates_of, AreNodesThere, maybe_candidate}
use Rattle.cpp_references.specs.declared.candidates.Candidate.{Candidate}

-- a candidate by its number
pub candidate_at : (ts : List Term) (cs : List Candidate) (k : ℕ) → maybe_candidate ts (slice_get cs k) ≡ slice_get (candidates_of ts cs) k
unfolding maybe_candidate
candidate_at ts [] k = refl
candidate_at ts (c ∷ cs) zero = refl
candidate_at ts (c ∷ cs) (suc k) = candidate_at ts cs k

pub candidate_there : (n : ℕ) (cs : List Candidate) (k : ℕ) → AreNodesThere n cs → IfSome (slice_get cs k) (λ c. c.node < n)
candidate_there n [] k there = tt
candidate_there n (c ∷ cs) zero there = there.0
candidate_there n (c ∷ cs) (suc k) there = candidate_there n cs k there.1
