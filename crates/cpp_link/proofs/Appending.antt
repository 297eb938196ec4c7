-- One more candidate.
use Rattle.cpp_link.proofs.Basics.{◌≡◌, refl, ◌∙◌, ap, subst, ℕ, suc, ◌<◌, List, [], ◌∷◌, ◌++◌, length, Some, None, Term, appended, State, Surroundings, Candidate, counted_of, candidate_by, Stored, trees_in, around_of, candidate_of, candidates_of, AreNodesThere, Marks, with_candidate, with_marks}
use Rattle.cpp_grammar.specs.Values as plain
use Rattle.cpp_references.specs.declared.candidates.Counted.{Counted}

pub candidates_push : (ts : List Term) (cs : List Candidate) (c : Candidate) → candidates_of ts (cs ++ c ∷ []) ≡ candidates_of ts cs ++ candidate_of ts c ∷ []
candidates_push ts [] c = refl
candidates_push ts (d ∷ cs) c = ap (λ ds. candidate_of ts d ∷ ds) (candidates_push ts cs c)

pub many_candidates : (ts : List Term) (cs : List Candidate) → length (candidates_of ts cs) ≡ length cs
many_candidates ts [] = refl
many_candidates ts (c ∷ cs) = ap suc (many_candidates ts cs)

pub nodes_push : (n : ℕ) (cs : List Candidate) (c : Candidate) → AreNodesThere n cs → c.node < n → AreNodesThere n (cs ++ c ∷ [])
nodes_push n [] c there below = (below, tt)
nodes_push n (d ∷ cs) c there below = (there.0, nodes_push n cs c there.1 below)

-- one tree is appended to the candidates
pub one_noted : (counted : Counted) (ts : List Term) (kept : Surroundings) (node : ℕ) (before : State) → with_candidate (counted_of counted) (around_of ts kept) ts (Some node) before
    ≡ record before { candidates = before.candidates ++ candidate_by ts kept node counted ∷ [] }
unfolding with_candidate appended around_of counted_of
one_noted Counted.ByAll ts kept node before = refl
one_noted Counted.ByNewer ts kept node before = refl
one_noted Counted.ByGcc ts kept node before = refl
one_noted Counted.ByClang ts kept node before = refl
one_noted Counted.BySome ts kept node before = refl

pub none_noted : (counted : plain.Counted) (ts : List Term) (kept : Surroundings) (before : State) → with_candidate counted (around_of ts kept) ts None before ≡ before
unfolding with_candidate
none_noted counted ts kept before = refl

-- up to two trees become candidates
pub noted_marks : (marks : Marks) (s : List ℕ) (y z : Stored) (kept : Surroundings) (cs ds es : List Candidate) (state : State) → z ≡ y
    → with_candidate (counted_of marks.first_by) (around_of (trees_in s y) kept) (trees_in s y) marks.first (record state { candidates = candidates_of (trees_in s y) cs }) ≡ record state { candidates = candidates_of (trees_in s y) ds }
    → with_candidate (counted_of marks.second_by) (around_of (trees_in s z) kept) (trees_in s z) marks.second (record state { candidates = candidates_of (trees_in s z) ds }) ≡ record state { candidates = candidates_of (trees_in s z) es }
    → with_marks (around_of (trees_in s y) kept) (trees_in s y) marks (record state { candidates = candidates_of (trees_in s y) cs }) ≡ record state { candidates = candidates_of (trees_in s y) es }
unfolding with_marks
noted_marks marks s y z kept cs ds es state same first second =
    ap (λ x. with_candidate (counted_of marks.second_by) (around_of (trees_in s y) kept) (trees_in s y) marks.second x) first
    ∙ subst (λ x. with_candidate (counted_of marks.second_by) (around_of (trees_in s x) kept) (trees_in s x) marks.second (record state { candidates = candidates_of (trees_in s x) ds }) ≡ record state { candidates = candidates_of (trees_in s x) es }) same second
