-- Changing the runs of a text that is split into them.
use Rattle.sym_filter.proofs.Basics.{◌≡◌, ℕ, Bool, true, false, cond, List, [], ◌∷◌, ◌++◌, map, not, ◌&&◌, refl, ap, ap₂, ◌∙◌, flat_map, list_all, append-nil, flat_map-cons, and_parts, not-true, Letters, Any, Ascii, Within, is_byte_of, first_segment, is_escape, later_segments, since_lead, Answering, filtered_at, filtered_segment, with_runs, replaced_at, IsSplitAt, cut_off, joined, FilteredBySplitsAt}
use Rattle.sym_filter.proofs.RunLemmas.{with_runs-ends, with_runs-run}

with_runs-joined : (letters : Letters) (change : List ℕ → List ℕ) (rest : List (ℕ × List ℕ)) (first : List ℕ) → list_all (is_byte_of letters) first ≡ true → list_all (λ next. not (is_byte_of letters next.0) && list_all (is_byte_of letters) next.1) rest ≡ true → with_runs letters change (joined first rest) ≡ joined (change first) (map (λ next. (next.0, change next.1)) rest)
with_runs-joined letters change [] first h each = with_runs-run letters change first h
with_runs-joined letters change (next ∷ rest) first h each =
    let parts = and_parts (not (is_byte_of letters next.0) && list_all (is_byte_of letters) next.1) (list_all (λ n. not (is_byte_of letters n.0) && list_all (is_byte_of letters) n.1) rest) each in
    let here = and_parts (not (is_byte_of letters next.0)) (list_all (is_byte_of letters) next.1) parts.0 in
    with_runs-ends letters change first next.0 (joined next.1 rest) h (not-true (is_byte_of letters next.0) here.0)
    ∙ ap (λ (t : List ℕ). change first ++ (next.0 ∷ t)) (with_runs-joined letters change rest next.1 here.1 parts.1)

split-segment : (letters : Letters) (answers : Answering) (text first : List ℕ) (rest : List (ℕ × List ℕ)) → IsSplitAt letters text first rest →
    filtered_segment letters answers text ≡ joined (replaced_at letters answers first) (map (λ next. (next.0, replaced_at letters answers next.1)) rest)
split-segment letters answers text first rest h = ap (with_runs letters (replaced_at letters answers)) h.whole ∙ with_runs-joined letters (replaced_at letters answers) rest first h.first_run h.later_runs

-- a text without an escape is a segment
uncut-segment : (since text : List ℕ) → later_segments since text ≡ [] → first_segment since text ≡ text
uncut-segment since [] h = refl
uncut-segment since (byte ∷ text) h = step (is_escape (since_lead since byte)) h (uncut-segment (since_lead since byte) text)
  where
    step : (b : Bool) → cond b (first_segment (since_lead since byte) text ∷ later_segments (since_lead since byte) text) (later_segments (since_lead since byte) text) ≡ []
        → (later_segments (since_lead since byte) text ≡ [] → first_segment (since_lead since byte) text ≡ text)
        → byte ∷ cond b [] (first_segment (since_lead since byte) text) ≡ byte ∷ text
    step true h more = cc
    step false h more = ap (λ (t : List ℕ). byte ∷ t) (more h)

uncut-text : (letters : Letters) (answers : Answering) (text : List ℕ) → cut_off letters text ≡ [] → filtered_at letters answers text ≡ filtered_segment letters answers text
uncut-text Any answers text h = refl
uncut-text Ascii answers text h = refl
uncut-text Within answers text h =
    ap₂ (λ (t : List ℕ) (r : List (List ℕ)). flat_map (filtered_segment Within answers) (t ∷ r)) (uncut-segment [] text h) h
    ∙ flat_map-cons (filtered_segment Within answers) text [] ∙ append-nil (filtered_segment Within answers text)

pub filtered_by_splits : (letters : Letters) → FilteredBySplitsAt letters
filtered_by_splits letters answers text first rest h = uncut-text letters answers text h.uncut ∙ split-segment letters answers text first rest h
