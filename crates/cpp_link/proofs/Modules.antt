-- What is done with a module that a substitution names is what the wide reading says.
use Rattle.cpp_link.proofs.Basics.{◌≡◌, refl, sym, ◌∙◌, ap, arith, ℕ, ◌-◌, List, [], ◌∷◌, length, Bool, true, false, not, ◌&&◌, Option, Some, None, Err, eqb-true, counted_value, Seq36, BadReference, Production, Term, is_open, State, Around, Value, part, text_of, Continuation, listed_so_far, is_module, named_by_both, module_of, module_named, module_so_far, between_wide, Stored, tree_at, Surroundings, Candidate, Step, steps_apart, with_mark, going_marked, trees_in, around_of, candidates_of, goes_on, behind_first, named_if, maybe_candidate, makes_before, made_before}

-- ## What a number names

-- the module that a number names, read from the candidate that both lists name
pub module_is : (ts : List Term) (cs : List Candidate) (number : ℕ) (named : Option Candidate) (state : State) → maybe_candidate ts named ≡ named_by_both (candidates_of ts cs) number → state.candidates ≡ candidates_of ts cs
    → module_named number state ≡ module_of (maybe_candidate ts named)
unfolding module_named
module_is ts cs number named state is counted = ap (λ xs. module_of (named_by_both xs number)) counted ∙ ap module_of (sym is)

pub module_there : (ts : List Term) (c : Candidate) (b : Bool) → b ≡ (is_module (tree_at ts c.node) && not (is_open (tree_at ts c.node))) → b ≡ true → module_of (maybe_candidate ts (Some c)) ≡ Some (tree_at ts c.node)
unfolding module_of maybe_candidate
module_there ts c b is h = ap (λ x. elim x as (λ _. Option Term) [ true ↦ Some (tree_at ts c.node) | false ↦ None ]) (sym is ∙ h)

pub no_module : (ts : List Term) (c : Candidate) (b : Bool) → b ≡ (is_module (tree_at ts c.node) && not (is_open (tree_at ts c.node))) → b ≡ false → module_of (maybe_candidate ts (Some c)) ≡ None
unfolding module_of maybe_candidate
no_module ts c b is h = ap (λ x. elim x as (λ _. Option Term) [ true ↦ Some (tree_at ts c.node) | false ↦ None ]) (sym is ∙ h)

pub nothing_named : (ts : List Term) → module_of (maybe_candidate ts None) ≡ None
unfolding module_of maybe_candidate
nothing_named ts = refl

-- ## What is done before a part

-- what is done for a module that a substitution names is done before the module's second part
pub module_second : (p : Production) (l : Bool) (before : ℕ) → p ≡ Production.NamedModule → steps_apart p l before ≡ true → before ≡ 1
unfolding steps_apart
module_second p l before is apart = eqb-true before 1 (ap (λ q. steps_apart q l before) (sym is) ∙ apart)

-- a module that is named becomes the name so far
pub module_read : (s : List ℕ) (y : Stored) (kept : Surroundings) (place : ℕ) (vs : List Value) (state : State) (packs : Option ℕ) (digits : List ℕ) (node : ℕ) → length vs ≡ 1 → digits ≡ text_of (part vs 0)
    → module_named (counted_value Seq36 digits) state ≡ Some (tree_at (trees_in s y) node)
    → between_wide Production.NamedModule (around_of (trees_in s y) kept) place vs (record state { packs = packs })
    ≡ going_marked Production.NamedModule (around_of (trees_in s y) kept) (goes_on s y kept vs state packs (Step.Named node true true))
unfolding between_wide module_so_far module_named listed_so_far goes_on going_marked with_mark behind_first named_if part
module_read s y kept place [] state packs digits node one own named = absurd (omega (arith, one))
module_read s y kept place (v ∷ w ∷ vs) state packs digits node one own named = absurd (omega (arith, one))
module_read s y kept place (v ∷ []) state packs digits node one own named =
    ap (λ m. elim m as (λ _. Continuation) [ None ↦ Err (BadReference (place - 1)) | Some t ↦ listed_so_far (around_of (trees_in s y) kept) t [] (record state { packs = packs }) ])
    (ap (λ ds. module_of (named_by_both state.candidates (counted_value Seq36 ds))) (sym own) ∙ named)

-- a number that names no module is refused
pub module_refused : (around : Around) (place : ℕ) (vs : List Value) (state : State) (packs : Option ℕ) (digits : List ℕ) → length vs ≡ 1 → digits ≡ text_of (part vs 0) → module_named (counted_value Seq36 digits) state ≡ None
    → between_wide Production.NamedModule around place vs (record state { packs = packs }) ≡ Err (BadReference (place - 1))
unfolding between_wide module_so_far module_named part
module_refused around place [] state packs digits one own none = absurd (omega (arith, one))
module_refused around place (v ∷ w ∷ vs) state packs digits one own none = absurd (omega (arith, one))
module_refused around place (v ∷ []) state packs digits one own none =
    ap (λ m. elim m as (λ _. Continuation) [ None ↦ Err (BadReference (place - 1)) | Some t ↦ listed_so_far around t [] (record state { packs = packs }) ])
    (ap (λ ds. module_of (named_by_both state.candidates (counted_value Seq36 ds))) (sym own) ∙ none)

-- a module that a substitution names makes no node
pub module_makes : (known : List Value) → length known ≡ 1 → 0 ≡ makes_before Production.NamedModule known
unfolding makes_before made_before
module_makes (v ∷ []) one = refl
module_makes [] one = absurd (omega (arith, one))
module_makes (v ∷ w ∷ vs) one = absurd (omega (arith, one))
