-- What a substitution names by either grammar: a tree without free parameters anywhere, and any other where it was made.
use Rattle.cpp_grammar.proofs.Basics.{◌≡◌, refl, ap, ◌∙◌, ℕ, Bool, true, false, not, ◌||◌, ◌&&◌, nat_eq, Option, Some, None, Result, Ok, Err, eq-eqb, BadReference, Refusal, Found, ◌>>=◌, found, Term, is_open, pack_length, Candidate, State, Around, Value, tree, with_packs, packs_in, is_module, substituted, substituted_wide, is_foreign, restated}
use Rattle.cpp_short_reading.specs.Reading.{named_by}

-- a type that names no pack in a scope names none where that is the scope
pub no-pack-named : (scope : Option Term) (t : Term) → ((arguments : Term) → scope ≡ Some arguments → pack_length arguments t ≡ None) → packs_in scope t ≡ None
unfolding packs_in
no-pack-named None t none = refl
no-pack-named (Some arguments) t none = none arguments refl

-- by either grammar, a candidate that isn't foreign is named as in the ABI's
own-named : (is_wide : Bool) (around : Around) (place : ℕ) (c : Candidate) (st : State) → is_foreign around c ≡ false → named_by is_wide around place (Some c) st ≡ substituted around place (Some c) st
unfolding named_by substituted_wide
own-named false around place c st own = refl
own-named true around place c st own = ap (λ b. elim b [ true ↦ restated around place c.tree st | false ↦ substituted around place (Some c) st ]) own

-- what is named where neither test refuses it
plain-named : (around : Around) (place : ℕ) (c : Candidate) (st : State) → is_module c.tree ≡ false → (is_open c.tree && (around.in_lambda || not (nat_eq c.encoding around.encoding))) ≡ false
    → packs_in around.scope c.tree ≡ None → substituted around place (Some c) st ≡ Ok (found (tree c.tree true) st)
unfolding substituted with_packs
plain-named around place c st no_module here none =
    ap (λ m. whole m (is_open c.tree && (around.in_lambda || not (nat_eq c.encoding around.encoding))) (packs_in around.scope c.tree)) no_module
    ∙ ap (λ o. whole false o (packs_in around.scope c.tree)) here ∙ ap (whole false false) none
  where
    whole : (module_named is_elsewhere : Bool) → Option ℕ → Result (Found Value State) Refusal
    whole m elsewhere packs = elim (m || elsewhere) [
      | true ↦ Err (BadReference place)
      | false ↦ with_packs place around.in_expansion packs st >>= λ s. Ok (found (tree c.tree true) s)
    ]

-- a tree without free parameters is named anywhere
pub substituted-so : (is_wide : Bool) (around : Around) (place : ℕ) (c : Candidate) (st : State) → is_module c.tree ≡ false → is_open c.tree ≡ false
    → ((scope : Term) → pack_length scope c.tree ≡ None) → named_by is_wide around place (Some c) st ≡ Ok (found (tree c.tree true) st)
unfolding is_foreign
substituted-so is_wide around place c st no_module closed none =
    own-named is_wide around place c st (ap (λ o. o && (around.in_lambda || (c.in_lambda || not (nat_eq c.encoding around.encoding)))) closed)
    ∙ plain-named around place c st no_module (ap (λ o. o && (around.in_lambda || not (nat_eq c.encoding around.encoding))) closed) (no-pack-named around.scope c.tree (λ scope is. none scope))

and-false : (b : Bool) → (b && false) ≡ false
and-false true = refl
and-false false = refl

-- a tree with free parameters is named in the encoding that it was made in, if neither is in a lambda's signature
pub substituted-open : (is_wide : Bool) (around : Around) (place : ℕ) (c : Candidate) (st : State) → is_module c.tree ≡ false → c.encoding ≡ around.encoding → c.in_lambda ≡ false
    → around.in_lambda ≡ false → packs_in around.scope c.tree ≡ None → named_by is_wide around place (Some c) st ≡ Ok (found (tree c.tree true) st)
unfolding is_foreign
substituted-open is_wide around place c st no_module made plain outside none =
    let same : nat_eq c.encoding around.encoding ≡ true = ap (λ n. nat_eq n around.encoding) made ∙ eq-eqb around.encoding around.encoding refl in
    let either : (own : Bool) → own ≡ false → (is_open c.tree && (around.in_lambda || (own || not (nat_eq c.encoding around.encoding)))) ≡ false =
    λ own is. ap (λ l. is_open c.tree && (l || (own || not (nat_eq c.encoding around.encoding)))) outside ∙ ap (λ l. is_open c.tree && (l || not (nat_eq c.encoding around.encoding))) is
    ∙ ap (λ b. is_open c.tree && not b) same ∙ and-false (is_open c.tree) in
    own-named is_wide around place c st (either c.in_lambda plain) ∙ plain-named around place c st no_module (either false refl) none
