-- What is done between and after the parts of a production, annotated.
use Rattle.std.proofs.Common.{◌≡◌, refl, ap, sym, ◌∙◌, subst, ℕ, suc, ◌-◌, List, [], ◌∷◌, length, Bool, true, false, not, cond, slice_get, Option, Some, None, Result, Ok, Err, ◌&&◌, nat_lt, ◌⊎◌, inl, inr, true≢false, ◌||◌}
use Rattle.cpp_term.proofs.Basics.{false≢true, Refusal, BadReference, ◌>>=◌, Next, found, Decimal, Seq36, counted_value, Production, awaiting, generic_number, generic_so_far, parameter_here, argument_here, is_declaring, lambda_with, as_generic_lambda, with_holder, is_instance, holder_so_far, named_by_both, module_of, module_named, module_so_far, numbered, counted_unless, counted_base, counted_held, with_constructor, with_held, in_constraint_of, is_unseen, in_literal, name_if, between_wide, close_wide, count, element, is_open, length_if_pack, Term, list, holder, parameter, absent, Counted, by_gcc, Around, prefix_tree, prefix_listed, Value, State, Candidate, local_number, tree_of, text_of, is_listed, part, appended, with_type, with_unqualified, with_packs, is_module, substituted, parameter_named, in_signature, under_expansion, after, inside, no_items, listed_so_far, next, parameter_so_far, argument_so_far, index_of, between, parameters, meaning, signature_with, close, made, is_listing, around_part, packs_within, gained, replaced, tested, done, row_of, StaysInside, is_nothing, has_signature, all_pass, step_passes, is_here, Place, nowhere, around_place, place_in, in_own, argument_in, annotate, noted_scope, noted_value, noted_values, noted_prefix, noted_around}
use Rattle.cpp_grammar.specs.Values as leaf_
use Rattle.cpp_grammar.specs.Unfolding as unfolding_
use Rattle.cpp_grammar.specs.Row.{Gain, nothing, the_prefix, type_of, unqualified_of, itself, Where, as_before, in_its_name, in_its_types, in_a_signature, under_it, nameless, after_part, after_the_name, Action, quiet, goes, becomes, tests, holds, unread, Row, before_part}
use Rattle.cpp_term.specs.Items as item_
use Rattle.cpp_term.specs.Scope as scope_
use Rattle.cpp_term.specs.Term as term_
use Rattle.cpp_term.specs.Values as value_
use Rattle.cpp_term.specs.References as reference_
use Rattle.cpp_term.specs.Between as between_
use Rattle.cpp_term.specs.Meaning as noted_
use Rattle.cpp_term.specs.Meant as meant_
use Rattle.cpp_term.specs.Unfolding as unfolded_
use Rattle.cpp_term.specs.Rescoping as wide_
use Rattle.cpp_term.proofs.Notes.{both, or_right, choose, choose_cond, open_noted, closed_noted}
use Rattle.cpp_term.proofs.SeenNoted.{is_instance_noted, counted_held_noted, is_declaring_noted}
use Rattle.cpp_term.proofs.MeaningNoted.{part_noted, tree_part, tree_noted, text_noted, text_part, prefix_tree_noted, prefix_listed_noted, Inside, Shut, lambda_noted, takes_encodings, is_of_none, made_inside, made_noted, listing_noted, listed_noted, meaning_noted}
use Rattle.cpp_term.proofs.StatesNoted.{Alongside, IsOutside, Settled, own_place, Alike, alike_bind, Same, Moves, moves_none, noting_moves, moves_then, one_moves, type_moves, unqualified_moves, prefix_moves, Comes, AreNoted, get_noted, module_noted, substituted_noted, both_named_noted, wide_numbered_noted, held_moves, more_moves, parameter_noted}
use Rattle.cpp_term.proofs.AwaitedNoted.{awaiting_noted}

-- the inner surroundings have the same scope, or are in a lambda's signature and have no scope
abbrev pub InScope : Around → Around → Type 0
InScope around inner = ((inner.scope ≡ around.scope) × (inner.in_lambda ≡ around.in_lambda)) ⊎ ((inner.scope ≡ None) × (inner.in_lambda ≡ true))

-- the productions of declarations
unfoldable pub is_declared : Production → Bool
is_declared Production.TypeOf = true
is_declared Production.ValueOf = true
is_declared Production.OfConcept = true
is_declared Production.TemplateOf = true
is_declared Production.PackOf = true
is_declared Production.Declarations = true
is_declared _ = false

-- productions that are read in signatures, or that have only declarations and values without trees as parts
unfoldable pub is_quiet : Production → Bool
is_quiet Production.TemplateOf = true
is_quiet Production.PackOf = true
is_quiet Production.Declarations = true
is_quiet Production.DeclaredFirst = true
is_quiet Production.FirstWithT = true
is_quiet _ = false

-- a production with one part, which is in a signature of its own
unfoldable pub is_alone : Production → Bool
is_alone Production.Constraint = true
is_alone _ = false

abbrev pub MayGo : Production → List Value → Type 0
MayGo p vs = (is_nothing vs || not (is_alone p)) ≡ true

-- what the parameters of a production's parts name: in a lambda's signature, they may name the lambda's own parameters
unfoldable pub parts_place : (own : Bool) → Production → Around → Place
parts_place own p around = elim (has_signature p && own) [ true ↦ in_own | false ↦ around_place own around ]

-- the inputs of the next part, with arguments and without
pub record Goes (own : Bool) (s : Place) (around : Around) (x : State) (y : value_.State) (n : Next Value State Around) (m : Next value_.Value value_.State value_.Around) : Type 0 where
  pub values : m.values ≡ noted_values s n.values
  pub context : m.context ≡ noted_around own n.context
  pub moves : Moves own around x y n.state m.state
  pub scope : InScope around n.context
  pub place : (around_place own n.context ≡ s) ⊎ ((n.context.scope ≡ None) × (own ≡ false))

after_noted : (own : Bool) (around : Around) (t : Term) (u : term_.Term) (listed : Bool) → u ≡ annotate (around_place own around) t → between_.after u listed (noted_around own around) ≡ noted_around own (after t listed around)
unfolding between_.after after noted_around noted_prefix
after_noted own around t u listed e = ap (λ w. between_.after w listed (noted_around own around)) e

named_goes : (own : Bool) (around : Around) (x new : State) (y other : value_.State) (t : Term) (u : term_.Term) (listed : Bool) (vs : List Value) (us : List value_.Value) →
    u ≡ annotate (around_place own around) t → us ≡ noted_values (around_place own around) vs → Moves own around x y new other →
    Goes own (around_place own around) around x y (record { context = after t listed around; values = leaf_.tree t listed ∷ vs; state = new }) (record { context = between_.after u listed (noted_around own around); values = value_.tree u listed ∷ us; state = other })
unfolding noted_values noted_value after
named_goes own around x new y other t u listed vs us e g m = record { values = both (λ w ws. value_.tree w listed ∷ ws) e g; context = after_noted own around t u listed e; moves = m; scope = inl (refl, refl); place = inl refl }

same_goes : (own : Bool) (around : Around) (x : State) (y : value_.State) (vs : List Value) → Alongside x y →
    Goes own (around_place own around) around x y (record { context = around; values = vs; state = x }) (record { context = noted_around own around; values = noted_values (around_place own around) vs; state = y })
same_goes own around x y vs packs = record { values = refl; context = refl; moves = moves_none own around x x y y refl refl packs; scope = inl (refl, refl); place = inl refl }

-- a parameter that isn't refused names an argument
named_argument : (own : Bool) (around : Around) (place k : ℕ) (x a : State) → parameter_named around place k x ≡ Ok a → term_.parameter k (between_.argument_at (noted_around own around) k) ≡ annotate (around_place own around) (parameter k)
unfolding parameter_named between_.argument_at noted_around noted_scope place_in argument_in annotate
named_argument own around place k x a e = go around.scope e
  where
    go : (o : Option Term) → ◌≡◌ {A = Result State Refusal} (elim o [
      | None ↦ Err (BadReference place)
      | Some arguments ↦ elim (nat_lt k (count arguments)) [
        | false ↦ Err (BadReference place)
        | true ↦ with_packs place around.in_expansion (length_if_pack (element arguments k)) x >>= λ s. Ok (appended around (parameter k) s)
      ]
    ]) (Ok a) → term_.parameter k (elim (noted_scope o) [ None ↦ term_.absent | Some arguments ↦ scope_.element arguments k ]) ≡ term_.parameter k (argument_in (place_in o (own && around.in_lambda)) k)
    go None h = let clash : ◌≡◌ {A = Result State Refusal} (Err (BadReference place)) (Ok a) = h in absurd cc
    go (Some arguments) h = refl

index_noted : (s : Place) (v : Value) → between_.index_of (noted_value s v) ≡ index_of v
unfolding between_.index_of index_of
index_noted s v = ap (counted_value Decimal) (text_noted s v)

index_part : (s : Place) (vs : List Value) → between_.index_of (value_.part (noted_values s vs) 0) ≡ index_of (part vs 0)
index_part s vs = ap between_.index_of (part_noted s vs 0) ∙ index_noted s (part vs 0)

signature_goes : (own : Bool) (s : Place) (around : Around) (x : State) (y : value_.State) (vs : List Value) → (around_place own (in_signature around) ≡ s) ⊎ (((in_signature around).scope ≡ None) × (own ≡ false)) → Alongside x y →
    Goes own s around x y (record { context = in_signature around; values = vs; state = x }) (record { context = between_.in_signature (noted_around own around); values = noted_values s vs; state = y })
unfolding in_signature between_.in_signature noted_around noted_prefix noted_scope
signature_goes own s around x y vs there packs = record { values = refl; context = refl; moves = moves_none own around x x y y refl refl packs; scope = inr (refl, refl); place = there }

signature_place : (own : Bool) (around : Around) → (around_place own (in_signature around) ≡ parts_place own Production.Lambda around) ⊎ (((in_signature around).scope ≡ None) × (own ≡ false))
unfolding in_signature parts_place has_signature place_in
signature_place true around = inl refl
signature_place false around = inr (refl, refl)

values_noted : (s : Place) (vs : List Value) → length (noted_values s vs) ≡ length vs
unfolding noted_values
values_noted s [] = refl
values_noted s (v ∷ vs) = ap suc (values_noted s vs)

replaced_noted : (s : Place) (t : Term) (u : term_.Term) (is_in : Bool) (vs : List Value) → u ≡ annotate s t → meant_.replaced (value_.tree u is_in) (noted_values s vs) ≡ noted_values s (replaced (leaf_.tree t is_in) vs)
unfolding meant_.replaced replaced noted_values noted_value
replaced_noted s t u is_in [] e = refl
replaced_noted s t u is_in (v ∷ vs) e = ap (λ w. value_.tree w is_in ∷ noted_values s vs) e

-- the first value becomes a tree, which may be the name so far
becomes_goes : (own : Bool) (around : Around) (x new : State) (y other : value_.State) (t : Term) (u : term_.Term) (is_in is_name : Bool) (vs : List Value) → u ≡ annotate (around_place own around) t → Moves own around x y new other →
    Goes own (around_place own around) around x y (record { context = cond is_name (after t is_in around) around; values = replaced (leaf_.tree t is_in) vs; state = new })
    (record { context = cond is_name (between_.after u is_in (noted_around own around)) (noted_around own around); values = meant_.replaced (value_.tree u is_in) (noted_values (around_place own around) vs); state = other })
unfolding after
becomes_goes own around x new y other t u is_in true vs e m =
    record { values = replaced_noted (around_place own around) t u is_in vs e; context = after_noted own around t u is_in e; moves = m; scope = inl (refl, refl); place = inl refl }
becomes_goes own around x new y other t u is_in false vs e m = record { values = replaced_noted (around_place own around) t u is_in vs e; context = refl; moves = m; scope = inl (refl, refl); place = inl refl }

candidate_moves : (own : Bool) (around : Around) (x : State) (y : value_.State) (t : Term) (u : term_.Term) (is_candidate : Bool) → Alongside x y → u ≡ annotate (around_place own around) t →
    Moves own around x y (cond is_candidate (appended around t x) x) (cond is_candidate (reference_.appended (noted_around own around) u y) y)
candidate_moves own around x y t u true packs e = one_moves own around t u x y packs e
candidate_moves own around x y t u false packs e = moves_none own around x x y y refl refl packs

-- unless the parameter is the name so far, both candidate lists stay as they are
kept_moves : (own : Bool) (around : Around) (x a : State) (y b : value_.State) (is_name : Bool) → Moves own around x y a b →
    Moves own around x y (cond is_name a (record a { candidates = x.candidates })) (cond is_name b (record b { candidates = y.candidates }))
kept_moves own around x a y b true m = m
kept_moves own around x a y b false m = moves_none own around x (record a { candidates = x.candidates }) y (record b { candidates = y.candidates }) refl refl m.packs

tests_goes : (own : Bool) (around : Around) (x : State) (y : value_.State) (place k : ℕ) (is_name : Bool) (vs : List Value) → Alongside x y →
    Alike (Goes own (around_place own around) around x y) (parameter_named around place k x >>= λ s. tested is_name around (parameter k) vs s x)
    (reference_.parameter_named (noted_around own around) place k y
    >>= λ s. meant_.tested is_name (noted_around own around) (term_.parameter k (between_.argument_at (noted_around own around) k)) (noted_values (around_place own around) vs) s y)
unfolding tested meant_.tested
tests_goes own around x y place k is_name vs packs =
    let u = term_.parameter k (between_.argument_at (noted_around own around) k) in
    alike_bind (Moves own around x y) (Goes own (around_place own around) around x y) (parameter_named around place k x) (reference_.parameter_named (noted_around own around) place k y)
    (λ s. tested is_name around (parameter k) vs s x) (λ s. meant_.tested is_name (noted_around own around) (term_.parameter k (between_.argument_at (noted_around own around) k)) (noted_values (around_place own around) vs) s y)
    (parameter_noted own around place k x y packs)
    (λ a b h m. becomes_goes own around x (cond is_name a (record a { candidates = x.candidates })) y (cond is_name b (record b { candidates = y.candidates })) (parameter k) u true is_name vs (named_argument own around place k x a h)
    (kept_moves own around x a y b is_name m))

part_moves : (own : Bool) (around : Around) (vs : List Value) (k : ℕ) (x : State) (y : value_.State) → Alongside x y →
    Moves own around x y (with_type around (part vs k) x) (reference_.with_type (noted_around own around) (value_.part (noted_values (around_place own around) vs) k) y)
part_moves own around vs k x y packs = subst (λ v. Moves own around x y (with_type around (part vs k) x) (reference_.with_type (noted_around own around) v y)) (sym (part_noted (around_place own around) vs k)) (type_moves own around (part vs k) x y packs)

plain_moves : (own : Bool) (around : Around) (vs : List Value) (k : ℕ) (x : State) (y : value_.State) → Alongside x y →
    Moves own around x y (with_unqualified around (part vs k) x) (reference_.with_unqualified (noted_around own around) (value_.part (noted_values (around_place own around) vs) k) y)
plain_moves own around vs k x y packs =
    subst (λ v. Moves own around x y (with_unqualified around (part vs k) x) (reference_.with_unqualified (noted_around own around) v y)) (sym (part_noted (around_place own around) vs k)) (unqualified_moves own around (part vs k) x y packs)

gained_moves : (own : Bool) (gain : Gain) (around : Around) (vs : List Value) (v : Value) (w : value_.Value) (x : State) (y : value_.State) → value_.tree_of w ≡ annotate (around_place own around) (tree_of v) → Alongside x y →
    Moves own around x y (gained gain around vs v x) (meant_.gained gain (noted_around own around) (noted_values (around_place own around) vs) w y)
unfolding gained meant_.gained
gained_moves own nothing around vs v w x y e packs = moves_none own around x x y y refl refl packs
gained_moves own the_prefix around vs v w x y e packs = prefix_moves own around x y packs
gained_moves own (type_of k) around vs v w x y e packs = part_moves own around vs k x y packs
gained_moves own (unqualified_of k) around vs v w x y e packs = plain_moves own around vs k x y packs
gained_moves own itself around vs v w x y e packs = one_moves own around (tree_of v) (value_.tree_of w) x y packs e

packs_move : (own : Bool) (around : Around) (x new : State) (y other : value_.State) (m n : Option ℕ) → n ≡ m → Moves own around x y new other → Moves own around x y (record new { packs = m }) (record other { packs = n })
packs_move own around x new y other m n e moves = record { more = moves.more; others = moves.others; is = moves.is; so = moves.so; each = moves.each; packs = (e, moves.packs.1) }

goes_noted : (own : Bool) (w : Where) (around : Around) (place : ℕ) (vs : List Value) (x new : State) (y other : value_.State) → is_here w ≡ true → Moves own around x y new other →
    Goes own (around_place own around) around x y (record { context = around_part around place vs w; values = vs; state = packs_within w new })
    (record { context = meant_.around_part (noted_around own around) place (noted_values (around_place own around) vs) w; values = noted_values (around_place own around) vs; state = meant_.packs_within w other })
unfolding is_here around_part meant_.around_part packs_within meant_.packs_within after inside under_expansion between_.inside between_.under_expansion noted_around noted_prefix
goes_noted own in_its_name around place vs x new y other here m = absurd (false≢true here)
goes_noted own in_its_types around place vs x new y other here m = absurd (false≢true here)
goes_noted own in_a_signature around place vs x new y other here m = absurd (false≢true here)
goes_noted own as_before around place vs x new y other here m = record { values = refl; context = refl; moves = m; scope = inl (refl, refl); place = inl refl }
goes_noted own under_it around place vs x new y other here m = record { values = refl; context = refl; moves = packs_move own around x new y other None None refl m; scope = inl (refl, refl); place = inl refl }
goes_noted own nameless around place vs x new y other here m = record { values = refl; context = refl; moves = m; scope = inl (refl, refl); place = inl refl }
goes_noted own (after_part k listing) around place vs x new y other here m = record {
  values = refl;
  context = ap (λ b. between_.after (value_.tree_of (value_.part (noted_values (around_place own around) vs) k)) b (noted_around own around)) (listing_noted (around_place own around) vs listing)
      ∙ after_noted own around (tree_of (part vs k)) (value_.tree_of (value_.part (noted_values (around_place own around) vs) k)) (is_listing vs listing) (tree_part (around_place own around) vs k);
  moves = m;
  scope = inl (refl, refl);
  place = inl refl;
}
goes_noted own after_the_name around place vs x new y other here m =
    record { values = refl; context = after_noted own around (prefix_tree around.prefix) _ true (prefix_tree_noted (around_place own around) around.prefix); moves = m; scope = inl (refl, refl); place = inl refl }

-- this action enters no other encoding and no signature, and makes no tree of encodings
unfoldable is_plain : Action → Bool
is_plain (goes gain w) = is_here w
is_plain (becomes m is_in is_name is_candidate) = is_of_none m
is_plain _ = true

done_noted : (own : Bool) (b : Action) (around : Around) (place : ℕ) (vs : List Value) (x : State) (y : value_.State) → is_plain b ≡ true → Alongside x y →
    Alike (Goes own (around_place own around) around x y) (done b around place vs x) (meant_.done b (noted_around own around) place (noted_values (around_place own around) vs) y)
unfolding is_plain done meant_.done tree_of value_.tree_of annotate
done_noted own quiet around place vs x y plain packs = same_goes own around x y vs packs
done_noted own (goes gain w) around place vs x y plain packs =
    goes_noted own w around place vs x (gained gain around vs leaf_.nothing_there x) y (meant_.gained gain (noted_around own around) (noted_values (around_place own around) vs) value_.nothing_there y) plain
    (gained_moves own gain around vs leaf_.nothing_there value_.nothing_there x y refl packs)
done_noted own (becomes m is_in is_name is_candidate) around place vs x y plain packs =
    let t = made 0 around vs m in
    let u = meant_.made 0 (noted_around own around) (noted_values (around_place own around) vs) m in
    let e = made_noted own 0 around vs m (made_inside 0 around vs m plain) in
    becomes_goes own around x (cond is_candidate (appended around t x) x) y (cond is_candidate (reference_.appended (noted_around own around) u y) y) t u is_in is_name vs e (candidate_moves own around x y t u is_candidate packs e)
done_noted own (tests after_t is_name) around place vs x y plain packs =
    let at = cond after_t (place - 1) place in
    subst (λ k. Alike (Goes own (around_place own around) around x y) (done (tests after_t is_name) around place vs x) (reference_.parameter_named (noted_around own around) at k y
    >>= λ s. meant_.tested is_name (noted_around own around) (term_.parameter k (between_.argument_at (noted_around own around) k)) (noted_values (around_place own around) vs) s y))
    (sym (index_part (around_place own around) vs)) (tests_goes own around x y at (index_of (part vs 0)) is_name vs packs)
done_noted own holds around place vs x y plain packs = refl
done_noted own unread around place vs x y plain packs = refl

row_noted : (own : Bool) (row : Row) (around : Around) (place : ℕ) (vs : List Value) (x : State) (y : value_.State) → all_pass is_plain row.before row.onward ≡ true → Alongside x y →
    Alike (Goes own (around_place own around) around x y) (done (before_part row (length vs)) around place vs x)
    (meant_.done (before_part row (length (noted_values (around_place own around) vs))) (noted_around own around) place (noted_values (around_place own around) vs) y)
row_noted own row around place vs x y plain packs =
    subst (λ n. Alike (Goes own (around_place own around) around x y) (done (before_part row (length vs)) around place vs x)
    (meant_.done (before_part row n) (noted_around own around) place (noted_values (around_place own around) vs) y)) (sym (values_noted (around_place own around) vs))
    (done_noted own (before_part row (length vs)) around place vs x y (step_passes is_plain row plain (length vs)) packs)

pub between_noted : (own : Bool) (production : Production) (around : Around) (place : ℕ) (vs : List Value) (x : State) (y : value_.State) → StaysInside production → is_quiet production ≡ false → MayGo production vs → Alongside x y →
    Alike (Goes own (parts_place own production around) around x y) (between production around place vs x) (between_.between production (noted_around own around) place (noted_values (parts_place own production around) vs) y)
unfolding parts_place has_signature is_quiet is_alone is_nothing between between_.between all_pass is_plain is_here is_of_none takes_encodings noted_values
between_noted own Production.Encoding around place vs x y stays loud may packs = absurd stays
between_noted own Production.Special around place vs x y stays loud may packs = absurd stays
between_noted own Production.OtherSpecial around place vs x y stays loud may packs = absurd stays
between_noted own Production.Lambda around place vs x y stays loud may packs = signature_goes own (parts_place own Production.Lambda around) around x y vs (signature_place own around) packs
between_noted own Production.ValueOf around place vs x y stays loud may packs = signature_goes own (parts_place own Production.ValueOf around) around x y vs (signature_place own around) packs
between_noted own Production.OfConcept around place vs x y stays loud may packs = signature_goes own (parts_place own Production.OfConcept around) around x y vs (signature_place own around) packs
between_noted own Production.Constraint around place [] x y stays loud may packs = refl
between_noted own Production.Constraint around place (v ∷ vs) x y stays loud may packs = absurd (false≢true may)
between_noted own Production.TemplateOf around place vs x y stays loud may packs = absurd (true≢false loud)
between_noted own Production.PackOf around place vs x y stays loud may packs = absurd (true≢false loud)
between_noted own Production.Declarations around place vs x y stays loud may packs = absurd (true≢false loud)
between_noted own Production.DeclaredFirst around place vs x y stays loud may packs = absurd (true≢false loud)
between_noted own Production.FirstWithT around place vs x y stays loud may packs = absurd (true≢false loud)
between_noted own p around place vs x y stays loud may packs = row_noted own (row_of p) around place vs x y refl packs

-- ## After a production

behind_noted : (own : Bool) (production : Production) (byte : ℕ) (around : Around) (began : State) (first : value_.State) (vs : List Value) (x : State) (y : value_.State) → Inside production vs →
    Alongside x y → Alongside began first →
    Moves own around x y (unfolding_.behind production byte around began vs x) (unfolded_.behind production byte (noted_around own around) first (noted_values (around_place own around) vs) y)
unfolding unfolding_.behind unfolded_.behind
behind_noted own production byte around began first vs x y h packs e =
    let s = around_place own around in
    let gain = (row_of production).gain in
    let v = meaning production byte around vs in
    let w = noted_.meaning production byte (noted_around own around) (noted_values s vs) in
    let new = gained gain around vs v x in
    let other = meant_.gained gain (noted_around own around) (noted_values s vs) w y in
    let moves_ : Moves own around x y new other = gained_moves own gain around vs v w x y (ap value_.tree_of (meaning_noted own production byte around vs h) ∙ tree_noted s v) packs in
    choose_cond (Moves own around x y) (row_of production).restores_packs (record new { packs = began.packs }) new (record other { packs = first.packs }) other
    (packs_move own around x new y other began.packs first.packs e.0 moves_) moves_

-- the value of a production, with arguments and without
made_close : (own : Bool) (production : Production) (byte : ℕ) (around : Around) (began : State) (first : value_.State) (vs : List Value) (x : State) (y : value_.State) → Inside production vs → Same own around x y → Alongside began first →
    Comes own around x y (found (meaning production byte around vs) (unfolding_.behind production byte around began vs x))
    (found (noted_.meaning production byte (noted_around own around) (noted_values (around_place own around) vs)) (unfolded_.behind production byte (noted_around own around) first (noted_values (around_place own around) vs) y))
made_close own production byte around began first vs x y h same e =
    record { value = meaning_noted own production byte around vs h; moves = behind_noted own production byte around began first vs x y h same.packs e }

pub close_noted : (production : Production) (byte : ℕ) (around : Around) (place : ℕ) (began : State) (first : value_.State) (vs : List Value) (x : State) (y : value_.State) → Inside production vs →
    Settled around → Same false around x y → Alongside began first →
    Alike (Comes false around x y) (close production byte around place began vs x) (unfolded_.close production byte (noted_around false around) place first (noted_values (parts_place false production around) vs) y)
unfolding close unfolded_.close parts_place has_signature
close_noted Production.Substitution byte around place began first vs x y h settled same e =
    subst (λ bytes. Alike (Comes false around x y) (substituted around (place - 1) (slice_get x.candidates (counted_value Seq36 (text_of (part vs 0)))) x)
    (reference_.substituted (noted_around false around) (place - 1) (slice_get y.candidates (counted_value Seq36 bytes)) y)) (sym (text_part (around_place false around) vs 0))
    (substituted_noted false around (place - 1) (slice_get x.candidates (counted_value Seq36 (text_of (part vs 0)))) (slice_get y.candidates (counted_value Seq36 (text_of (part vs 0)))) x y same.packs
    (get_noted false around x.candidates y.candidates (counted_value Seq36 (text_of (part vs 0))) same.all) (outside (slice_get x.candidates (counted_value Seq36 (text_of (part vs 0))))))
  where
    outside : (o : Option Candidate) → IsOutside false o
    outside None = tt
    outside (Some c) = λ opens own. absurd (false≢true own)
close_noted Production.Inheriting byte around place began first vs x y h settled same e = refl
close_noted production byte around place began first vs x y h settled same e = made_close false production byte around began first vs x y h same e

-- ## The reading of the wide grammar

generic_goes : (around : Around) (x : State) (y : value_.State) (k : ℕ) → around.in_lambda ≡ true → Settled around → Alongside x y →
    Alike (Goes true (around_place true around) around x y) (generic_so_far around k [] x) (wide_.generic_so_far (noted_around true around) k [] y)
unfolding generic_so_far wide_.generic_so_far listed_so_far between_.listed_so_far annotate argument_in noted_values
generic_goes around x y k is settled packs =
    let t = parameter (generic_number k) in
    let u = term_.parameter (generic_number k) item_.auto in
    let same : u ≡ annotate (around_place true around) t = ap (λ s. annotate s t) (sym (own_place around (settled is) is)) in
    named_goes true around x (appended around t x) y (reference_.appended (noted_around true around) u y) t u true [] [] same refl (one_moves true around t u x y packs same)

here_goes : (around : Around) (x : State) (y : value_.State) (place : ℕ) (v : Value) → Settled around → Alongside x y →
    Alike (Goes true (around_place true around) around x y) (parameter_here around place (index_of v) [] x) (wide_.parameter_here (noted_around true around) place (between_.index_of (noted_value (around_place true around) v)) [] y)
unfolding parameter_here wide_.parameter_here parameter_so_far between_.parameter_so_far listed_so_far between_.listed_so_far done meant_.done tested meant_.tested replaced meant_.replaced part value_.part noted_values is_plain noted_around
here_goes around x y place v settled packs =
    let s = around_place true around in
    choose (Alike (Goes true s around x y)) around.in_lambda around.in_lambda _ _ _ _ refl
    (λ is. subst (λ k. Alike (Goes true s around x y) (generic_so_far around (index_of v) [] x) (wide_.generic_so_far (noted_around true around) k [] y)) (sym (index_noted s v))
    (generic_goes around x y (index_of v) is settled packs))
    (λ is. done_noted true (tests false true) around place (v ∷ []) x y refl packs)

own_argument_goes : (around : Around) (x : State) (y : value_.State) (k : ℕ) → around.in_lambda ≡ true → Settled around → Alongside x y →
    Alike (Goes true (around_place true around) around x y) (next (leaf_.tree (parameter (generic_number k)) true ∷ []) around x)
    (between_.next (value_.tree (term_.parameter (generic_number k) item_.auto) true ∷ []) (noted_around true around) y)
unfolding annotate argument_in noted_values noted_value
own_argument_goes around x y k is settled packs =
    let t = parameter (generic_number k) in
    let u = term_.parameter (generic_number k) item_.auto in
    let same : u ≡ annotate (around_place true around) t = ap (λ s. annotate s t) (sym (own_place around (settled is) is)) in
    record { values = ap (λ w. value_.tree w true ∷ []) same; context = refl; moves = moves_none true around x x y y refl refl packs; scope = inl (refl, refl); place = inl refl }

argument_here_goes : (around : Around) (x : State) (y : value_.State) (place : ℕ) (v : Value) → Settled around → Alongside x y →
    Alike (Goes true (around_place true around) around x y) (argument_here around place (index_of v) x) (wide_.argument_here (noted_around true around) place (between_.index_of (noted_value (around_place true around) v)) y)
unfolding argument_here wide_.argument_here argument_so_far between_.argument_so_far done meant_.done tested meant_.tested replaced meant_.replaced part value_.part noted_values is_plain noted_around
argument_here_goes around x y place v settled packs =
    let s = around_place true around in
    choose (Alike (Goes true s around x y)) around.in_lambda around.in_lambda _ _ _ _ refl
    (λ is. subst (λ k. Alike (Goes true s around x y) (next (leaf_.tree (parameter (generic_number (index_of v))) true ∷ []) around x)
    (between_.next (value_.tree (term_.parameter (generic_number k) item_.auto) true ∷ []) (noted_around true around) y))
    (sym (index_noted s v)) (own_argument_goes around x y (index_of v) is settled packs))
    (λ is. done_noted true (tests false false) around place (v ∷ []) x y refl packs)

holder_goes : (around : Around) (x : State) (y : value_.State) (place : ℕ) → Alongside x y →
    Alike (Goes true (around_place true around) around x y) (holder_so_far around place x) (wide_.holder_so_far (noted_around true around) place y)
unfolding holder_so_far wide_.holder_so_far listed_so_far between_.listed_so_far noted_around noted_values annotate
holder_goes around x y place packs =
    let s = around_place true around in
    let t = holder (prefix_tree around.prefix) in
    let u = term_.holder (value_.prefix_tree (noted_prefix s around.prefix)) in
    let same = ap term_.holder (prefix_tree_noted s around.prefix) in
    choose (Alike (Goes true s around x y)) (is_instance (prefix_tree around.prefix)) (wide_.is_instance (value_.prefix_tree (noted_prefix s around.prefix))) _ _ _ _
    (ap wide_.is_instance (prefix_tree_noted s around.prefix) ∙ is_instance_noted s (prefix_tree around.prefix)) (λ h. refl)
    (λ h. named_goes true around x (with_holder around t x) y (wide_.with_holder (noted_around true around) u y) t u true [] [] same refl (held_moves true around t u x y packs same))

unless_moves : (around : Around) (listed other : Bool) (counted : Counted) (t : Term) (u : term_.Term) (x : State) (y : value_.State) → Alongside x y → other ≡ listed → u ≡ annotate (around_place true around) t →
    Moves true around x y (counted_unless listed counted around t x) (wide_.counted_unless other counted (noted_around true around) u y)
unfolding counted_unless wide_.counted_unless
unless_moves around listed other counted t u x y packs alike e =
    choose (Moves true around x y) listed other _ _ _ _ alike (λ h. moves_none true around x x y y refl refl packs) (λ h. more_moves counted true around t u x y packs e)

constructor_moves : (around : Around) (listed other : Bool) (counted : Counted) (x : State) (y : value_.State) → Alongside x y → other ≡ listed →
    Moves true around x y (with_constructor listed counted around x) (wide_.with_constructor other counted (noted_around true around) y)
unfolding with_constructor wide_.with_constructor annotate
constructor_moves around listed other counted x y packs same =
    subst (λ o. Moves true around x y (with_constructor listed counted around x) (wide_.with_constructor o counted (noted_around true around) y)) (sym same) (go listed counted)
  where
    go : (l : Bool) (c : Counted) → Moves true around x y (with_constructor l c around x) (wide_.with_constructor l c (noted_around true around) y)
    go false by_gcc = more_moves by_gcc true around absent term_.absent x y packs refl
    go l c = moves_none true around x x y y refl refl packs

before_arguments_move : (around : Around) (listed other : Bool) (t : Term) (u : term_.Term) (x : State) (y : value_.State) → Alongside x y → other ≡ listed → u ≡ annotate (around_place true around) t →
    Moves true around x y (with_held listed around t x) (wide_.with_held other (noted_around true around) u y)
unfolding with_held wide_.with_held
before_arguments_move around listed other t u x y packs same is =
    let by = counted_held t in
    let first = unless_moves around listed other by t u x y packs same is in
    subst (λ k. Moves true around x y (with_held listed around t x) (wide_.with_constructor other k (noted_around true around) (wide_.counted_unless other k (noted_around true around) u y)))
    (sym (ap wide_.counted_held is ∙ counted_held_noted (around_place true around) t))
    (moves_then true around x (counted_unless listed by around t x) (with_held listed around t x) y (wide_.counted_unless other by (noted_around true around) u y)
    (wide_.with_constructor other by (noted_around true around) (wide_.counted_unless other by (noted_around true around) u y)) first
    (constructor_moves around listed other by (counted_unless listed by around t x) (wide_.counted_unless other by (noted_around true around) u y) first.packs same))

base_goes : (around : Around) (x : State) (y : value_.State) → Alongside x y →
    Alike {A = Next Value State Around} (Goes true (around_place true around) around x y) (next [] (inside around) (with_held (prefix_listed around.prefix) around (prefix_tree around.prefix) x))
    (between_.next [] (between_.inside (noted_around true around)) (wide_.with_held (value_.prefix_listed (noted_prefix (around_place true around) around.prefix)) (noted_around true around)
    (value_.prefix_tree (noted_prefix (around_place true around) around.prefix)) y))
unfolding inside between_.inside noted_around noted_prefix noted_values
base_goes around x y packs =
    let s = around_place true around in
    record {
      values = refl;
      context = refl;
      moves = before_arguments_move around (prefix_listed around.prefix) (value_.prefix_listed (noted_prefix s around.prefix)) (prefix_tree around.prefix) (value_.prefix_tree (noted_prefix s around.prefix)) x y packs
          (prefix_listed_noted s around.prefix) (prefix_tree_noted s around.prefix);
      scope = inl (refl, refl);
      place = inl refl;
    }

no_parameters : (m o : Bool) → (m && not o) ≡ true → o ≡ false
no_parameters true false h = refl
no_parameters true true h = absurd (false≢true h)
no_parameters false o h = absurd (false≢true h)

-- a module has no parameters, so its arguments are the same wherever it was made
module_goes : (around : Around) (x : State) (y : value_.State) (place number : ℕ) → Same true around x y →
    Alike (Goes true (around_place true around) around x y) (module_so_far around place number x) (wide_.module_so_far (noted_around true around) place number y)
unfolding module_so_far wide_.module_so_far module_named wide_.module_named module_of wide_.module_of listed_so_far between_.listed_so_far noted_values
module_goes around x y place number same =
    found_ (named_by_both x.candidates number) (wide_.named_by_both y.candidates number) (both_named_noted true around x.candidates y.candidates number same.all)
  where
    found_ : (o : Option Candidate) (p : Option value_.Candidate) → AreNoted true around o p → Alike (Goes true (around_place true around) around x y)
        (elim (module_of o) [ None ↦ Err (BadReference place) | Some t ↦ listed_so_far around t [] x ])
        (elim (wide_.module_of p) [ None ↦ Err (BadReference place) | Some t ↦ between_.listed_so_far (noted_around true around) t [] y ])
    found_ None None n = refl
    found_ None (Some d) n = absurd n
    found_ (Some c) None n = absurd n
    found_ (Some c) (Some d) n =
        choose (λ a b. Alike (Goes true (around_place true around) around x y)
        (elim a [ None ↦ Err (BadReference place) | Some t ↦ listed_so_far around t [] x ])
        (elim b [ None ↦ Err (BadReference place) | Some t ↦ between_.listed_so_far (noted_around true around) t [] y ]))
        (is_module c.tree && not (is_open c.tree)) (reference_.is_module d.tree && not (scope_.is_open d.tree)) (Some c.tree) None (Some d.tree) None
        (both (λ m o. m && not o) (ap reference_.is_module n.like ∙ module_noted n.by c.tree) (ap scope_.is_open n.like ∙ open_noted n.by c.tree))
        (λ h.
        let closed = no_parameters (is_module c.tree) (is_open c.tree) h in
        named_goes true around x x y y c.tree d.tree true [] [] (n.closed closed ∙ closed_noted nowhere (around_place true around) c.tree closed) refl (moves_none true around x x y y refl refl same.packs))
        (λ h. refl)

-- in a constraint, only a lambda's own parameters are named
constraint_goes : (around : Around) (x : State) (y : value_.State) → Alongside x y →
    Alike {A = Next Value State Around} (Goes true in_own around x y) (next [] (in_constraint_of around) x) (between_.next [] (wide_.in_constraint_of (noted_around true around)) y)
unfolding in_constraint_of wide_.in_constraint_of noted_around noted_prefix noted_scope noted_values place_in
constraint_goes around x y packs = record { values = refl; context = refl; moves = moves_none true around x x y y refl refl packs; scope = inr (refl, refl); place = inl refl }

-- an encoding that a literal denotes
literal_goes : (around : Around) (x : State) (y : value_.State) (v : Value) → Alongside x y →
    Alike {A = Next Value State Around} (Goes true (around_place true around) around x y) (next (v ∷ []) (in_literal around) x)
    (between_.next (noted_value (around_place true around) v ∷ []) (wide_.in_literal (noted_around true around)) y)
unfolding in_literal wide_.in_literal is_unseen wide_.is_unseen noted_around noted_values
literal_goes around x y v packs =
    let s = around_place true around in
    choose (λ a b. Goes true s around x y (record { context = a; values = v ∷ []; state = x }) (record { context = b; values = noted_value s v ∷ []; state = y })) (is_unseen around) (is_unseen around) _ _ _ _ refl
    (λ unseen. record { values = refl; context = refl; moves = moves_none true around x x y y refl refl packs; scope = inl (refl, refl); place = inl refl })
    (λ seen. record { values = refl; context = refl; moves = moves_none true around x x y y refl refl packs; scope = inl (refl, refl); place = inl refl })

pub wide_between_noted : (production : Production) (around : Around) (place : ℕ) (vs : List Value) (x : State) (y : value_.State) → StaysInside production → is_quiet production ≡ false → MayGo production vs → Settled around → Same true around x y →
    Alike (Goes true (parts_place true production around) around x y) (between_wide production around place vs x)
    (wide_.between_wide production (noted_around true around) place (noted_values (parts_place true production around) vs) y)
unfolding between_wide wide_.between_wide noted_values parts_place has_signature is_quiet is_alone is_nothing noted_around noted_prefix
wide_between_noted Production.Parameter around place (v ∷ []) x y stays loud may settled same = here_goes around x y place v settled same.packs
wide_between_noted Production.NestParameter around place (v ∷ []) x y stays loud may settled same = here_goes around x y place v settled same.packs
wide_between_noted Production.ParameterArgument around place (v ∷ []) x y stays loud may settled same = here_goes around x y (place - 1) v settled same.packs
wide_between_noted Production.ParameterExpression around place (v ∷ []) x y stays loud may settled same = argument_here_goes around x y (place - 1) v settled same.packs
wide_between_noted Production.DeclaredFirst around place vs x y stays loud may settled same = absurd (true≢false loud)
wide_between_noted Production.HeldArguments around place [] x y stays loud may settled same = base_goes around x y same.packs
wide_between_noted Production.Holder around place (v ∷ []) x y stays loud may settled same = holder_goes around x y place same.packs
wide_between_noted Production.NamedModule around place (v ∷ []) x y stays loud may settled same =
    let s = around_place true around in
    subst (λ bytes. Alike (Goes true s around x y) (module_so_far around (place - 1) (counted_value Seq36 (text_of v)) x) (wide_.module_so_far (noted_around true around) (place - 1) (counted_value Seq36 bytes) y))
    (sym (text_noted s v)) (module_goes around x y (place - 1) (counted_value Seq36 (text_of v)) same)
wide_between_noted Production.Constraint around place [] x y stays loud may settled same = constraint_goes around x y same.packs
wide_between_noted Production.EncodingLiteral around place (v ∷ []) x y stays loud may settled same = literal_goes around x y v same.packs
wide_between_noted Production.Encoding around place vs x y stays loud may settled same = absurd stays
wide_between_noted p around place vs x y stays loud may settled same = between_noted true p around place vs x y stays loud may same.packs

-- a lambda of an annotated signature is the annotated lambda, at any place: the signature is under the lambda's own parameters
lambda_with_noted : (s : Place) (t : Term) (number : ℕ) → wide_.lambda_with (annotate in_own t) number ≡ annotate s (lambda_with t number)
unfolding lambda_with wide_.lambda_with annotate
lambda_with_noted s t number =
    choose (λ a b. b ≡ annotate s a) (is_declaring t || is_open t) (wide_.is_declaring (annotate in_own t) || scope_.is_open (annotate in_own t)) _ _ _ _ (both (λ a b. a || b) (is_declaring_noted in_own t) (open_noted in_own t)) (λ is. refl)
    (λ is. ap (λ u. term_.lambda u number) (closed_noted in_own s t (or_right (is_declaring t) (is_open t) is)))

-- a lambda of annotated parts is the annotated lambda, at any place; `meaning_noted` says this only at the place of the parts
own_lambda : (s : Place) (byte : ℕ) (around : Around) (other : value_.Around) (vs : List Value) →
    wide_.as_generic_lambda (noted_.meaning Production.Lambda byte other (noted_values in_own vs)) ≡ noted_value s (as_generic_lambda (meaning Production.Lambda byte around vs))
unfolding as_generic_lambda wide_.as_generic_lambda meaning noted_.meaning noted_value annotate
own_lambda s byte around other vs =
    ap wide_.as_generic_lambda (lambda_noted in_own vs)
    ∙ ap value_.piece (lambda_with_noted s (signature_with (part vs 0) (parameters (list (tree_of (part vs 0)) (no_items (part vs 1))))) (local_number (text_of (part vs 3))))

counted_moves : (around : Around) (v : Value) (x : State) (y : value_.State) → Alongside x y → Moves true around x y (counted_base around v x) (wide_.counted_base (noted_around true around) (noted_value (around_place true around) v) y)
unfolding counted_base wide_.counted_base noted_value
counted_moves around (leaf_.pair second own base) x y packs = moves_none true around x x y y refl refl packs
counted_moves around v x y packs =
    let s = around_place true around in
    unless_moves around (is_listed v) (value_.is_listed (noted_value s v)) by_gcc (tree_of v) (value_.tree_of (noted_value s v)) x y packs (listed_noted s v) (tree_noted s v)

no_open : (unseen o : Bool) → (unseen ≡ false → o ≡ false) → (unseen && o) ≡ false → o ≡ false
no_open true o shut h = h
no_open false o shut h = shut refl

-- a literal of an encoding, or the encoding's name alone
literal_noted : (byte : ℕ) (around : Around) (vs : List Value) → (is_unseen around ≡ false → is_open (tree_of (part vs 1)) ≡ false) →
    wide_.name_if (is_unseen around && scope_.is_open (value_.tree_of (value_.part (noted_values (around_place true around) vs) 1))) (value_.part (noted_values (around_place true around) vs) 1)
    (noted_.meaning Production.EncodingLiteral byte (noted_around true around) (noted_values (around_place true around) vs))
    ≡ noted_value (around_place true around) (name_if (is_unseen around && is_open (tree_of (part vs 1))) (part vs 1) (meaning Production.EncodingLiteral byte around vs))
unfolding name_if wide_.name_if noted_value
literal_noted byte around vs shut =
    let s = around_place true around in
    choose (λ a b. b ≡ noted_value s a) (is_unseen around && is_open (tree_of (part vs 1))) (is_unseen around && scope_.is_open (value_.tree_of (value_.part (noted_values s vs) 1))) _ _ _ _
    (ap (λ o. is_unseen around && o) (ap scope_.is_open (tree_part s vs 1) ∙ open_noted s (tree_of (part vs 1)))) (λ open_. ap (λ t. value_.tree t true) (tree_part s vs 1))
    (λ closed. meaning_noted true Production.EncodingLiteral byte around vs (no_open (is_unseen around) (is_open (tree_of (part vs 1))) shut closed))

pub wide_close_noted : (production : Production) (byte : ℕ) (around : Around) (place : ℕ) (began : State) (first : value_.State) (vs : List Value) (x : State) (y : value_.State) → Shut true production around vs →
    is_quiet production ≡ false → is_declared production ≡ false → Settled around → Same true around x y → Alongside began first →
    Alike (Comes true around x y) (close_wide production byte around place began vs x) (wide_.close_wide production byte (noted_around true around) place first (noted_values (parts_place true production around) vs) y)
unfolding close unfolded_.close close_wide wide_.close_wide parts_place has_signature is_quiet is_declared meaning noted_.meaning unfolding_.behind unfolded_.behind noted_value wide_.is_unseen is_unseen noted_around
wide_close_noted Production.Substitution byte around place began first vs x y h loud plain settled same e =
    subst (λ bytes. Alike (Comes true around x y) (numbered around (place - 1) (counted_value Seq36 (text_of (part vs 0))) x) (wide_.numbered (noted_around true around) (place - 1) (counted_value Seq36 bytes) y))
    (sym (text_part (around_place true around) vs 0)) (wide_numbered_noted around (place - 1) (counted_value Seq36 (text_of (part vs 0))) x y settled same)
wide_close_noted Production.Lambda byte around place began first vs x y h loud plain settled same e =
    record { value = own_lambda (around_place true around) byte around (noted_around true around) vs; moves = moves_none true around x x y y refl refl same.packs }
wide_close_noted Production.Inheriting byte around place began first vs x y h loud plain settled same e = record {
  value = meaning_noted true Production.Inheriting byte around vs tt;
  moves = subst (λ v. Moves true around x y (counted_base around (part vs 1) x) (wide_.counted_base (noted_around true around) v y)) (sym (part_noted (around_place true around) vs 1)) (counted_moves around (part vs 1) x y same.packs);
}
wide_close_noted Production.Holder byte around place began first vs x y h loud plain settled same e =
    let s = around_place true around in
    record {
      value = part_noted s vs 1;
      moves = noting_moves true around (awaiting around (tree_of (part vs 1)) x.counting) (wide_.awaiting (noted_around true around) (value_.tree_of (value_.part (noted_values s vs) 1)) y.counting) x y
          (ap (λ t. wide_.awaiting (noted_around true around) t y.counting) (tree_part s vs 1) ∙ awaiting_noted true around s (tree_of (part vs 1)) y.counting ∙ ap (awaiting around (tree_of (part vs 1))) same.packs.1) same;
    }
wide_close_noted Production.ValueOf byte around place began first vs x y h loud plain settled same e = absurd (true≢false plain)
wide_close_noted Production.OfConcept byte around place began first vs x y h loud plain settled same e = absurd (true≢false plain)
wide_close_noted Production.TemplateOf byte around place began first vs x y h loud plain settled same e = absurd (true≢false loud)
wide_close_noted Production.PackOf byte around place began first vs x y h loud plain settled same e = absurd (true≢false loud)
wide_close_noted Production.Declarations byte around place began first vs x y h loud plain settled same e = absurd (true≢false loud)
wide_close_noted Production.DeclaredFirst byte around place began first vs x y h loud plain settled same e = absurd (true≢false loud)
wide_close_noted Production.FirstWithT byte around place began first vs x y h loud plain settled same e = absurd (true≢false loud)
wide_close_noted Production.Constraint byte around place began first vs x y h loud plain settled same e = record { value = refl; moves = moves_none true around x x y y refl refl same.packs }
wide_close_noted Production.Encoding byte around place began first vs x y h loud plain settled same e = absurd h
wide_close_noted Production.EncodingLiteral byte around place began first vs x y h loud plain settled same e = record { value = literal_noted byte around vs h; moves = moves_none true around x x y y refl refl same.packs }
wide_close_noted production byte around place began first vs x y h loud plain settled same e = made_close true production byte around began first vs x y h same e
