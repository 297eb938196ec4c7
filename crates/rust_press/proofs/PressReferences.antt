-- A reference that pressing writes is read as the tree that it denotes.
use Rattle.rust_press.proofs.Basics.{◌≡◌, ℕ, ◌+◌, ◌-◌, ◌<◌, ◌≤◌, inl, inr, length, List, [], ◌∷◌, ◌++◌, Option, Some, None, Bool, true, false, Ok, refl, ap, arith, sym, subst, ◌∙◌, length-append, append-nil, same_Some, le-leb, Base62, Rule, Kind, Number, Byte, symbols_of, unfold_tree, found, Tree, of_path, of_type, of_constant, need, need_of_type, Production, v0_table, taking, Value, Ended, v0, ended_at, value62, greatest_u64, as_value, AreListed, Agrees, state_of, Reads, Presses, IsTypeValue, same_tree, Component, Pressing, digits62, first_place, reference, either, spelled_out, component, path_or_reference}
use Rattle.sym_shape.specs.Tree.{Tree as Shape, branch, token, grown, AreTrees}
use Rattle.sym_shape.specs.Tree as shape
use Rattle.rust_tree.specs.Symbol as tree
use Rattle.rust_grammar.specs.declared.production.Production.TheVariants as rules
use Rattle.rust_grammar.specs.Value as value
use Rattle.rust_press.proofs.Sameness.{equal-tree}
use Rattle.rust_press.proofs.PressParts.{agrees-later, agrees-more, found-other, reads-as}
use Rattle.rust_press.proofs.PressNumbers.{spells62}

-- a component that equals a tree has ended at the component's place
pub record FoundAt (own : Tree) (ended : List Ended) (place p : ℕ) : Type 0 where
  pub there : ended_at ended p ≡ Some (as_value own)
  pub from : 2 ≤ p
  pub to : p < place

pub found-at : (own : Tree) (ended : List Ended) (place p : ℕ) (cs : List Component) → AreListed ended place cs → first_place own cs ≡ Some p → FoundAt own ended place p
found-at own ended place p [] are found = cc
found-at own ended place p (c ∷ cs) (there, from, to, rest) found = go (first_place own cs) refl found (λ is. found-at own ended place p cs rest is)
  where
    here : (b : Bool) → same_tree own c.own ≡ b → elim b as (λ _. Option ℕ) [ true ↦ Some c.place | false ↦ None ] ≡ Some p → FoundAt own ended place p
    here true same is = subst (λ q. FoundAt own ended place q) (same_Some _ _ is) (record { there = there ∙ ap (λ t. Some (as_value t)) (sym (equal-tree own c.own same)); from = from; to = to })
    here false same is = cc

    go : (o : Option ℕ) → first_place own cs ≡ o → elim o as (λ _. Option ℕ) [ Some q ↦ Some q | None ↦ elim (same_tree own c.own) [ true ↦ Some c.place | false ↦ None ] ] ≡ Some p
        → (first_place own cs ≡ Some p → FoundAt own ended place p) → FoundAt own ended place p
    go (Some q) is same earlier = earlier (is ∙ same)
    go None is same earlier = here (same_tree own c.own) refl same

abbrev pub reference_shape : Rule → (p : ℕ) → Shape
reference_shape rule p = branch rule (66 ∷ []) (grown (token (record { before = []; own = digits62 (p - 2); behind = 95 ∷ [] })) shape.nothing)

-- a reference is read, if its shape is read as something that ends once more at the reference
reference-reads : (s : List ℕ) (bound : ℕ) (inside : Option Production) (minus : Bool) (kind : ℕ) (rule : Rule) (v : Value) (p place : ℕ) (components : List Component) (ended : List Ended)
    → v0_table.rule kind 66 ≡ Some rule → rule.eats ≡ true → symbols_of rule ≡ Number Base62 ∷ []
    → 2 ≤ place → place ≤ greatest_u64 → p < place → Agrees components ended place
    → unfold_tree (v0 s) bound place (reference_shape rule p) (state_of ended inside minus) ≡ Ok (found (v ∷ []) (state_of (record { place = place; value = v } ∷ ended) None false))
    → Reads s bound inside minus (Kind kind) (λ values. values ≡ v ∷ []) place ended (reference p place components)
reference-reads s bound inside minus kind rule v p place components ended found eats symbols from few low agrees unfolds = record {
  shape = reference_shape rule p;
  spelled = ap (λ l. 66 ∷ l) (append-nil (digits62 (p - 2) ++ 95 ∷ []));
  shaped = (
    record { byte = 66; is_byte = omega arith; found = found; takes = rw eats refl },
    subst (λ l. AreTrees v0_table l (grown (token (record { before = []; own = digits62 (p - 2); behind = 95 ∷ [] })) shape.nothing)) (sym symbols)
        (record { bare = refl; digits = (spells62 (p - 2) (omega (arith, low, few))).0; ends = refl }, tt),
  );
  values = v ∷ [];
  good = refl;
  state = state_of (record { place = place; value = v } ∷ ended) None false;
  unfolds = unfolds;
  agrees = agrees-more components (record { place = place; value = v }) ended (place + length (66 ∷ digits62 (p - 2) ++ 95 ∷ [])) (omega arith) (agrees.behind place (omega arith))
      (agrees-later components ended place (place + length (66 ∷ digits62 (p - 2) ++ 95 ∷ [])) (omega arith) agrees);
  keeps = λ q lower.
      let other : place ≡ q → ⊥ = λ same. omega (arith, same, lower) in
      found-other (record { place = place; value = v }) ended q other;
}

-- the place that a reference's digits name
referred-place : (p : ℕ) → 2 ≤ p → p ≤ greatest_u64 → value62 (digits62 (p - 2)) + 2 ≡ p
referred-place p from to = rw ((spells62 (p - 2) (omega (arith, to))).1) (omega (arith, from))

-- the kinds that have the rules of paths
pub record HasPaths (kind : ℕ) : Type 0 where
  pub crate_root : v0_table.rule kind 67 ≡ Some (taking rules.Crate (Kind 8 ∷ []))
  pub inherent_impl : v0_table.rule kind 77 ≡ Some (taking rules.InherentImpl (Kind 7 ∷ Kind 1 ∷ Kind 11 ∷ []))
  pub trait_impl : v0_table.rule kind 88 ≡ Some (taking rules.TraitImpl (Kind 7 ∷ Kind 1 ∷ Kind 11 ∷ Kind 1 ∷ []))
  pub trait_definition : v0_table.rule kind 89 ≡ Some (taking rules.TraitDefinition (Kind 11 ∷ Kind 1 ∷ []))
  pub nested : v0_table.rule kind 78 ≡ Some (taking rules.Nested (Kind 6 ∷ Kind 1 ∷ Kind 8 ∷ []))
  pub generic : v0_table.rule kind 73 ≡ Some (taking rules.Generic (Kind 1 ∷ Kind 10 ∷ Byte 69 ∷ []))

pub paths-1 : HasPaths 1
paths-1 = record { crate_root = refl; inherent_impl = refl; trait_impl = refl; trait_definition = refl; nested = refl; generic = refl }

pub paths-2 : HasPaths 2
paths-2 = record { crate_root = refl; inherent_impl = refl; trait_impl = refl; trait_definition = refl; nested = refl; generic = refl }

pub paths-11 : HasPaths 11
paths-11 = record { crate_root = refl; inherent_impl = refl; trait_impl = refl; trait_definition = refl; nested = refl; generic = refl }

-- a place in a symbol of at most 2^64 - 1 bytes is below 2^64
small-place : (s front back bytes : List ℕ) (place : ℕ) → length s ≤ greatest_u64 → place ≡ length front → s ≡ front ++ (bytes ++ back) → place ≤ greatest_u64
small-place s front back bytes place fits is-at is = omega (arith, is-at, fits, ap length is, length-append front (bytes ++ back))

-- a path is read where it is pressed: as a reference, or spelled out
pub path-presses : (s : List ℕ) (bound : ℕ) (inside : Option Production) (minus : Bool) (kind : ℕ) (path : tree.Path) (spelling : Pressing)
    → length s ≤ greatest_u64 → v0_table.rule kind 66 ≡ Some (taking rules.PathReference (Number Base62 ∷ [])) → need path ≤ bound
    → Presses s bound inside minus (Kind kind) (spelled_out (of_path path) spelling) (λ values. values ≡ value.a_path path ∷ [])
    → Presses s bound inside minus (Kind kind) (path_or_reference path spelling) (λ values. values ≡ value.a_path path ∷ [])
path-presses s bound inside minus kind path spelling fits refers closed out front back place components ended is-at from agrees = go (first_place (of_path path) components) refl
  where
    go : (o : Option ℕ) → first_place (of_path path) components ≡ o
        → s ≡ front ++ ((either o (spelled_out (of_path path) spelling) place components).bytes ++ back)
        → Reads s bound inside minus (Kind kind) (λ values. values ≡ value.a_path path ∷ []) place ended (either o (spelled_out (of_path path) spelling) place components)
    go None none is = out front back place components ended is-at from agrees is
    go (Some p) there is =
        let few : place ≤ greatest_u64 = small-place s front back (reference p place components).bytes place fits is-at is in
        let f = found-at (of_path path) ended place p components agrees.listed there in
        reference-reads s bound inside minus kind (taking rules.PathReference (Number Base62 ∷ [])) (value.a_path path) p place components ended refers refl refl from few f.to agrees
        (rw (referred-place p f.from (omega (arith, few, f.to)), f.there, le-leb (need path) bound closed) refl)

-- a type that is a path is read where it is pressed
pub path-type-presses : (s : List ℕ) (bound : ℕ) (inside : Option Production) (minus : Bool) (path : tree.Path) (spelling : Pressing)
    → length s ≤ greatest_u64 → need path ≤ bound
    → Presses s bound inside minus (Kind 11) (spelled_out (of_path path) spelling) (λ values. values ≡ value.a_path path ∷ [])
    → Presses s bound inside minus (Kind 11) (component (of_path path) spelling) (IsTypeValue (tree.path_type path))
unfolding need_of_type
path-type-presses s bound inside minus path spelling fits closed out front back place components ended is-at from agrees = go (first_place (of_path path) components) refl
  where
    go : (o : Option ℕ) → first_place (of_path path) components ≡ o
        → s ≡ front ++ ((either o (spelled_out (of_path path) spelling) place components).bytes ++ back)
        → Reads s bound inside minus (Kind 11) (IsTypeValue (tree.path_type path)) place ended (either o (spelled_out (of_path path) spelling) place components)
    go None none is = reads-as (λ values h. inr (path, refl, h)) (out front back place components ended is-at from agrees is)
    go (Some p) there is =
        let few : place ≤ greatest_u64 = small-place s front back (reference p place components).bytes place fits is-at is in
        let f = found-at (of_path path) ended place p components agrees.listed there in
        reads-as (λ values h. inl h)
        (reference-reads s bound inside minus 11 (taking rules.TypeReference (Number Base62 ∷ [])) (value.a_type (tree.path_type path)) p place components ended refl refl refl from few f.to agrees
        (rw (referred-place p f.from (omega (arith, few, f.to)), f.there, le-leb (need path) bound closed) refl))

-- a type that is no path and no letter is read where it is pressed
pub own-type-presses : (s : List ℕ) (bound : ℕ) (inside : Option Production) (minus : Bool) (type : tree.Ty) (spelling : Pressing)
    → length s ≤ greatest_u64 → need_of_type type ≤ bound
    → Presses s bound inside minus (Kind 11) (spelled_out (of_type type) spelling) (λ values. values ≡ value.a_type type ∷ [])
    → Presses s bound inside minus (Kind 11) (component (of_type type) spelling) (IsTypeValue type)
own-type-presses s bound inside minus type spelling fits closed out front back place components ended is-at from agrees = go (first_place (of_type type) components) refl
  where
    go : (o : Option ℕ) → first_place (of_type type) components ≡ o
        → s ≡ front ++ ((either o (spelled_out (of_type type) spelling) place components).bytes ++ back)
        → Reads s bound inside minus (Kind 11) (IsTypeValue type) place ended (either o (spelled_out (of_type type) spelling) place components)
    go None none is = reads-as (λ values h. inl h) (out front back place components ended is-at from agrees is)
    go (Some p) there is =
        let few : place ≤ greatest_u64 = small-place s front back (reference p place components).bytes place fits is-at is in
        let f = found-at (of_type type) ended place p components agrees.listed there in
        reads-as (λ values h. inl h)
        (reference-reads s bound inside minus 11 (taking rules.TypeReference (Number Base62 ∷ [])) (value.a_type type) p place components ended refl refl refl from few f.to agrees
        (rw (referred-place p f.from (omega (arith, few, f.to)), f.there, le-leb (need_of_type type) bound closed) refl))

-- a constant that isn't unknown is read where it is pressed
pub constant-presses : (s : List ℕ) (bound : ℕ) (inside : Option Production) (minus : Bool) (constant : tree.Constant) (spelling : Pressing)
    → length s ≤ greatest_u64
    → Presses s bound inside minus (Kind 21) (spelled_out (of_constant constant) spelling) (λ values. values ≡ value.a_constant constant ∷ [])
    → Presses s bound inside minus (Kind 21) (component (of_constant constant) spelling) (λ values. values ≡ value.a_constant constant ∷ [])
constant-presses s bound inside minus constant spelling fits out front back place components ended is-at from agrees = go (first_place (of_constant constant) components) refl
  where
    go : (o : Option ℕ) → first_place (of_constant constant) components ≡ o
        → s ≡ front ++ ((either o (spelled_out (of_constant constant) spelling) place components).bytes ++ back)
        → Reads s bound inside minus (Kind 21) (λ values. values ≡ value.a_constant constant ∷ []) place ended (either o (spelled_out (of_constant constant) spelling) place components)
    go None none is = out front back place components ended is-at from agrees is
    go (Some p) there is =
        let few : place ≤ greatest_u64 = small-place s front back (reference p place components).bytes place fits is-at is in
        let f = found-at (of_constant constant) ended place p components agrees.listed there in
        reference-reads s bound inside minus 21 (taking rules.ConstantReference (Number Base62 ∷ [])) (value.a_constant constant) p place components ended refl refl refl from few f.to agrees
        (rw (referred-place p f.from (omega (arith, few, f.to)), f.there) refl)
