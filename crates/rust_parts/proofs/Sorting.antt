-- The tree of a node by the node's production, and so how its text is marked and what its name is.
use Rattle.rust_parts.proofs.Basics.{◌≡◌, ℕ, ◌<◌, length, slice_get, Option, Some, None, Bool, true, false, refl, sym, ap, ◌∙◌, arith, subst, if◌then◌else◌, nat_le, ◌&&◌, Path, Arguments, Identifier, Symbol, crate_root, inherent_impl, trait_impl, trait_definition, nested, generic, path_in, symbol_in, arguments_in, ReadSymbol, is_empty, Unshared, done, bytes, item, implementation, scope, name, kind_of_letter, kind_of_path, IsBelow, IsImplementation, IsSort, name_by, path_at, scope_by, PathSort}
use Rattle.std.proofs.lemmas.Bool.{ne_eqb}
use Rattle.rust_tree.specs.Tree.{Tree, of_path, of_symbol}
use Rattle.rust_tree.specs.Fields.{Fields, tree_from, number_in, part_in, text_in, identifier_in}
use Rattle.rust_tree.specs.Views.{fields_in, fields_at}
use Rattle.rust_tree.specs.declared.tree_production.TheConstants.{NESTED, PUNYCODE_NESTED, GENERIC, INHERENT_IMPL, TRAIT_IMPL, TRAIT_DEFINITION}
use Rattle.sym_parts.specs.declared.kind.NameKind.TheVariants as kind
use Rattle.rust_parts.specs.declared.sorts.PathSort.TheVariants as sort

-- the tree of fields whose production is known
read : (P : ℕ) (f : Fields) → f.production ≡ P → tree_from f ≡ tree_from (record f { production = P })
read P f is = ap (λ n. tree_from (record f { production = n })) is

-- the path of a tree with these fields, and how many parts it has
module _ (o : Option Tree) (made : o ≡ Some (tree_from (fields_in o))) where
  abbrev f : Fields
  f = fields_in o

  nested-tree : f.production ≡ NESTED → o ≡ Some (of_path (nested (number_in f 0) (path_in (part_in f 0)) (identifier_in false (number_in f 1) f)))
  nested-tree p = made ∙ ap Some (read NESTED f p)

  punycode-tree : f.production ≡ PUNYCODE_NESTED → o ≡ Some (of_path (nested (number_in f 0) (path_in (part_in f 0)) (identifier_in true (number_in f 1) f)))
  punycode-tree p = made ∙ ap Some (read PUNYCODE_NESTED f p)

  generic-tree : f.production ≡ GENERIC → o ≡ Some (of_path (generic (path_in (part_in f 0)) (arguments_in (part_in f 1))))
  generic-tree p = made ∙ ap Some (read GENERIC f p)

  pub nested-parts : f.production ≡ NESTED → length f.parts ≡ 1
  nested-parts p = ap (λ x. length (fields_in x).parts) (nested-tree p)

  pub punycode-parts : f.production ≡ PUNYCODE_NESTED → length f.parts ≡ 1
  punycode-parts p = ap (λ x. length (fields_in x).parts) (punycode-tree p)

  pub generic-parts : f.production ≡ GENERIC → length f.parts ≡ 2
  generic-parts p = ap (λ x. length (fields_in x).parts) (generic-tree p)

  -- a tree with the production `NESTED` is a name after its parent
  pub is-nested : (q : Option Tree) → q ≡ slice_get f.parts 0 → f.production ≡ NESTED
      → (own : Identifier) × (own.name.bytes ≡ text_in f) × (path_in o ≡ nested (number_in f 0) (path_in q) own)
  is-nested q part p =
      let own = identifier_in false (number_in f 1) f in
      (own, refl, ap path_in (nested-tree p) ∙ ap (λ x. nested (number_in f 0) (path_in x) own) (sym part))

  pub is-punycode : (q : Option Tree) → q ≡ slice_get f.parts 0 → f.production ≡ PUNYCODE_NESTED
      → (own : Identifier) × (own.name.bytes ≡ text_in f) × (path_in o ≡ nested (number_in f 0) (path_in q) own)
  is-punycode q part p =
      let own = identifier_in true (number_in f 1) f in
      (own, refl, ap path_in (punycode-tree p) ∙ ap (λ x. nested (number_in f 0) (path_in x) own) (sym part))

  pub is-generic : (q : Option Tree) → q ≡ slice_get f.parts 0 → f.production ≡ GENERIC → (args : Arguments) × (path_in o ≡ generic (path_in q) args)
  is-generic q part p =
      let args = arguments_in (part_in f 1) in
      (args, ap path_in (generic-tree p) ∙ ap (λ x. generic (path_in x) args) (sym part))

  pub is-inherent_impl : f.production ≡ INHERENT_IMPL → IsImplementation (path_in o)
  is-inherent_impl p = subst (λ x. IsImplementation (path_in x)) (sym (made ∙ ap Some (read INHERENT_IMPL f p))) tt

  pub is-trait_impl : f.production ≡ TRAIT_IMPL → IsImplementation (path_in o)
  is-trait_impl p = subst (λ x. IsImplementation (path_in x)) (sym (made ∙ ap Some (read TRAIT_IMPL f p))) tt

  pub is-trait_definition : f.production ≡ TRAIT_DEFINITION → IsImplementation (path_in o)
  is-trait_definition p = subst (λ x. IsImplementation (path_in x)) (sym (made ∙ ap Some (read TRAIT_DEFINITION f p))) tt

-- a name after its parent has one of two productions
neither : (b : Bool) → ((if b then PUNYCODE_NESTED else NESTED) ≡ NESTED → ⊥) → ((if b then PUNYCODE_NESTED else NESTED) ≡ PUNYCODE_NESTED → ⊥) → ⊥
neither true plain puny = puny refl
neither false plain puny = plain refl

-- a tree with none of the other productions of paths has a crate as its path, even if the tree is no path
pub is-crate : (o : Option Tree) → ((fields_in o).production ≡ NESTED → ⊥) → ((fields_in o).production ≡ PUNYCODE_NESTED → ⊥) → ((fields_in o).production ≡ GENERIC → ⊥)
    → ((fields_in o).production ≡ INHERENT_IMPL → ⊥) → ((fields_in o).production ≡ TRAIT_IMPL → ⊥) → ((fields_in o).production ≡ TRAIT_DEFINITION → ⊥)
    → (own : Identifier) × (path_in o ≡ crate_root own)
is-crate None a b c d e g = (_, refl)
is-crate (Some (of_path (crate_root own))) a b c d e g = (own, refl)
is-crate (Some (of_path (inherent_impl n p t))) a b c d e g = absurd (d refl)
is-crate (Some (of_path (trait_impl n p t q))) a b c d e g = absurd (e refl)
is-crate (Some (of_path (trait_definition t q))) a b c d e g = absurd (g refl)
is-crate (Some (of_path (nested n p own))) a b c d e g = absurd (neither own.name.punycode a b)
is-crate (Some (of_path (generic p args))) a b c d e g = absurd (c refl)
is-crate (Some _) a b c d e g = (_, refl)

-- ## Marks by the sort

implementation-scope : (lists : ℕ) (p : Path) → IsImplementation p → (u : Unshared) → scope lists p u ≡ implementation u
unfolding scope
implementation-scope lists (inherent_impl n p t) is u = refl
implementation-scope lists (trait_impl n p t q) is u = refl
implementation-scope lists (trait_definition t q) is u = refl
implementation-scope lists _ is u = absurd is

implementation-name : (lists : ℕ) (p : Path) → IsImplementation p → (u : Unshared) → name lists p u ≡ scope lists p u
unfolding name
implementation-name lists (inherent_impl n p t) is u = refl
implementation-name lists (trait_impl n p t q) is u = refl
implementation-name lists (trait_definition t q) is u = refl
implementation-name lists _ is u = absurd is

module _ (y : ReadSymbol) where
  nested-scope : (lists : ℕ) (parent n : ℕ) (own : Identifier) (u : Unshared) → scope lists (nested n (path_at y parent) own) u ≡ scope_by y lists (sort.Nested parent) u
  unfolding scope scope_by
  nested-scope lists parent n own done = refl
  nested-scope lists parent n own (bytes b rest) = refl
  nested-scope lists parent n own (item one rest) = refl

  generic-scope : (lists : ℕ) (parent : ℕ) (args : Arguments) (u : Unshared) → scope lists (generic (path_at y parent) args) u ≡ scope_by y lists (sort.Generic parent) u
  unfolding scope scope_by
  generic-scope lists parent args done = refl
  generic-scope lists parent args (bytes b rest) = refl
  generic-scope lists parent args (item one rest) = refl

  nested-name : (lists : ℕ) (parent n : ℕ) (own : Identifier) (u : Unshared) → name lists (nested n (path_at y parent) own) u ≡ name_by y lists (sort.Nested parent) u
  unfolding name name_by scope scope_by
  nested-name lists parent n own done = refl
  nested-name lists parent n own (bytes b rest) = refl
  nested-name lists parent n own (item one done) = refl
  nested-name lists parent n own (item one (bytes b rest)) = refl
  nested-name lists parent n own (item one (item other rest)) = refl

  generic-name : (lists : ℕ) (parent : ℕ) (args : Arguments) (u : Unshared) → name lists (generic (path_at y parent) args) u ≡ name_by y lists (sort.Generic parent) u
  unfolding name name_by scope scope_by
  generic-name lists parent args done = refl
  generic-name lists parent args (bytes b rest) = refl
  generic-name lists parent args (item one rest) = refl

  crate-scope : (lists : ℕ) (own : Identifier) (u : Unshared) → scope lists (crate_root own) u ≡ scope_by y lists sort.Crate u
  unfolding scope scope_by
  crate-scope lists own u = refl

  crate-name : (lists : ℕ) (own : Identifier) (u : Unshared) → name lists (crate_root own) u ≡ name_by y lists sort.Crate u
  unfolding name name_by scope scope_by
  crate-name lists own u = refl

  implementation-by : (lists : ℕ) (u : Unshared) → (implementation u ≡ scope_by y lists sort.Implementation u) × (scope_by y lists sort.Implementation u ≡ name_by y lists sort.Implementation u)
  unfolding scope_by name_by
  implementation-by lists u = (refl, refl)

  -- the marks of the scope of a name, by the sort of the scope's path
  pub scope-by : (lists : ℕ) (node : ℕ) (s : PathSort) → IsSort y node s → (u : Unshared) → scope_by y lists s u ≡ scope lists (path_at y node) u
  scope-by lists node sort.Crate is u = sym (ap (λ p. scope lists p u) is.1 ∙ crate-scope lists is.0 u)
  scope-by lists node sort.Implementation is u = sym (implementation-scope lists (path_at y node) is u ∙ (implementation-by lists u).0)
  scope-by lists node (sort.Nested parent) is u = sym (ap (λ p. scope lists p u) is.1.2 ∙ nested-scope lists parent _ is.1.0 u)
  scope-by lists node (sort.Generic parent) is u = sym (ap (λ p. scope lists p u) is.1.1 ∙ generic-scope lists parent is.1.0 u)

  -- the marks of a name, by the sort of its path
  pub name-by : (lists : ℕ) (node : ℕ) (s : PathSort) → IsSort y node s → (u : Unshared) → name_by y lists s u ≡ name lists (path_at y node) u
  name-by lists node sort.Crate is u = sym (ap (λ p. name lists p u) is.1 ∙ crate-name lists is.0 u)
  name-by lists node sort.Implementation is u =
      sym (implementation-name lists (path_at y node) is u ∙ implementation-scope lists (path_at y node) is u ∙ (implementation-by lists u).0 ∙ (implementation-by lists u).1)
  name-by lists node (sort.Nested parent) is u = sym (ap (λ p. name lists p u) is.1.2 ∙ nested-name lists parent _ is.1.0 u)
  name-by lists node (sort.Generic parent) is u = sym (ap (λ p. name lists p u) is.1.1 ∙ generic-name lists parent is.1.0 u)

  pub sort-below : (node count : ℕ) (s : PathSort) → IsSort y node s → node < count → IsBelow count s
  sort-below node count sort.Crate is below = tt
  sort-below node count sort.Implementation is below = tt
  sort-below node count (sort.Nested parent) is below = omega (arith, is.0, below)
  sort-below node count (sort.Generic parent) is below = omega (arith, is.0, below)

-- ## The root

-- the node of a whole symbol has its path as the first part
pub root-parts : (o : Option Tree) (w : Symbol) → o ≡ Some (of_symbol w) → 0 < length (fields_in o).parts
root-parts o w is = omega (arith, ap (λ x. length (fields_in x).parts) is)

pub root-path : (o q : Option Tree) (w : Symbol) → o ≡ Some (of_symbol w) → q ≡ slice_get (fields_in o).parts 0 → path_in q ≡ (symbol_in o).path
root-path o q w is part = ap path_in (part ∙ ap (λ x. slice_get (fields_in x).parts 0) is) ∙ sym (ap (λ x. (symbol_in x).path) is)

-- ## Kinds

pub closure-letter : (n : ℕ) → n ≡ 67 → kind.Closure ≡ kind_of_letter n
unfolding kind_of_letter
closure-letter n h = rw h refl

pub shim-letter : (n : ℕ) → n ≡ 83 → kind.Shim ≡ kind_of_letter n
unfolding kind_of_letter
shim-letter n h = rw h refl

pub value-letter : (n : ℕ) → n ≡ 118 → kind.Value ≡ kind_of_letter n
unfolding kind_of_letter
value-letter n h = rw h refl

pub type-letter : (n : ℕ) → n ≡ 116 → kind.Type ≡ kind_of_letter n
unfolding kind_of_letter
type-letter n h = rw h refl

pub other-letter : (n : ℕ) → (n ≡ 67 → ⊥) → (n ≡ 83 → ⊥) → (n ≡ 118 → ⊥) → (n ≡ 116 → ⊥) → kind.Item ≡ kind_of_letter n
unfolding kind_of_letter
other-letter n a b c d = rw (ne_eqb n 67 a, ne_eqb n 83 b, ne_eqb n 118 c, ne_eqb n 116 d) refl

implementation-kind : (p : Path) → IsImplementation p → kind_of_path p ≡ kind.Impl
unfolding kind_of_path
implementation-kind (inherent_impl n p t) is = refl
implementation-kind (trait_impl n p t q) is = refl
implementation-kind (trait_definition t q) is = refl
implementation-kind _ is = absurd is

passed-kind : (n : ℕ) (p : Path) (own : Identifier) → (nat_le 97 n && is_empty own.name.bytes) ≡ true → kind_of_path (nested n p own) ≡ kind_of_path p
unfolding kind_of_path
passed-kind n p own holds = ap (λ b. elim b [ true ↦ kind_of_path p | false ↦ kind_of_letter n ]) holds

own-kind : (n : ℕ) (p : Path) (own : Identifier) → (nat_le 97 n && is_empty own.name.bytes) ≡ false → kind_of_path (nested n p own) ≡ kind_of_letter n
unfolding kind_of_path
own-kind n p own not_so = ap (λ b. elim b [ true ↦ kind_of_path p | false ↦ kind_of_letter n ]) not_so

generic-kind : (p : Path) (args : Arguments) → kind_of_path (generic p args) ≡ kind_of_path p
unfolding kind_of_path
generic-kind p args = refl

crate-kind : (own : Identifier) → kind_of_path (crate_root own) ≡ kind.Crate
unfolding kind_of_path
crate-kind own = refl

module _ (y : ReadSymbol) (node : ℕ) (s : PathSort) (is : IsSort y node s) where
  pub kind-crate : s ≡ sort.Crate → kind_of_path (path_at y node) ≡ kind.Crate
  kind-crate e = let h = subst (IsSort y node) e is in ap kind_of_path h.1 ∙ crate-kind h.0

  pub kind-implementation : s ≡ sort.Implementation → kind_of_path (path_at y node) ≡ kind.Impl
  kind-implementation e = implementation-kind (path_at y node) (subst (IsSort y node) e is)

  pub kind-generic : (parent : ℕ) → s ≡ sort.Generic parent → (parent < node) × (kind_of_path (path_at y node) ≡ kind_of_path (path_at y parent))
  kind-generic parent e = let h = subst (IsSort y node) e is in (h.0, ap kind_of_path h.1.1 ∙ generic-kind (path_at y parent) h.1.0)

  pub kind-passed : (parent : ℕ) → s ≡ sort.Nested parent → (nat_le 97 (number_in (fields_at y node) 0) && is_empty (text_in (fields_at y node))) ≡ true
      → (parent < node) × (kind_of_path (path_at y node) ≡ kind_of_path (path_at y parent))
  kind-passed parent e holds =
      let h = subst (IsSort y node) e is in
      (h.0, ap kind_of_path h.1.2 ∙ passed-kind (number_in (fields_at y node) 0) (path_at y parent) h.1.0 (ap (λ t. nat_le 97 (number_in (fields_at y node) 0) && is_empty t) h.1.1 ∙ holds))

  pub kind-own : (parent : ℕ) → s ≡ sort.Nested parent → (nat_le 97 (number_in (fields_at y node) 0) && is_empty (text_in (fields_at y node))) ≡ false
      → kind_of_path (path_at y node) ≡ kind_of_letter (number_in (fields_at y node) 0)
  kind-own parent e not_so =
      let h = subst (IsSort y node) e is in
      ap kind_of_path h.1.2 ∙ own-kind (number_in (fields_at y node) 0) (path_at y parent) h.1.0 (ap (λ t. nat_le 97 (number_in (fields_at y node) 0) && is_empty t) h.1.1 ∙ not_so)
