-- The clauses of the definition, for printed items of the shape that the code found.
use Rattle.rust_parts.proofs.Basics.{◌≡◌, ℕ, ◌+◌, ◌-◌, ◌<◌, List, take, drop, length, min, sym, ap, ◌∙◌, arith, length-take, length-drop, subst, ReadSymbol, Path, Symbol, Unshared, done, bytes, item, text_of, Marked, text, marked, ◌before◌, plain, whole, alone, numbered, only, suffixed, argument, elements, listed, arguments, of_trait, of_type, implementation, scope, scoped, name, symbol_marked, IsBelow, name_by, path_at, scope_by, PathSort}
use Rattle.sym_parts.specs.Marked as marks
use Rattle.sym_parts.specs.declared.role.Role.TheVariants as role
use Rattle.rust_parts.specs.declared.sorts.PathSort.TheVariants as sort

-- ## Arguments

pub listed-nothing : (list number : ℕ) (u : Unshared) → u ≡ done → plain u ≡ listed list number u
unfolding listed
listed-nothing list number u is = ap plain is ∙ sym (ap (listed list number) is)

pub listed-text : (list number : ℕ) (u : Unshared) (b : List ℕ) (rest : Unshared) → u ≡ bytes b rest → plain u ≡ listed list number u
unfolding listed
listed-text list number u b rest is = ap plain is ∙ sym (ap (listed list number) is)

pub listed-item : (list number : ℕ) (u one rest : Unshared) → u ≡ item one rest → elements list number one before plain rest ≡ listed list number u
unfolding listed
listed-item list number u one rest is = sym (ap (listed list number) is)

pub elements-nothing : (list number : ℕ) (u : Unshared) → u ≡ done → plain u ≡ elements list number u
unfolding elements
elements-nothing list number u is = ap plain is ∙ sym (ap (elements list number) is)

pub elements-item : (list number : ℕ) (u one rest : Unshared) → u ≡ item one rest → alone role.GenericArgument (argument list number) (text_of one) (listed list (number + 1) rest) ≡ elements list number u
unfolding elements
elements-item list number u one rest is = sym (ap (elements list number) is)

pub elements-text-nothing : (list number : ℕ) (u : Unshared) (b : List ℕ) (rest : Unshared) → u ≡ bytes b rest → rest ≡ done → plain u ≡ elements list number u
unfolding elements
elements-text-nothing list number u b rest is next = ap plain (is ∙ ap (bytes b) next) ∙ sym (ap (elements list number) (is ∙ ap (bytes b) next))

pub elements-text-text : (list number : ℕ) (u : Unshared) (b : List ℕ) (rest : Unshared) (c : List ℕ) (others : Unshared) → u ≡ bytes b rest → rest ≡ bytes c others → plain u ≡ elements list number u
unfolding elements
elements-text-text list number u b rest c others is next = ap plain (is ∙ ap (bytes b) next) ∙ sym (ap (elements list number) (is ∙ ap (bytes b) next))

pub elements-text-item : (list number : ℕ) (u : Unshared) (b : List ℕ) (rest one others : Unshared) → u ≡ bytes b rest → rest ≡ item one others
    → text b (alone role.GenericArgument (argument list number) (text_of one) (listed list (number + 1) others)) ≡ elements list number u
unfolding elements
elements-text-item list number u b rest one others is next = sym (ap (elements list number) (is ∙ ap (bytes b) next))

pub arguments-nothing : (list : ℕ) (u : Unshared) → u ≡ done → plain u ≡ arguments list u
unfolding arguments
arguments-nothing list u is = ap plain is ∙ sym (ap (arguments list) is)

pub arguments-item : (list : ℕ) (u one rest : Unshared) → u ≡ item one rest → plain u ≡ arguments list u
unfolding arguments
arguments-item list u one rest is = ap plain is ∙ sym (ap (arguments list) is)

pub arguments-text : (list : ℕ) (u : Unshared) (b : List ℕ) (rest : Unshared) → u ≡ bytes b rest
    → text (take 2 b) (marked role.GenericArguments (numbered list) (text (drop 2 b) (listed list 1 rest)) marks.done) ≡ arguments list u
unfolding arguments
arguments-text list u b rest is = sym (ap (arguments list) is)

-- the lengths of the first two bytes of a text and of the rest
pub front-lengths : (b : List ℕ) (count front : ℕ) → count ≡ length b → front ≡ min count 2 → (front ≡ length (take 2 b)) × (count - front ≡ length (drop 2 b))
front-lengths b count front long is = (omega (arith, long, is, length-take 2 b), omega (arith, long, is, length-drop 2 b))

-- ## Implementations

pub trait-nothing : (u : Unshared) → u ≡ done → plain u ≡ of_trait u
unfolding of_trait
trait-nothing u is = ap plain is ∙ sym (ap of_trait is)

pub trait-item : (u one rest : Unshared) → u ≡ item one rest → plain u ≡ of_trait u
unfolding of_trait
trait-item u one rest is = ap plain is ∙ sym (ap of_trait is)

pub trait-text-nothing : (u : Unshared) (b : List ℕ) (rest : Unshared) → u ≡ bytes b rest → rest ≡ done → plain u ≡ of_trait u
unfolding of_trait
trait-text-nothing u b rest is next = ap plain (is ∙ ap (bytes b) next) ∙ sym (ap of_trait (is ∙ ap (bytes b) next))

pub trait-text-text : (u : Unshared) (b : List ℕ) (rest : Unshared) (c : List ℕ) (others : Unshared) → u ≡ bytes b rest → rest ≡ bytes c others → plain u ≡ of_trait u
unfolding of_trait
trait-text-text u b rest c others is next = ap plain (is ∙ ap (bytes b) next) ∙ sym (ap of_trait (is ∙ ap (bytes b) next))

pub trait-text-item : (u : Unshared) (b : List ℕ) (rest one others : Unshared) → u ≡ bytes b rest → rest ≡ item one others
    → text b (alone role.Trait only (text_of one) (plain others)) ≡ of_trait u
unfolding of_trait
trait-text-item u b rest one others is next = sym (ap of_trait (is ∙ ap (bytes b) next))

pub type-nothing : (u : Unshared) → u ≡ done → plain u ≡ of_type u
unfolding of_type
type-nothing u is = ap plain is ∙ sym (ap of_type is)

pub type-item : (u one rest : Unshared) → u ≡ item one rest → plain u ≡ of_type u
unfolding of_type
type-item u one rest is = ap plain is ∙ sym (ap of_type is)

pub type-text-nothing : (u : Unshared) (b : List ℕ) (rest : Unshared) → u ≡ bytes b rest → rest ≡ done → plain u ≡ of_type u
unfolding of_type
type-text-nothing u b rest is next = ap plain (is ∙ ap (bytes b) next) ∙ sym (ap of_type (is ∙ ap (bytes b) next))

pub type-text-text : (u : Unshared) (b : List ℕ) (rest : Unshared) (c : List ℕ) (others : Unshared) → u ≡ bytes b rest → rest ≡ bytes c others → plain u ≡ of_type u
unfolding of_type
type-text-text u b rest c others is next = ap plain (is ∙ ap (bytes b) next) ∙ sym (ap of_type (is ∙ ap (bytes b) next))

pub type-text-item : (u : Unshared) (b : List ℕ) (rest one others : Unshared) → u ≡ bytes b rest → rest ≡ item one others
    → text b (alone role.SelfType only (text_of one) (of_trait others)) ≡ of_type u
unfolding of_type
type-text-item u b rest one others is next = sym (ap of_type (is ∙ ap (bytes b) next))

-- ## Paths by their sorts

module _ (y : ReadSymbol) (lists : ℕ) (u : Unshared) where
  pub scope-crate : (s : PathSort) → s ≡ sort.Crate → whole role.Crate only u ≡ scope_by y lists s u
  unfolding scope_by
  scope-crate s e = sym (ap (λ x. scope_by y lists x u) e)

  pub scope-implementation : (s : PathSort) → s ≡ sort.Implementation → implementation u ≡ scope_by y lists s u
  unfolding scope_by
  scope-implementation s e = sym (ap (λ x. scope_by y lists x u) e)

  pub scope-nested-nothing : (s : PathSort) (parent : ℕ) → s ≡ sort.Nested parent → u ≡ done → implementation u ≡ scope_by y lists s u
  unfolding scope_by
  scope-nested-nothing s parent e is = ap implementation is ∙ sym (ap (λ x. scope_by y lists x u) e ∙ ap (scope_by y lists (sort.Nested parent)) is)

  pub scope-nested-text : (s : PathSort) (parent : ℕ) (b : List ℕ) (rest : Unshared) → s ≡ sort.Nested parent → u ≡ bytes b rest → implementation u ≡ scope_by y lists s u
  unfolding scope_by
  scope-nested-text s parent b rest e is = ap implementation is ∙ sym (ap (λ x. scope_by y lists x u) e ∙ ap (scope_by y lists (sort.Nested parent)) is)

  pub scope-nested-item : (s : PathSort) (parent : ℕ) (one rest : Unshared) → s ≡ sort.Nested parent → u ≡ item one rest → scope lists (path_at y parent) one before plain rest ≡ scope_by y lists s u
  unfolding scope_by
  scope-nested-item s parent one rest e is = sym (ap (λ x. scope_by y lists x u) e ∙ ap (scope_by y lists (sort.Nested parent)) is)

  pub scope-generic-nothing : (s : PathSort) (parent : ℕ) → s ≡ sort.Generic parent → u ≡ done → implementation u ≡ scope_by y lists s u
  unfolding scope_by
  scope-generic-nothing s parent e is = ap implementation is ∙ sym (ap (λ x. scope_by y lists x u) e ∙ ap (scope_by y lists (sort.Generic parent)) is)

  pub scope-generic-text : (s : PathSort) (parent : ℕ) (b : List ℕ) (rest : Unshared) → s ≡ sort.Generic parent → u ≡ bytes b rest → implementation u ≡ scope_by y lists s u
  unfolding scope_by
  scope-generic-text s parent b rest e is = ap implementation is ∙ sym (ap (λ x. scope_by y lists x u) e ∙ ap (scope_by y lists (sort.Generic parent)) is)

  pub scope-generic-item : (s : PathSort) (parent : ℕ) (one rest : Unshared) → s ≡ sort.Generic parent → u ≡ item one rest → scope (lists + 1) (path_at y parent) one before arguments lists rest ≡ scope_by y lists s u
  unfolding scope_by
  scope-generic-item s parent one rest e is = sym (ap (λ x. scope_by y lists x u) e ∙ ap (scope_by y lists (sort.Generic parent)) is)

  pub name-crate : (s : PathSort) → s ≡ sort.Crate → scope_by y lists s u ≡ name_by y lists s u
  unfolding name_by
  name-crate s e = ap (λ x. scope_by y lists x u) e ∙ sym (ap (λ x. name_by y lists x u) e)

  pub name-implementation : (s : PathSort) → s ≡ sort.Implementation → scope_by y lists s u ≡ name_by y lists s u
  unfolding name_by
  name-implementation s e = ap (λ x. scope_by y lists x u) e ∙ sym (ap (λ x. name_by y lists x u) e)

  pub name-nested-nothing : (s : PathSort) (parent : ℕ) → s ≡ sort.Nested parent → u ≡ done → scope_by y lists (sort.Nested parent) u ≡ name_by y lists s u
  unfolding name_by
  name-nested-nothing s parent e is = ap (scope_by y lists (sort.Nested parent)) is ∙ sym (ap (λ x. name_by y lists x u) e ∙ ap (name_by y lists (sort.Nested parent)) is)

  pub name-nested-text : (s : PathSort) (parent : ℕ) (b : List ℕ) (rest : Unshared) → s ≡ sort.Nested parent → u ≡ bytes b rest → scope_by y lists (sort.Nested parent) u ≡ name_by y lists s u
  unfolding name_by
  name-nested-text s parent b rest e is = ap (scope_by y lists (sort.Nested parent)) is ∙ sym (ap (λ x. name_by y lists x u) e ∙ ap (name_by y lists (sort.Nested parent)) is)

  pub name-nested-item : (s : PathSort) (parent : ℕ) (one rest : Unshared) → s ≡ sort.Nested parent → u ≡ item one rest → name_by y lists (sort.Nested parent) (item one rest) ≡ name_by y lists s u
  name-nested-item s parent one rest e is = sym (ap (λ x. name_by y lists x u) e ∙ ap (name_by y lists (sort.Nested parent)) is)

  pub name-generic-nothing : (s : PathSort) (parent : ℕ) → s ≡ sort.Generic parent → u ≡ done → scope_by y lists (sort.Generic parent) u ≡ name_by y lists s u
  unfolding name_by
  name-generic-nothing s parent e is = ap (scope_by y lists (sort.Generic parent)) is ∙ sym (ap (λ x. name_by y lists x u) e ∙ ap (name_by y lists (sort.Generic parent)) is)

  pub name-generic-text : (s : PathSort) (parent : ℕ) (b : List ℕ) (rest : Unshared) → s ≡ sort.Generic parent → u ≡ bytes b rest → scope_by y lists (sort.Generic parent) u ≡ name_by y lists s u
  unfolding name_by
  name-generic-text s parent b rest e is = ap (scope_by y lists (sort.Generic parent)) is ∙ sym (ap (λ x. name_by y lists x u) e ∙ ap (name_by y lists (sort.Generic parent)) is)

  pub name-generic-item : (s : PathSort) (parent : ℕ) (one rest : Unshared) → s ≡ sort.Generic parent → u ≡ item one rest → name (lists + 1) (path_at y parent) one before arguments lists rest ≡ name_by y lists s u
  unfolding name_by
  name-generic-item s parent one rest e is = sym (ap (λ x. name_by y lists x u) e ∙ ap (name_by y lists (sort.Generic parent)) is)

-- a name after its parent, by what is after the parent's item
module _ (y : ReadSymbol) (lists parent : ℕ) (one rest : Unshared) where
  pub nested-text : (b : List ℕ) (others : Unshared) → rest ≡ bytes b others → scoped (scope lists (path_at y parent) one) b others ≡ name_by y lists (sort.Nested parent) (item one rest)
  unfolding name_by
  nested-text b others next = sym (ap (λ x. name_by y lists (sort.Nested parent) (item one x)) next)

  pub nested-nothing : rest ≡ done → name lists (path_at y parent) one before plain rest ≡ name_by y lists (sort.Nested parent) (item one rest)
  unfolding name_by
  nested-nothing next = ap (λ x. name lists (path_at y parent) one before plain x) next ∙ sym (ap (λ x. name_by y lists (sort.Nested parent) (item one x)) next)

  pub nested-item : (other others : Unshared) → rest ≡ item other others → name lists (path_at y parent) one before plain rest ≡ name_by y lists (sort.Nested parent) (item one rest)
  unfolding name_by
  nested-item other others next = ap (λ x. name lists (path_at y parent) one before plain x) next ∙ sym (ap (λ x. name_by y lists (sort.Nested parent) (item one x)) next)

pub below-nested : (count : ℕ) (s : PathSort) (parent : ℕ) → s ≡ sort.Nested parent → IsBelow count s → parent < count
below-nested count s parent e below = subst (IsBelow count) e below

pub below-generic : (count : ℕ) (s : PathSort) (parent : ℕ) → s ≡ sort.Generic parent → IsBelow count s → parent < count
below-generic count s parent e below = subst (IsBelow count) e below

-- ## Whole symbols

pub suffix-nothing : (u : Unshared) → u ≡ done → plain u ≡ suffixed u
unfolding suffixed
suffix-nothing u is = ap plain is ∙ sym (ap suffixed is)

pub suffix-item : (u one rest : Unshared) → u ≡ item one rest → plain u ≡ suffixed u
unfolding suffixed
suffix-item u one rest is = ap plain is ∙ sym (ap suffixed is)

pub suffix-text-nothing : (u : Unshared) (b : List ℕ) (rest : Unshared) → u ≡ bytes b rest → rest ≡ done → plain u ≡ suffixed u
unfolding suffixed
suffix-text-nothing u b rest is none = ap plain (is ∙ ap (bytes b) none) ∙ sym (ap suffixed (is ∙ ap (bytes b) none))

pub suffix-text-item : (u : Unshared) (b : List ℕ) (rest one others : Unshared) → u ≡ bytes b rest → rest ≡ item one others → plain u ≡ suffixed u
unfolding suffixed
suffix-text-item u b rest one others is next = ap plain (is ∙ ap (bytes b) next) ∙ sym (ap suffixed (is ∙ ap (bytes b) next))

pub suffix-text-text : (u : Unshared) (b : List ℕ) (rest : Unshared) (c : List ℕ) (others : Unshared) → u ≡ bytes b rest → rest ≡ bytes c others → text b (alone role.Suffix only c (plain others)) ≡ suffixed u
unfolding suffixed
suffix-text-text u b rest c others is next = sym (ap suffixed (is ∙ ap (bytes b) next))

pub symbol-nothing : (s : Symbol) (u : Unshared) → u ≡ done → plain u ≡ symbol_marked s u
unfolding symbol_marked
symbol-nothing s u is = ap plain is ∙ sym (ap (symbol_marked s) is)

pub symbol-text : (s : Symbol) (u : Unshared) (b : List ℕ) (rest : Unshared) → u ≡ bytes b rest → plain u ≡ symbol_marked s u
unfolding symbol_marked
symbol-text s u b rest is = ap plain is ∙ sym (ap (symbol_marked s) is)

pub symbol-item : (s : Symbol) (p : Path) (u one rest : Unshared) → p ≡ s.path → u ≡ item one rest → name 0 p one before suffixed rest ≡ symbol_marked s u
unfolding symbol_marked
symbol-item s p u one rest path is = ap (λ x. name 0 x one before suffixed rest) path ∙ sym (ap (symbol_marked s) is)
