-- A reference to a node that has ended denotes this node, if the lifetimes in scope close its tree.
use Rattle.std.proofs.Common.{◌≡◌, refl, sym, ap, subst, ℕ, Bool, true, false, ◌⊎◌, inl, inr, List, Option, Some, None, Result, Ok, Err, if◌then◌else◌}
use Rattle.std.specs.Prelude.{nat_le, slice_get}
use Rattle.sym_core.specs.declared.refusal.Refusal.{Refusal}
use Rattle.sym_core.specs.declared.refusal.Refusal.TheVariants.{BadReference}
use Rattle.rust_tree.specs.Symbol as tree
use Rattle.rust_tree.specs.Need.{need}
use Rattle.rust_tree.specs.Tree.{Tree, need_of_tree, of_path, of_type}
use Rattle.rust_tree.specs.Nodes.{IsPath}
use Rattle.rust_grammar.specs.Value as value
use Rattle.rust_grammar.specs.Value.{Value}
use Rattle.rust_grammar.specs.Unfold.{At, as_path, as_type, ends_path, ends_type, refers_to_path, refers_to_type}
use Rattle.rust_references.specs.Named.{NamesPath, NamesType}
use Rattle.rust_references.specs.declared.targets.Target.{Target}

-- if a property holds of a node when a test passes, and of a refusal when the test fails, the property holds of the
-- test's result
by_test : (P : Result ℕ Refusal → Type 0) (test : Bool) (node : ℕ) (e : Refusal) (result : Result ℕ Refusal) → result ≡ (if test then Ok node else Err e)
    → (test ≡ true → P (Ok node)) → (test ≡ false → P (Err e)) → P result
by_test P true node e result is stands refused = subst P (sym is) (stands refl)
by_test P false node e result is stands refused = subst P (sym is) (refused refl)

path_is : (known : Option Value) (path : tree.Path) → ((known ≡ Some (value.a_path path)) ⊎ (known ≡ Some (value.a_type (tree.path_type path)))) → as_path known ≡ Some path
path_is known path (inl is) = rw is refl
path_is known path (inr is) = rw is refl

type_is : (known : Option Value) (path : tree.Path) → ((known ≡ Some (value.a_path path)) ⊎ (known ≡ Some (value.a_type (tree.path_type path)))) → as_type known ≡ Some (tree.path_type path)
type_is known path (inl is) = rw is refl
type_is known path (inr is) = rw is refl

path_stands : (at : At) (path : tree.Path) (bound : ℕ) → at.bound ≡ bound → nat_le (need_of_tree (of_path path)) bound ≡ true → refers_to_path at (Some path) ≡ ends_path at path
unfolding need_of_tree
path_stands at path bound same closes = rw (same, closes) refl

path_is_unbound : (at : At) (path : tree.Path) (bound : ℕ) → at.bound ≡ bound → nat_le (need_of_tree (of_path path)) bound ≡ false → refers_to_path at (Some path) ≡ Err (BadReference at.place)
unfolding need_of_tree
path_is_unbound at path bound same unbound = rw (same, unbound) refl

path_type_stands : (at : At) (path : tree.Path) (bound : ℕ) → at.bound ≡ bound → nat_le (need_of_tree (of_path path)) bound ≡ true → refers_to_type at (Some (tree.path_type path)) ≡ ends_type at (tree.path_type path)
unfolding need_of_tree need
path_type_stands at path bound same closes = rw (same, closes) refl

path_type_is_unbound : (at : At) (path : tree.Path) (bound : ℕ) → at.bound ≡ bound → nat_le (need_of_tree (of_path path)) bound ≡ false → refers_to_type at (Some (tree.path_type path)) ≡ Err (BadReference at.place)
unfolding need_of_tree need
path_type_is_unbound at path bound same unbound = rw (same, unbound) refl

type_stands : (at : At) (type : tree.Ty) (bound : ℕ) → at.bound ≡ bound → nat_le (need_of_tree (of_type type)) bound ≡ true → refers_to_type at (Some type) ≡ ends_type at type
unfolding need_of_tree
type_stands at type bound same closes = rw (same, closes) refl

type_is_unbound : (at : At) (type : tree.Ty) (bound : ℕ) → at.bound ≡ bound → nat_le (need_of_tree (of_type type)) bound ≡ false → refers_to_type at (Some type) ≡ Err (BadReference at.place)
unfolding need_of_tree
type_is_unbound at type bound same unbound = rw (same, unbound) refl

module _ (all : List Tree) (node : ℕ) (at : At) (known : Option Value) (place bound : ℕ) (result : Result ℕ Refusal) (there : at.place ≡ place) (same : at.bound ≡ bound) where
  pub path_named : (path : tree.Path) → IsPath all node path → ((known ≡ Some (value.a_path path)) ⊎ (known ≡ Some (value.a_type (tree.path_type path))))
      → result ≡ (if nat_le (need_of_tree (of_path path)) bound then Ok node else Err (BadReference place)) → NamesPath all (Target.Path node) at known result
  path_named path got is closes =
      by_test (NamesPath all (Target.Path node) at known) (nat_le (need_of_tree (of_path path)) bound) node (BadReference place) result closes
      (λ fits. (path, got, (path, got, inl refl), rw (path_is known path is) (path_stands at path bound same fits)))
      (λ unbound. rw (path_is known path is, ← there) (path_is_unbound at path bound same unbound))

  pub path_type_named : (path : tree.Path) → IsPath all node path → ((known ≡ Some (value.a_path path)) ⊎ (known ≡ Some (value.a_type (tree.path_type path))))
      → result ≡ (if nat_le (need_of_tree (of_path path)) bound then Ok node else Err (BadReference place)) → NamesType all (Target.Path node) at known result
  path_type_named path got is closes =
      by_test (NamesType all (Target.Path node) at known) (nat_le (need_of_tree (of_path path)) bound) node (BadReference place) result closes
      (λ fits. (tree.path_type path, inr (path, got, refl), (path, got, inr refl), rw (type_is known path is) (path_type_stands at path bound same fits)))
      (λ unbound. rw (type_is known path is, ← there) (path_type_is_unbound at path bound same unbound))

  pub type_named : (type : tree.Ty) → slice_get all node ≡ Some (of_type type) → as_path (Some (value.a_type type)) ≡ None → known ≡ Some (value.a_type type)
      → result ≡ (if nat_le (need_of_tree (of_type type)) bound then Ok node else Err (BadReference place)) → NamesType all (Target.Type node) at known result
  type_named type got plain is closes =
      by_test (NamesType all (Target.Type node) at known) (nat_le (need_of_tree (of_type type)) bound) node (BadReference place) result closes
      (λ fits. (type, inl got, (type, got, plain, refl), rw (ap as_type is) (type_stands at type bound same fits)))
      (λ unbound. rw (ap as_type is, ← there) (type_is_unbound at type bound same unbound))
