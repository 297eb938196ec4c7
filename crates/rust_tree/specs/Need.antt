-- The least number of enclosing bound lifetimes that closes a tree.
use Rattle.std.specs.Prelude.{ℕ, ◌-◌, max}
use Rattle.rust_tree.specs.Symbol.{Path, Arguments, Ty, Tys, Bounds, Bindings, crate_root, inherent_impl, trait_impl, trait_definition, nested, generic, no_arguments, lifetime_argument, constant_argument, type_argument, basic, path_type, array, slice, tuple, shared_reference, mutable_reference, const_pointer, mut_pointer, function, dyn, no_types, more_types, no_bounds, more_bounds, no_bindings, more_bindings}

unfoldable mutual
  pub need : Path → ℕ
  need (crate_root name) = 0
  need (inherent_impl d path type) = max (need path) (need_of_type type)
  need (trait_impl d path type tr) = max (max (need path) (need_of_type type)) (need tr)
  need (trait_definition type tr) = max (need_of_type type) (need tr)
  need (nested space path name) = need path
  need (generic path args) = max (need path) (need_of_arguments args)

  pub need_of_arguments : Arguments → ℕ
  need_of_arguments no_arguments = 0
  need_of_arguments (lifetime_argument lifetime rest) = max lifetime (need_of_arguments rest)
  need_of_arguments (constant_argument constant rest) = need_of_arguments rest
  need_of_arguments (type_argument type rest) = max (need_of_type type) (need_of_arguments rest)

  pub need_of_type : Ty → ℕ
  need_of_type (basic letter) = 0
  need_of_type (path_type path) = need path
  need_of_type (array type length) = need_of_type type
  need_of_type (slice type) = need_of_type type
  need_of_type (tuple types) = need_of_types types
  need_of_type (shared_reference lifetime type) = max lifetime (need_of_type type)
  need_of_type (mutable_reference lifetime type) = max lifetime (need_of_type type)
  need_of_type (const_pointer type) = need_of_type type
  need_of_type (mut_pointer type) = need_of_type type
  need_of_type (function binder unsafe abi types result) = max (need_of_types types) (need_of_type result) - binder
  need_of_type (dyn binder bounds lifetime) = max (need_of_bounds bounds - binder) lifetime

  pub need_of_types : Tys → ℕ
  need_of_types no_types = 0
  need_of_types (more_types type rest) = max (need_of_type type) (need_of_types rest)

  pub need_of_bounds : Bounds → ℕ
  need_of_bounds no_bounds = 0
  need_of_bounds (more_bounds path bindings rest) = max (max (need path) (need_of_bindings bindings)) (need_of_bounds rest)

  pub need_of_bindings : Bindings → ℕ
  need_of_bindings no_bindings = 0
  need_of_bindings (more_bindings name type rest) = max (need_of_type type) (need_of_bindings rest)
