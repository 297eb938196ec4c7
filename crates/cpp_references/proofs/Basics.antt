-- The library lemmas and definitions that this crate's proofs use, exported from one place.
pub use Rattle.std.proofs.Common.{Bool, Err, List, None, Ok, Option, Result, Some, [], ap, arith, false, length, not, refl, subst, suc, sym, true, zero, ℕ, ◌&&◌, ◌-◌, ◌<◌, ◌∙◌, ◌∷◌, ◌≡◌, ◌≤◌}
pub use Rattle.std.proofs.lemmas.Bool.{le-ltb, lt-ltb, true≢false}
pub use Rattle.std.specs.Prelude.{IfSome, MatchOption, nat_lt, slice_get}
unfoldable pub use Rattle.cpp_references.specs.Around.{around_of}
pub use Rattle.cpp_references.specs.Around.{AreNodesThere, candidates_of, trees_in}
unfoldable pub use Rattle.cpp_references.specs.References.{argument_read, function_node, maybe_candidate, module_node, packs_read, parameter_read}
pub use Rattle.cpp_grammar.specs.Scope.{Free, none_free, one_free, several_free}
pub use Rattle.cpp_term.proofs.Notes.{both, or_left, or_right}
unfoldable pub use Rattle.cpp_term.specs.Between.{argument_at, closed_arguments}
unfoldable pub use Rattle.cpp_term.specs.Reargued.{reargued}
unfoldable pub use Rattle.cpp_term.specs.References.{is_function_type, is_module, parameter_named}
pub use Rattle.cpp_term.specs.References.{appended, substituted, with_packs}
unfoldable pub use Rattle.cpp_term.specs.Rescoping.{in_scope, restated, under_scope, with_free}
unfoldable pub use Rattle.cpp_term.specs.Scope.{arguments_of, element, is_open}
pub use Rattle.cpp_term.specs.Scope.{count, free_in, has_pack, is_list, length_if_pack, pack_length}
pub use Rattle.cpp_term.specs.Term.{Term, absent, instance, list, local, of_default, parameter}
pub use Rattle.cpp_term.specs.Values.{Around, State, Value, tree}
pub use Rattle.cpp_tree.proofs.Trees.{placed-none, placed-some}
unfoldable pub use Rattle.cpp_tree.specs.Nodes.{free_is, is_again, placed_if_there, tree_if_there, tree_of, tree_under}
pub use Rattle.cpp_tree.specs.Nodes.{bytes_at, over, tree_at, trees}
pub use Rattle.sym_core.specs.Value.{counted_value}
pub use Rattle.sym_core.specs.declared.NumberKind.TheVariants.{Decimal, Seq36}
pub use Rattle.sym_core.specs.declared.refusal.Refusal.{Refusal}
pub use Rattle.sym_core.specs.declared.refusal.Refusal.TheVariants.{BadReference}
pub use Rattle.sym_link.specs.Reading.{Found, ◌>>=◌}
pub use Rattle.sym_link.specs.Unfold.{found}
