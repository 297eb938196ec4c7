-- The library lemmas and definitions that this crate's proofs use, exported from one place.
pub use Rattle.std.proofs.Common.{Bool, List, Option, Some, [], ap, append-nil, append_assoc, arith, drop, length, length-append, length-drop, length-take, min, refl, slice_get, subst, sym, take, true, ℕ, ◌*◌, ◌++◌, ◌+◌, ◌-◌, ◌<◌, ◌∙◌, ◌∷◌, ◌≡◌, ◌≤◌}
pub use Rattle.std.proofs.lemmas.List.Elements.{All-same}
pub use Rattle.std.proofs.lemmas.Result.{on_ok_weaker}
pub use Rattle.std.specs.List.{All}
pub use Rattle.std.specs.Prelude.{None, codes, false, if◌then◌else◌, nat_le, slice_index, ◌&&◌}
unfoldable pub use Rattle.rust_parts.specs.Kinds.{kind_of_letter, kind_of_path, kind_of_symbol}
unfoldable pub use Rattle.rust_parts.specs.Roles.{arguments, elements, listed, name, of_trait, of_type, scope, scoped, symbol_marked}
pub use Rattle.rust_parts.specs.Roles.{argument, implementation, whole_of}
unfoldable pub use Rattle.rust_parts.specs.Sorts.{name_by, scope_by}
pub use Rattle.rust_parts.specs.Sorts.{IsBelow, IsImplementation, IsSort, path_at}
unfoldable pub use Rattle.rust_parts.specs.Tasks.{IsApart, marked_of, weight_of}
pub use Rattle.rust_parts.specs.Tasks.{ArePayable, Grows, IsPayable, printed_by}
pub use Rattle.rust_parts.specs.declared.apart.Apart.{Apart}
pub use Rattle.rust_parts.specs.declared.sorts.PathSort.{PathSort}
pub use Rattle.rust_tree.specs.Layout.{MayCome, ReadSymbol, bytes_of_part, is_empty, shown_symbol, trees_of, unshared_of}
pub use Rattle.rust_tree.specs.Nodes.{arguments_in, path_in, symbol_in}
pub use Rattle.rust_tree.specs.Symbol.{Arguments, Identifier, Path, Symbol, basic, crate_root, generic, inherent_impl, nested, no_arguments, path_type, trait_definition, trait_impl, type_argument}
pub use Rattle.rust_tree.specs.declared.context.Context.{Context}
pub use Rattle.sym_parts.proofs.Marks.{length-stretches_from, text_of-before}
pub use Rattle.sym_parts.proofs.Splitting.{cost-of-text, length-of-text}
pub use Rattle.sym_parts.proofs.Walking.{begins, ended, first-task, fits-next, goes-on, grown, lists-begin, lists-same, lists-skip, other-tasks, smaller}
unfoldable pub use Rattle.sym_parts.specs.Marked.{marks_in, ◌before◌}
pub use Rattle.sym_parts.specs.Marked.{Marked, marked, stretches_of, text}
unfoldable pub use Rattle.sym_parts.specs.Marks.{skipped}
pub use Rattle.sym_parts.specs.Marks.{stretches_at}
unfoldable pub use Rattle.sym_parts.specs.Plain.{suffixed}
pub use Rattle.sym_parts.specs.Plain.{alone, numbered, only, plain, whole}
unfoldable pub use Rattle.sym_parts.specs.Tasks.{IsTask, marks_of_task, weight_of_task}
pub use Rattle.sym_parts.specs.Tasks.{Lists, marks_of_tasks, weight_of_tasks}
pub use Rattle.sym_parts.specs.declared.role.Role.{Role}
pub use Rattle.sym_parts.specs.declared.spelling.Ordinal.{Ordinal}
pub use Rattle.sym_parts.specs.declared.task.Task.{Task}
pub use Rattle.sym_print.proofs.Noting.{length_of_text}
pub use Rattle.sym_print.specs.Unshared.{Unshared, bytes, cost_of, cost_of_parts, done, item, steps_of, steps_of_parts, text_of}
pub use Rattle.sym_print.specs.declared.layout.Item.{Item}
