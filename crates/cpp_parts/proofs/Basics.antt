-- The library lemmas and definitions that this crate's proofs use, exported from one place.
pub use Rattle.std.proofs.Common.{Bool, List, None, Option, Some, [], ap, append-nil, append_assoc, arith, drop, false, get_or, length, length-append, length-drop, length-take, min, refl, slice_get, subst, sym, take, true, ℕ, ◌*◌, ◌++◌, ◌+◌, ◌-◌, ◌<◌, ◌∙◌, ◌∷◌, ◌≡◌, ◌≤◌}
pub use Rattle.std.proofs.lemmas.List.Elements.{All-cons, All-head, All-nil, All-same, All-tail}
pub use Rattle.std.proofs.lemmas.Result.{on_ok_weaker}
pub use Rattle.std.specs.List.{All}
pub use Rattle.std.specs.Prelude.{codes, if◌then◌else◌, nat_eq, ◌==◌}
unfoldable pub use Rattle.cpp_parts.specs.KindNumbers.{called_kind, inner_part_by, is_any, is_constructor_by, is_lambda_by, is_operator_by, is_string_by, local_kind, other_kind_by, piece_kind_by}
unfoldable pub use Rattle.cpp_parts.specs.Kinds.{encoding_kind, is_in_lambda, is_lambda_piece, is_string, kind_of_symbol, object_kind, of_name_kind, own_name, piece_kind, piece_of, thunk_kind}
pub use Rattle.cpp_parts.specs.Kinds.{is_call, is_lambda, named_kind}
unfoldable pub use Rattle.cpp_parts.specs.Roles.{abbreviated, alone_if_any, are_colons, arguments, behind, called, element, element_of, elements, elements_after, encoding, in_brackets, in_std, inside, is_absent, name, named, next, ordinal_of, parameters, rest_of, returned, returning, scoped, special_name, symbol_marked, within, words}
unfoldable pub use Rattle.cpp_parts.specs.Sorts.{elements_here, encoding_by, name_by}
pub use Rattle.cpp_parts.specs.Sorts.{AreNamesBelow}
unfoldable pub use Rattle.cpp_parts.specs.Tasks.{IsTask, count_of, marks_of_task, marks_of_tasks, weight_of_task, weight_of_tasks}
pub use Rattle.cpp_parts.specs.Tasks.{Adds, ArePayable, Grows, IsPayable, Lists, printed_by}
pub use Rattle.cpp_parts.specs.declared.numbering.Numbering.{Numbering}
pub use Rattle.cpp_parts.specs.declared.task.Task.{Task}
unfoldable pub use Rattle.cpp_grammar.specs.Parts.{entity_of}
pub use Rattle.cpp_grammar.specs.Term.{Qualifiers, RefQualifier, Term, Thunk, abbreviation, absent, adjusting, by_table, clone, covariant, expansion, function, holder, instance, list, local, non_virtual, object, of_default, pack, symbol, tagged, thunk}
pub use Rattle.cpp_layout.specs.Layout.{MayBeAsked, ReadSymbol, bytes_of_part, shown_symbol, table_of, unshared_of, whole_of}
pub use Rattle.cpp_layout.specs.declared.context.Context.{Context}
unfoldable pub use Rattle.cpp_tree.specs.Fields.{fields_of, local_fields, name_fields, named_fields, thunk_fields}
pub use Rattle.cpp_tree.specs.Fields.{Fields, fields, mark_number, offsets_of, qualifiers_number, tree_from}
pub use Rattle.cpp_tree.specs.Views.{plain_tree}
pub use Rattle.cpp_tree.specs.declared.tree_production.TheConstants.{ABBREVIATION, ABSENT, CLONE, COVARIANT_THUNK, EXPANSION, FUNCTION, GUARD, HOLDER, INSTANCE, LIST, LOCAL, NESTED_OPERATOR, NUMBERED_LOCAL, OBJECT, OF_DEFAULT, OF_NAME, PACK, SYMBOL, TABLE_THUNK, TAGGED, THUNK, WIDE_THUNK}
pub use Rattle.sym_parts.proofs.Marks.{length-stretches_from, text_of-before}
pub use Rattle.sym_parts.proofs.Turns.{marks_of-before, skipped-append, skipped-marks_of, stretches_at-marks_of}
unfoldable pub use Rattle.sym_parts.specs.Marked.{marks_in, ◌before◌}
pub use Rattle.sym_parts.specs.Marked.{Marked, marked, stretches_of, text}
unfoldable pub use Rattle.sym_parts.specs.Marks.{marks_of, skipped, stretches_at}
pub use Rattle.sym_parts.specs.Marks.{Mark, begin, skip}
unfoldable pub use Rattle.sym_parts.specs.Plain.{suffixed}
pub use Rattle.sym_parts.specs.Plain.{alone, numbered, only, plain, whole}
pub use Rattle.sym_parts.specs.declared.role.Role.{Role}
pub use Rattle.sym_parts.specs.declared.spelling.Ordinal.{Ordinal}
pub use Rattle.sym_parts.specs.declared.stretch.Stretch.{Stretch}
pub use Rattle.sym_print.proofs.Noting.{length_of_text}
pub use Rattle.sym_print.specs.Joined.{IsText, cost_of_part, text_of_part}
pub use Rattle.sym_print.specs.Unshared.{Unshared, bytes, cost_of, cost_of_parts, done, item, steps_of, steps_of_parts, text_of}
pub use Rattle.sym_print.specs.declared.layout.Item.{Item}
pub use Rattle.sym_print.specs.declared.layout.Part.{Part}
pub use Rattle.sym_print.specs.declared.layout.Part.TheVariants.{Sub}
