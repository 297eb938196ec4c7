-- The library lemmas and definitions that this crate's proofs use, exported from one place.
pub use Rattle.std.proofs.Common.{Bool, List, None, Option, Some, [], ap, append_assoc, arith, length, refl, subst, suc, sym, true, zero, ℕ, ◌++◌, ◌+◌, ◌-◌, ◌<◌, ◌∙◌, ◌∷◌, ◌≡◌, ◌≤◌}
pub use Rattle.std.proofs.lemmas.Bool.{true≢false}
pub use Rattle.std.specs.Prelude.{codes, cond, false, ◌&&◌}
unfoldable pub use Rattle.cpp_spelling.specs.Bytes.{text_bytes}
unfoldable pub use Rattle.cpp_spelling.specs.Spelled.{argument_onto, between_onto, class_onto, compound_onto, elements_onto, encoding_onto, has_letters, is_piece_behind, is_prefix, local_onto, more_parameters_onto, name_onto, parameters_onto, piece_onto, plain_name_onto, prefix_onto, tagged_onto, type_onto}
pub use Rattle.cpp_spelling.specs.Spelled.{arguments_onto, in_std_onto, is_compared, lettered_onto, nested_onto, spelled_onto, tag_onto, within_onto}
unfoldable pub use Rattle.cpp_spelling.specs.Standings.{compared, is_instance, needs_N, standing_of, template_onto, template_standing_of}
unfoldable pub use Rattle.cpp_spelling.specs.Tasks.{AreTasks, before, bracketed, ending, in_name, in_way, press_tasks, tasks_weight, written, ◌onto◌}
pub use Rattle.cpp_spelling.specs.Tasks.{IsMade, IsTask, node_tree, plain_at, press_task, task_weight}
unfoldable pub use Rattle.cpp_spelling.specs.Weight.{weight}
pub use Rattle.cpp_spelling.specs.declared.task.Way.{Way}
unfoldable pub use Rattle.cpp_grammar.specs.Scope.{without_tags}
pub use Rattle.cpp_grammar.specs.Term.{Qualifiers, RefQualifier, Term, absent, address_of, alone, any_value, array, builtin, clone, complex, construction, constructor, conversion, destructor, encoding_literal, enumeration, expansion, explicit_object, function, function_type, generic_lambda, holder, in_std, instance, integer, lambda, list, literal_operator, local, lvalue, lvalue_only, member_pointer, nil, object, of_name, operator, pack, parameter, pointer, qualified, rvalue, rvalue_only, sized_float, source, special, string_literal, symbol, tagged, thunk, unnamed, vector, vendor, within}
pub use Rattle.cpp_layout.specs.Layout.{ReadSymbol, table_of}
unfoldable pub use Rattle.cpp_press_laws.specs.Components.{component, reference, referred, seq_id, spelled_out}
pub use Rattle.cpp_press_laws.specs.Components.{Component, Spelling, ended, first_equal}
unfoldable pub use Rattle.cpp_press_laws.specs.Pressing.{argument_ways, begun, encoding_ways, entity_text, function_text, in_N_and_E, is_behind_encoding, is_component, is_encoding, is_name, is_one_piece, local_text, name_ways, no_ways, piece_ways, template_before, type_ways, ways_of, with_letters}
pub use Rattle.cpp_press_laws.specs.Pressing.{is_nested, is_operator}
unfoldable pub use Rattle.cpp_press_laws.specs.Texts.{counted, decimal, mark_letter, name_letters, ordinal, qualifier_letters}
pub use Rattle.cpp_press_laws.specs.Texts.{discriminator_text, signed_text, special_code, thunk_text}
unfoldable pub use Rattle.cpp_term.specs.Erased.{erase}
pub use Rattle.cpp_tree.proofs.Trees.{erased_again, erased_place, not_again}
unfoldable pub use Rattle.cpp_tree.specs.Nodes.{is_again, tree_of, untagged_is}
pub use Rattle.cpp_tree.specs.Nodes.{IsAliasBelow, IsBelow, IsFlat, IsPieceBelow, IsTable, Table, entry_at, mark_of, qualifiers_of, tree_at, tree_if_there, tree_under, trees, under_kept}
pub use Rattle.cpp_tree.specs.declared.node.Node.{Node}
pub use Rattle.sym_spell.proofs.Spellings.{and-assoc, and-nothing, digits-capital, digits-ten, nothing-and}
pub use Rattle.sym_spell.specs.Pressing.{nothing, text, ◌and◌}
