-- The library lemmas and definitions that this crate's proofs use, exported from one place.
pub use Rattle.std.proofs.Common.{Bool, List, None, Option, Some, [], ap, append-nil, append_assoc, arith, codes, cond, decimal, drop, false, get_or, if◌then◌else◌, inl, inr, length, nat_eq, nat_lt, not, refl, replicate, reverse, rules, slice_get, slice_index, subst, suc, sym, take, true, zero, ℕ, ◌&&◌, ◌*◌, ◌++◌, ◌+◌, ◌-◌, ◌<◌, ◌^◌, ◌||◌, ◌∙◌, ◌∷◌, ◌≡◌, ◌≢◌, ◌≤◌}
pub use Rattle.std.proofs.lemmas.Bool.{and_parts, eq-eqb, eqb-true, le-ltb, lt-ltb, ltb-true, ne_eqb, or_parts, true≢false}
pub use Rattle.std.proofs.lemmas.Bool.Decides.{eqb_tells}
pub use Rattle.std.proofs.lemmas.List.{drop_all, length-drop, length-reverse, length-take, reverse-reverse, take_all}
pub use Rattle.std.proofs.lemmas.Option.{slice_get_past, slice_get_within}
pub use Rattle.std.specs.List.{All, refill, starts_with}
pub use Rattle.std.specs.Prelude.{nat_le}
pub use Rattle.cpp_layout.specs.Layout.{IsNoSource, IsNoType, IsOwn, MayBeAsked, MayCome, ReadSymbol, Shows, bytes_of_part, clone_suffix, context_of, form_of, item_in, item_of, marked, node_shown, piece_shown, printed_tree, qualifiers_behind, referred, shown, shown_in, table_of, text_if, tree_in, type_shown, unshared_of}
unfoldable pub use Rattle.cpp_layout.specs.Pointers.{constant_pointers, pointers, run_text}
pub use Rattle.cpp_layout.specs.Pointers.{IsPointer, constant_stars, just_const}
unfoldable pub use Rattle.cpp_layout.specs.Texts.{operator_code, shown_mark, suffix_of}
pub use Rattle.cpp_layout.specs.Texts.{fixed_text, operator_letter, texts}
pub use Rattle.cpp_layout.specs.declared.context.Context.{Context}
pub use Rattle.cpp_layout.specs.declared.texts.TheConstants.{ANONYMOUS, AT, BLANK, BLANKED, BLANK_LEFT, BLANK_LESS, BRACE, BRAIN_FLOAT, CLONE, COLONS, COLONS_STAR, COMMA, CONVERSION, COUNT, DECLARING, DOTS, ENUM, FALSE, FLOAT, GREATER, LAMBDA, LEFT, LEFT_BRACE, LEFT_BRACKET, LEFT_THIS, LESS, LITERAL, MINUS, NONE, OPERATOR, OPERATORS, OPERATOR_ALONE, OTHER_CLONE, RIGHT, RIGHT_BRACES, RIGHT_BRACKET, RIGHT_NUMBER, STD, SUFFIX, TAG, TRUE, TYPES, UNNAMED, VECTOR, WIDER}
unfoldable pub use Rattle.cpp_grammar.specs.Parts.{begins_with, blank_last, clone_text, encoding_text, printed, qualifier_text, ref_text, source_text}
pub use Rattle.cpp_grammar.specs.Parts.{is_below, letter_name, no_operation, thunk_text}
unfoldable pub use Rattle.cpp_grammar.specs.Texts.{abbreviation_texts, builtin_texts, literal_endings, look_up, named_special_texts, operator_texts, same_bytes, special_texts}
pub use Rattle.cpp_grammar.specs.Texts.{Naming}
pub use Rattle.cpp_term.proofs.RanksNoted.{ranks_fall}
pub use Rattle.cpp_term.proofs.Reargued.{element_reargued, reargued_none, reargued_twice}
pub use Rattle.cpp_term.specs.Answer.{noted_shown}
unfoldable pub use Rattle.cpp_term.specs.Items.{argument, packs_of}
pub use Rattle.cpp_term.specs.Items.{indexed}
unfoldable pub use Rattle.cpp_term.specs.Parts.{array_left, at_index, attached_parts, base_parts, base_tagged, base_within, before_piece, begins_parameters, builtin_code, closing_right, comma_before, component_parts, declared_letter, declared_parts, declared_rest, entity_of, expand_parts, expand_rest, expansion_parts, first_parts, float_parts, front_of_name, function_bare, function_full, function_right, generic_parts, instance_parts, integer_parts, is_plain_integer, last_piece, left_parts, list_part, marked_parts, member_parts, more_parts, name_of_own, not_empty, opening_text, operand_parts, operation_parts, own_name, own_piece, parameter_parts, parts, parts_in, piece_parts, prefix_item, qualified_left, qualified_right, reference_parts, right_parts, root_parts, sign_part, text_part, types_of, within_parts}
pub use Rattle.cpp_term.specs.Parts.{as_item, most_of, precedence_of, says}
pub use Rattle.cpp_term.specs.Ranks.{rank}
unfoldable pub use Rattle.cpp_term.specs.Reargued.{argument_or, reargued}
pub use Rattle.cpp_term.specs.Scope.{element, pack_length, without_tags}
pub use Rattle.cpp_term.specs.Term.{Term, pointer, qualified}
pub use Rattle.cpp_tree.proofs.Trees.{placed-alone, there-below}
unfoldable pub use Rattle.cpp_tree.specs.Fields.{bit, mark_number}
pub use Rattle.cpp_tree.specs.Fields.{qualifiers_number}
unfoldable pub use Rattle.cpp_tree.specs.Nodes.{class_is, is_again, piece_of, tree_if_there, tree_of, tree_under}
pub use Rattle.cpp_tree.specs.Nodes.{IsAliasBelow, IsPlacedBelow, IsTable, IsWithin, Table, bytes_at, entry_at, head_of, mark_of, over, qualifiers_of, signed_of, thunk_of, tree_at, trees, under_kept}
pub use Rattle.cpp_tree.specs.declared.node.Mark.{Mark}
pub use Rattle.cpp_tree.specs.declared.node.Node.{Node}
pub use Rattle.cpp_tree.specs.declared.node.Qualifiers.{Qualifiers}
pub use Rattle.cpp_tree.specs.declared.node.Thunk.{Thunk}
pub use Rattle.sym_core.specs.declared.Span.{Span}
pub use Rattle.sym_print.proofs.Unfolding.{printed-parts}
pub use Rattle.sym_print.specs.Held.{Held, with_part}
pub use Rattle.sym_print.specs.Joined.{IsText, joined}
pub use Rattle.sym_print.specs.Stacked.{Stacked}
pub use Rattle.sym_print.specs.Unfold.{PartOf, sub, text}
pub use Rattle.sym_print.specs.Unshared.{Unshared, bytes, done, item}
pub use Rattle.sym_print.specs.declared.detail.Detail.{Detail}
pub use Rattle.sym_print.specs.declared.layout.Item.{Item}
pub use Rattle.sym_print.specs.declared.layout.Part.{Part}
