-- The rows hold, as computing them shows.
use Rattle.std.specs.Prelude.{◌≡◌, refl, true}
use Rattle.std.specs.Fmt.{digits}
use Rattle.sym_print.specs.Unfold.{printed_to, printed}
use Rattle.cpp_grammar.specs.Grammar.{in_ranges, among, is_in, pick, number_of_kind, alternatives, choose, parts_of, is_chain, may_be_empty, kinds, productions, number_of}
use Rattle.cpp_grammar.specs.Wide.{wide_alternatives, wide_choose}
use Rattle.cpp_grammar.specs.Table.{padded, rule_of, listed_rule}
use Rattle.cpp_grammar.specs.Values.{is_in_constraint, is_at_literal, prefix_tree, prefix_listed, tree_of, piece_of, is_listed, qualifiers_of, ref_of, letter_of, is_there, mark_of, text_of, signed_of, adjustment_of, normal, is_zero, signed_digits, local_number, part}
use Rattle.cpp_grammar.specs.Scope.{count, element, arguments_of, before_arguments, is_structor, without_tags, has_return_type, is_open, both_free, free_in, is_list, is_alone, has_pack, first_of, length_if_pack, pack_length}
use Rattle.cpp_grammar.specs.References.{appended, is_function_type, with_type, with_unqualified, with_prefix, with_packs, packs_in, is_module, substituted, parameter_named}
use Rattle.cpp_grammar.specs.Surrounding.{in_name, in_types, in_signature, under_expansion, after, inside, extended, with_tag, applied, no_items, inherited, named_so_far, listed_so_far, parameter_so_far, argument_so_far, index_of}
use Rattle.cpp_grammar.specs.Standing.{is_void, is_nil, parameters, declared_first, signature_with, encoding_of, listed_value, discriminator_of, with_item, reference_to, signature_or, default_entity, operator_or_literal, first_letter, second_letter, is_code, operation_or_address, operation_by, is_comma, ends_arguments, in_parentheses, enclosed_argument, enclosed_element}
use Rattle.cpp_grammar.specs.Meant.{given, all_given, made, is_listing, meant, around_part, packs_within, gained, replaced, tested, done, state_after}
use Rattle.cpp_grammar.specs.Builders.{tree_in, bytes_in, number_in, truth_in, qualifiers_in, mark_in, signed_in, discriminator_in, argument as argument_in, built}
use Rattle.cpp_grammar.specs.Row.{quiet_from, quiet_before, before_part, most_made, most_before, most_at_end}
use Rattle.cpp_grammar.specs.Rows.{row_of}
use Rattle.cpp_grammar.specs.Own.{own_meaning}
use Rattle.cpp_grammar.specs.Between.{between}
use Rattle.cpp_grammar.specs.Meaning.{meaning}
use Rattle.cpp_grammar.specs.Rescoping.{in_constraint_of, is_unseen, in_literal, is_passed_over, passed_over, name_around, types_around, name_if, generic_number, generic_so_far, parameter_here, argument_here, is_declaring, lambda_with, as_generic_lambda, with_holder, is_instance, holder_so_far, is_by_all, is_by_newer, is_before_holder, is_in_list, place_in, named_in, counted_unless, counted_held, with_constructor, with_held, counted_base, joined, counted_so_far, is_by_some, is_prefix_at, is_qualified_at, fits, can_be_named, has_head, left, left_by, left_at, with_lists, listed_by, head_of_name, head_of, head_at, may_be, first_head, rest_of, heads_of, behind_first, behind_another, types_in, awaited_by_piece, awaited_by, awaiting, calling, ending, expecting, expecting_item, noting, opening_wide, is_foreign, in_scope, under_scope, with_free, restated, named_by_both, module_of, module_named, module_so_far, substituted_wide, numbered, between_wide, close_wide, cpp_wide, unfold_wide}
use Rattle.cpp_grammar.specs.Unfolding.{last_token, number_tested, opening, behind, close, production_at, byte_of, cpp, first_around, first_state, first_tree, unfold_cpp}
use Rattle.cpp_grammar.specs.Texts.{same_bytes, look_up, builtin_texts, operator_texts, abbreviation_texts, special_texts, named_special_texts, special_front, literal_endings}
use Rattle.cpp_grammar.specs.Operations.{operations, operation_of_code}
use Rattle.cpp_grammar.specs.Items.{indexed, argument, collapsed, head_with, head_closed, head, is_reference, is_funarr, packs_of, is_none_of, is_empty, signature_of, own_argument}
use Rattle.cpp_grammar.specs.Parts.{text_part, list_part, qualifier_text, ref_text, blank_last, begins_with, source_text, generic_parts, piece_parts, prefix_item, before_piece, attached_parts, component_parts, within_parts, last_piece, opening_text, instance_parts, marked_parts, reference_parts, qualified_left, expansion_parts, sign_part, is_plain_integer, builtin_code, integer_parts, member_parts, array_left, letter_name, declared_letter, front_of_name, name_of_own, own_name, parameter_parts, declared_rest, declared_parts, float_parts, placeholder_text, printed as printed_part, precedence_of, operand_parts, operation_parts, entity_of, left_parts, low_parts, function_right, closing_right, qualified_right, right_parts, base_within, own_piece, base_tagged, base_parts, types_of, encoding_text, function_bare, begins_parameters, function_full, thunk_text, clone_text, full_parts, bare_parts, root_parts, first_parts, more_parts, at_index, is_below, comma_before, expand_rest, expand_parts, parts_in, not_empty, parts}
use Rattle.cpp_grammar.specs.Ranks.{or_none, pack_count, light, weight, scope_weight, weight_in, rank_in, rank}
use Rattle.cpp_grammar.proofs.Reader.{front_digits, is_length_form, number_at, are_name_bytes, is_own, name_at, seen_tree}
use Rattle.cpp_grammar.proofs.Row.{same_refusal, same_seen}
use Rattle.wide_rows.specs.Reader.{shape_of, see_wide, are_right_wide, read_kind, read_symbol, read_all}
use Rattle.wide_rows.specs.Rows.{rows_0, rows_1, rows_2}

pub right_0 : are_right_wide rows_0 ≡ true
unfolding rows_0 in_constraint_of is_unseen in_literal is_passed_over passed_over name_around types_around name_if is_in_constraint is_at_literal digits printed_to printed in_ranges among is_in pick number_of_kind alternatives choose parts_of is_chain may_be_empty kinds productions number_of wide_alternatives wide_choose padded rule_of listed_rule prefix_tree prefix_listed tree_of piece_of is_listed qualifiers_of ref_of letter_of is_there mark_of text_of signed_of adjustment_of normal is_zero signed_digits local_number part count element arguments_of before_arguments is_structor without_tags has_return_type is_open both_free free_in is_list is_alone has_pack first_of length_if_pack pack_length appended is_function_type with_type with_unqualified with_prefix with_packs packs_in is_module substituted parameter_named in_name in_types in_signature under_expansion after inside extended with_tag applied no_items inherited named_so_far listed_so_far parameter_so_far argument_so_far index_of is_void is_nil parameters declared_first signature_with encoding_of listed_value discriminator_of with_item reference_to signature_or default_entity operator_or_literal first_letter second_letter is_code operation_or_address operation_by is_comma ends_arguments in_parentheses enclosed_argument enclosed_element given all_given made is_listing meant around_part packs_within gained replaced tested done state_after tree_in bytes_in number_in truth_in qualifiers_in mark_in signed_in discriminator_in argument_in built quiet_from quiet_before before_part most_made most_before most_at_end row_of own_meaning between meaning generic_number generic_so_far parameter_here argument_here is_declaring lambda_with as_generic_lambda with_holder is_instance holder_so_far is_by_all is_by_newer is_before_holder is_in_list place_in named_in counted_unless counted_held with_constructor with_held counted_base joined counted_so_far is_by_some is_prefix_at is_qualified_at fits can_be_named has_head left left_by left_at with_lists listed_by head_of_name head_of head_at may_be first_head rest_of heads_of behind_first behind_another types_in awaited_by_piece awaited_by awaiting calling ending expecting expecting_item noting opening_wide is_foreign in_scope under_scope with_free restated named_by_both module_of module_named module_so_far substituted_wide numbered between_wide close_wide cpp_wide unfold_wide last_token number_tested opening behind close production_at byte_of cpp first_around first_state first_tree unfold_cpp same_bytes look_up builtin_texts operator_texts abbreviation_texts special_texts named_special_texts special_front literal_endings operations operation_of_code indexed argument collapsed head_with head_closed head is_reference is_funarr packs_of is_none_of is_empty signature_of own_argument text_part list_part qualifier_text ref_text blank_last begins_with source_text generic_parts piece_parts prefix_item before_piece attached_parts component_parts within_parts last_piece opening_text instance_parts marked_parts reference_parts qualified_left expansion_parts sign_part is_plain_integer builtin_code integer_parts member_parts array_left letter_name declared_letter front_of_name name_of_own own_name parameter_parts declared_rest declared_parts float_parts placeholder_text printed_part precedence_of operand_parts operation_parts entity_of left_parts low_parts function_right closing_right qualified_right right_parts base_within own_piece base_tagged base_parts types_of encoding_text function_bare begins_parameters function_full thunk_text clone_text full_parts bare_parts root_parts first_parts more_parts at_index is_below comma_before expand_rest expand_parts parts_in not_empty parts or_none pack_count light weight scope_weight weight_in rank_in rank front_digits is_length_form number_at are_name_bytes is_own name_at seen_tree same_refusal same_seen shape_of see_wide are_right_wide read_kind read_symbol read_all
right_0 = refl

pub right_1 : are_right_wide rows_1 ≡ true
unfolding rows_1 in_constraint_of is_unseen in_literal is_passed_over passed_over name_around types_around name_if is_in_constraint is_at_literal digits printed_to printed in_ranges among is_in pick number_of_kind alternatives choose parts_of is_chain may_be_empty kinds productions number_of wide_alternatives wide_choose padded rule_of listed_rule prefix_tree prefix_listed tree_of piece_of is_listed qualifiers_of ref_of letter_of is_there mark_of text_of signed_of adjustment_of normal is_zero signed_digits local_number part count element arguments_of before_arguments is_structor without_tags has_return_type is_open both_free free_in is_list is_alone has_pack first_of length_if_pack pack_length appended is_function_type with_type with_unqualified with_prefix with_packs packs_in is_module substituted parameter_named in_name in_types in_signature under_expansion after inside extended with_tag applied no_items inherited named_so_far listed_so_far parameter_so_far argument_so_far index_of is_void is_nil parameters declared_first signature_with encoding_of listed_value discriminator_of with_item reference_to signature_or default_entity operator_or_literal first_letter second_letter is_code operation_or_address operation_by is_comma ends_arguments in_parentheses enclosed_argument enclosed_element given all_given made is_listing meant around_part packs_within gained replaced tested done state_after tree_in bytes_in number_in truth_in qualifiers_in mark_in signed_in discriminator_in argument_in built quiet_from quiet_before before_part most_made most_before most_at_end row_of own_meaning between meaning generic_number generic_so_far parameter_here argument_here is_declaring lambda_with as_generic_lambda with_holder is_instance holder_so_far is_by_all is_by_newer is_before_holder is_in_list place_in named_in counted_unless counted_held with_constructor with_held counted_base joined counted_so_far is_by_some is_prefix_at is_qualified_at fits can_be_named has_head left left_by left_at with_lists listed_by head_of_name head_of head_at may_be first_head rest_of heads_of behind_first behind_another types_in awaited_by_piece awaited_by awaiting calling ending expecting expecting_item noting opening_wide is_foreign in_scope under_scope with_free restated named_by_both module_of module_named module_so_far substituted_wide numbered between_wide close_wide cpp_wide unfold_wide last_token number_tested opening behind close production_at byte_of cpp first_around first_state first_tree unfold_cpp same_bytes look_up builtin_texts operator_texts abbreviation_texts special_texts named_special_texts special_front literal_endings operations operation_of_code indexed argument collapsed head_with head_closed head is_reference is_funarr packs_of is_none_of is_empty signature_of own_argument text_part list_part qualifier_text ref_text blank_last begins_with source_text generic_parts piece_parts prefix_item before_piece attached_parts component_parts within_parts last_piece opening_text instance_parts marked_parts reference_parts qualified_left expansion_parts sign_part is_plain_integer builtin_code integer_parts member_parts array_left letter_name declared_letter front_of_name name_of_own own_name parameter_parts declared_rest declared_parts float_parts placeholder_text printed_part precedence_of operand_parts operation_parts entity_of left_parts low_parts function_right closing_right qualified_right right_parts base_within own_piece base_tagged base_parts types_of encoding_text function_bare begins_parameters function_full thunk_text clone_text full_parts bare_parts root_parts first_parts more_parts at_index is_below comma_before expand_rest expand_parts parts_in not_empty parts or_none pack_count light weight scope_weight weight_in rank_in rank front_digits is_length_form number_at are_name_bytes is_own name_at seen_tree same_refusal same_seen shape_of see_wide are_right_wide read_kind read_symbol read_all
right_1 = refl

pub right_2 : are_right_wide rows_2 ≡ true
unfolding rows_2 in_constraint_of is_unseen in_literal is_passed_over passed_over name_around types_around name_if is_in_constraint is_at_literal digits printed_to printed in_ranges among is_in pick number_of_kind alternatives choose parts_of is_chain may_be_empty kinds productions number_of wide_alternatives wide_choose padded rule_of listed_rule prefix_tree prefix_listed tree_of piece_of is_listed qualifiers_of ref_of letter_of is_there mark_of text_of signed_of adjustment_of normal is_zero signed_digits local_number part count element arguments_of before_arguments is_structor without_tags has_return_type is_open both_free free_in is_list is_alone has_pack first_of length_if_pack pack_length appended is_function_type with_type with_unqualified with_prefix with_packs packs_in is_module substituted parameter_named in_name in_types in_signature under_expansion after inside extended with_tag applied no_items inherited named_so_far listed_so_far parameter_so_far argument_so_far index_of is_void is_nil parameters declared_first signature_with encoding_of listed_value discriminator_of with_item reference_to signature_or default_entity operator_or_literal first_letter second_letter is_code operation_or_address operation_by is_comma ends_arguments in_parentheses enclosed_argument enclosed_element given all_given made is_listing meant around_part packs_within gained replaced tested done state_after tree_in bytes_in number_in truth_in qualifiers_in mark_in signed_in discriminator_in argument_in built quiet_from quiet_before before_part most_made most_before most_at_end row_of own_meaning between meaning generic_number generic_so_far parameter_here argument_here is_declaring lambda_with as_generic_lambda with_holder is_instance holder_so_far is_by_all is_by_newer is_before_holder is_in_list place_in named_in counted_unless counted_held with_constructor with_held counted_base joined counted_so_far is_by_some is_prefix_at is_qualified_at fits can_be_named has_head left left_by left_at with_lists listed_by head_of_name head_of head_at may_be first_head rest_of heads_of behind_first behind_another types_in awaited_by_piece awaited_by awaiting calling ending expecting expecting_item noting opening_wide is_foreign in_scope under_scope with_free restated named_by_both module_of module_named module_so_far substituted_wide numbered between_wide close_wide cpp_wide unfold_wide last_token number_tested opening behind close production_at byte_of cpp first_around first_state first_tree unfold_cpp same_bytes look_up builtin_texts operator_texts abbreviation_texts special_texts named_special_texts special_front literal_endings operations operation_of_code indexed argument collapsed head_with head_closed head is_reference is_funarr packs_of is_none_of is_empty signature_of own_argument text_part list_part qualifier_text ref_text blank_last begins_with source_text generic_parts piece_parts prefix_item before_piece attached_parts component_parts within_parts last_piece opening_text instance_parts marked_parts reference_parts qualified_left expansion_parts sign_part is_plain_integer builtin_code integer_parts member_parts array_left letter_name declared_letter front_of_name name_of_own own_name parameter_parts declared_rest declared_parts float_parts placeholder_text printed_part precedence_of operand_parts operation_parts entity_of left_parts low_parts function_right closing_right qualified_right right_parts base_within own_piece base_tagged base_parts types_of encoding_text function_bare begins_parameters function_full thunk_text clone_text full_parts bare_parts root_parts first_parts more_parts at_index is_below comma_before expand_rest expand_parts parts_in not_empty parts or_none pack_count light weight scope_weight weight_in rank_in rank front_digits is_length_form number_at are_name_bytes is_own name_at seen_tree same_refusal same_seen shape_of see_wide are_right_wide read_kind read_symbol read_all
right_2 = refl
