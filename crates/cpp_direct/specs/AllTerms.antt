-- The definitions of trees, of the grammar and of texts in the crates below this one, exported from one place.
pub use Rattle.cpp_grammar.specs.Answer.{root_item, shown}
unfoldable pub use Rattle.cpp_grammar.specs.Between.{after, applied, argument_so_far, between, extended, in_name, in_signature, in_types, index_of, inside, listed_so_far, named_so_far, no_items, parameter_so_far, under_expansion, with_tag}
pub use Rattle.cpp_grammar.specs.Between.{Continuation}
unfoldable pub use Rattle.cpp_grammar.specs.Grammar.{alternatives, among, choose, in_ranges, is_chain, is_in, kinds, may_be_empty, number_of, number_of_kind, parts_of, pick, productions}
unfoldable pub use Rattle.cpp_grammar.specs.Items.{argument, head, head_with, indexed, is_empty, is_funarr, is_none_of, is_reference, packs_of}
pub use Rattle.cpp_grammar.specs.Items.{closed, Context, expand, first, Form, full, Item, left, low, more, right, root}
pub use Rattle.cpp_grammar.specs.KindNumbers.{SYMBOL}
unfoldable pub use Rattle.cpp_grammar.specs.Meaning.{encoding_of, is_nil, is_void, listed_value, meaning, operator_or_literal, parameters, reference_to, signature_or, signature_with, with_item}
unfoldable pub use Rattle.cpp_grammar.specs.Operations.{operation_of_code, operations}
unfoldable pub use Rattle.cpp_grammar.specs.Parts.{array_left, at_index, attached_parts, bare_parts, base_parts, base_tagged, base_within, before_piece, begins_parameters, builtin_code, clone_text, closing_right, comma_before, component_parts, encoding_text, entity_of, expand_parts, expand_rest, expansion_parts, first_parts, full_parts, function_bare, function_full, function_right, instance_parts, integer_parts, is_below, is_plain_integer, last_piece, left_parts, list_part, low_parts, marked_parts, more_parts, not_empty, opening_text, own_piece, parameter_parts, parts, parts_in, piece_parts, prefix_item, qualified_left, qualified_right, qualifier_text, ref_text, reference_parts, right_parts, root_parts, sign_part, source_text, text_part, thunk_text, types_of, within_parts}
pub use Rattle.cpp_grammar.specs.Parts.{as_item, begins_with, says}
unfoldable pub use Rattle.cpp_grammar.specs.Ranks.{rank}
pub use Rattle.cpp_grammar.specs.Ranks.{rank_in}
unfoldable pub use Rattle.cpp_grammar.specs.References.{appended, is_function_type, is_module, parameter_named, with_packs, with_prefix, with_type, with_unqualified}
unfoldable pub use Rattle.cpp_grammar.specs.Rescoping.{is_declaring}
unfoldable pub use Rattle.cpp_grammar.specs.Scope.{arguments_of, before_arguments, count, element, first_of, has_return_type, is_open, is_structor, length_if_pack, pack_length, without_tags}
unfoldable pub use Rattle.cpp_grammar.specs.Standing.{enclosed_argument, ends_arguments, is_code, operation_by, operation_or_address}
unfoldable pub use Rattle.cpp_grammar.specs.Table.{abi, padded, rule_of, wide}
pub use Rattle.cpp_grammar.specs.Term.{abbreviation, absent, address_of, adjusting, Adjustment, alone, any_value, array, boolean, builtin, by_table, clone, construction, constructor, covariant, declaring, destructor, expansion, explicit_object, function, function_type, in_std, instance, integer, lambda, list, local, lvalue, lvalue_only, nil, non_virtual, object, of_name, operation, operator, pack, parameter, pointer, qualified, Qualifiers, RefQualifier, rvalue, rvalue_only, Signed, source, special, symbol, tagged, Term, Thunk, thunk, within}
unfoldable pub use Rattle.cpp_grammar.specs.Texts.{abbreviation_texts, builtin_texts, literal_endings, look_up, named_special_texts, operator_texts, same_bytes, special_texts}
pub use Rattle.cpp_grammar.specs.Texts.{Naming}
unfoldable pub use Rattle.cpp_grammar.specs.Unfolding.{byte_of, close, first_state, first_tree, last_token, number_tested, opening}
pub use Rattle.cpp_grammar.specs.Unfolding.{first_around}
unfoldable pub use Rattle.cpp_grammar.specs.Values.{local_number, normal, qualifiers_of, ref_of, signed_digits, tree_of}
pub use Rattle.cpp_grammar.specs.Values.{Around, is_zero, named, nothing_there, outermost, State, tree, unqualified, Value}
unfoldable pub use Rattle.cpp_grammar.specs.Wide.{wide_alternatives, wide_choose}
pub use Rattle.cpp_grammar.specs.declared.kind.Kind.{Kind}
pub use Rattle.cpp_grammar.specs.declared.production.Operation.{Operation}
pub use Rattle.cpp_grammar.specs.declared.production.Production.{Production}
unfoldable pub use Rattle.cpp_short_reading.specs.Reading.{cpp_by, lambda_by, named_by, unfold_by}
pub use Rattle.cpp_short_reading.specs.Reading.{close_by}
pub use Rattle.sym_core.specs.Number.{AreDigits, AreDigitsOf, is_decimal_digit}
pub use Rattle.sym_core.specs.Scan.{ReachesNameBytes}
pub use Rattle.sym_core.specs.Token.{is_name_byte, IsNumberToken}
pub use Rattle.sym_core.specs.Value.{counted_value, value_onto}
pub use Rattle.sym_core.specs.declared.NumberKind.{NumberKind}
pub use Rattle.sym_core.specs.declared.refusal.Refusal.{Refusal}
pub use Rattle.sym_core.specs.declared.tokens.TokenPlace.{TokenPlace}
pub use Rattle.sym_demangle.specs.Mangled.{StandsFor}
unfoldable pub use Rattle.sym_direct.specs.Marked.{visible}
pub use Rattle.sym_direct.specs.Marked.{closes, HasNoZero, is_mark, opens}
pub use Rattle.sym_link.specs.Reading.{Found, Next, ◌>>=◌}
pub use Rattle.sym_link.specs.Unfold.{found, standing, unfold_forest, unfold_tree}
pub use Rattle.sym_print.specs.Details.{has_arguments, has_parameters}
pub use Rattle.sym_print.specs.declared.detail.Detail.{Detail}
pub use Rattle.sym_shape.specs.Table.{symbols_of}
pub use Rattle.sym_shape.specs.Tree.{AreTrees, branch, empty, fixed, Forest, grown, IsTree, nothing, spell, spell_all, TakesRule, token, Tree}
pub use Rattle.sym_shape.specs.declared.rule.Sym.{Sym}
