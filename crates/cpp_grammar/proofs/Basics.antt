-- The library lemmas and definitions that this crate's proofs use, exported from one place.
pub use Rattle.std.proofs.Common.{Bool, Err, IfSome, List, None, Ok, Option, Result, Some, [], add-zero, ap, append-nil, arith, cond, false, get_or, inl, inr, leb, length, lit≤, ltb, map, nat_eq, nat_lt, not, refl, slice_get, subst, suc, sym, true, zero, ℕ, ◌&&◌, ◌*◌, ◌++◌, ◌+◌, ◌-◌, ◌<◌, ◌^◌, ◌||◌, ◌∙◌, ◌∷◌, ◌≡◌, ◌≢◌, ◌≤◌, ◌⊎◌}
pub use Rattle.std.proofs.lemmas.Bool.{and_parts, cases_Bool, cases_lt, cases_order, eq-eqb, eqb-true, false≢true, le-leb, leb-true, lt-leb, ltb-true, true≢false}
pub use Rattle.std.proofs.lemmas.Bool.Decides.{eqb_tells, leb_tells}
pub use Rattle.std.proofs.lemmas.List.{length-append, take_all}
pub use Rattle.std.proofs.lemmas.Option.{get_or_from_slice_get, slice_get-map, slice_get_cases, slice_get_past, unwrap_or-slice_get}
pub use Rattle.std.specs.List.{range_with_len}
pub use Rattle.std.specs.Option.{option_map, unwrap_or}
pub use Rattle.std.specs.Prelude.{codes, decimal, drop, nat_le, take}
pub use Rattle.std.specs.Result.{IfErr, IfOk}
unfoldable pub use Rattle.cpp_grammar.specs.Between.{after, applied, argument_so_far, between, extended, in_name, in_signature, in_types, index_of, inherited, inside, listed_so_far, named_so_far, no_items, parameter_so_far, under_expansion, with_tag}
pub use Rattle.cpp_grammar.specs.Between.{Continuation, next}
pub use Rattle.cpp_grammar.specs.Closed.{HasNoneFree, ScopesAreClosed}
unfoldable pub use Rattle.cpp_grammar.specs.Grammar.{alternatives, among, choose, in_ranges, is_chain, is_in, kinds, may_be_empty, number_of, number_of_kind, parts_of, pick, productions}
pub use Rattle.cpp_grammar.specs.Grammar.{Alternative}
unfoldable pub use Rattle.cpp_grammar.specs.Items.{argument, collapsed, head, head_closed, head_with, indexed, is_empty, is_funarr, is_none_of, is_reference, own_argument, packs_of, signature_of}
pub use Rattle.cpp_grammar.specs.KindNumbers.{ARGUMENT, ARGUMENTS_ALONE, ARGUMENTS_FIRST, ARGUMENT_AFTER_T, ARGUMENT_LIST, COMPLETE_NAME, DECLARATIONS, DECLARATION_AFTER_T, FIRST_AFTER_T, FIRST_OF_LAMBDA, ITEM, ITEMS, KIND_COUNT, LEVELED_PARAMETER, MAYBE_ARGUMENTS, NEST_MORE_OR_END, NEST_REST, NEST_REST_ALONE, NEST_REST_OR_END, PRODUCTION_COUNT, SOLID, SOLID_BUT_T, SPECIAL, SPECIAL_AFTER_G, SPECIAL_MARK, SYMBOL}
unfoldable pub use Rattle.cpp_grammar.specs.Meaning.{declared_first, default_entity, discriminator_of, enclosed_argument, enclosed_element, encoding_of, in_parentheses, is_nil, is_void, listed_value, meaning, operation_by, operation_or_address, operator_or_literal, parameters, reference_to, signature_or, signature_with, with_item}
pub use Rattle.cpp_grammar.specs.Meaning.{ends_arguments, is_code, is_comma}
unfoldable pub use Rattle.cpp_grammar.specs.Meant.{all_given, around_part, done, gained, given, made, meant, packs_within, replaced, tested}
pub use Rattle.cpp_grammar.specs.Meant.{is_listing}
unfoldable pub use Rattle.cpp_grammar.specs.Parts.{array_left, at_index, attached_parts, bare_parts, base_parts, base_tagged, base_within, before_piece, begins_parameters, begins_with, blank_last, builtin_code, closing_right, comma_before, component_parts, declared_parts, declared_rest, encoding_text, entity_of, expand_parts, expand_rest, expansion_parts, first_parts, float_parts, full_parts, function_bare, function_full, function_right, generic_parts, instance_parts, integer_parts, is_below, is_plain_integer, last_piece, left_parts, list_part, low_parts, marked_parts, member_parts, more_parts, name_of_own, not_empty, opening_text, operand_parts, operation_parts, own_name, own_piece, parameter_parts, parts, parts_in, piece_parts, prefix_item, printed, qualified_left, qualified_right, qualifier_text, ref_text, reference_parts, right_parts, root_parts, sign_part, source_text, text_part, thunk_text, types_of, within_parts}
pub use Rattle.cpp_grammar.specs.Parts.{as_item, front_of_name, most_of, most_parts, no_operation, precedence_of, says}
unfoldable pub use Rattle.cpp_grammar.specs.Ranks.{light, or_none, pack_count, rank, rank_in, scope_weight, weight, weight_in}
unfoldable pub use Rattle.cpp_grammar.specs.References.{appended, is_function_type, is_module, packs_in, parameter_named, substituted, with_packs, with_prefix, with_type, with_unqualified}
pub use Rattle.cpp_grammar.specs.References.{appended_by}
unfoldable pub use Rattle.cpp_grammar.specs.Rescoping.{argument_here, as_generic_lambda, between_wide, close_wide, counted_base, counted_so_far, counted_unless, cpp_wide, generic_so_far, holder_so_far, in_constraint_of, in_literal, in_scope, is_before_holder, is_by_all, is_by_newer, is_declaring, is_foreign, is_in_list, is_passed_over, is_unseen, joined, lambda_with, listed_by, module_named, module_of, module_so_far, name_around, name_if, named_by_both, named_in, noting, numbered, opening_wide, parameter_here, passed_over, place_in, restated, substituted_wide, types_around, under_scope, unfold_wide, with_constructor, with_free, with_held, with_holder, with_lists}
pub use Rattle.cpp_grammar.specs.Rescoping.{awaiting, calling, counted_held, ending, expecting, expecting_item, generic_number, is_instance, left_at}
unfoldable pub use Rattle.cpp_grammar.specs.Row.{before_part}
pub use Rattle.cpp_grammar.specs.Row.{Action, Made, Row, Where, after_part, after_the_name, as_before, becomes, goes, holds, in_a_signature, in_its_name, in_its_types, nameless, quiet, tests, under_it, unread}
unfoldable pub use Rattle.cpp_grammar.specs.Rows.{row_of}
unfoldable pub use Rattle.cpp_grammar.specs.Scope.{arguments_of, before_arguments, both_free, count, element, first_of, free_in, has_pack, has_return_type, is_alone, is_list, is_open, is_structor, length_if_pack, pack_length, without_tags}
pub use Rattle.cpp_grammar.specs.Scope.{Free, none_free, one_free, several_free}
unfoldable pub use Rattle.cpp_grammar.specs.Table.{abi, abi_before, blank, choice_of, class_of, listed_rule, padded, ranges_of, rule_of, rule_taken, sheet, sheet_before, sheet_with, wide, wide_sheet}
pub use Rattle.cpp_grammar.specs.Table.{abi_listed}
pub use Rattle.cpp_grammar.specs.TableLaws.{wide_sound}
pub use Rattle.cpp_grammar.specs.Term.{RefQualifier, Term, absent, encoding_literal, function, generic_lambda, holder, inheriting, instance, lambda, list, local, lvalue, lvalue_only, nil, of_default, operation, parameter, rvalue, rvalue_only, symbol, within}
unfoldable pub use Rattle.cpp_grammar.specs.Texts.{abbreviation_texts, builtin_texts, literal_endings, look_up, named_special_texts, operator_texts, same_bytes, special_texts}
unfoldable pub use Rattle.cpp_grammar.specs.Unfolding.{byte_of, close, cpp, first_around, first_state, first_tree, number_tested, opening, production_at, unfold_cpp}
pub use Rattle.cpp_grammar.specs.Unfolding.{last_token}
unfoldable pub use Rattle.cpp_grammar.specs.Values.{adjustment_of, is_at_literal, is_in_constraint, is_listed, is_there, is_zero, letter_of, local_number, mark_of, normal, part, piece_of, prefix_listed, prefix_tree, qualifiers_of, ref_of, signed_digits, signed_of, text_of, tree_of}
pub use Rattle.cpp_grammar.specs.Values.{Around, Candidate, Counted, Counting, Lists, Prefix, State, Value, behind, both_lists, by_all, by_gcc, by_newer, letter, longer_list, named, no_list, nothing_there, outermost, pair, piece, prefix_at, qualified_at, shorter_list, shown, signature, text, tree}
unfoldable pub use Rattle.cpp_grammar.specs.Wide.{wide_alternatives, wide_choose}
pub use Rattle.cpp_grammar.specs.declared.operand.Operand.{Operand}
pub use Rattle.cpp_grammar.specs.declared.production.Operation.{Operation}
pub use Rattle.cpp_grammar.specs.declared.production.Production.{Production}
pub use Rattle.cpp_grammar.specs.declared.table.Head.{Head}
pub use Rattle.cpp_grammar.specs.declared.table.TheConstants.{AFTER, LETTERS, SYMBOLS}
pub use Rattle.cpp_grammar.specs.declared.wide_table.TheConstants.{WIDE_ROWS}
pub use Rattle.sym_core.specs.Token.{Token, is_name_byte}
pub use Rattle.sym_core.specs.Value.{counted_value, value_of}
pub use Rattle.sym_core.specs.declared.NameClass.TheVariants.{Cpp}
pub use Rattle.sym_core.specs.declared.NumberKind.TheVariants.{Digits, Length, Seq36}
pub use Rattle.sym_core.specs.declared.refusal.Refusal.{Refusal}
pub use Rattle.sym_core.specs.declared.refusal.Refusal.TheVariants.{BadReference, BadValue, Malformed}
pub use Rattle.sym_demangle.specs.Mangled.{IsAnswer, IsBadToken, answer_of_shape, answer_of_symbol, malformed, shaped}
pub use Rattle.sym_link.specs.Reading.{Found, Next, Open, Reading, ◌>>=◌}
pub use Rattle.sym_link.specs.Unfold.{alone, found, standing, unfold_forest, unfold_tree}
pub use Rattle.sym_print.specs.Details.{has_arguments, has_parameters}
pub use Rattle.sym_print.specs.declared.detail.Detail.{Detail}
pub use Rattle.sym_shape.proofs.Listed.{after_at, alike_at, alike_in, place_within}
pub use Rattle.sym_shape.specs.Law.{AreSymbols, IsSymbol}
unfoldable pub use Rattle.sym_shape.specs.Listing.{letter_below, unless_blank}
pub use Rattle.sym_shape.specs.Listing.{counts_after}
pub use Rattle.sym_shape.specs.Sheet.{choice_at, classes_of, in_range, range, table_of}
pub use Rattle.sym_shape.specs.Table.{Table, symbols_of}
pub use Rattle.sym_shape.specs.Tree.{AreTrees, Forest, IsTree, TakesRule, Tree, branch, empty, fixed, grown, nothing, spell, spell_all, token}
pub use Rattle.sym_shape.specs.declared.rule.Rule.{Rule}
pub use Rattle.sym_shape.specs.declared.rule.Sym.{Sym}
pub use Rattle.sym_shape.specs.declared.rule.Sym.TheVariants.{Byte, Kind, Name, Number}
