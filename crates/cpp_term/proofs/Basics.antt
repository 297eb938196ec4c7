-- The library lemmas and definitions that this crate's proofs use, exported from one place.
pub use Rattle.std.proofs.Common.{Bool, Err, List, None, Ok, Option, Result, Some, [], ap, arith, codes, cond, decimal, false, inl, inr, length, lit≤, max, nat_eq, nat_le, nat_lt, not, refl, slice_get, subst, suc, sym, true, zero, ℕ, ◌&&◌, ◌++◌, ◌+◌, ◌-◌, ◌<◌, ◌^◌, ◌||◌, ◌∙◌, ◌∷◌, ◌≡◌, ◌≤◌, ◌⊎◌}
pub use Rattle.std.proofs.lemmas.Bool.{and_parts, cases_Bool, eqb-true, false≢true, ltb-true, true≢false}
pub use Rattle.std.proofs.lemmas.List.{append-nil, append_assoc}
unfoldable pub use Rattle.cpp_term.specs.Annotated.{annotate, argument_in, noted_around, noted_context, noted_item, noted_part, noted_parts, noted_prefix, noted_scope, noted_tree, noted_value, noted_values, place_in, place_of, place_within}
pub use Rattle.cpp_term.specs.Annotated.{Place, around_place, context_place, in_arguments, in_declared, in_own, nowhere}
pub use Rattle.cpp_term.specs.Answer.{noted_answer, noted_shown}
unfoldable pub use Rattle.cpp_term.specs.Erased.{erase}
pub use Rattle.cpp_term.specs.Erased.{CarriesArguments}
unfoldable pub use Rattle.cpp_term.specs.Reargued.{argument_or, bare, class_from, collapsed_from, given_alone, given_for, head_from, if_alone, is_empty_with, reargued, reargued_if_there}
pub use Rattle.cpp_term.specs.Reargued.{HeadFrom, collapsed_of_argument, of_argument, of_its_own}
unfoldable pub use Rattle.cpp_grammar.proofs.Choosing.{each_passes}
pub use Rattle.cpp_grammar.proofs.Choosing.{chosen_rule, implied, taken_passes}
pub use Rattle.cpp_grammar.proofs.Chosen.{either, if_there}
pub use Rattle.cpp_grammar.proofs.ClosedParts.{StaysInside}
pub use Rattle.cpp_grammar.proofs.ClosedStates.{AllNew, AllOld, Bare, Grows, Within, behind_bind, ok_same, old_grows, old_later}
unfoldable pub use Rattle.cpp_grammar.proofs.ClosedTrees.{has_encoding, is_encoding, opens}
pub use Rattle.cpp_grammar.proofs.ClosedTrees.{KeepsClosed, TreeYields, Whole, abi_keeps, at_number, forest_good, grows_fits, inner_closes, its_symbols, known, left_apart, name_comes, old_fits, old_inner, one_read, or_true, rule_apart, same_found, skipped_stays, stays, stepped, taken_rule, takes_byte, tree_good_by, trees_good_by, wide_keeps}
unfoldable pub use Rattle.cpp_grammar.proofs.ClosedValues.{held}
pub use Rattle.cpp_grammar.proofs.ClosedValues.{AllGood, Good, GoodPrefix, good_part, good_tree}
unfoldable pub use Rattle.cpp_grammar.proofs.Declared.{declares, hides, is_declaration, is_first, is_nothing, read_of, skips}
pub use Rattle.cpp_grammar.proofs.Declared.{none_hidden, parts_apart, read_none, same_skipped, some_values}
unfoldable pub use Rattle.cpp_grammar.proofs.Steps.{all_pass, is_here}
pub use Rattle.cpp_grammar.proofs.Steps.{first_of_both, second_of_both, step_passes}
unfoldable pub use Rattle.cpp_grammar.proofs.Ways.{abi_way, differs, has_signature, name_by, reading_by, types_by, wide_way}
pub use Rattle.cpp_grammar.proofs.Ways.{Way}
pub use Rattle.cpp_grammar.specs.Answer.{answer_within, root_item, shown}
unfoldable pub use Rattle.cpp_grammar.specs.Between.{after, argument_so_far, between, in_name, in_signature, in_types, index_of, inside, listed_so_far, parameter_so_far, under_expansion}
pub use Rattle.cpp_grammar.specs.Between.{Continuation, next, no_items}
unfoldable pub use Rattle.cpp_grammar.specs.Grammar.{kinds, may_be_empty, number_of_kind, parts_of, pick}
unfoldable pub use Rattle.cpp_grammar.specs.Items.{argument, collapsed, head, head_closed, head_with, indexed, is_empty, is_none_of, own_argument, packs_of}
pub use Rattle.cpp_grammar.specs.Items.{Context, Head, Item, Signature, auto, declared_in, in_none, lref, undeclared}
pub use Rattle.cpp_grammar.specs.KindNumbers.{COMPLETE_NAME, ENCODING, ITEMS, SPECIAL, SPECIAL_AFTER_G, SPECIAL_MARK, SYMBOL}
unfoldable pub use Rattle.cpp_grammar.specs.Meaning.{listed_value, meaning}
pub use Rattle.cpp_grammar.specs.Meaning.{parameters, signature_with}
unfoldable pub use Rattle.cpp_grammar.specs.Meant.{all_given, around_part, done, gained, given, is_listing, made, meant, packs_within, replaced, tested}
pub use Rattle.cpp_grammar.specs.Parts.{blank_last, encoding_text, is_below, letter_name, parts, qualifier_text, ref_text}
unfoldable pub use Rattle.cpp_grammar.specs.Ranks.{or_none}
pub use Rattle.cpp_grammar.specs.Ranks.{rank}
unfoldable pub use Rattle.cpp_grammar.specs.References.{appended, is_function_type, is_module, packs_in, parameter_named, substituted, with_packs, with_prefix, with_type, with_unqualified}
pub use Rattle.cpp_grammar.specs.References.{appended_by}
unfoldable pub use Rattle.cpp_grammar.specs.Rescoping.{argument_here, as_generic_lambda, awaited_by, awaited_by_piece, awaiting, between_wide, can_be_named, close_wide, counted_base, counted_so_far, counted_unless, cpp_wide, expecting_item, first_head, fits, generic_so_far, has_head, head_of, head_of_name, heads_of, holder_so_far, in_constraint_of, in_literal, in_scope, is_before_holder, is_foreign, is_in_list, is_unseen, lambda_with, left_at, listed_by, module_named, module_of, module_so_far, name_if, named_by_both, named_in, noting, numbered, parameter_here, passed_over, rest_of, restated, substituted_wide, types_in, under_scope, unfold_wide, with_constructor, with_free, with_held, with_holder, with_lists}
pub use Rattle.cpp_grammar.specs.Rescoping.{behind_another, counted_held, generic_number, head_at, is_by_all, is_by_newer, is_by_some, is_declaring, is_instance, is_prefix_at, is_qualified_at, joined, left_by, may_be}
pub use Rattle.cpp_grammar.specs.Row.{Action, Form, Listing, Made, Own, Source, Where, becomes, before_part, goes, holds, in_its_name, in_its_types, quiet, tests, unread}
pub use Rattle.cpp_grammar.specs.Rows.{row_of}
unfoldable pub use Rattle.cpp_grammar.specs.Scope.{arguments_of, before_arguments, both_free, count, element, first_of, free_in, has_pack, has_return_type, is_alone, is_open, length_if_pack, pack_length, without_tags}
pub use Rattle.cpp_grammar.specs.Scope.{Free, is_structor, none_free, one_free, several_free}
unfoldable pub use Rattle.cpp_grammar.specs.Table.{sheet_with, wide, wide_sheet}
pub use Rattle.cpp_grammar.specs.Table.{rule_of}
pub use Rattle.cpp_grammar.specs.TableLaws.{wide_sound}
pub use Rattle.cpp_grammar.specs.Term.{Qualifiers, RefQualifier, Signed, Term, abbreviation, absent, address_of, adjusting, alone, any_value, array, bindings, bounded, builtin, by_table, clone, complex, constrained, construction, constructor, conversion, covariant, declaring, decltype, destructor, encoding_literal, enumeration, expansion, explicit_object, function, function_parameter, function_type, generic_lambda, holder, in_std, inheriting, instance, integer, lambda, list, local, lvalue, lvalue_only, member_pointer, nil, non_virtual, object, of_default, of_name, operation, operator, pack, parameter, pointer, qualified, rvalue, rvalue_only, sized_float, source, special, symbol, tagged, thunk, vector, within}
unfoldable pub use Rattle.cpp_grammar.specs.Unfolding.{close}
pub use Rattle.cpp_grammar.specs.Unfolding.{byte_of, last_token, production_at, unfold_cpp}
unfoldable pub use Rattle.cpp_grammar.specs.Values.{adjustment_of, is_at_literal, is_listed, is_there, letter_of, mark_of, part, piece_of, prefix_listed, prefix_tree, qualifiers_of, ref_of, signed_of, text_of, tree_of}
pub use Rattle.cpp_grammar.specs.Values.{Around, Awaited, Candidate, Counted, Counting, Expected, Lists, Prefix, State, Value, both_lists, by_all, by_gcc, by_newer, local_number, longer_list, no_list, normal, nothing_there, shorter_list, signed_digits, tree, unqualified}
unfoldable pub use Rattle.cpp_grammar.specs.Wide.{wide_alternatives, wide_choose}
pub use Rattle.cpp_grammar.specs.declared.production.Operation.{Operation}
pub use Rattle.cpp_grammar.specs.declared.production.Production.{Production}
pub use Rattle.sym_core.specs.Value.{counted_value}
pub use Rattle.sym_core.specs.declared.NumberKind.TheVariants.{Decimal, Seq36}
pub use Rattle.sym_core.specs.declared.refusal.Refusal.{Refusal}
pub use Rattle.sym_core.specs.declared.refusal.Refusal.TheVariants.{BadReference, BadValue}
pub use Rattle.sym_link.specs.Reading.{Found, Next, Open, Reading, ◌>>=◌}
pub use Rattle.sym_link.specs.Unfold.{found, unfold_forest, unfold_tree}
pub use Rattle.sym_print.specs.Unfold.{AreAlike, PartOf, printed, sub, text}
pub use Rattle.sym_print.specs.declared.detail.Detail.{Detail}
pub use Rattle.sym_shape.specs.Law.{AreSymbols, IsSymbol}
pub use Rattle.sym_shape.specs.Table.{symbols_of}
pub use Rattle.sym_shape.specs.Tree.{AreTrees, Forest, IsTree, TakesRule, Tree, branch, empty, fixed, grown, nothing, spell, token}
pub use Rattle.sym_shape.specs.declared.rule.Rule.{Rule}
pub use Rattle.sym_shape.specs.declared.rule.Sym.{Sym}
pub use Rattle.sym_shape.specs.declared.rule.Sym.TheVariants.{Byte, Kind}
