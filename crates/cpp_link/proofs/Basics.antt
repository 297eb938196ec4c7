-- The library lemmas and definitions that this crate's proofs use, exported from one place.
pub use Rattle.std.proofs.Common.{Bool, Err, List, None, Ok, Option, Result, Some, [], add-one, ap, append-nil, append_assoc, arith, cond, drop, false, get_or, inl, inr, length, length-append, lit<, lit≤, map, nat_lt, not, refl, rules, subst, suc, sym, take, true, zero, ℕ, ◌&&◌, ◌++◌, ◌+◌, ◌-◌, ◌<◌, ◌^◌, ◌||◌, ◌∙◌, ◌∷◌, ◌≡◌, ◌≤◌, ◌⊎◌}
pub use Rattle.std.proofs.Math.Seq.{drop-append_seam, get_or-append_seam, take-append_seam}
pub use Rattle.std.proofs.lemmas.Bool.{and_parts, cases_Bool, cases_lt, eq-eqb, eqb-false, eqb-true, false≢true, ltb-true, ne_eqb, true≢false}
pub use Rattle.std.proofs.lemmas.List.{drop-drop, get_or-drop, get_or_append_left, length-drop, take-append-drop}
pub use Rattle.std.proofs.lemmas.Result.{IfErr-weaker, IfOk-weaker, err_from_is_err_and}
pub use Rattle.std.specs.Global.{Global}
pub use Rattle.std.specs.Prelude.{IfErr, IfOk, IfSome, IsErrAnd, MatchOption, OnErr, OnOk, Vec, if◌then◌else◌, nat_eq, slice_get, slice_index, slice_range, slice_set, vec_capacity}
unfoldable pub use Rattle.cpp_link.specs.Closes.{closes, ends_of, name_closes, pack_makes}
pub use Rattle.cpp_link.specs.Closes.{closes_of}
pub use Rattle.cpp_link.specs.ClosesLaws.{closes_behind, closes_made, closes_pushed, ends_closes, made_owed, quiet_owed}
unfoldable pub use Rattle.cpp_link.specs.Counting.{expected_of, place_of}
pub use Rattle.cpp_link.specs.Counting.{AreListed, IsCounted, awaited_of, candidate_by, counting_of, with_place}
pub use Rattle.cpp_link.specs.Grows.{Grows}
unfoldable pub use Rattle.cpp_link.specs.LinkReading.{in_64_bits, link_begin, link_close, link_meaning}
pub use Rattle.cpp_link.specs.LinkReading.{linked}
unfoldable pub use Rattle.cpp_link.specs.LinkRescoping.{generic_read, going_marked, is_parameter, is_parameter_argument, link_close_wide, link_opening, lists_after, name_or, named_after, named_left, steps_apart, substituted_nodes, wide_at_end, with_mark}
pub use Rattle.cpp_link.specs.LinkRescoping.{IsOpenName, linked_wide, wide_counted, wide_ends, wide_makes, wide_view, within}
unfoldable pub use Rattle.cpp_link.specs.Making.{nodes_of_outcome}
pub use Rattle.cpp_link.specs.Making.{IsCommon, IsRare, state_of}
pub use Rattle.cpp_link.specs.Naming.{IsNamed}
unfoldable pub use Rattle.cpp_link.specs.NodeCount.{inheriting_at_end, lambda_at_end, makes_at_end, makes_before, name_at_end, one_if_arguments, one_if_declared, one_if_there, pack_before, std_before}
pub use Rattle.cpp_link.specs.NodeCount.{counted_nodes, cpp_makes, nodes_of_shape}
unfoldable pub use Rattle.cpp_link.specs.Numbered.{is_numbered}
pub use Rattle.cpp_link.specs.Numbered.{IsRange}
unfoldable pub use Rattle.cpp_link.specs.Owed.{made_at_end, made_before, owes}
pub use Rattle.cpp_link.specs.Owed.{owes_of}
unfoldable pub use Rattle.cpp_link.specs.Parts.{arguments_in, around_of, is_constraint, is_lambda, is_literal, outcome_value, packs_in, prefix_in, prefix_of, showing_in, value_of, values_of}
pub use Rattle.cpp_link.specs.Parts.{AreCandidatesThere, AreNodesThere, AreThere, IsClosed, IsKeptThere, IsOutcomeThere, IsPrefixThere, IsStepThere, IsThere, candidate_of, candidates_of, name_of, packs_of, tree_of_node, trees_in, value_in, values_in}
pub use Rattle.cpp_link.specs.Progress.{AddsNodes, Advances, Begins, Finishes, MakesPart}
unfoldable pub use Rattle.cpp_link.specs.Reads.{appended_if, behind_first, cell_under, comma_node, constructor_by, encoding_by, ending_node, goes_on, held_node, instance_node, maybe_candidate, named_if, nil_node, node_fits, node_head, node_read, nth_head, parameter_read, parameters_by, piece_head, split_of, void_node, with_candidate, with_marks}
pub use Rattle.cpp_link.specs.Reads.{IsSplitThere}
pub use Rattle.cpp_link.specs.Room.{IsRoomy, KeepsRoom, LacksRoom, lists_of}
unfoldable pub use Rattle.cpp_link.specs.RowNodes.{nodes_at_end, nodes_before, nodes_made, nodes_of}
pub use Rattle.cpp_link.specs.Staying.{around_stays, candidates_more, candidates_stay, kept_more, there_more, values_stay}
pub use Rattle.cpp_link.specs.Stepping.{CountsStep, IsStepOf, Takes, nodes_of_step}
unfoldable pub use Rattle.cpp_link.specs.Tables.{quiet_parts, skips_parts}
pub use Rattle.cpp_link.specs.View.{Holds, IsKept, IsPaid, IsWhole, Surrounds, cpp_view}
pub use Rattle.cpp_link.specs.declared.candidates.Candidates.{Candidates}
pub use Rattle.cpp_link.specs.declared.counting.Lists.{Lists}
pub use Rattle.cpp_link.specs.declared.language.TheConstants.{OUTSIDE}
pub use Rattle.cpp_link.specs.declared.linked.Linked.{Linked}
pub use Rattle.cpp_link.specs.declared.part.Marks.{Marks}
pub use Rattle.cpp_link.specs.declared.part.Outcome.{Outcome}
pub use Rattle.cpp_link.specs.declared.part.Part.{Part}
pub use Rattle.cpp_link.specs.declared.part.Step.{Step}
pub use Rattle.cpp_link.specs.declared.rescoping.Rescoping.{Rescoping}
pub use Rattle.cpp_link.specs.declared.tables.TheConstants.{LAMBDA, UNNAMED}
pub use Rattle.cpp_grammar.proofs.Choosing.{is_wide_kind, kinds_numbered, number_at, wide_empty_at, wide_rule_at}
pub use Rattle.cpp_grammar.proofs.ClosedStates.{behind_bind, ok_same}
pub use Rattle.cpp_grammar.proofs.ClosedTrees.{Taken, at_number, its_symbols, known, same_rule, taken_rule}
unfoldable pub use Rattle.cpp_grammar.specs.Grammar.{among, in_ranges, is_chain, is_in, kinds, may_be_empty, number_of, number_of_kind, parts_of, pick, productions}
pub use Rattle.cpp_grammar.specs.Grammar.{Alternative}
pub use Rattle.cpp_grammar.specs.KindNumbers.{ABBREVIATION, AFTER_D, ANONYMOUS, ANY_ARRAY, ARGUMENTS, ARGUMENTS_ALONE, ARGUMENTS_FIRST, ARGUMENT_AFTER_T, ARRAY_REST, BASE_ARGUMENTS, BINDING_AFTER_D, COMPONENT, COMPONENT_AFTER_C, COMPONENT_AFTER_D, CONSTRUCTOR_AFTER_C, CONSTRUCTOR_DIGIT, CONVERTED_AFTER_D, CONVERTED_SOLID, DECLTYPE_AFTER_D, FIRST_MODULE, HELD_ARGUMENTS, HELD_COMPONENT, HEX_DIGITS, HEX_MORE, HOLDER_MARK, INTEGER, ITEM_AFTER_D, LEVELED_PARAMETER, LITERAL_SOLID, LITERAL_TYPE, MAYBE_ARGUMENTS, MAYBE_TAGS, NAMED_MODULE, NAME_AFTER_MODULE, NAME_IN_MODULE, NEST, NEST_AFTER_S, NEST_MORE_OR_END, NEST_ON, NEST_REST, NEST_REST_ALONE, NEST_REST_OR_END, NEST_TAIL, OPERATOR, OPERATOR_AFTER_C, OTHER_OPERATOR, PARAMETER_AFTER_T, SOLID, SOLID_BUT_T, SOURCE_OR_LOCAL, SUFFIX_FIRST, SUFFIX_MORE, SYMBOL, TYPE_AFTER_S, TYPE_IN_STD, UNNESTED_NAME, UNQUALIFIED, UNRESOLVED_NAME, UNRESOLVED_TYPE, VENDOR_ARGUMENTS}
unfoldable pub use Rattle.cpp_grammar.specs.Rescoping.{expecting, is_by_all, is_by_newer, joined}
pub use Rattle.cpp_grammar.specs.Rescoping.{behind_another, calling, ending, generic_number, is_by_some, is_prefix_at, is_qualified_at, left_by, may_be}
unfoldable pub use Rattle.cpp_grammar.specs.Row.{before_part, quiet_before, quiet_from}
pub use Rattle.cpp_grammar.specs.Row.{Action, Form, Made, Own, Source, Where, a_pair, a_piece, after_part, after_the_name, applying, as_before, becomes, by_letters, character, code, extending, first_of_operator, goes, holds, in_a_signature, in_its_name, in_its_types, letter_or, letter_or_taken, makes, nameless, of, one_digit, only, own, qualified_by, quiet, reference, suffix, taken, tests, the_byte, under_it, unread}
unfoldable pub use Rattle.cpp_grammar.specs.Rows.{row_of}
unfoldable pub use Rattle.cpp_grammar.specs.Table.{blank, rule_of, rule_taken, sheet_with, wide, wide_sheet}
pub use Rattle.cpp_grammar.specs.TableLaws.{wide_sound}
unfoldable pub use Rattle.cpp_grammar.specs.Unfolding.{byte_of, last_token, production_at}
unfoldable pub use Rattle.cpp_grammar.specs.Values.{is_at_literal, is_in_constraint, is_zero, normal}
pub use Rattle.cpp_grammar.specs.Values.{Counted, Counting, at_literal, both_lists, by_all, by_clang, by_gcc, by_newer, by_some, item_at, local_number, longer_list, no_list, nothing_awaited, nothing_counted, prefix_at, qualified_at, shorter_list, shown}
unfoldable pub use Rattle.cpp_grammar.specs.Wide.{wide_alternatives, wide_choose}
pub use Rattle.cpp_grammar.specs.declared.production.Operation.{Operation}
pub use Rattle.cpp_grammar.specs.declared.production.Production.{Production}
pub use Rattle.cpp_references.proofs.Named.{fails_is}
pub use Rattle.cpp_references.proofs.Numbering.{candidate_at, candidate_there}
unfoldable pub use Rattle.cpp_references.specs.Around.{counted_of}
pub use Rattle.cpp_references.specs.declared.around.Naming.{Naming}
pub use Rattle.cpp_references.specs.declared.around.Surroundings.{Surroundings}
pub use Rattle.cpp_references.specs.declared.candidates.Candidate.{Candidate}
pub use Rattle.cpp_term.proofs.Notes.{both}
unfoldable pub use Rattle.cpp_term.specs.Between.{after, applied, argument_so_far, between, in_name, in_signature, in_types, index_of, inherited, inside, listed_so_far, named_so_far, parameter_so_far, under_expansion}
pub use Rattle.cpp_term.specs.Between.{Continuation, argument_at, extended, next, no_items}
unfoldable pub use Rattle.cpp_term.specs.Builders.{argument, built, bytes_in, number_in, tree_in, truth_in}
pub use Rattle.cpp_term.specs.Builders.{Argument, some_qualifiers}
pub use Rattle.cpp_term.specs.Items.{auto}
unfoldable pub use Rattle.cpp_term.specs.Meaning.{encoding_of, ends_arguments, is_comma, is_nil, is_void, listed_value, meaning, operation_or_address, parameters, signature_with}
unfoldable pub use Rattle.cpp_term.specs.Meant.{all_given, around_part, done, gained, given, is_listing, made, meant, packs_within, replaced, state_after, tested}
unfoldable pub use Rattle.cpp_term.specs.Own.{own_meaning}
unfoldable pub use Rattle.cpp_term.specs.Reargued.{reargued}
unfoldable pub use Rattle.cpp_term.specs.References.{appended, parameter_named, substituted, with_packs, with_prefix, with_type, with_unqualified}
pub use Rattle.cpp_term.specs.References.{appended_by, is_function_type, is_module}
unfoldable pub use Rattle.cpp_term.specs.Rescoping.{argument_here, as_generic_lambda, awaited_by, awaited_by_piece, awaiting, between_wide, can_be_named, close_wide, counted_base, counted_held, counted_so_far, counted_unless, cpp_wide, expecting_item, first_head, fits, generic_so_far, has_head, head_of, head_of_name, heads_of, holder_so_far, in_constraint_of, in_literal, is_before_holder, is_declaring, is_in_list, is_instance, is_passed_over, is_unseen, lambda_with, left_at, listed_by, module_named, module_of, module_so_far, name_around, name_if, named_by_both, named_in, noting, numbered, opening_wide, parameter_here, passed_over, place_in, rest_of, substituted_wide, types_around, types_in, with_constructor, with_held, with_holder, with_lists}
pub use Rattle.cpp_term.specs.Rescoping.{is_foreign, restated}
unfoldable pub use Rattle.cpp_term.specs.Scope.{is_structor}
pub use Rattle.cpp_term.specs.Scope.{count, element, has_return_type, is_open, length_if_pack, pack_length}
pub use Rattle.cpp_term.specs.Term.{Term, absent, address_of, holder, in_std, instance, lambda, list, nil, operation, parameter, unnamed}
unfoldable pub use Rattle.cpp_term.specs.Unfolding.{behind, close, cpp, first_around, first_state, number_tested, opening}
unfoldable pub use Rattle.cpp_term.specs.Values.{is_there, part, prefix_listed, text_of, tree_of}
pub use Rattle.cpp_term.specs.Values.{Around, Prefix, State, Value, is_listed, named, nothing_there, outermost, piece, prefix_tree, qualifiers_of, ref_of, text, tree}
unfoldable pub use Rattle.cpp_tree.specs.Nodes.{is_again, piece_of, tree_if_there}
pub use Rattle.cpp_tree.specs.Nodes.{IsAliasBelow, IsBelow, IsTable, Stored, bytes_at, over, thunk_of, tree_at}
pub use Rattle.cpp_tree.specs.declared.node.Node.{Node}
pub use Rattle.cpp_tree.specs.declared.node.Piece.{Piece}
pub use Rattle.cpp_tree.specs.declared.node.Thunk.{Thunk}
pub use Rattle.sym_core.specs.Value.{counted_value}
pub use Rattle.sym_core.specs.declared.NumberKind.TheVariants.{Decimal, Seq36}
pub use Rattle.sym_core.specs.declared.refusal.Refusal.{Refusal}
pub use Rattle.sym_core.specs.declared.refusal.Refusal.TheVariants.{BadReference, BadValue, Memory}
pub use Rattle.sym_link.proofs.Lists.{rest_all}
pub use Rattle.sym_link.proofs.Room.{room_same}
pub use Rattle.sym_link.proofs.Standing.{ahead_by_count, ahead_by_rows, are_rows}
pub use Rattle.sym_link.proofs.Tally.{begin_tallied, between_tallied, finish_tallied, forest_untallied, open_at_untallied, plain, room_untallied, root_tallied, text_tallied, tree_untallied}
pub use Rattle.sym_link.specs.Driving.{Fails}
pub use Rattle.sym_link.specs.Linking.{Adds, AddsFew, HasRoom, IsRuleRow, Pays, Puts, View, owed_behind, owed_next}
pub use Rattle.sym_link.specs.Reading.{Found, Next, Open, Reading, ◌>>=◌}
pub use Rattle.sym_link.specs.Room.{KeepRoom, LackRoom, OnlyForRoom, one_by_one}
pub use Rattle.sym_link.specs.Tally.{Makes, Tally, tallied, tallied_view, tally}
pub use Rattle.sym_link.specs.Threads.{BeginsAs, BeginsIn, ClosesAll, Goes, GoesOn, IsAhead, IsAt, IsCount, IsOpenAt}
pub use Rattle.sym_link.specs.Unfold.{alone, found, standing, unfold_forest, unfold_tree}
pub use Rattle.sym_link.specs.declared.language.Frame.{Frame}
pub use Rattle.sym_shape.specs.Law.{AreSymbols, IsSymbol}
pub use Rattle.sym_shape.specs.Table.{Table, Token, symbols_of}
pub use Rattle.sym_shape.specs.Tree.{AreTrees, Forest, IsTree, TakesRule, Tree, branch, empty, fixed, grown, nothing, row_count, row_count_all, rows_of, rows_of_all, spell, spell_all, token, tree_count}
pub use Rattle.sym_shape.specs.declared.rule.Row.{Row}
pub use Rattle.sym_shape.specs.declared.rule.Rule.{Rule}
pub use Rattle.sym_shape.specs.declared.rule.Sym.{Sym}
pub use Rattle.sym_shape.specs.declared.rule.Sym.TheVariants.{Byte, Kind, Name, Number}
