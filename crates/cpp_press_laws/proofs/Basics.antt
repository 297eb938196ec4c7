-- The library lemmas and definitions that this crate's proofs use, exported from one place.
pub use Rattle.std.proofs.Common.{Bool, Err, List, None, Ok, Option, Result, Some, [], ap, append-nil, append_assoc, arith, false, inl, inr, length, length-append, lit≤, refl, subst, suc, sym, true, zero, ℕ, ◌*◌, ◌++◌, ◌+◌, ◌-◌, ◌<◌, ◌∙◌, ◌∷◌, ◌≡◌, ◌≤◌, ◌⊎◌}
pub use Rattle.std.proofs.Math.Bool.{and-true}
pub use Rattle.std.proofs.lemmas.Bool.{and_parts, and_right, eq-eqb, eqb-true, false_from_ne_true, false≢true, ltb-true, or_parts, true_from_ne_false, true≢false}
pub use Rattle.std.proofs.lemmas.Bool.Decides.{nat_tests}
pub use Rattle.std.specs.Prelude.{codes, cond, if◌then◌else◌, nat_eq, nat_lt, not, slice_get, ◌%◌, ◌&&◌, ◌/◌, ◌^◌, ◌||◌}
unfoldable pub use Rattle.cpp_press_laws.specs.Apart.{marked_components, spelled_components}
pub use Rattle.cpp_press_laws.specs.Apart.{AreApartBehind, ComponentsAreApart, ComponentsAreMarked, IsApart, IsNeverReferred, IsNew, IsTemplateBehindLetters, IsTemplateOf}
unfoldable pub use Rattle.cpp_press_laws.specs.Components.{component, components_of, ended, first_equal, is_same, reference, referred, seq_id, spelled_out}
pub use Rattle.cpp_press_laws.specs.Components.{Component, Spelling}
unfoldable pub use Rattle.cpp_press_laws.specs.Fits.{argument_fits, begins_name, by_letters, encoding_fits, fits_nowhere, fits_of, has_letters, letters_of, names_entity, names_function, names_in, names_member, names_type, piece_fits, takes_all, takes_expansions, takes_qualified, type_fits}
pub use Rattle.cpp_press_laws.specs.Fits.{Behind, Fits, Fitting, IsAbbreviation, IsAbiMark, IsAbiRole, IsBuiltin, IsFirst, IsLocalNumber, IsSpellableDiscriminator, IsSpellableOffset, IsSpellableSuffix, IsSpellableThunk, IsWithoutLetters, MayBeReferred, NamesArgument, PacksFit, Role, Slot, Standing, SymbolFits, any_type, as_component, as_reference, as_template, bare_type, behind_bytes, in_name_with, in_type, item_type, literal_type, nowhere, one_piece, parameter_type}
pub use Rattle.cpp_press_laws.specs.MarkedComponents.{Marked, unmarked}
pub use Rattle.cpp_press_laws.specs.PressLaws.{AreReadAs, IsReadFrom, PressedIsRead, PressedOnce, PressedTellsApart}
unfoldable pub use Rattle.cpp_press_laws.specs.Pressing.{argument_ways, begun, encoding_ways, entity_text, function_text, in_N_and_E, is_component, is_encoding, is_name, is_one_piece, is_operator, local_text, name_ways, no_ways, piece_ways, pressed, template_before, type_ways, ways_of, with_letters}
pub use Rattle.cpp_press_laws.specs.Pressing.{Ways, is_nested}
unfoldable pub use Rattle.cpp_press_laws.specs.Same.{same_adjustment, same_discriminator, same_mark, same_qualifiers, same_signed, same_thunk, same_tree, same_truth}
pub use Rattle.cpp_press_laws.specs.Spellable.{AreSpellableDigits, AreSuffixBytes, IsOperator, IsSpellableName, IsSpellableNumber}
pub use Rattle.cpp_press_laws.specs.Subtrees.{HasRoom, Is, IsAllowed, IsSmall, Reads, ReadsAt, Written, greatest, written}
unfoldable pub use Rattle.cpp_press_laws.specs.Texts.{counted, decimal, discriminator_text, mark_letter, name_letters, offset_text, ordinal, qualifier_letters, signed_text, thunk_text}
pub use Rattle.cpp_press_laws.specs.Texts.{special_code}
pub use Rattle.cpp_grammar.proofs.Alone.{arguments_alone, list_first, rest_alone}
pub use Rattle.cpp_grammar.proofs.Choosing.{empty_at_kind, rule_at_kind}
pub use Rattle.cpp_grammar.proofs.Chosen.{either, either_cond}
pub use Rattle.cpp_grammar.proofs.ClosedParts.{Goes, StaysInside, goes_within}
pub use Rattle.cpp_grammar.proofs.ClosedStates.{AllNew, AllOld, Bare, Grows, Within, behind_bind, grows_then, ok_same, old_grows, old_later}
pub use Rattle.cpp_grammar.proofs.ClosedTrees.{at_number, its_symbols, opening_keeps, same_rule}
pub use Rattle.cpp_grammar.proofs.ClosedValues.{AllGood, Good, GoodPrefix, all_append, good_where, held}
unfoldable pub use Rattle.cpp_grammar.proofs.Declared.{is_first}
unfoldable pub use Rattle.cpp_grammar.proofs.Growing.{each_below, same_choice}
pub use Rattle.cpp_grammar.proofs.Growing.{abi_wide, below, kept, same_production}
unfoldable pub use Rattle.cpp_grammar.proofs.Reader.{are_name_bytes, front_digits, is_length_form, is_own, name_at, number_at, read_all, read_kind, read_symbol, shape_of}
unfoldable pub use Rattle.cpp_grammar.proofs.Steps.{all_pass}
pub use Rattle.cpp_grammar.proofs.Steps.{step_passes}
pub use Rattle.cpp_grammar.proofs.Undeclared.{read_first, starts, undeclared_signature}
unfoldable pub use Rattle.cpp_grammar.specs.Between.{after, applied, between, extended, in_name, in_signature, in_types, index_of, inside, listed_so_far, named_so_far, no_items, parameter_so_far, under_expansion}
pub use Rattle.cpp_grammar.specs.Between.{Continuation, next}
unfoldable pub use Rattle.cpp_grammar.specs.Grammar.{alternatives, among, choose, in_ranges, is_chain, is_in, kinds, may_be_empty, number_of, number_of_kind, parts_of, pick, productions}
pub use Rattle.cpp_grammar.specs.Grammar.{Alternative}
pub use Rattle.cpp_grammar.specs.KindNumbers.{ABBREVIATION, ADDRESSED_EXPRESSION, ADDRESSED_LITERAL, AFTER_D, AFTER_O, AFTER_R, ANONYMOUS, ANY_ARRAY, ARGUMENT, ARGUMENTS, ARGUMENTS_ALONE, ARGUMENTS_FIRST, ARGUMENT_LIST, ARRAY_REST, CALL_OFFSET, COMPLETE_NAME, COMPONENT, COMPONENT_AFTER_C, COMPONENT_AFTER_D, CONSTRUCTOR_AFTER_C, CONSTRUCTOR_DIGIT, DISCRIMINATOR_REST, ENCODING, ENTITY, EXPRESSION, EXPRESSION_AFTER_A, FIRST_OF_LAMBDA, FUNCTION_REST, INTEGER, ITEM, ITEMS, ITEM_AFTER_D, ITEM_BUT_REF, KIND_COUNT, LITERAL, LITERAL_AFTER_D, LITERAL_TYPE, MAYBE_ARGUMENTS, MAYBE_DISCRIMINATOR, MAYBE_REF, MAYBE_SUFFIX, NAME_AFTER_S, NEST, NEST_AFTER_S, NEST_REST, NEST_REST_ALONE, NEST_REST_OR_END, NEST_TAIL, OPERATOR, OPERATOR_AFTER_C, OPERATOR_AFTER_L, OTHER_OPERATOR, PACK_LIST, PLAIN, SOLID, SOURCE_OR_LOCAL, SPECIAL, SPECIAL_AFTER_G, SPECIAL_MARK, SUFFIX_FIRST, SUFFIX_MORE, SYMBOL, TYPE, TYPE_AFTER_S, TYPE_ENTITY, TYPE_IN_STD, UNQUALIFIED}
unfoldable pub use Rattle.cpp_grammar.specs.Meaning.{discriminator_of, enclosed_argument, encoding_of, ends_arguments, in_parentheses, is_code, is_nil, is_void, listed_value, meaning, operation_by, operation_or_address, operator_or_literal, parameters, reference_to, signature_or, signature_with, with_item}
unfoldable pub use Rattle.cpp_grammar.specs.Meant.{all_given, around_part, done, gained, given, is_listing, made, meant, packs_within, replaced, state_after, tested}
unfoldable pub use Rattle.cpp_grammar.specs.References.{appended, is_function_type, is_module, packs_in, parameter_named, substituted, with_packs, with_prefix, with_type, with_unqualified}
pub use Rattle.cpp_grammar.specs.Row.{Action, Gain, Made, Row, Where, a_name, becomes, before_part, goes, handed, holds, in_a_signature, in_its_name, in_its_types, itself, quiet, tests, the_prefix, type_of, under_it, unlisted, unqualified_of, unread}
unfoldable pub use Rattle.cpp_grammar.specs.Rows.{row_of}
unfoldable pub use Rattle.cpp_grammar.specs.Scope.{arguments_of, before_arguments, count, element, first_of, has_return_type, is_open, is_structor, length_if_pack, pack_length}
pub use Rattle.cpp_grammar.specs.Scope.{without_tags}
unfoldable pub use Rattle.cpp_grammar.specs.Table.{abi, padded, rule_of, rule_taken, sheet, sheet_with}
pub use Rattle.cpp_grammar.specs.Table.{wide}
pub use Rattle.cpp_grammar.specs.Term.{Adjustment, Qualifiers, RefQualifier, Signed, Term, Thunk, abbreviation, absent, address_of, adjusting, alone, any_value, array, bindings, boolean, bounded, builtin, by_table, clone, complex, constrained, construction, constructor, conversion, covariant, declaring, decltype, destructor, encoding_literal, enumeration, expansion, explicit_object, function, function_parameter, function_type, generic_lambda, holder, in_std, inheriting, instance, integer, lambda, list, literal_operator, local, lvalue, lvalue_only, member_pointer, nil, non_virtual, null_pointer, object, of_default, of_name, operation, operator, pack, parameter, pointer, qualified, rvalue, rvalue_only, sized_float, source, special, string_literal, symbol, tagged, thunk, unnamed, vector, vendor, within}
unfoldable pub use Rattle.cpp_grammar.specs.Texts.{same_bytes, special_front}
unfoldable pub use Rattle.cpp_grammar.specs.Unfolding.{byte_of, close, cpp, first_around, first_state, first_tree, last_token, number_tested, opening, unfold_cpp}
pub use Rattle.cpp_grammar.specs.Unfolding.{production_at}
unfoldable pub use Rattle.cpp_grammar.specs.Values.{adjustment_of, is_listed, is_there, is_zero, letter_of, local_number, mark_of, normal, part, piece_of, prefix_listed, prefix_tree, qualifiers_of, ref_of, signed_digits, signed_of, text_of, tree_of}
pub use Rattle.cpp_grammar.specs.Values.{Around, Candidate, Prefix, Showing, State, Value, adjusted, behind, by_all, letter, named, nothing_there, outermost, pair, piece, signature, signed, tree, unqualified}
pub use Rattle.cpp_grammar.specs.declared.kind.Kind.{Kind}
pub use Rattle.cpp_grammar.specs.declared.production.Operation.{Operation}
pub use Rattle.cpp_grammar.specs.declared.production.Production.{Production}
pub use Rattle.sym_core.specs.Number.{AreDigits, AreDigitsOf, IsFormOf, IsLengthForm, ending_of, is_digit_of}
pub use Rattle.sym_core.specs.Token.{IsName, IsNumberToken, IsSeparator, Token, bytes_of}
pub use Rattle.sym_core.specs.Value.{counted_value, digit_value, value_of, value_onto}
pub use Rattle.sym_core.specs.declared.NameClass.TheVariants.{Cpp}
pub use Rattle.sym_core.specs.declared.NumberKind.{NumberKind}
pub use Rattle.sym_core.specs.declared.NumberKind.TheVariants.{Base62, Decimal, Digits, Hex, Length, Seq36}
pub use Rattle.sym_core.specs.declared.refusal.Refusal.{Refusal}
pub use Rattle.sym_core.specs.declared.refusal.Refusal.TheVariants.{BadReference, BadValue, Malformed}
pub use Rattle.sym_link.specs.Reading.{Found, Next, Open, ◌>>=◌}
pub use Rattle.sym_link.specs.Unfold.{found, standing, unfold_forest, unfold_tree}
pub use Rattle.sym_shape.specs.Law.{AreSymbols, IsSymbol}
pub use Rattle.sym_shape.specs.Table.{symbols_of}
pub use Rattle.sym_shape.specs.Tree.{AreTrees, Forest, IsTree, TakesRule, Tree, branch, empty, fixed, grown, spell, spell_all, token}
pub use Rattle.sym_shape.specs.declared.rule.Rule.{Rule}
pub use Rattle.sym_shape.specs.declared.rule.Sym.{Sym}
pub use Rattle.sym_shape.specs.declared.rule.Sym.TheVariants.{Byte, Name, Number}
pub use Rattle.sym_spell.proofs.DigitValues.{Divides, counted-digits, digits-all, digits-count, divides10, length-digits, length-form, length-value}
pub use Rattle.sym_spell.proofs.Spellings.{and-assoc, and-assoc-at}
pub use Rattle.sym_spell.specs.Digits.{decimal_digit, digit36, digits_in, most_of}
pub use Rattle.sym_spell.specs.Pressing.{nothing, text, ◌and◌}
