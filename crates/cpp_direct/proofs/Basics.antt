-- The library lemmas that proofs use, and this crate's definitions, exported from one place.
pub use Rattle.std.proofs.Common.{Bool, Err, Fits, List, None, Ok, Option, Result, Some, [], ap, append-nil, append_assoc, arith, bit_or, codes, cond, drop, eqb-true, false, get_or, if◌then◌else◌, inl, inr, is_some, length, length-append, ltb, map, nat_eq, nat_le, nat_lt, not, refl, replicate, reverse, slice_get, subst, suc, sym, take, true, w8, zero, ℕ, ◌%◌, ◌&&◌, ◌*◌, ◌++◌, ◌+◌, ◌-◌, ◌<◌, ◌==◌, ◌^◌, ◌||◌, ◌∙◌, ◌∷◌, ◌≡◌, ◌≢◌, ◌≤◌, ◌⊎◌}
pub use Rattle.std.proofs.Math.Nat.{pow-le-pow_right, zero-add}
pub use Rattle.std.proofs.Math.Seq.{drop-append_seam, drop-cons, get_or-append_seam, take-append-add, take-append_seam}
pub use Rattle.std.proofs.lemmas.Bool.{agree_below, agree_below_at, and_parts, false≢true, le-leb, le-ltb, lt-ltb, ltb-false, ltb-true, ne_eqb, not-true}
pub use Rattle.std.proofs.lemmas.Bool.Decides.{nat_tests}
pub use Rattle.std.proofs.lemmas.List.{drop-drop, drop_all, drop_more, get_or-drop, get_or-reverse, get_or-take, length-drop, length-map, length-reverse, length-take-le, reverse-append, reverse-reverse, set-get_or, take-append-drop, take_all, take_rest}
pub use Rattle.std.proofs.lemmas.Option.{get_or_from_slice_get, slice_get_read, slice_get_within}
pub use Rattle.std.proofs.lemmas.Simd.{get_or-chunk, leading_from_mask_l, length-chunk, map-map, mask_l-mod, zip2_of_maps, zip2_splat}
pub use Rattle.std.specs.List.{AllByRecursion, ends_with}
pub use Rattle.std.specs.Option.{IfSome, OnSome}
pub use Rattle.std.specs.Prelude.{decimal, slice_set}
pub use Rattle.cpp_direct.specs.AllHoles.{AddressOpened, ArgumentsOpened, ArrayOpened, AwaitsArguments, AwaitsComponent, AwaitsElement, AwaitsElementAs, AwaitsInstance, BaseOpened, Comes, Discriminator, EncodingOpened, EnumeratorOpened, Expects, FunctionOpened, GuardOpened, IsArgumentKind, IsComponentAt, IsDigitsAt, IsDiscriminatorAt, IsEntityAt, IsFirstRest, IsLambdaDigit, IsListKind, IsNameAt, IsNamedKind, IsNumberAt, IsOffsetAt, IsPieceAt, IsQualifiable, IsReferable, IsRest, IsSeqAt, IsSizeAt, IsSuffix, IsTagAt, IsTyped, ItemsOpened, LambdaEnds, LevelOpened, ListGoesOn, LiteralOpened, LocalOpened, LocalTypeOpened, NameOpens, Named, NestGoesOn, NestNamed, NestOpened, NoReference, Opened, PackOpened, ParameterOpened, ReferenceOpened, SamePasses, SignatureGoesOn, SpecialOpened, StandsAt, SymbolOpened, TableOpened, TreeOpens, TreePasses, TypeNamed, TypeOpens, access_letters, accessed, array_opening, as_const, bare_name, by_digit, by_digits, candidate, const_letter, cpp_language, discriminator_value, entity_in, is_lvalue, is_marked, lambda_digits, lambda_ending, lambda_number, lambda_with, local_in, mark_letters, member_in, member_of, minus_sign, nest_marks, opened, plain_function, pointed, reference, reference_letter, template_named, unless_listed, unnumbered, with_accessed, with_candidate, with_pointed}
unfoldable pub use Rattle.cpp_direct.specs.AllStates.{is_abbreviated, is_builtin, is_builtin_with_d, is_integer_letter, is_special_letter, is_suffix_byte, short_numbers, written_parts}
pub use Rattle.cpp_direct.specs.AllStates.{Access, AddressWithin, AreAmong, AreCandidates, AreExpanded, AreKnown, AreLeft, AreNamed, AreParametersRead, AreSingle, Argument, Arguments, ArgumentsGoOn, AwaitsArgument, AwaitsArgumentNumber, AwaitsArgumentOfName, AwaitsClass, AwaitsElementOf, AwaitsEncoding, AwaitsEntity, AwaitsEnumerator, AwaitsFirst, AwaitsFront, AwaitsItems, AwaitsKnownArgument, AwaitsLed, AwaitsLedParameters, AwaitsMark, AwaitsMember, AwaitsMemberFunction, AwaitsMemberParameters, AwaitsName, AwaitsNamedType, AwaitsNest, AwaitsNextArgument, AwaitsNumber, AwaitsParameter, AwaitsParameters, AwaitsSignature, AwaitsSource, AwaitsType, AwaitsTypeIn, AwaitsTypeName, Belongs, Below, Candidate, Closes, ComeBefore, Cuts, Direct, ElementOf, ElementsGoOn, Encloses, Encoded, EncodedBehind, EndsAsInteger, EndsBehind, EndsNamed, EndsOtherwise, EntityBehind, EnumeratorGoesOn, ExpectsType, FirstType, Fronts, GoesOn, HasArguments, HasInstance, HasLed, HasName, HasNameSo, HasPack, HasParameters, HasScope, HasSingles, Hiding, Holder, IsAddressNamed, IsAddressed, IsAddressedRead, IsAmong, IsArgumentRead, IsArrayRead, IsBetween, IsBuiltinAt, IsCandidate, IsConstructorDigit, IsDependentNow, IsDestructorDigit, IsElement, IsElementAs, IsElementGiven, IsElementIn, IsElementPassed, IsElementRead, IsEnclosingNamed, IsEnclosingParameterRead, IsEnclosingRead, IsEncodedAt, IsEncodingEnded, IsFresh, IsFrontRead, IsFunctionEnded, IsFunctionRead, IsGiven, IsInnerFrontRead, IsInstance, IsInstanceNamed, IsInstanceParameterRead, IsKnown, IsLambdaOpened, IsLambdaParameterRead, IsLambdaRead, IsLed, IsLedFunction, IsLedFunctionRead, IsLedParameterRead, IsLeft, IsLengthRead, IsListEnded, IsListing, IsLiteralRead, IsMadeIn, IsMarkPlace, IsMarkedBy, IsMemberParameterRead, IsMemberRead, IsNameEnded, IsNamePlace, IsNameScoped, IsNamedAgain, IsNamedSo, IsNaming, IsNest, IsNestKnown, IsNestNamed, IsNestScoped, IsNestSoFar, IsNesting, IsOperatorAt, IsOperatorRead, IsOwn, IsOwnName, IsPackOf, IsPackThere, IsPassedClosed, IsPlaced, IsReadable, IsReturned, IsScope, IsScoped, IsScopedWithin, IsShown, IsSingle, IsSymbolEnded, IsTail, IsTemplate, IsTypeNamed, IsTypeRead, IsUnmarked, IsUnscoped, IsWhole, IsWriting, ItemsGoOn, ItemsOf, Keeps, Kept, KnowsMore, LambdaComes, LambdaWithin, Leaves, Listing, Lists, Mark, MarkPlace, Marks, Names, NamesClass, Nest, Open, OpensArguments, OpensEntry, Owns, ParametersGoOn, Pattern, PrintAll, PrintAllAs, PrintAllBy, PrintAllIn, PrintEach, PrintEachBy, PrintEachIn, Prints, PrintsAround, PrintsAs, PrintsGiven, PrintsIn, PrintsListed, PrintsMade, PrintsName, PrintsPiece, Purpose, Reads, Scope, Serves, Shows, Stands, Stays, Step, Symbol, TakesFunction, TakesItems, TypeWithin, Writes, abbreviation_letters, added, added_unless, argument_around, argument_entry, argument_of, arguments_in, arguments_or_pack, below, builtin_letters, builtin_letters_with_d, called_on, closing_bracket, closing_byte, comma_text, detail_by, detail_of, element_kind, encoding_place, expansion_letters, extra_of, has_const, hidden, hidden_behind, in_front_of_next, integer_letters, integer_text, is_angle, is_guard, is_local, is_noted, is_object, is_type, is_unmarked, is_within_type, joined, joined_to, led_by, list_of, list_with, made_by, mangled_of, mark_text, may_name, most_by_digit, no_scope, nowhere, number_text, of_pack, of_template, opening_bracket, opening_byte, operator_text, parameter_digits, pattern_letters, place_of, plain_encoding, qualifiers, scoped_in, separator, sign_text, special_letters, symbol_by, table_by, tag_text, truth_text, unmarked, unmarked_byte, unmarked_parts, with_argument, with_hidden, written, written_in, written_instance, written_name, written_of}
unfoldable pub use Rattle.cpp_direct.specs.AllTerms.{abbreviation_texts, abi, after, alternatives, among, appended, applied, argument, argument_so_far, arguments_of, array_left, at_index, attached_parts, bare_parts, base_parts, base_tagged, base_within, before_arguments, before_piece, begins_parameters, between, builtin_code, builtin_texts, byte_of, choose, clone_text, close, closing_right, comma_before, component_parts, count, cpp_by, element, enclosed_argument, encoding_of, encoding_text, ends_arguments, entity_of, expand_parts, expand_rest, expansion_parts, extended, first_of, first_parts, first_state, first_tree, full_parts, function_bare, function_full, function_right, has_return_type, head, head_with, in_name, in_ranges, in_signature, in_types, index_of, indexed, inside, instance_parts, integer_parts, is_below, is_chain, is_code, is_declaring, is_empty, is_funarr, is_function_type, is_in, is_module, is_nil, is_none_of, is_open, is_plain_integer, is_reference, is_structor, is_void, kinds, lambda_by, last_piece, last_token, left_parts, length_if_pack, list_part, listed_so_far, listed_value, literal_endings, local_number, look_up, low_parts, marked_parts, may_be_empty, meaning, more_parts, named_by, named_so_far, named_special_texts, no_items, normal, not_empty, number_of, number_of_kind, number_tested, opening, opening_text, operation_by, operation_of_code, operation_or_address, operations, operator_or_literal, operator_texts, own_piece, pack_length, packs_of, padded, parameter_named, parameter_parts, parameter_so_far, parameters, parts, parts_in, parts_of, pick, piece_parts, prefix_item, productions, qualified_left, qualified_right, qualifier_text, qualifiers_of, rank, ref_of, ref_text, reference_parts, reference_to, right_parts, root_parts, rule_of, same_bytes, sign_part, signature_or, signature_with, signed_digits, source_text, special_texts, text_part, thunk_text, tree_of, types_of, under_expansion, unfold_by, visible, wide, wide_alternatives, wide_choose, with_item, with_packs, with_prefix, with_tag, with_type, with_unqualified, within_parts, without_tags}
pub use Rattle.cpp_direct.specs.AllTerms.{Adjustment, AreDigits, AreDigitsOf, AreTrees, Around, Context, Continuation, Detail, Forest, Form, Found, HasNoZero, IsNumberToken, IsTree, Item, Kind, Naming, Next, NumberKind, Operation, Production, Qualifiers, ReachesNameBytes, RefQualifier, Refusal, SYMBOL, Signed, StandsFor, State, Sym, TakesRule, Term, Thunk, TokenPlace, Tree, Value, abbreviation, absent, address_of, adjusting, alone, any_value, array, as_item, begins_with, boolean, branch, builtin, by_table, clone, closed, closes, construction, constructor, counted_value, covariant, declaring, destructor, empty, expand, expansion, explicit_object, first, first_around, fixed, found, full, function, function_type, grown, has_arguments, has_parameters, in_std, instance, integer, is_decimal_digit, is_name_byte, is_zero, lambda, left, list, local, low, lvalue, lvalue_only, more, named, nil, non_virtual, nothing, nothing_there, object, of_name, opens, operation, operator, outermost, pack, parameter, pointer, qualified, rank_in, right, root, root_item, rvalue, rvalue_only, says, shown, source, special, spell, spell_all, standing, symbol, symbols_of, tagged, thunk, token, tree, unfold_forest, unfold_tree, unqualified, value_onto, within, ◌>>=◌, is_mark, close_by}
pub use Rattle.cpp_direct.specs.Holes.{Awaits, ExpectsSym, Needs, ReadsRest}
pub use Rattle.cpp_direct.specs.Symbol.{mangled_by}
unfoldable pub use Rattle.cpp_grammar.proofs.Growing.{same_choice}
pub use Rattle.cpp_grammar.proofs.Growing.{kept}
unfoldable pub use Rattle.cpp_grammar.specs.Items.{collapsed, head_closed, own_argument}
pub use Rattle.cpp_grammar.specs.Items.{Head, bare, base, lref}
pub use Rattle.cpp_grammar.specs.Meaning.{discriminator_of}
unfoldable pub use Rattle.cpp_grammar.specs.Parts.{operand_parts, operation_parts, printed}
unfoldable pub use Rattle.cpp_grammar.specs.Unfolding.{behind as unfolding_behind}
unfoldable pub use Rattle.cpp_grammar.specs.Values.{is_listed, is_there, letter_of, mark_of, part, piece_of, prefix_listed, prefix_tree, signed_of}
pub use Rattle.cpp_grammar.specs.Values.{letter, piece, signature, signed}
pub use Rattle.sym_core.specs.Token.{AreNameBytes, FindsToken, HasToken, IsName, IsSeparator, Token, bytes_of}
pub use Rattle.sym_direct.proofs.Seen.{first-unmarked, more-unmarked, stretch-left, test-unmarked, unmarked-hidden, unmarked-seen}
unfoldable pub use Rattle.sym_print.specs.Unfold.{printed_to}
pub use Rattle.sym_print.specs.Unfold.{PartOf, RanksBelow, printed_parts, sub, text}
pub use Rattle.sym_print.specs.Unshared.{Unshared, cost_of, text_of}
pub use Rattle.sym_core.specs.declared.NameClass.{NameClass}
