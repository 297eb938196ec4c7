-- Definitions and lemmas that most proofs use, exported from one place: on what is accepted, what is printed and what is kept.
unfoldable pub use Rattle.cpp_direct.proofs.Basics.{abbreviation_texts, after, alternatives, among, appended, applied, argument, argument_so_far, arguments_of, array_left, at_index, bare_parts, base_parts, base_tagged, base_within, between, builtin_texts, byte_of, choose, clone_text, close, closing_right, comma_before, component_parts, count, cpp_by, element, enclosed_argument, encoding_of, encoding_text, ends_arguments, entity_of, expand_parts, expand_rest, expansion_parts, extended, first_of, first_state, first_tree, full_parts, function_bare, function_full, function_right, has_return_type, head, head_with, in_name, in_ranges, in_signature, in_types, index_of, indexed, inside, instance_parts, is_abbreviated, is_below, is_builtin, is_builtin_with_d, is_chain, is_code, is_declaring, is_empty, is_funarr, is_function_type, is_in, is_integer_letter, is_listed, is_nil, is_none_of, is_open, is_plain_integer, is_reference, is_special_letter, is_structor, is_suffix_byte, is_there, is_void, lambda_by, last_piece, last_token, left_parts, length_if_pack, letter_of, listed_so_far, listed_value, local_number, look_up, low_parts, mark_of, marked_parts, may_be_empty, meaning, named_by, named_so_far, no_items, normal, not_empty, number_of_kind, number_tested, opening, opening_text, operand_parts, operation_of_code, operation_parts, operations, operator_texts, own_piece, pack_length, packs_of, padded, parameter_named, parameter_so_far, parameters, part, parts, parts_in, parts_of, pick, piece_of, piece_parts, prefix_item, printed, printed_to, qualifier_text, qualifiers_of, ref_of, ref_text, reference_parts, right_parts, rule_of, same_bytes, short_numbers, signature_with, signed_digits, signed_of, special_texts, text_part, thunk_text, tree_of, types_of, under_expansion, unfold_by, unfolding_behind, visible, with_packs, with_tag, with_type, within_parts, without_tags, written_parts}
pub use Rattle.cpp_direct.proofs.Basics.{Access, AddressWithin, Adjustment, AllByRecursion, AreAmong, AreCandidates, AreDigits, AreDigitsOf, AreExpanded, AreKnown, AreLeft, AreNamed, AreParametersRead, AreSingle, AreTrees, Argument, Arguments, ArgumentsGoOn, Around, AwaitsArgument, AwaitsArgumentNumber, AwaitsArgumentOfName, AwaitsClass, AwaitsComponent, AwaitsElementOf, AwaitsEncoding, AwaitsEntity, AwaitsEnumerator, AwaitsFirst, AwaitsFront, AwaitsItems, AwaitsKnownArgument, AwaitsLed, AwaitsLedParameters, AwaitsMark, AwaitsMember, AwaitsMemberFunction, AwaitsMemberParameters, AwaitsName, AwaitsNamedType, AwaitsNest, AwaitsNextArgument, AwaitsNumber, AwaitsParameter, AwaitsParameters, AwaitsSignature, AwaitsSource, AwaitsType, AwaitsTypeName, BaseOpened, Belongs, Below, Bool, Candidate, Closes, ComeBefore, Comes, Context, Continuation, Cuts, Detail, Direct, Discriminator, ElementOf, ElementsGoOn, Encloses, Encoded, EncodedBehind, EncodingOpened, EndsAsInteger, EndsBehind, EndsNamed, EndsOtherwise, EntityBehind, EnumeratorGoesOn, Err, Expects, FirstType, Forest, Form, Fronts, FunctionOpened, GoesOn, GuardOpened, HasArguments, HasInstance, HasLed, HasName, HasNameSo, HasNoZero, HasPack, HasParameters, HasScope, HasSingles, Hiding, Holder, IsAddressNamed, IsAddressed, IsAddressedRead, IsAmong, IsArgumentKind, IsArgumentRead, IsArrayRead, IsBuiltinAt, IsCandidate, IsComponentAt, IsConstructorDigit, IsDependentNow, IsDestructorDigit, IsDigitsAt, IsDiscriminatorAt, IsElement, IsElementAs, IsElementIn, IsElementPassed, IsElementRead, IsEnclosingNamed, IsEnclosingParameterRead, IsEnclosingRead, IsEncodedAt, IsEncodingEnded, IsEntityAt, IsFirstRest, IsFresh, IsFrontRead, IsFunctionEnded, IsFunctionRead, IsGiven, IsInnerFrontRead, IsInstance, IsInstanceNamed, IsInstanceParameterRead, IsKnown, IsLambdaDigit, IsLambdaOpened, IsLambdaParameterRead, IsLambdaRead, IsLed, IsLedFunction, IsLedFunctionRead, IsLedParameterRead, IsListEnded, IsListKind, IsListing, IsLiteralRead, IsMadeIn, IsMarkPlace, IsMarkedBy, IsMemberParameterRead, IsMemberRead, IsNameAt, IsNameEnded, IsNameScoped, IsNamedAgain, IsNamedKind, IsNamedSo, IsNaming, IsNest, IsNestKnown, IsNestNamed, IsNestScoped, IsNestSoFar, IsNesting, IsNumberToken, IsOffsetAt, IsOperatorAt, IsOperatorRead, IsOwn, IsOwnName, IsPackOf, IsPackThere, IsPassedClosed, IsPieceAt, IsPlaced, IsQualifiable, IsReadable, IsReferable, IsRest, IsReturned, IsScope, IsScoped, IsScopedWithin, IsSeqAt, IsShown, IsSingle, IsSizeAt, IsSuffix, IsSymbolEnded, IsTagAt, IsTail, IsTemplate, IsTypeNamed, IsTypeRead, IsTyped, IsUnmarked, IsUnscoped, IsWhole, IsWriting, Item, ItemsGoOn, ItemsOf, ItemsOpened, Keeps, Kept, Kind, KnowsMore, LambdaComes, LambdaEnds, LambdaWithin, Leaves, List, ListGoesOn, Listing, Lists, LocalOpened, LocalTypeOpened, Mark, MarkPlace, Marks, NameClass, Named, Names, NamesClass, Naming, Nest, NestGoesOn, NestNamed, NestOpened, NoReference, None, NumberKind, Ok, OnSome, Open, Opened, OpensArguments, OpensEntry, Option, Owns, ParametersGoOn, PartOf, Pattern, PrintAll, PrintAllAs, PrintAllBy, PrintAllIn, PrintEachBy, Prints, PrintsAround, PrintsAs, PrintsGiven, PrintsIn, PrintsListed, PrintsMade, PrintsName, PrintsPiece, Production, Purpose, Qualifiers, Reads, RefQualifier, Refusal, SYMBOL, SamePasses, Scope, Serves, Shows, SignatureGoesOn, Signed, Some, SpecialOpened, Stands, StandsAt, StandsFor, State, Step, Sym, Symbol, SymbolOpened, TableOpened, TakesFunction, TakesItems, Term, Token, Tree, TreeOpens, TypeNamed, TypeOpens, TypeWithin, Unshared, Value, Writes, [], abbreviation, abbreviation_letters, absent, access_letters, accessed, added, added_unless, address_of, adjusting, alone, and_parts, any_value, ap, append-nil, append_assoc, argument_around, argument_entry, argument_of, arguments_in, arguments_or_pack, arith, array, array_opening, as_const, as_item, bare, base, below, boolean, branch, builtin, builtin_letters, builtin_letters_with_d, by_digit, by_digits, by_table, called_on, candidate, clone, closed, closes, closing_bracket, closing_byte, codes, comma_text, cond, const_letter, construction, constructor, cost_of, counted_value, cpp_language, decimal, destructor, detail_by, detail_of, discriminator_of, discriminator_value, drop, drop-append_seam, drop-cons, drop_all, drop_more, element_kind, empty, encoding_place, ends_with, entity_in, eqb-true, expand, expansion, expansion_letters, explicit_object, extra_of, false, false≢true, first, first_around, fixed, found, full, function, function_type, get_or, get_or-append_seam, get_or-reverse, get_or_from_slice_get, grown, has_arguments, has_const, has_parameters, hidden, hidden_behind, if◌then◌else◌, in_front_of_next, in_std, inl, inr, instance, integer, integer_text, is_angle, is_decimal_digit, is_guard, is_local, is_lvalue, is_mark, is_marked, is_name_byte, is_noted, is_object, is_some, is_type, is_unmarked, is_within_type, is_zero, joined, joined_to, lambda, lambda_digits, lambda_ending, lambda_number, lambda_with, le-leb, le-ltb, led_by, left, length, length-append, length-drop, length-reverse, letter, list, list_of, list_part, list_with, literal_endings, local, local_in, low, lt-ltb, ltb-true, lvalue, lvalue_only, made_by, mangled_of, mark_letters, mark_text, may_name, member_in, member_of, minus_sign, more-unmarked, most_by_digit, named, nat_eq, nat_le, nat_lt, nat_tests, ne_eqb, nest_marks, nil, no_scope, non_virtual, not, nothing, nothing_there, nowhere, number_text, object, of_name, of_pack, of_template, opened, opening_bracket, opening_byte, opens, operator, operator_text, outermost, pack, parameter, parameter_digits, pattern_letters, piece, place_of, plain_encoding, plain_function, pointed, pointer, pow-le-pow_right, printed_parts, qualified, qualifiers, rank, reference, reference_letter, refl, replicate, reverse, reverse-append, reverse-reverse, right, root_item, rvalue, rvalue_only, says, scoped_in, separator, shown, sign_text, slice_get, slice_get_within, source, source_text, special, special_letters, spell, spell_all, standing, stretch-left, sub, subst, suc, sym, symbol, table_by, tag_text, tagged, take, take-append-drop, take-append_seam, take_all, take_rest, template_named, text, thunk, token, tree, true, truth_text, unless_listed, unmarked, unmarked-hidden, unmarked-seen, unmarked_byte, unmarked_parts, unnumbered, unqualified, value_onto, with_accessed, with_argument, with_candidate, with_hidden, with_pointed, within, written, written_in, written_instance, written_of, zero, zero-add, ℕ, ◌&&◌, ◌*◌, ◌++◌, ◌+◌, ◌-◌, ◌<◌, ◌==◌, ◌^◌, ◌||◌, ◌∙◌, ◌∷◌, ◌≡◌, ◌≢◌, ◌≤◌, ◌⊎◌, text_of, close_by}
pub use Rattle.cpp_direct.proofs.Kept.{awaited-in, candidate-found, candidate-inside, candidates-as, candidates-left, candidates-more, encoded-here, front-left, keeps-as, kept-argument, kept-as, kept-closed, kept-cut, kept-grown, kept-read, kept-same, kept-unless, kept-with, kept-written, list-begins, made-here, nest-stays, none-kept, none-known, none-named, none-single, piece-found, placed-last, placed-moved, placed-stays, reverse-last, scoped-within, template-stays, type-comes, type-named, value-added, value-comes}
pub use Rattle.cpp_direct.proofs.LettersTested.{IsOperator, integer-there, operator-listed}
pub use Rattle.cpp_short_reading.proofs.Tables.{empty-by, names-are, names-by, rests-by, stands-by}
pub use Rattle.cpp_direct.proofs.Moves.{alone-arguments, any-argument, any-tail, comes-moved, expects-empty, stands-join, stands-moved, stands-split}
pub use Rattle.cpp_direct.proofs.MovesOfLists.{address-opens, argument-awaits, arguments-open, bool-element, element-awaits, enumerator-opens, integer-element, integer-fills, level-opens, listed-awaits, pack-opens}
pub use Rattle.cpp_direct.proofs.MovesOfTypes.{abbreviation-opens, array-opens, builtin-comes, builtin-with-d-comes, const-opens, function-opens, named-taken, nested-type-opens, parameter-opens, pointed-function-opens, pointer-opens, reference-opens, reference-type-opens, signature-ends, solid-opens, source-opens, std-opens, substitution-opens}
pub use Rattle.cpp_direct.proofs.Unmarked.{digits-unmarked, each-unmarked, is-no-mark, is_mark, length-unmarked, more-unmarked, name-byte, name-unmarked, operator-unmarked, source-unmarked, suffix-unmarked, unmarked-same}
pub use Rattle.cpp_direct.proofs.PrintedParts.{cost-append, cost_append, cost_shown, first_cost_shown, first_shown, has-none, has-parameters, list-unmarked, part-cost, part-text, parts-joined, printed_by, shown_by, text-append, text_append, text_shown, writes_parts}
pub use Rattle.cpp_direct.proofs.PrintedLists.{PrintsItems, all-as, all-as-in, all-given, all-in, all-more, around-element, element-as, element-in, further, joined-further, list-before, list-closed, list-cost, list-cost-before, list-in, list-more, list-packless, list-packless-as, list-text, list-text-before, list-with-none, listed-element, next-prints, next-prints-as, next-prints-by, next-prints-in, none-print, none-print-in, none-text, pack-element, type-element, type-element-as, type-in}
pub use Rattle.cpp_direct.proofs.PrintedSymbols.{clone-filled, clone-shows, encoding-object, encoding-plain, encoding-returned, front-shows, function-shows, guarded-shows, made-void, made-with, mark-opens, never-explicit, object-encoded, object-shows, parameters-before, parameters-kept, special-shows, suffix-cost, suffix-text, symbol-cost, symbol-text, table-shows, thunk-filled, thunk-shows, void-shows}
pub use Rattle.cpp_direct.proofs.PrintedTypes.{as-in, const-in, constant, lvalue-in, made-given, made-prints, no-module, parameter-around, parameter-given, parameter-in, prints-as, prints-as-given, prints-in, rvalue-again, rvalue-around, rvalue-given, rvalue-in, types-given}
pub use Rattle.cpp_direct.proofs.PrintedNames.{abbreviation-class, abbreviation-prints, as-name, boolean-prints, builtin-prints, builtin-with-d-prints, cast-integer-prints, enumerator-prints, normal-filled, normal-unmarked, not-integer, operator-names, operator-prints, plain-integer-prints, source-class, source-prints, std-class, std-operator-names, std-operator-prints, std-prints}
pub use Rattle.cpp_direct.proofs.Scopes.{among-stay, arguments-named, element-there, entry-scoped, has-member, has-plain, instance-returns, known-stay, name-stays, no-arguments, none-scoped, pack-stays, parameters-as, scoped-inside, structor-returns}
pub use Rattle.cpp_direct.proofs.NamePlaces.{all-reached, own-each, reads-of, reads-then}
pub use Rattle.cpp_direct.proofs.MovesOfNests.{any-arguments, component-awaits, component-constructor, component-destructor, component-internal, component-operator, component-outside, component-source, goes-on, instance-arguments, named-by, named-outside, nest-abbreviation, nest-end, nest-source, nest-std, nest-substitution, operator-fills, piece-comes, tag-follows}
pub use Rattle.cpp_short_reading.proofs.Lambdas.{alone-closes, closed-lambda}
pub use Rattle.cpp_short_reading.proofs.Substituted.{no-pack-named, substituted-open, substituted-so}
