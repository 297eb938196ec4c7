-- The definitions of where a writer is and of what it has written, exported from one place.
unfoldable pub use Rattle.cpp_direct.specs.Bytes.{is_abbreviated, is_builtin, is_builtin_with_d, short_numbers}
pub use Rattle.cpp_direct.specs.Bytes.{is_guard, is_local, is_object}
unfoldable pub use Rattle.cpp_direct.specs.ItemBytes.{is_integer_letter, is_special_letter, is_suffix_byte}
pub use Rattle.cpp_direct.specs.Letters.{abbreviation_letters, builtin_letters, builtin_letters_with_d, integer_letters, special_letters}
pub use Rattle.cpp_direct.specs.Marks.{called_on, has_const, IsMarkPlace, mark_text}
pub use Rattle.cpp_direct.specs.MidStep.{AreExpanded, AreKnown, AreParametersRead, argument_around, argument_entry, AwaitsArgumentNumber, AwaitsClass, AwaitsEncoding, AwaitsKnownArgument, AwaitsMark, AwaitsMember, AwaitsName, AwaitsNamedType, AwaitsNest, AwaitsNextArgument, AwaitsNumber, AwaitsParameter, AwaitsParameters, AwaitsSignature, AwaitsSource, AwaitsType, comma_text, ElementOf, EndsOtherwise, expansion_letters, HasName, integer_text, IsArgumentRead, IsArrayRead, IsDependentNow, IsElementPassed, IsElementRead, IsEncodingEnded, IsFresh, IsFrontRead, IsFunctionEnded, IsFunctionRead, IsListEnded, IsLiteralRead, IsNamedAgain, IsNameEnded, IsNameScoped, IsNestKnown, IsNestNamed, IsOperatorRead, IsPassedClosed, IsReturned, IsSymbolEnded, IsTypeNamed, IsUnscoped, KnowsMore, most_by_digit, number_text, parameter_digits, separator, truth_text}
pub use Rattle.cpp_direct.specs.MidStepOfAddresses.{AwaitsAddressedParameters, AwaitsArgumentOfName, IsAddressedFrontRead, IsAddressedParameterRead, IsAddressedRead, IsAddressNamed}
pub use Rattle.cpp_direct.specs.MidStepOfLocals.{AwaitsEnclosingParameters, AwaitsEntity, AwaitsFirst, AwaitsLedParameters, AwaitsMemberFunction, AwaitsMemberParameters, AwaitsTypeName, IsBuiltinAt, IsEnclosingFrontRead, IsEnclosingNamed, IsEnclosingParameterRead, IsEnclosingRead, IsInnerFrontRead, IsInstanceNamed, IsInstanceParameterRead, IsLambdaOpened, IsLambdaParameterRead, IsLambdaRead, IsLedFunctionRead, IsLedParameterRead, IsMemberParameterRead, IsMemberRead, LeadsMember, MemberWithin}
pub use Rattle.cpp_direct.specs.Names.{is_angle, IsConstructorDigit, IsDestructorDigit, IsLengthRead, IsNamePlace, IsOperatorAt, IsReadable, operator_text, tag_text}
pub use Rattle.cpp_direct.specs.Prints.{AreSingle, closing_bracket, closing_byte, Encloses, EndsAsInteger, IsElement, IsElementAs, IsElementGiven, IsElementIn, IsGiven, IsLed, IsMarkedBy, IsUnmarked, joined, joined_to, list_of, made_by, Named, Names, NamesClass, opening_bracket, opening_byte, pattern_letters, PrintAll, PrintAllAs, PrintAllBy, PrintAllIn, PrintEach, PrintEachBy, PrintEachIn, Prints, PrintsAround, PrintsAs, PrintsGiven, PrintsIn, PrintsListed, PrintsMade, PrintsName, PrintsPiece, Shows, sign_text, unmarked_parts, written, written_in, written_instance, written_of}
pub use Rattle.cpp_direct.specs.Symbol.{detail_by, detail_of, mangled_of, Symbol, symbol_by, table_by}
unfoldable pub use Rattle.cpp_direct.specs.WriterInvariant.{opening_text}
pub use Rattle.cpp_direct.specs.WriterInvariant.{AddressWithin, AreAmong, AreCandidates, AreNamed, argument_of, arguments_in, arguments_or_pack, ArgumentsGoOn, AwaitsArgument, AwaitsArgumentEnumerator, AwaitsElementOf, AwaitsEnumerator, AwaitsFront, AwaitsItems, AwaitsLed, AwaitsTypeIn, Belongs, Below, below, Closes, ComeBefore, element_kind, ElementsGoOn, Encoded, EncodedBehind, encoding_place, EndsBehind, EndsNamed, EntityBehind, EnumeratorGoesOn, ExpectsType, extra_of, FirstType, Fronts, GoesOn, HasArguments, HasDerived, HasInnerFront, HasInstance, HasLed, HasNameSo, HasPack, HasParameters, HasScope, HasSingles, in_front_of_next, is_noted, is_type, is_within_type, IsAddressed, IsAmong, IsBetween, IsCandidate, IsEncodedAt, IsInstance, IsKnown, IsLedFunction, IsListing, IsMadeIn, IsMember, IsNamedSo, IsNaming, IsNest, IsNesting, IsNestScoped, IsNestSoFar, IsOwn, IsOwnName, IsPackOf, IsPackThere, IsPlaced, IsScope, IsScoped, IsScopedWithin, IsShown, IsSingle, IsTail, IsTemplate, IsTypeRead, IsWhole, IsWriting, ItemsGoOn, ItemsOf, Keeps, Kept, LambdaComes, LambdaWithin, led_by, list_with, Listing, Marks, may_name, MemberBehind, MemberGoesOn, no_scope, nowhere, of_pack, of_template, Owns, ParametersGoOn, place_of, plain_encoding, qualifiers, Scope, scoped_in, Serves, Stands, TakesFunction, TakesItems, TypeWithin}
pub use Rattle.cpp_direct.specs.WriterTypes.{Access, Argument, Arguments, Candidate, detail_of, Direct, Hiding, Holder, Mark, MarkPlace, Nest, Open, Pattern, Purpose, Step, Symbol}
pub use Rattle.cpp_direct.specs.Written.{AreLeft, Cuts, IsLeft, Leaves, Lists, OpensArguments, OpensEntry, Reads, Stays, Writes, added, added_unless, hidden, hidden_behind, with_argument, with_hidden}
unfoldable pub use Rattle.cpp_direct.specs.WrittenParts.{written_parts}
pub use Rattle.cpp_direct.specs.WrittenParts.{closing_bracket, is_unmarked, IsUnmarked, opening_bracket, unmarked, unmarked_byte, unmarked_parts, written, written_in, written_instance, written_name}
