-- The lemmas, definitions and libraries that answers use, exported from one place.
pub use Rattle.cpp_direct.proofs.Basics.{AreExpanded, AreLeft, Arguments, AwaitsKnownArgument, AwaitsParameter, AwaitsSignature, Candidate, Detail, Hiding, IsAddressNamed, IsDigitsAt, IsElementPassed, IsEnclosingNamed, IsInstanceNamed, IsLeft, IsName, IsNameAt, IsNameEnded, IsNameScoped, IsNestKnown, IsNumberToken, IsOwn, IsPackOf, IsReferable, IsScopedWithin, IsSeqAt, IsSizeAt, IsWriting, Kind, List, Lists, NameClass, Nest, None, NumberKind, Open, PrintsAs, ReachesNameBytes, Reads, Some, StandsAt, Stays, Step, TakesFunction, Term, Writes, [], added_unless, ap, append-nil, append_assoc, argument_of, arith, bit_or, builtin_texts, by_digit, by_digits, codes, counted_value, detail_by, drop, drop-append_seam, ends_with, eqb-true, false, false≢true, get_or, hidden, hidden_behind, if◌then◌else◌, inl, inr, is_name_byte, is_type, lambda_digits, lambda_number, length, length-chunk, length-drop, look_up, lvalue, nat_eq, nil, nowhere, operator_texts, parameter_digits, pointer, qualified, qualifiers, refl, reverse, rvalue, set-get_or, short_numbers, slice_set, source, source_text, special_texts, subst, suc, sym, symbol_by, take, take_rest, true, unnumbered, with_hidden, zip2_of_maps, zip2_splat, ℕ, ◌++◌, ◌+◌, ◌-◌, ◌==◌, ◌∙◌, ◌∷◌, ◌≡◌, ◌≢◌, ◌≤◌}
pub use Rattle.cpp_direct.proofs.Kept.{AreGoneOver, all-gone, candidate-inside, none-named, one-gone, opened-so, reverse-last}
pub use Rattle.cpp_direct.proofs.LettersTested.{operator-listed}
pub use Rattle.cpp_direct.proofs.Moves.{stands-join, stands-moved, stands-none}
pub use Rattle.cpp_direct.proofs.Unmarked.{name-unmarked}
pub use Rattle.cpp_direct.proofs.PrintedTypes.{const-as, lvalue-as, pointer-as, rvalue-as}
pub use Rattle.cpp_direct.proofs.PrintedNests.{source-opening, source-piece}
pub use Rattle.cpp_direct.proofs.PrintedLocals.{piece-prints}
pub use Rattle.cpp_direct.proofs.Scopes.{entry-scoped, none-scoped}
pub use Rattle.cpp_direct.proofs.Ending.{ends-plain, ends-suffixed, first-expected as first-parameter-expected, front-bare, front-begins, front-hidden, front-same, front-turned, function-closed, function-ended, function-named as own-function-named, marks-written, name-within as name-within-text, no-void, object-ended, parameter-expected, parameters-begin, symbol-ended, void-ended}
pub use Rattle.cpp_direct.proofs.Listed.{another-expected, closed-by, empty-pack-ends, first-closed, first-expected, last-found, list-ends, name-closed, nest-closed, no-pack, none-packed, nothing-known, pack-begins, pack-ends, type-closed, type-expected, waits-last}
pub use Rattle.cpp_direct.proofs.NamePlaces.{seq-there, digit-byte, digits-read, name-placed, name-read, number-found, one-digit, own-each, own-found, own-is, own-placed, place-found, reached-more, reads-begun, reads-of, reads-then, reads-written, some-by, tag-read, there-at, two-digits}
pub use Rattle.cpp_direct.proofs.Elements.{boolean-literal-read, boolean-read, cast-integer-read, enumerator-expected, enumerator-read, integer-literal-read, literal-added, minus-digits, normal-other, normal-short, normal-step, offset-read, plain-digits, plain-integer-read, zero-digits}
pub use Rattle.cpp_direct.proofs.Arguments.{argument-awaits, argument-begins, argument-closes, argument-enumerator-expected, argument-enumerator-read, argument-type, element-begins, element-passed, first-enumerator-expected, known-next, known-passes, literal-read, next-argument-begins, none-next, pack-after, pack-closes, pack-ends-empty, value-argument, value-argument-enumerator}
pub use Rattle.cpp_direct.proofs.MovesOfNests.{first-is-rest}
pub use Rattle.cpp_direct.proofs.TypesRead.{abbreviation-named, argued-done, awaits-type, bare-done, builtin-done, builtin-with-d-done, const-opened, mark-answer, named-again, names-awaited, nest-awaited, no-builtin-with-d, pointer-opened, popped, reference-opened, some-text, source-named, std-named, substitution-named, then-there, there}
pub use Rattle.cpp_direct.proofs.Begins.{clone-begins, encoding-awaited, name-awaited, nested-begins, object-begins, special-begins, special-stands, table-begins, thunk-begins, virtual-thunk-begins}
pub use Rattle.cpp_direct.proofs.ShortNumbers.{all-passed, digit-passed, other-passed}
pub use Rattle.cpp_direct.proofs.MovesOfLocals.{source-name-piece}
pub use Rattle.cpp_direct.proofs.NamedArguments.{scope-begins}
pub use Rattle.cpp_direct.proofs.Nesting.{abbreviation-begins, arguments-noted, component-next, first-opens, known-goes-on, known-opens, name-comes, named-goes-on, named-opens, named-tagged, operator-ends, reference-begins, source-begins, std-begins, type-ended}
pub use Rattle.cpp_direct.proofs.FunctionsWithin.{address-ended, address-items, address-nested, first-led, front-addressed, front-cut, front-read, function-shown, function-unshown, led-inside, marks-shown, name-addressed, name-inside, name-within, nest-within, next-led, now-scoped, object-within, parameter-read-within, plain-awaits, returned-awaits, source-within, type-led, type-within, void-shown, void-unshown}
pub use Rattle.cpp_direct.proofs.ConstructionTables.{base-expected, derived-inside, table-ended}
pub use Rattle.cpp_direct.proofs.Handed.{argument-read, listed-noted, parameter-read, passed-closed, special-read, takes-elements, value-element, value-enumerator, value-front, value-marked, value-parameter, value-returned, value-signature}
pub use Rattle.cpp_direct.proofs.Signatures.{array-begins, array-written, function-begins, function-handed, no-reference, parameter-comes, parameter-next, passed-on, reference-comes, signature-begins, signature-closed, still-popped, takes-as-element, value-array, void-closed}
pub use Rattle.cpp_direct.proofs.DependentsRead.{again-inside, argument-inside, dependent-again, digit-stands, expanded-inside, expanded-more, expansion-read, forwarded-done, letters-stand, none-expanded, none-written, nothing-read, operand-done, operand-inside, pack-separated, parameter-done}
pub use Rattle.cpp_direct.proofs.InstancesWithin.{element-instance, has-arguments, instance-awaits, instance-closed, instance-front, instance-named, instance-within}
pub use Rattle.cpp_direct.proofs.LambdasRead.{begun-in-function, begun-in-member, begun-in-name, ended-in-function, ended-in-member, ended-in-name, lambda-bracket, lambda-ended, lambda-next, lambda-parameter-read, lambda-told}
pub use Rattle.cpp_direct.proofs.MemberFunctions.{call-component, entity-read, function-named, member-begins, member-ends, member-parameter-read, source-component}
pub use Rattle.cpp_direct.proofs.Members.{level-begins, level-closed, member-read}
pub use Rattle.cpp_direct.proofs.NameLanes.{none_of, reached-on}
pub use Rattle.cpp_direct.proofs.NestComponents.{Moves, class-named, constructor-awaits, destructor-awaits, structor-digit-some, letters, moves-to, operator-follows, operator-last, source-follows}
pub use Rattle.cpp_direct.proofs.UnscopedNames.{entity-ended, guard-begins, local-begins, not-so, operator-unscoped, source-unscoped, std-operator-unscoped, std-source-unscoped, unscoped-argued, unscoped-bare, unscoped-tagged}
pub use Rattle.cpp_direct.proofs.VisibleTexts.{left-shown, whole-shown}
