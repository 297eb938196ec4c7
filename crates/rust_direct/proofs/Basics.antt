-- The library lemmas and definitions that this crate's proofs use, exported from one place.
pub use Rattle.std.proofs.Common.{Bool, Err, Fits, List, None, Ok, Option, Result, Some, [], add-zero, ap, append-nil, append_assoc, ap₂, arith, bit_and, codes, cond, drop, false, get_or, inl, inr, leb, length, map, nat_eq, nat_le, not, refl, reverse, slice_get, subst, suc, sym, take, true, w8, zero, ℕ, ◌%◌, ◌*◌, ◌++◌, ◌+◌, ◌-◌, ◌/◌, ◌<◌, ◌^◌, ◌||◌, ◌∙◌, ◌∷◌, ◌≡◌, ◌≢◌, ◌≤◌, ◌⊎◌}
pub use Rattle.std.proofs.Math.Seq.{drop-append_seam, take-append_seam}
pub use Rattle.std.proofs.lemmas.Bool.{agree_below, agree_below_at, and_parts, cases_eq, cond-false, cond-true, eq-eqb, eqb-true, false≢true, le-leb, leb-true, lt-leb, ne_eqb, not-true, or_cases}
pub use Rattle.std.proofs.lemmas.Bool.Decides.{nat_tests}
pub use Rattle.std.proofs.lemmas.Fmt.{decimal_by_steps, decimal_digit, decimal_nonempty}
pub use Rattle.std.proofs.lemmas.List.{drop-drop, get_or-drop, get_or-take, length-append, length-drop, length-map, length-replicate, length-set, length-take, length-take-le, reverse-append, take-append-drop, take_all, take_rest}
pub use Rattle.std.proofs.lemmas.List.FromFn.{get_or-map-range_with_len}
pub use Rattle.std.proofs.lemmas.Simd.{get_or-chunk, leading_from_mask_l, length-chunk, map-map, mask_l-mod, trailing_mask_l, zip2_splat}
pub use Rattle.std.specs.List.{AllByRecursion, prefix_len, range_with_len}
pub use Rattle.std.specs.Option.{OnSome, option_to_list}
pub use Rattle.std.specs.Prelude.{decimal, if◌then◌else◌, nat_lt, replicate, slice_index, slice_set, ◌&&◌, ◌==◌}
pub use Rattle.rust_direct.specs.Awaits.{Awaits, AwaitsArgument, AwaitsImplType, AwaitsPath, AwaitsTraitType, IsEnded, IsEndedWithRoom, IsFresh, IsSymbolEnded, Receives}
pub use Rattle.rust_direct.specs.Bounds.{BoundsBegin, BoundsGoOn}
unfoldable pub use Rattle.rust_direct.specs.Constants.{is_signed, is_unsigned}
pub use Rattle.rust_direct.specs.Constants.{ArrayGoesOn, BeginsInteger, IsConstantAt, IsHexAt, WritesConstant, one_of, sign_text}
unfoldable pub use Rattle.rust_direct.specs.Holes.{is_namespace, is_suffix_byte}
pub use Rattle.rust_direct.specs.Holes.{ArgumentsGoOn, Comes, ComesAll, Ends, EndsSymbol, Erased, Expects, HasDisambiguator, ImplGoesOn, ImplementingGoesOn, IsDisambiguatorAt, IsErasedAt, IsNameAt, IsNumberAt, IsSmallNumberAt, IsSuffix, IsType, NameGoesOn, Opened, OtherGoesOn, TraitGoesOn, TypeGoesOn, TypesGoOn, Wanted, behind, erased_bytes, identifier, is_for_type, kind_of, other_path, path, rust_language, type, unwritten, with_ended, within, written}
pub use Rattle.rust_direct.specs.Lanes.{EachPasses, first_set}
pub use Rattle.rust_direct.specs.Names.{IsLengthRead, IsNamePlace, goes_on}
pub use Rattle.rust_direct.specs.Notes.{AreNotes, IsNote, IsNumbered, NotedAs, NotesEnded, home}
pub use Rattle.rust_direct.specs.Prints.{ArgumentsBegin, ArgumentsPrint, HasRoom, IsWrittenAs, PathPrints, Spells, TypePrints, TypesBegin, closing, cost_of_some, detail_by, opening, text_of_some}
pub use Rattle.rust_direct.specs.PrintsInForm.{HaveRoom, Holds, PathHas, Says, form_of, has_form, is_path, is_type}
pub use Rattle.rust_direct.specs.Specials.{behind_colon, special_text}
pub use Rattle.rust_direct.specs.WriterInvariant.{AreNotesOf, AreRooms, HasRooms, IsShown, IsUnbegun, IsWhole, IsWriting, Keeps, Stands, TypesCount, WrapHolds, closing_forms, closing_text, parked_of, separator_of, tuple_end}
pub use Rattle.rust_direct.specs.Written.{Notes, Opens, Pushes, Writes, piece}
pub use Rattle.rust_direct.specs.declared.direct.Direct.{Direct}
pub use Rattle.rust_direct.specs.declared.names.TheConstants.{BARRED, LENGTH_BYTES}
pub use Rattle.rust_direct.specs.declared.open.Forms.{Forms}
pub use Rattle.rust_direct.specs.declared.open.Note.{Note}
pub use Rattle.rust_direct.specs.declared.open.Open.{Open}
pub use Rattle.rust_grammar.specs.Mangled.{IsAnswer, v0_mangled}
pub use Rattle.rust_grammar.specs.Rules.{chaining, taking, v0_table}
pub use Rattle.rust_grammar.specs.Unfold.{an_integer_of, as_path, as_type, at_first, ended_at, greatest_u128, greatest_u64, identifier_part, is_minus, token_of, type_part, value16, value62}
pub use Rattle.rust_grammar.specs.Value.{Ended, State, Value, a_constant, a_disambiguator, a_lifetime, a_name, a_path, a_suffix, a_symbol, a_truth, a_type, an_identifier, letter, minus_mark, number, some_arguments, some_bounds, some_types, suffix_rest}
pub use Rattle.rust_grammar.specs.declared.kind.TheConstants.{ARGUMENTS, BINDER, BINDINGS, BOUNDS, CONSTANT, DISAMBIGUATOR, IDENTIFIER, LIFETIME, MINUS, NAME, NAMESPACE, OTHER_PATH, PATH, SOME_LIFETIME, SUFFIX, SUFFIX_BYTE, SUFFIX_REST, SYMBOL, TRUTH, TYPE, TYPES}
pub use Rattle.rust_grammar.specs.declared.production.Production.{Production}
pub use Rattle.rust_tree.specs.BasicTypes.{basic_texts}
unfoldable pub use Rattle.rust_tree.specs.Need.{need}
pub use Rattle.rust_tree.specs.Need.{need_of_type}
unfoldable pub use Rattle.rust_tree.specs.Shown.{basic_text, constant_parts, lifetime_parts, lifetime_text, namespace_text, path_parts, symbol_parts}
pub use Rattle.rust_tree.specs.Shown.{arguments_from, bounds_from, closing_tuple, generic_parts, name_behind, nested_name, text_at, type_parts, types_from}
pub use Rattle.rust_tree.specs.Symbol.{Arguments, Bounds, Constant, Identifier, Path, Ty, Tys, array, basic, boolean, const_pointer, constant_argument, crate_root, dyn, generic, inherent_impl, integer, lifetime_argument, more_bounds, more_types, mut_pointer, mutable_reference, nested, no_arguments, no_bindings, no_bounds, no_types, path_type, placeholder, shared_reference, slice, trait_definition, trait_impl, tuple, type_argument}
pub use Rattle.sym_core.specs.Number.{AreDigits, is_decimal_digit, is_digit_of}
pub use Rattle.sym_core.specs.Scan.{ReachesNameBytes}
pub use Rattle.sym_core.specs.Token.{AreNameBytes, FindsToken, HasToken, IsName, IsSeparator, Token, bytes_of, is_name_byte}
pub use Rattle.sym_core.specs.declared.NameClass.TheVariants.{Rust}
pub use Rattle.sym_core.specs.declared.NumberKind.TheVariants.{Base62, Hex}
pub use Rattle.sym_demangle.specs.Mangled.{StandsFor, answer_of_symbol, shaped}
pub use Rattle.sym_direct.proofs.Moves.{stands-join}
pub use Rattle.sym_direct.proofs.Seen.{each-unmarked, hidden-append, is-no-mark, more-unmarked, seen-append, stretch-hidden, stretch-seen, test-unmarked, unmarked-append, unmarked-hidden, unmarked-seen}
pub use Rattle.sym_direct.specs.Holes.{StandsAt, opened}
unfoldable pub use Rattle.sym_direct.specs.Marked.{visible}
pub use Rattle.sym_direct.specs.Marked.{IsSeenAs, IsUnmarked, is_unmarked}
pub use Rattle.sym_link.specs.Unfold.{standing}
pub use Rattle.sym_print.specs.Building.{◌also◌, ◌perhaps◌, ◌then◌}
pub use Rattle.sym_print.specs.Unshared.{Unshared, cost_of, cost_of_parts, done, text_of}
pub use Rattle.sym_shape.specs.Tree.{TakesRule}
pub use Rattle.sym_shape.specs.declared.rule.Rule.{Rule}
pub use Rattle.sym_shape.specs.declared.rule.Sym.TheVariants.{Byte, Kind, Name, Number}
