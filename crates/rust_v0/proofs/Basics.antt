-- The library lemmas and definitions that this crate's proofs use, exported from one place.
pub use Rattle.std.proofs.Common.{Bool, Err, List, None, Ok, Option, Some, [], ap, append-nil, append_assoc, arith, cond, drop, eqb, false, get_or, inl, inr, length, length-append, map, not, refl, replicate, subst, suc, sym, take, true, zero, ℕ, ◌&&◌, ◌*◌, ◌++◌, ◌+◌, ◌-◌, ◌<◌, ◌||◌, ◌∙◌, ◌∷◌, ◌≡◌, ◌≢◌, ◌≤◌, ◌⊎◌}
pub use Rattle.std.proofs.lemmas.Bool.{and_parts, cases_Bool, eq-eqb, eqb-true, false≢true, le-leb, le-ltb, leb-true, lt-leb, ltb-false, ltb-true, or_cases}
pub use Rattle.std.proofs.lemmas.List.{drop-drop, drop-take, get_or-map, get_or-set_other, get_or-set_same, length-drop, length-set, map-append, replicate-append-replicate}
pub use Rattle.std.proofs.lemmas.Result.{err_from_is_err_and}
unfoldable pub use Rattle.std.specs.Fmt.{digits}
pub use Rattle.std.specs.List.{list_all, range_with_len}
pub use Rattle.std.specs.Prelude.{IfErr, OnOk, Result, codes, decimal, if◌then◌else◌, min, nat_eq, nat_le, nat_lt, slice_get, slice_set, ⊤, ◌==◌, ◌^◌}
pub use Rattle.rust_v0.specs.CodeSemantics.{of_part}
pub use Rattle.rust_v0.specs.Made.{HasLists, Made, MadeGives, ends_tree, ground}
unfoldable pub use Rattle.rust_v0.specs.NodeCount.{nodes_of_production}
pub use Rattle.rust_v0.specs.NodeCount.{made_by, nodes_of_shape, v0_counted}
pub use Rattle.rust_v0.specs.PartValues.{Agree, Ground, IsNumber, IsOther, IsPart, IsSomeInteger, IsSuffix}
pub use Rattle.rust_v0.specs.RustNodes.{AddsOne, GoesOn, Keeps, Prints, refers_by, v0_view}
pub use Rattle.rust_v0.specs.Tokens.{HasZero, IsOwn, minus_before, sort_of, value_as}
pub use Rattle.rust_v0.specs.declared.nodes.RustNodes.{RustNodes}
pub use Rattle.rust_v0.specs.declared.part.Part.{Part}
pub use Rattle.rust_grammar.specs.Productions.{is_reference, makes_part, number_of, production_of, productions}
pub use Rattle.rust_grammar.specs.Rules.{each, kinds, no_kind, takes, v0_table}
pub use Rattle.rust_grammar.specs.Unfold.{At, Meaning, abi_part, abi_value_part, arguments_part, as_constant, as_path, as_type, at_first, at_rule, binder_part, bindings_part, bound_behind, bounded, bounds_part, byte_at, character_of, constant_part, disambiguator_part, ends_constant, ends_path, ends_type, greatest_u128, greatest_u64, identifier_part, integer_of, integer_part, is_minus, is_scalar, letter_part, lifetime_of, lifetime_part, meaning, meaning_of, minus_part, name_part, no_such_parts, number_part, other_path_part, path_part, plain, referred, refers_to_constant, refers_to_path, refers_to_type, some_lifetime_part, suffix_part, symbol_of, token_of, truth_part, type_part, types_part, unfolded, unsafe_part, v0, value16}
pub use Rattle.rust_grammar.specs.Value.{Ended, Integer, State, Value, a_binder, a_constant, a_disambiguator, a_lifetime, a_name, a_path, a_suffix, a_symbol, a_truth, a_type, an_abi, an_identifier, an_integer, letter, minus_mark, number, some_arguments, some_bindings, some_bounds, some_types, suffix_rest, unsafe_mark}
pub use Rattle.rust_grammar.specs.declared.production.Production.{Production}
pub use Rattle.rust_references.specs.Targets.{AreNoted, IsNoted}
pub use Rattle.rust_references.specs.declared.targets.Target.{Target}
pub use Rattle.rust_tree.proofs.Trees.{bytes-grown, got-within, grows-same, length-trees, tree-stays, within-grown}
unfoldable pub use Rattle.rust_tree.specs.Need.{need}
pub use Rattle.rust_tree.specs.Need.{need_of_type}
unfoldable pub use Rattle.rust_tree.specs.Nodes.{arguments_of, bindings_of, bounds_of, constant_of, type_of, types_of}
pub use Rattle.rust_tree.specs.Nodes.{Grows, HasNoZero, IsSymbol, IsTable, IsWithin, Makes, Table, bytes_at, symbol_in, tree_of, trees}
pub use Rattle.rust_tree.specs.Tree.{Tree, of_arguments, of_bindings, of_bounds, of_constant, of_path, of_symbol, of_type, of_types}
pub use Rattle.rust_tree.specs.declared.node.Constant.{Constant}
pub use Rattle.rust_tree.specs.declared.node.Node.{Node}
pub use Rattle.rust_tree.specs.declared.node.Ty.{Ty}
pub use Rattle.sym_core.specs.Number.{AreDigits, AreDigitsOf, FitsSymbol, is_decimal_digit, is_lower_letter, is_upper_letter}
unfoldable pub use Rattle.sym_core.specs.Printed.{hyphenated}
pub use Rattle.sym_core.specs.Printed.{IsDecoded, printed_name, signed_text}
pub use Rattle.sym_core.specs.declared.NumberKind.{NumberKind}
pub use Rattle.sym_core.specs.declared.NumberKind.TheVariants.{Base62, Hex}
pub use Rattle.sym_core.specs.declared.Span.{Span}
pub use Rattle.sym_core.specs.declared.refusal.Refusal.{Refusal}
pub use Rattle.sym_core.specs.declared.refusal.Refusal.TheVariants.{BadReference, BadValue, Malformed, Memory, TooLong}
pub use Rattle.sym_demangle.specs.Mangled.{IsBadToken}
pub use Rattle.sym_link.proofs.Lists.{all_push, all_stay, pushed_behind, rest_all, span_length, taken_dropped}
pub use Rattle.sym_link.proofs.Tally.{close_tallied, done_counts, done_untallied, opens_tallied, room_untallied, root_tallied, token_tallied}
pub use Rattle.sym_link.specs.Driving.{AreAll, Fails}
pub use Rattle.sym_link.specs.Linking.{Adds, Gives, Puts, next_of}
pub use Rattle.sym_link.specs.Parts.{Stands, joined, skipped, skipped_from, values_in}
pub use Rattle.sym_link.specs.Reading.{Found, Open, ◌>>=◌}
pub use Rattle.sym_link.specs.Tally.{closing_makes}
pub use Rattle.sym_link.specs.Unfold.{alone, found, standing, unfold_forest, unfold_tree}
pub use Rattle.sym_shape.specs.Sheet.{KindSheet, choice_at, classes_of, in_ranges}
pub use Rattle.sym_shape.specs.Table.{Token, symbols_of}
pub use Rattle.sym_shape.specs.Tree.{AreTrees, Forest, IsTree, branch, empty, fixed, grown, nothing, row_count_all, spell_all, token}
pub use Rattle.sym_shape.specs.declared.rule.Rule.{Rule}
pub use Rattle.sym_shape.specs.declared.rule.Sym.{Sym}
pub use Rattle.sym_shape.specs.declared.rule.Sym.TheVariants.{Byte, Kind, Name, Number}
pub use Rattle.sym_shape.specs.declared.sheet.Choice.{Choice}
