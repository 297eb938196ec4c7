-- The library lemmas and definitions that this crate's proofs use, exported from one place.
pub use Rattle.std.proofs.Common.{Bool, List, None, Ok, Option, Some, [], ap, append-nil, append_assoc, arith, false, inl, inr, length, length-append, refl, rules, slice_get, slice_set, subst, suc, sym, true, zero, ℕ, ◌%◌, ◌*◌, ◌++◌, ◌+◌, ◌-◌, ◌/◌, ◌<◌, ◌^◌, ◌∙◌, ◌∷◌, ◌≡◌, ◌≤◌, ◌⊎◌}
pub use Rattle.std.proofs.Math.Seq.{drop-append_seam}
pub use Rattle.std.proofs.lemmas.Bool.{and_parts, eq-eqb, eqb-false, eqb-true, false≢true, le-leb, leb-true, lt-ltb, ltb-true}
pub use Rattle.std.proofs.lemmas.Bool.Decides.{nat_tests}
pub use Rattle.std.proofs.lemmas.Option.{same_Some, slice_get_within}
pub use Rattle.std.specs.Fmt.{digit_glyph}
pub use Rattle.std.specs.List.{AllByRecursion, list_all}
pub use Rattle.std.specs.Prelude.{Err, Result, codes, drop, get_or, if◌then◌else◌, map, max, nat_eq, nat_le, nat_lt, not, slice_index, slice_index_or, take, ◌&&◌, ◌==◌, ◌||◌}
pub use Rattle.rust_press.specs.Apart.{AreApart, ComponentsAreApart, IsNew, spelled_components}
pub use Rattle.rust_press.specs.Marks.{IsFound, found_in, key_cmp, mark_of}
pub use Rattle.rust_press.specs.Numbers.{AreFirst, IsKeyOf, IsPartNumber}
unfoldable pub use Rattle.rust_press.specs.OfRead.{pressed_symbol}
pub use Rattle.rust_press.specs.OfRead.{HasFewComponents}
pub use Rattle.rust_press.specs.PressLaws.{Agrees, AreListed, IsClosedOther, IsReadAs, IsSpellableSymbol, PressedIsRead, PressedOnce, Presses, PressesRow, Reads, ReadsRow, as_value, state_of}
pub use Rattle.rust_press.specs.Pressing.{Component, Pressed, Pressing, component, count_of, counted, digits16, digits62, either, first_place, identifier_of, mark_if, number16, number62, path_or_reference, press_abi, press_arguments, press_binder, press_bindings, press_bounds, press_constant, press_disambiguator, press_identifier, press_lifetime, press_name, press_other, press_path, press_types, pressed, reference, separator, some_lifetime, spell_constant, spell_path, spell_type, spelled_out, type_or_reference}
pub use Rattle.rust_press.specs.Same.{same_abi, same_arguments, same_bindings, same_bounds, same_bytes, same_constant, same_identifier, same_name, same_path, same_tree, same_truth, same_type, same_types}
pub use Rattle.rust_press.specs.Short.{IsShort, PressedIsShort}
pub use Rattle.rust_press.specs.Spellable.{AreSpellableArguments, AreSpellableBindings, AreSpellableBounds, AreSpellableTypes, IsSpellable, IsSpellableAbi, IsSpellableConstant, IsSpellableIdentifier, IsSpellableInteger, IsSpellableName, IsSpellableSuffix, IsSpellableType, is_signed, is_unsigned, most62}
unfoldable pub use Rattle.rust_press.specs.Spelled.{constant_numbers, count_bytes, end_bytes, front_bytes, integer_bytes, is_component, letter_bytes, lifetime_bytes, mark_bytes, name_bytes, number_bytes, numbers_bytes, reference_bytes, text_bytes, type_numbers}
pub use Rattle.rust_press.specs.Spelled.{end, front, or_zero}
pub use Rattle.rust_press.specs.Subtrees.{IsTypeValue}
unfoldable pub use Rattle.rust_press.specs.Tasks.{AreTasks, weight_of_tasks}
pub use Rattle.rust_press.specs.Tasks.{AreOfNodes, ArePlaces, ArePushed, Goes, IsNodeStep, IsSpelled, IsTask, ending, ending_some, parts_then, placed, press_root, press_some, press_task, press_tasks, press_tree, task_weight, weight, weight_of_other, weight_of_some, weight_of_tree, weight_of_trees, weight_of_type}
pub use Rattle.rust_press.specs.declared.pressing.Task.{Task}
pub use Rattle.rust_grammar.specs.BasicLetters.{basic_letters, signed_letters, unsigned_letters}
pub use Rattle.rust_grammar.specs.Productions.{production_of}
pub use Rattle.rust_grammar.specs.Rules.{abi_name_rules, abi_rules, arguments_rules, binder_rules, bindings_rules, bounds_rules, chaining, constant_rules, disambiguator_rules, each, identifier_rules, kinds, letters, lifetime_rules, minus_rules, name_rules, namespace_rules, no_kind, path_forms, path_rules, some_lifetime_rules, suffix_bytes, symbol_rules, taking, truth_rules, type_forms, type_rules, types_rules, unsafe_rules, v0_table}
pub use Rattle.rust_grammar.specs.Unfold.{At, Meaning, as_constant, as_path, as_type, at_first, at_rule, bound_behind, bounded, byte_at, ended_at, ends, greatest_u128, greatest_u64, is_minus, is_scalar, meaning, meaning_of, other_path_part, path_part, plain, referred, refers_to_constant, refers_to_path, refers_to_type, suffix_part, symbol_of, token_of, unfolded, v0, value16, value62}
pub use Rattle.rust_grammar.specs.Value.{Ended, Integer, State, Value}
pub use Rattle.rust_grammar.specs.declared.production.Production.{Production}
pub use Rattle.rust_tree.proofs.Trees.{got-there, length-trees}
pub use Rattle.rust_tree.specs.Fields.{Fields, fields_of, number_in, one_if, other_part, tree_from, type_part}
unfoldable pub use Rattle.rust_tree.specs.Hexadecimal.{hexadecimal, hexadecimal_before}
pub use Rattle.rust_tree.specs.Layout.{ReadSymbol, trees_of}
unfoldable pub use Rattle.rust_tree.specs.Need.{need, need_of_arguments, need_of_bindings, need_of_bounds, need_of_type, need_of_types}
pub use Rattle.rust_tree.specs.Nodes.{bytes_at, most_bound, symbol_in}
pub use Rattle.rust_tree.specs.Tree.{Tree, of_arguments, of_bindings, of_bounds, of_constant, of_path, of_symbol, of_type, of_types}
pub use Rattle.rust_tree.specs.Views.{IsView, fields_at, fields_in}
pub use Rattle.rust_v0.specs.Whole.{whole_of}
pub use Rattle.sym_core.specs.Number.{AreDigits, AreDigitsOf, IsLengthForm, ending_of, is_decimal_digit, is_digit_of}
pub use Rattle.sym_core.specs.Token.{AreNameBytes, IsName, IsNumberToken, IsSeparator, Token, bytes_of}
pub use Rattle.sym_core.specs.Value.{digit_value, radix_of, value_of, value_onto}
pub use Rattle.sym_core.specs.declared.NameClass.TheVariants.{Rust}
pub use Rattle.sym_core.specs.declared.NumberKind.{NumberKind}
pub use Rattle.sym_core.specs.declared.NumberKind.TheVariants.{Base62, Hex, Length}
pub use Rattle.sym_core.specs.declared.Span.{Span}
pub use Rattle.sym_core.specs.declared.refusal.Refusal.{Refusal}
pub use Rattle.sym_core.specs.declared.refusal.Refusal.TheVariants.{BadReference, BadValue}
pub use Rattle.sym_link.specs.Reading.{Found, Open, ◌>>=◌}
pub use Rattle.sym_link.specs.Unfold.{alone, found, standing, unfold_forest, unfold_tree}
pub use Rattle.sym_shape.specs.Sheet.{KindSheet, are_covered, choice_at, classes_of, in_ranges}
pub use Rattle.sym_shape.specs.SheetLaws.{are_covered_in, lawful_sheet}
pub use Rattle.sym_shape.specs.Table.{IsToken, symbols_of}
pub use Rattle.sym_shape.specs.declared.rule.Rule.{Rule}
pub use Rattle.sym_shape.specs.declared.rule.Sym.{Sym}
pub use Rattle.sym_shape.specs.declared.rule.Sym.TheVariants.{Byte, Kind, Name, Number}
pub use Rattle.sym_shape.specs.declared.sheet.ByteRange.{ByteRange}
pub use Rattle.sym_shape.specs.declared.sheet.Choice.{Choice}
pub use Rattle.sym_spell.proofs.DigitValues.{Divides, digits-all, digits-count, digits-some, digits-value, divides10, length-digits, length-form, length-value}
pub use Rattle.sym_spell.proofs.FirstOnes.{AreFirsts, AreKeys, IsLookUp, first-below, firsts-more, none-first}
pub use Rattle.sym_spell.proofs.Spellings.{and-assoc-at, and-nothing, and-nothing-at, nothing-and, nothing-and-at}
unfoldable pub use Rattle.sym_spell.specs.Digits.{digits_of}
pub use Rattle.sym_spell.specs.Digits.{decimal_digit, digit62, digits_in, most_of}
pub use Rattle.sym_spell.specs.Numbers.{AreNumbered, TellApart, number_at}
pub use Rattle.sym_spell.specs.Pressing.{letter, nothing, text, ◌and◌}
