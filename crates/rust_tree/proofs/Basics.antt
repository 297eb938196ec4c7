-- The library lemmas and definitions that this crate's proofs use, exported from one place.
pub use Rattle.std.proofs.Common.{Bool, List, None, Option, Some, [], ap, append-nil, append_assoc, arith, codes, decimal, drop, false, get_or, if◌then◌else◌, inl, inr, length, length-append, map, refl, rules, slice_get, slice_set, subst, suc, sym, take, true, zero, ℕ, ◌%◌, ◌*◌, ◌++◌, ◌+◌, ◌-◌, ◌/◌, ◌<◌, ◌==◌, ◌^◌, ◌∙◌, ◌∷◌, ◌≡◌, ◌≤◌, ◌⊎◌}
pub use Rattle.std.proofs.lemmas.Bool.{le-leb, le-ltb, lt-leb, lt-ltb, ne_eqb}
pub use Rattle.std.proofs.lemmas.List.{drop-append-le, length-drop, length-take, take-append-drop, take-append-le}
pub use Rattle.std.proofs.lemmas.Option.{slice_get-get_or, slice_get_past}
unfoldable pub use Rattle.std.specs.Fmt.{digits}
pub use Rattle.std.specs.Fmt.{digit_glyph, digits_onto}
pub use Rattle.std.specs.Prelude.{nat_le}
pub use Rattle.rust_tree.specs.Counts.{IsRead}
pub use Rattle.rust_tree.specs.Fields.{Fields, fields, fields_of, one_if, tree_from, type_part}
unfoldable pub use Rattle.rust_tree.specs.Hexadecimal.{hexadecimal, hexadecimal_before}
pub use Rattle.rust_tree.specs.Hexadecimal.{reach}
pub use Rattle.rust_tree.specs.Layout.{HasDepth, HasForm, IsOwn, MayCome, ReadSymbol, Shows, any_arguments, any_bindings, any_bounds, any_types, binder_in, bound_in, bytes_of_part, is_empty, item_if, lifetime_in, names_in, parts_in, shown, signature_in, trees_of, unshared_of}
unfoldable pub use Rattle.rust_tree.specs.Nodes.{arguments_of, bindings_of, bounds_of, constant_of, path_of, symbol_of, trees_onto, type_of, types_of}
pub use Rattle.rust_tree.specs.Nodes.{Grows, HasAbi, HasArgumentsParts, HasBindingsParts, HasBoundsParts, HasConstantParts, HasName, HasNoZero, HasOther, HasParts, HasPathParts, HasSymbolParts, HasTypeParts, HasTypesParts, IsArguments, IsBindings, IsBounds, IsConstant, IsDecoded, IsName, IsNode, IsPath, IsTable, IsType, IsTypes, IsWithin, Makes, Table, abi_of, arguments_in, bindings_in, bounds_in, bytes_at, constant_in, identifier_of, is_some, most_bound, name_of, other_of, path_in, tree_of, trees, type_in, types_in}
unfoldable pub use Rattle.rust_tree.specs.Shown.{arguments_from, bindings_from, bound_parts, bounds_from, character_text, constant_parts, lifetime_parts, lifetime_text, names_from, namespace_text, numbered_lifetime, path_parts, symbol_parts, type_parts, types_from}
pub use Rattle.rust_tree.specs.Shown.{argument_list, basic_text, behind_arguments, closing_tuple, dyn_lifetime, for_binder, generic_bound, generic_parts, name_behind, name_text, nested_name, plain_bound, reference_opening, returned_parts, signature_opening, suffix_parts}
pub use Rattle.rust_tree.specs.Texts.{fixed_text, texts}
unfoldable pub use Rattle.rust_tree.specs.Tree.{need_of_tree}
pub use Rattle.rust_tree.specs.Tree.{Tree, need_of_other, of_arguments, of_bindings, of_bounds, of_constant, of_path, of_symbol, of_type, of_types}
pub use Rattle.rust_tree.specs.Views.{AreAlike, HasNoPathType, IsSeen, IsView, fields_at, fields_in, no_text, seen_of}
pub use Rattle.rust_tree.specs.declared.context.Context.{Context}
pub use Rattle.rust_tree.specs.declared.node.Abi.{Abi}
pub use Rattle.rust_tree.specs.declared.node.Arguments.{Arguments}
pub use Rattle.rust_tree.specs.declared.node.Bindings.{Bindings}
pub use Rattle.rust_tree.specs.declared.node.Bounds.{Bounds}
pub use Rattle.rust_tree.specs.declared.node.Constant.{Constant}
pub use Rattle.rust_tree.specs.declared.node.Entry.{Entry}
pub use Rattle.rust_tree.specs.declared.node.Name.{Name}
pub use Rattle.rust_tree.specs.declared.node.Node.{Node}
pub use Rattle.rust_tree.specs.declared.node.Path.{Path}
pub use Rattle.rust_tree.specs.declared.node.Ty.{Ty}
pub use Rattle.rust_tree.specs.declared.node.Types.{Types}
pub use Rattle.rust_tree.specs.declared.node.Whole.{Whole}
pub use Rattle.sym_core.specs.Printed.{printed_name, signed_text}
pub use Rattle.sym_core.specs.declared.Span.{Span}
pub use Rattle.sym_print.specs.Building.{◌also◌, ◌perhaps◌, ◌then◌}
pub use Rattle.sym_print.specs.Held.{Held, with_part}
pub use Rattle.sym_print.specs.Unshared.{Unshared, done}
