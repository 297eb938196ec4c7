-- The library lemmas and definitions that this crate's proofs use, exported from one place.
pub use Rattle.std.proofs.Common.{Bool, List, None, Option, Some, [], ap, arith, cond, false, get_or, inl, inr, length, length-append, lit≤, map, max, nat_eq, not, refl, rules, slice_get, subst, suc, sym, true, zero, ℕ, ◌&&◌, ◌*◌, ◌++◌, ◌+◌, ◌-◌, ◌<◌, ◌||◌, ◌∙◌, ◌∷◌, ◌≡◌, ◌≤◌, ◌⊎◌}
pub use Rattle.std.proofs.lemmas.Bool.{eqb-true, true≢false}
pub use Rattle.std.proofs.lemmas.List.Elements.{All-cons, All-nil, All-push}
pub use Rattle.std.specs.Prelude.{codes, if◌then◌else◌, ◌==◌}
unfoldable pub use Rattle.cpp_tree.specs.Compact.{arguments_kept, class_kept, count_kept, free_kept, has_pack_kept, packs_kept, returns_kept, run_kept, untagged_kept}
pub use Rattle.cpp_tree.specs.Compact.{entry_of, kept, restated_entry, with_arguments, with_elements, with_head, with_tags}
unfoldable pub use Rattle.cpp_tree.specs.Fields.{bit, fields_of, local_fields, mark_number, name_fields, named_fields, offsets_of, thunk_fields}
pub use Rattle.cpp_tree.specs.Fields.{Fields, GUARD_LETTER, c_linkage_in, fields, linkage_number, mark_in, mark_of_both, no_node, noexcept_in, qualifiers_in, qualifiers_number, qualifiers_of_both, tree_from}
unfoldable pub use Rattle.cpp_tree.specs.Nodes.{by_argument_of, class_is, free_is, has_free, head_noted, head_of, is_again, piece_of, placed_if_there, tree_if_there, tree_of, tree_under, trees_onto, untagged_is}
pub use Rattle.cpp_tree.specs.Nodes.{IsAliasBelow, IsBelow, IsClassBelow, IsEntry, IsFlat, IsLone, IsNoted, IsPieceBelow, IsPlacedBelow, IsPlacedThere, IsSettled, IsTable, IsThunkWithin, IsWithin, Stored, Table, by_none, entry_at, mark_of, over, qualifiers_of, tree_at, trees, under_kept, with_entry, with_thunk}
unfoldable pub use Rattle.cpp_tree.specs.Notes.{argument_packs, both_free, class_by, classes, collapses, collapses_from, counting, empties, empty_by, ends_in, frees, having_pack, if_own, is_argument_node, is_structor_node, is_structor_piece, joined, node_by_argument, or_itself, pack_class, packing, packs_by, passed, piece_by_argument, piece_frees, piece_packs, place_of, placed_under, returning, running, untagging}
pub use Rattle.cpp_tree.specs.Notes.{alone_at, argument_class, bare_entry, by_argument_at, free_at, itself, noting, of_cell, of_expansion, of_head, of_pack, of_parameter, packs_at, resolved_at, shape_at}
pub use Rattle.cpp_tree.specs.Views.{AreAlike, AreBelow, AreWithin, IsSeen, IsView, no_text, plain_tree, seen_fields, seen_of}
pub use Rattle.cpp_tree.specs.declared.compact.Compact.{Compact}
pub use Rattle.cpp_tree.specs.declared.compact.TypeHead.{TypeHead}
pub use Rattle.cpp_tree.specs.declared.node.ByArgument.{ByArgument}
pub use Rattle.cpp_tree.specs.declared.node.Entry.{Entry}
pub use Rattle.cpp_tree.specs.declared.node.Free.{Free}
pub use Rattle.cpp_tree.specs.declared.node.Head.{Head}
pub use Rattle.cpp_tree.specs.declared.node.HeadClass.{HeadClass}
pub use Rattle.cpp_tree.specs.declared.node.HeadFrom.{HeadFrom}
pub use Rattle.cpp_tree.specs.declared.node.Mark.{Mark}
pub use Rattle.cpp_tree.specs.declared.node.Node.{Node}
pub use Rattle.cpp_tree.specs.declared.node.Piece.{Piece}
pub use Rattle.cpp_tree.specs.declared.node.Placed.{Placed}
pub use Rattle.cpp_tree.specs.declared.node.Qualifiers.{Qualifiers}
pub use Rattle.cpp_tree.specs.declared.tree_production.TheConstants.{BUILTIN_WITH_D, FUNCTION, GUARD, OF_NAME, WIDE_THUNK}
pub use Rattle.cpp_tree.specs.declared.view.NodeView.{NodeView}
unfoldable pub use Rattle.cpp_grammar.specs.Scope.{first_of}
pub use Rattle.cpp_term.proofs.Notes.{both}
pub use Rattle.cpp_term.proofs.Reargued.{alone_reargued, arguments_reargued, bare_reargued, class_reargued, count_reargued, element_reargued, empty_reargued, empty_with_reargued, erase_reargued, free_reargued, given_alone_twice, given_same, has_pack_reargued, head_from_reargued, length_reargued, list_reargued, open_reargued, pack_reargued, reargued_closed, reargued_lone, reargued_none, reargued_twice, returns_reargued, structor_reargued, untagged_reargued}
unfoldable pub use Rattle.cpp_term.specs.Erased.{erase}
unfoldable pub use Rattle.cpp_term.specs.Items.{element_head, head_of_class, indexed, plain_class}
unfoldable pub use Rattle.cpp_term.specs.Reargued.{argument_or, bare, class_from, given_alone, given_for, head_from, if_alone, is_empty_with, reargued, reargued_if_there}
unfoldable pub use Rattle.cpp_term.specs.Scope.{arguments_of, before_arguments, count, element, free_in, has_pack, has_return_type, is_alone, is_list, is_open, is_structor, length_if_pack, pack_length, without_tags}
pub use Rattle.cpp_term.specs.Term.{Term, absent}
pub use Rattle.sym_core.specs.declared.Span.{Span}
