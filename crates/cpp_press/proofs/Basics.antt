-- The library lemmas and definitions that this crate's proofs use, exported from one place.
pub use Rattle.std.proofs.Common.{Bool, Err, List, None, Ok, Option, Some, [], ap, append-nil, append_assoc, arith, false, get_or, length, length-append, refl, rules, slice_get, subst, suc, sym, take, true, zero, ℕ, ◌++◌, ◌+◌, ◌-◌, ◌<◌, ◌∙◌, ◌∷◌, ◌≡◌, ◌≤◌}
pub use Rattle.std.proofs.Math.Dec.{eqb}
pub use Rattle.std.proofs.lemmas.Bool.{eq-eqb, eqb-true, le-ltb, lt-ltb}
pub use Rattle.std.proofs.lemmas.List.{append_cancel_right}
unfoldable pub use Rattle.std.specs.List.{IsDistinct}
pub use Rattle.std.specs.List.{All, AllByRecursion, list_any}
pub use Rattle.std.specs.Prelude.{Result, cond, if◌then◌else◌, is_some, map, nat_eq, not, ◌&&◌, ◌==◌, ◌||◌}
unfoldable pub use Rattle.cpp_press.specs.Details.{fields_told, offsets_told}
pub use Rattle.cpp_press.specs.Details.{Told, tree_told}
pub use Rattle.cpp_press.specs.Marks.{IsFound, found_in, mark_of}
pub use Rattle.cpp_press.specs.Numbers.{ComeNext, IsKey, IsKeyOf, IsPartNumber, both_at, key_cmp, part_number}
pub use Rattle.cpp_press.specs.OfRead.{HasFewComponents}
pub use Rattle.cpp_press.specs.Places.{AreFirst, AreOfNodes, ArePlaces, Goes, behind, known_in, like, likeness_of, noted}
pub use Rattle.cpp_press.specs.declared.components.Likeness.{Likeness}
pub use Rattle.cpp_grammar.specs.Scope.{is_open}
pub use Rattle.cpp_grammar.specs.Term.{Adjustment, Signed, Term, Thunk, adjusting, by_table, covariant, non_virtual}
pub use Rattle.cpp_layout.specs.Layout.{ReadSymbol, table_of, whole_of}
pub use Rattle.cpp_press_laws.proofs.Components.Sameness.{equal-tree, tree-itself}
unfoldable pub use Rattle.cpp_press_laws.specs.Apart.{spelled_components}
unfoldable pub use Rattle.cpp_press_laws.specs.Components.{ended, first_equal, is_same}
pub use Rattle.cpp_press_laws.specs.Components.{Component, Spelling}
unfoldable pub use Rattle.cpp_press_laws.specs.Pressing.{pressed}
pub use Rattle.cpp_press_laws.specs.Pressing.{is_name, ways_of}
pub use Rattle.cpp_press_laws.specs.Same.{same_tree}
pub use Rattle.cpp_spelling.proofs.Standing.{compared-name, compared-way, uncompared-name, uncompared-way}
pub use Rattle.cpp_spelling.specs.Standings.{compared, standing_of, template_standing_of}
unfoldable pub use Rattle.cpp_spelling.specs.Tasks.{AreTasks, ending, in_way, press_tasks, written, ◌onto◌}
pub use Rattle.cpp_spelling.specs.Tasks.{IsTask, plain_at, press_task, task_weight, tasks_weight}
pub use Rattle.cpp_spelling.specs.declared.task.Task.{Task}
pub use Rattle.cpp_spelling.specs.declared.task.Way.{Way}
unfoldable pub use Rattle.cpp_tree.specs.Fields.{bit}
pub use Rattle.cpp_tree.specs.Fields.{Fields, fields_of, offsets_of, tree_from}
pub use Rattle.cpp_tree.specs.Nodes.{bytes_at, free_is, has_free, tree_at, trees}
pub use Rattle.sym_spell.proofs.FirstOnes.{AreFirsts, AreKeys, IsLookUp, first-below, firsts-more, none-first}
pub use Rattle.sym_spell.specs.Numbers.{AreBelow, AreNumbered, TellApart, number_at}
