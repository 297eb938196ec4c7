-- What the proofs use of libraries and definitions, exported from one place.
pub use Rattle.std.proofs.Common.{Bool, List, [], add-zero, ap, append-nil, append_assoc, arith, cond, false, inl, inr, length, length-append, refl, subst, suc, sym, true, zero, ℕ, ◌++◌, ◌+◌, ◌-◌, ◌<◌, ◌∙◌, ◌∷◌, ◌≡◌, ◌≤◌}
pub use Rattle.std.proofs.lemmas.Bool.Decides.{nat_tests}
pub use Rattle.std.proofs.lemmas.List.Elements.{All-append, All-cons, All-head, All-map, All-nil, All-same, All-tail, All-weaker}
pub use Rattle.std.proofs.lemmas.List.Kept.{AllPairs-cons}
pub use Rattle.std.specs.List.{All, AllPairs}
pub use Rattle.std.specs.Prelude.{None, Option, Some, map, nat_eq, nat_le, nat_lt, slice_get}
unfoldable pub use Rattle.sym_parts.specs.Marked.{marks_in, stretches_from, text_of, ◌before◌}
pub use Rattle.sym_parts.specs.Marked.{Marked, done, marked, stretches_of, text}
unfoldable pub use Rattle.sym_parts.specs.Marks.{marks_of, skipped, stretches_at}
pub use Rattle.sym_parts.specs.Marks.{Mark, begin, skip}
pub use Rattle.sym_parts.specs.Placed.{AreInOrder, ArePlaced, AreStretchesPlaced, IsBetween, IsSlice, end_of, end_of_stretch, start_of, start_of_stretch}
unfoldable pub use Rattle.sym_parts.specs.Spelling.{element_of, item_of, once, or_others, part_of, span_of, unprinted}
pub use Rattle.sym_parts.specs.Spelling.{Spelling, parts_spelled}
pub use Rattle.sym_parts.specs.Split.{ArePayable, IsPayable}
unfoldable pub use Rattle.sym_parts.specs.Tasks.{IsTask, marks_of_task, marks_of_tasks, weight_of_task, weight_of_tasks}
pub use Rattle.sym_parts.specs.Tasks.{Adds, Grows, Lists}
pub use Rattle.sym_parts.specs.Words.{role_number}
pub use Rattle.sym_parts.specs.declared.part.Part.{Part}
pub use Rattle.sym_parts.specs.declared.role.Role.{Role}
pub use Rattle.sym_parts.specs.declared.spelling.Item.{Item}
pub use Rattle.sym_parts.specs.declared.spelling.Ordinal.{Ordinal}
pub use Rattle.sym_parts.specs.declared.spelling.Span.{Span}
pub use Rattle.sym_parts.specs.declared.spelling.Spelled.{Spelled}
pub use Rattle.sym_parts.specs.declared.stretch.Stretch.{Stretch}
pub use Rattle.sym_parts.specs.declared.task.Task.{Task}
pub use Rattle.sym_print.specs.Joined.{IsText, cost_of_part, joined, text_of_part}
pub use Rattle.sym_print.specs.Unshared.{Unshared}
