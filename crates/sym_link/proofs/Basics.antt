-- What the proofs use of libraries and definitions, exported from one place.
pub use Rattle.std.proofs.Common.{Bool, Err, List, Ok, [], add-one, add-zero, ap, append-nil, append_assoc, arith, drop, false, get_or, if◌then◌else◌, inl, inr, length, length-append, length-drop, not, refl, rules, subst, suc, sym, take, true, zero, ℕ, ◌&&◌, ◌*◌, ◌++◌, ◌+◌, ◌-◌, ◌<◌, ◌||◌, ◌∙◌, ◌∷◌, ◌≡◌, ◌≢◌, ◌≤◌, ◌⊎◌}
pub use Rattle.std.proofs.Math.Seq.{drop-append_seam, get_or-append_seam, take-append_seam}
pub use Rattle.std.proofs.lemmas.Bool.{and_parts, false≢true, le-ltb, lt-ltb}
pub use Rattle.std.proofs.lemmas.List.{drop-drop, length-take-le, take-append-drop, take_all}
pub use Rattle.std.proofs.lemmas.Result.{err_from_is_err_and}
pub use Rattle.std.specs.Prelude.{IsErrAnd, None, OnOk, Option, Result, Some, slice_index_or}
pub use Rattle.std.specs.Result.{IfOk}
pub use Rattle.sym_link.specs.Counting.{IsNumber, counted_language}
pub use Rattle.sym_link.specs.Driving.{AreAll, Fails}
pub use Rattle.sym_link.specs.Following.{CanBegin, CanClose, CanTake, CountsMove, EndsWith, Follows, FollowsAfter, HoldsAll, IsDone, IsDriving, IsEarly, IsFresh, IsLight, IsOnWay, IsShape, IsStepTo, Moves, Nests, StaysWithin, left_from, meaning_of}
pub use Rattle.sym_link.specs.Linking.{AddTwo, Adds, AddsFew, Begins, Begun, ClosesRule, Gives, HasRoom, IsInside, IsLinking, IsOpen, IsRuleRow, IsTokenRow, KeepsAllRoom, KeepsRoom, Opens, OpensRoot, Pays, Puts, Takes, TakesToken, TokenTakesMemory, View, all_lists, begun, lists_with, next_of, owed_behind, owed_next, taken_in, values_at_once}
pub use Rattle.sym_link.specs.Machine.{HasRowNext, Passed, ended, passed}
pub use Rattle.sym_link.specs.Owing.{Owes, cost, cost_all, owed}
pub use Rattle.sym_link.specs.Parts.{Stands, joined, passed_by, skipped, skipped_from, values_in}
pub use Rattle.sym_link.specs.Reading.{Found, Next, Open, Reading, ◌>>=◌}
pub use Rattle.sym_link.specs.Room.{KeepRoom, LackRoom, Listed, OnlyForRoom, one_by_one}
pub use Rattle.sym_link.specs.Stepping.{CountsClose, CountsToken, Due, IsDue, closes_at_once, link_steps, link_steps_all, no_part_has_row, starting, steps_ahead, waiting}
pub use Rattle.sym_link.specs.Threads.{BeginsAs, BeginsIn, ClosesAll, Goes, GoesOn, IsAhead, IsAt, IsCount, IsOpenAt, IsTaken, IsThere, IsThreading, Passes, Passing, skips}
pub use Rattle.sym_link.specs.Unfold.{alone, found, standing, unfold_forest, unfold_tree}
pub use Rattle.sym_link.specs.declared.language.Frame.{Frame}
pub use Rattle.sym_core.specs.declared.refusal.Refusal.{Refusal}
pub use Rattle.sym_core.specs.declared.refusal.Refusal.TheVariants.{Memory}
pub use Rattle.sym_shape.proofs.Forests.{count_trees, length-rows_of, length-rows_of_all}
pub use Rattle.sym_shape.proofs.Keeping.{never_both, never_err, never_ok, never_true}
pub use Rattle.sym_shape.specs.Table.{Table, Token, bytes_of, symbols_of}
pub use Rattle.sym_shape.specs.Tree.{AreTrees, Forest, IsTree, TakesRule, Tree, branch, empty, fixed, grown, nothing, row_count_all, rows_of, rows_of_all, spell, spell_all, token, tree_count}
pub use Rattle.sym_shape.specs.declared.rule.Row.{Row}
pub use Rattle.sym_shape.specs.declared.rule.Rule.{Rule}
pub use Rattle.sym_shape.specs.declared.rule.Sym.TheVariants.{Byte, Kind, Name, Number}
