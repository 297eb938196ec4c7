-- The library lemmas and definitions that this crate's proofs use, exported from one place.
pub use Rattle.std.proofs.Common.{Bool, Err, IfSome, List, None, Ok, OnOk, Option, Result, Some, [], ap, append_assoc, ap₂, arith, cond, drop, eq-eqb, false, get_or, if◌then◌else◌, inl, inr, is_some, length, length-append, map, refl, reverse, set, slice_get, subst, suc, sym, take, true, zero, ℕ, ◌&&◌, ◌*◌, ◌++◌, ◌+◌, ◌-◌, ◌<◌, ◌∙◌, ◌∷◌, ◌≡◌, ◌≤◌, ◌⊎◌}
pub use Rattle.std.proofs.lemmas.Bool.{and_from, and_parts, cases_eq, cases_lt, cases_order, false≢true, le-ltb, lt-ltb, ne_eqb, or_cases, or_left, or_right, true≢false}
pub use Rattle.std.proofs.lemmas.List.{append-nil, append_cancel_left, drop-append-le, drop_all, drop_at, drop_more, length-drop, length-reverse, length-set, length-take, length-take-le, reverse-append, take-append-drop, take-append-le, take-set-le, take-take, take_all, take_at}
pub use Rattle.std.proofs.lemmas.Result.{err_from_is_err_and}
pub use Rattle.sym_shape.specs.Fed.{Fed, IsFed, IsMalformedSoFar, IsOver, IsReason}
pub use Rattle.sym_shape.specs.Frame.{HasLast, HasNext, IsTaken, passed, rule_frame, unfolded}
pub use Rattle.sym_shape.specs.Law.{AreBelow, AreSymbols, IsBelow, IsChain, IsLawful, IsLawfulRule, IsSymbol, KeepsAfter, begins, can_be_empty, comes_next, may_follow}
pub use Rattle.sym_shape.specs.Reader.{AreFew, AreSpent, BreaksToken, FindsToken, IsAdvance, IsParse, IsParsing, IsRun, IsStep, IsWholeToken, MakeRows, MakesRow, ReadsToken, to_do}
pub use Rattle.sym_shape.specs.Reading.{Agrees, AreOpen, Close, Entry, IsCompleted, IsCounted, IsFollowed, IsKnown, IsReading, Spell, StandsOn, Symbol, TakesNone, closed, entries_of, finished, first_of, lone_rows, open_row, place_behind, place_row, rule_stack, rules_in, steps_left, symbols_in, symbols_left}
pub use Rattle.sym_shape.specs.Room.{KeepsRoom, Room, StaysWithin, room_of}
pub use Rattle.sym_shape.specs.Table.{IsToken, Table, Token, bytes_of, symbols_of}
pub use Rattle.sym_shape.specs.Tree.{AreRowsOf, AreStepsOf, AreTrees, BeginsWellShaped, Forest, IsFirstBad, IsMalformed, IsTree, IsWellShaped, TakesRule, Tree, branch, empty, fixed, grown, nothing, read_steps, read_steps_all, row_count, row_count_all, rows_of, rows_of_all, spell, spell_all, token, tree_count}
pub use Rattle.sym_shape.specs.declared.parse.Parse.{Parse}
pub use Rattle.sym_shape.specs.declared.rule.Row.{Row}
pub use Rattle.sym_shape.specs.declared.rule.Rule.{Rule}
pub use Rattle.sym_shape.specs.declared.rule.Sym.{Sym}
pub use Rattle.sym_shape.specs.declared.rule.Sym.TheVariants.{Byte, Kind, Name, Number}
pub use Rattle.sym_core.specs.declared.NameClass.{NameClass}
pub use Rattle.sym_core.specs.declared.TokenPlace.{TokenPlace}
pub use Rattle.sym_core.specs.declared.refusal.Refusal.{Refusal}
pub use Rattle.sym_core.specs.declared.refusal.Refusal.TheVariants.{BadReference, BadValue, Malformed, Memory, TooLong}
