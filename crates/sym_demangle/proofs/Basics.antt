-- The library lemmas and definitions that this crate's proofs use, exported from one place.
pub use Rattle.std.proofs.Common.{Bool, Bor, Err, List, Ok, Option, Result, Some, [], ap, append-nil, arith, drop, eqb, false, inl, inr, length, refl, subst, sym, take, true, ℕ, ◌*◌, ◌++◌, ◌+◌, ◌∙◌, ◌≡◌, ◌≢◌, ◌≤◌, ◌⊎◌}
pub use Rattle.std.proofs.lemmas.Result.{err_from_is_err_and}
pub use Rattle.std.specs.Prelude.{IfErr, IfOk, MatchOption, None, OnOk, nat_le, ◌<◌}
unfoldable pub use Rattle.sym_demangle.specs.Mangled.{answer}
pub use Rattle.sym_demangle.specs.Mangled.{HasReason, IsAnswer, IsBadToken, IsReading, IsRefused, Mangled, RefusesBadTokens, StandsFor, answer_of_shape, answer_of_symbol, malformed, misshapen, shaped, well_shaped}
pub use Rattle.sym_demangle.specs.Standing.{AreFewInAll, AreLinkSteps, AreNodesOf, AreStepsInAll, Begins, CountsNodes, IsLinked, IsLinker, Progress, unlinked}
pub use Rattle.sym_core.specs.Number.{FitsSymbol}
pub use Rattle.sym_core.specs.declared.refusal.Refusal.{Refusal}
pub use Rattle.sym_core.specs.declared.refusal.Refusal.TheVariants.{BadReference, BadValue, Malformed, Memory, TooLong}
pub use Rattle.sym_link.proofs.Driving.{driving_on, none_kept}
pub use Rattle.sym_link.proofs.Room.{room_same}
pub use Rattle.sym_link.proofs.Starting.{driving_few}
pub use Rattle.sym_link.specs.Driving.{Fails}
pub use Rattle.sym_link.specs.Following.{IsDone, IsDriving, IsStepTo, meaning_of}
pub use Rattle.sym_link.specs.Linking.{TokenTakesMemory, View, all_lists}
pub use Rattle.sym_link.specs.Room.{KeepRoom, OnlyForRoom}
pub use Rattle.sym_link.specs.Stepping.{link_steps}
pub use Rattle.sym_link.specs.declared.language.Frame.{Frame}
pub use Rattle.sym_print.specs.Unshared.{Unshared, cost_of, text_of}
pub use Rattle.sym_print.specs.declared.detail.Detail.{Detail}
pub use Rattle.sym_shape.proofs.Feeding.{same_steps}
pub use Rattle.sym_shape.proofs.Keeping.{never_both, never_done, never_err, never_false, never_ok, same_answer}
pub use Rattle.sym_shape.proofs.Uniqueness.{one_tree}
pub use Rattle.sym_shape.specs.Fed.{Fed, IsReason}
pub use Rattle.sym_shape.specs.Grown.{GrowsInto}
pub use Rattle.sym_shape.specs.Reader.{AreFew, IsMalformedOrMemory}
pub use Rattle.sym_shape.specs.Table.{Table}
pub use Rattle.sym_shape.specs.Tree.{AreRowsOf, AreStepsOf, IsMalformed, IsTree, IsWellShaped, Tree, spell}
pub use Rattle.sym_shape.specs.declared.rule.Row.{Row}
pub use Rattle.sym_shape.specs.declared.rule.Sym.TheVariants.{Kind}
