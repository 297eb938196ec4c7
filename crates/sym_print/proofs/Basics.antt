-- What the proofs use of libraries and definitions, exported from one place.
pub use Rattle.std.proofs.Common.{Bool, Err, List, None, Ok, Option, Result, Some, [], ap, append-nil, append_assoc, arith, drop, false, get_or, inl, inr, length, max, refl, reverse, rules, slice_get, subst, suc, sym, take, true, vec_capacity, vec_len, zero, ℕ, ⊎_elim, ◌*◌, ◌++◌, ◌+◌, ◌-◌, ◌<◌, ◌∙◌, ◌∷◌, ◌≡◌, ◌≤◌, ◌⊎◌}
pub use Rattle.std.proofs.Math.Seq.{drop-append_seam, drop-cons, drop-length, take-suc}
pub use Rattle.std.proofs.lemmas.Bool.{eqb-true, le-leb, lt-leb}
pub use Rattle.std.proofs.lemmas.List.{drop-append-le, drop-take, length-append, length-drop, length-reverse, reverse-append, same_from_push, take-append-le, take_all}
pub use Rattle.std.proofs.lemmas.List.Elements.{All-append, All-cons, All-contains, All-head, All-nil, All-pop, All-push, All-same, All-tail, All-take, All-weaker}
pub use Rattle.std.proofs.lemmas.Result.{err_from_is_err_and}
pub use Rattle.std.specs.List.{All, Contains}
pub use Rattle.sym_print.specs.Building.{◌then◌}
pub use Rattle.sym_print.specs.Joined.{IsNext, IsText, cost_of_part, cost_of_stack, joined, spends, steps_of_part, steps_of_stack, text_of_part, text_of_stack, with_parts}
pub use Rattle.sym_print.specs.Noted.{AreBelow, AreNested, AreNoted, EndsAt, IsBegun, IsNote}
pub use Rattle.sym_print.specs.Peak.{height_of, height_of_part, peak_above, peak_of_stack}
pub use Rattle.sym_print.specs.Spare.{spare_of_part, spare_of_stack}
pub use Rattle.sym_print.specs.Stacked.{Stacked}
pub use Rattle.sym_print.specs.Unshared.{Unshared, bytes, cost_of, cost_of_parts, done, item, steps_of, steps_of_parts, text_of}
pub use Rattle.sym_print.specs.declared.layout.Item.{Item}
pub use Rattle.sym_print.specs.declared.layout.Part.{Part}
pub use Rattle.sym_print.specs.declared.layout.Part.TheVariants.{Sub}
pub use Rattle.sym_print.specs.declared.meter.Meter.{Meter}
pub use Rattle.sym_core.specs.declared.Refusal.{Refusal}
pub use Rattle.sym_core.specs.declared.Refusal.TheVariants.{Memory, TooLong}
