-- The library lemmas and definitions that this crate's proofs use, exported from one place.
pub use Rattle.std.proofs.Common.{Bool, Err, List, None, Ok, Option, Result, Some, [], ap, ap₂, false, inl, inr, length, refl, rules, subst, sym, true, ℕ, ◌++◌, ◌∙◌, ◌≡◌, ◌≢◌, ◌⊎◌}
pub use Rattle.std.specs.Prelude.{IfErr, OnErr, OnOk, Vec, codes, nat_le, ◌*◌, ◌+◌, ◌≤◌}
pub use Rattle.sym_languages.specs.Languages.{AreCounts, AreCountsBy, AreCountsOf, AreWideCountsOf, Readings, language_answer_by, pressed_language, wide_readings, with_front}
pub use Rattle.sym_languages.specs.Pressed.{AnswersAreShort, reading_pressed}
unfoldable pub use Rattle.sym_languages.specs.WidePressed.{wide_pressed_answer}
pub use Rattle.sym_languages.specs.WidePressed.{ReadingIsKept, kept_if_read, kept_or_refused, most_pressed, wide_pressed_language}
pub use Rattle.cpp_grammar.specs.Mangled.{cpp_mangled, wide_mangled}
pub use Rattle.rust_grammar.specs.Mangled.{v0_mangled}
pub use Rattle.sym_core.specs.declared.refusal.Refusal.{Refusal}
pub use Rattle.sym_core.specs.declared.refusal.Refusal.TheVariants.{Malformed, Memory, TooLong}
pub use Rattle.sym_demangle.proofs.Answering.{answer_appended, answer_too_long, has_answer, is_answer, reading_answered}
pub use Rattle.sym_demangle.specs.Mangled.{IsAnswer, IsReading, Mangled, answer, answer_of_symbol, malformed, misshapen, shaped, well_shaped}
pub use Rattle.sym_filter.specs.Demangled.{IsAppended, IsDemangled}
pub use Rattle.sym_filter.specs.Kinds.{underscore_of}
pub use Rattle.sym_filter.specs.declared.kinds.Lang.TheVariants.{Cpp, Rust}
pub use Rattle.sym_print.specs.Answer.{text_within}
pub use Rattle.sym_print.specs.Details.{has_arguments}
pub use Rattle.sym_print.specs.declared.detail.Detail.{Detail}
pub use Rattle.sym_shape.proofs.Deciding.{decided, outcome_malformed, outcome_shaped}
pub use Rattle.sym_shape.specs.Decided.{AreBytes, Decided}
pub use Rattle.wide_press.specs.Kept.{IsKept, kept}
