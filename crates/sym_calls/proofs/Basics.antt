-- The library lemmas and definitions that this crate's proofs use, exported from one place.
pub use Rattle.std.proofs.Common.{Bool, Err, List, None, Ok, Option, Result, Some, [], ap, append_assoc, ap₂, arith, cond, drop, false, get_or, inl, inr, length, map, refl, replicate, rules, set, subst, sym, take, tests, true, ℕ, ◌++◌, ◌+◌, ◌-◌, ◌<◌, ◌∙◌, ◌∷◌, ◌≡◌, ◌≢◌, ◌≤◌, ◌⊎◌}
pub use Rattle.std.proofs.lemmas.Bool.{cond-false, cond-true, eq-eqb, eqb-true, le-leb, leb-true, lt-leb, ne_eqb, not-false, not-true}
pub use Rattle.std.proofs.lemmas.List.{append-nil, drop_all, length-drop, length-map, length-take, length-take-le, replicate_more, take_all}
pub use Rattle.std.specs.Prelude.{IfSome, if◌then◌else◌, nat_eq, nat_le, not, ◌&&◌, ◌==◌}
unfoldable pub use Rattle.sym_calls.specs.Calls.{CountingEndsAs, CountingEndsBy, IsCounted, IsTallied, NameCounted, answered, filter_told, press_told, refused, text_told, told_of, type_or_told, unspelled, written}
pub use Rattle.sym_calls.specs.Calls.{Ending, EndsAs, IsTextWritten, PressEndsAs, Tallied, answers_at, ending_of, name_or_type_told, name_told, named, numbers_of, status_alone}
pub use Rattle.sym_calls.specs.Counted.{Adds, Holds}
unfoldable pub use Rattle.sym_calls.specs.Parts.{both_written, parsed_told, parts_of_kind, parts_told}
pub use Rattle.sym_calls.specs.Parts.{PartsEndAs, PartsEnding, is_whole, name_parts_told, none_found, numbered, parts_ending, reported, without_text}
unfoldable pub use Rattle.sym_calls.specs.Texts.{AreTold, TextsEndAs, TextsEndBy, are_ends}
pub use Rattle.sym_calls.specs.Texts.{IsTold, placed}
pub use Rattle.sym_calls.specs.declared.flags.Asked.{Asked}
pub use Rattle.sym_calls.specs.declared.outcome.Outcome.{Outcome}
pub use Rattle.sym_core.specs.declared.refusal.Refusal.{Refusal}
pub use Rattle.sym_core.specs.declared.refusal.Refusal.TheVariants.{BadReference, BadValue, Malformed, Memory, TooLong}
pub use Rattle.sym_demangle.specs.Mangled.{IsAnswer, Mangled, answer}
pub use Rattle.sym_filter.proofs.CarryLemmas.{IsRead-as, TakesText-end, TakesText-part, rest_of_text-end, rest_of_text-start, tally_of_text-end, tally_of_text-start}
pub use Rattle.sym_filter.proofs.StreamLemmas.{next-counts, next-text, take-part}
pub use Rattle.sym_filter.proofs.WordLemmas.{Takes-join, rest_of-end, slice_from, tally-end}
pub use Rattle.sym_filter.specs.Carried.{rest_of_text, tally_of_text}
pub use Rattle.sym_filter.specs.Kinds.{symbol_of}
pub use Rattle.sym_filter.specs.Runs.{Answering, filtered_at, tally_at}
pub use Rattle.sym_filter.specs.Words.{Takes, following, rest_after}
pub use Rattle.sym_filter.specs.declared.kinds.Kind.{Kind}
pub use Rattle.sym_languages.specs.Languages.{AreCountsOf, AreWideCountsOf, answer_of, answers_by, cpp_by, language_answer_by, pressed_of, wide_answer_of}
pub use Rattle.sym_print.specs.declared.detail.Detail.{Detail}
pub use Rattle.sym_shape.specs.Decided.{AreBytes}
pub use Rattle.sym_short.specs.Rewriting.{answers_as, short_answers}
pub use Rattle.symbol_parts.specs.Parsed.{Marking, Parsed, Parsing, cpp_marking, found, parsed_by}
pub use Rattle.text_details.specs.Manglings.{mangling_number, mangling_of}
pub use Rattle.type_names.specs.Types.{is_type_word, type_answer}
