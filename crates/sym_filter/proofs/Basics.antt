-- What the proofs use of libraries and definitions, exported from one place.
pub use Rattle.std.proofs.Common.{Bool, Err, Fits, List, None, Ok, Option, Result, Some, [], add-zero, ap, append_assoc, ap₂, arith, bit_and, bit_or, codes, cond, drop, eqb, false, filter, get_or, inl, inr, leb, length, length-append, map, min, not, refl, replicate, subst, suc, sym, take, true, w8, zero, ℕ, ◌%◌, ◌&&◌, ◌*◌, ◌++◌, ◌+◌, ◌-◌, ◌<◌, ◌^◌, ◌||◌, ◌∙◌, ◌∷◌, ◌≡◌, ◌≤◌}
pub use Rattle.std.proofs.Math.Bool.{and-true}
pub use Rattle.std.proofs.Math.Seq.{drop-append_seam, drop-drop, take-add, take-append_seam, take-length}
pub use Rattle.std.proofs.lemmas.Bool.{agree_below, agree_below_at, and_from, and_left, and_parts, and_right, cases_eq, cond-false, cond-true, eq-eqb, eqb-false, eqb-true, le-leb, leb-false, leb-true, lt-leb, ne_eqb, not-false, not-true, true≢false}
pub use Rattle.std.proofs.lemmas.List.{append-nil, drop_all, drop_more, length-drop, length-replicate, length-take, replicate-append-replicate, replicate_more, take-append-drop, take_all, take_more}
pub use Rattle.std.proofs.lemmas.List.Concat.{flat_map-cons}
pub use Rattle.std.proofs.lemmas.List.Folds.{list_all-append}
pub use Rattle.std.proofs.lemmas.List.Sums.{list_all-from_AllPass, prefix_len-le-length, prefix_len_passes, sum_by-append}
pub use Rattle.std.proofs.lemmas.Simd.{get_or-chunk, leading_from_mask_l, length-chunk, map-map, mask_l-mod, trailing_mask_l, zip2_splat}
pub use Rattle.std.specs.Io.KnownBytes.{Appends, Consumes, Keeps}
pub use Rattle.std.specs.List.{flat_map, list_all, list_any, prefix_len, range_with_len, starts_with}
pub use Rattle.std.specs.Prelude.{IfErr, IsErrAnd, is_some, nat_eq, sum_by, unwrap_or}
pub use Rattle.std.specs.Result.{result_ok}
unfoldable pub use Rattle.sym_filter.specs.Bytes.{is_run_byte}
pub use Rattle.sym_filter.specs.Bytes.{is_between, is_byte_of, is_wide}
pub use Rattle.sym_filter.specs.Carried.{IsRead, TakesText, after_digit, cuts_after, ends_with, escape_after, goes_on_after, only, rest_of_text, segment_from, segments_after, tally_of_text}
pub use Rattle.sym_filter.specs.CarriedEntries.{TakesEntries, TakesTextEntries, entries_after, entries_from, entries_in_rest}
unfoldable pub use Rattle.sym_filter.specs.Entries.{left_of}
pub use Rattle.sym_filter.specs.Entries.{Entry, entries_in_segment, entries_of, later_entries, left_at_end, left_word, newline, newline_of, newlines_in}
pub use Rattle.sym_filter.specs.Escapes.{are_digits, ends_sequence, first_segment, follows_backslash, follows_esc, follows_hex, follows_octal, is_blank_name, is_esc_digit, is_escape, is_hex_digit, is_lead, is_letter, is_parameter, later_segments, segments_of, since_lead}
pub use Rattle.sym_filter.specs.Held.{IsHeld}
pub use Rattle.sym_filter.specs.Kinds.{kind_by_beginning, kind_of, symbol_of, underscore_of}
pub use Rattle.sym_filter.specs.Lanes.{first_set, is_no_lead, is_no_mark}
pub use Rattle.sym_filter.specs.Marks.{after_front, before_mark, from_mark, front_length, is_kind_taken, is_mark}
pub use Rattle.sym_filter.specs.Places.{START, begins_within, closes, from_word, in_stretch, is_divider, may_begin, opens, place_after, place_of, stretch_after, with_word}
pub use Rattle.sym_filter.specs.Plain.{is_plain}
unfoldable pub use Rattle.sym_filter.specs.Runs.{is_named, replaced, text_for, text_of_tries}
pub use Rattle.sym_filter.specs.Runs.{Agree, Answering, IsTally, TriesAreFew, TriesDecide, answers_at, capped, changed, dots_after, either, filtered_at, filtered_segment, first_run, fits, followed_by, has_text, is_begun, later_runs, name_in, named_in, named_in_segment, named_words, or_answer, replaced_at, runs_of, tally_at, tally_counted, tally_with, tally_with_word, text_of_front, text_of_parts, tried, trimmed, with_later_runs, with_runs, within, word_in, word_of, word_or_text, written}
pub use Rattle.sym_filter.specs.Splits.{FilteredByJoinsAt, FilteredBySplitsAt, IsSplitAt, cut_off, is_in_escapes, joined}
pub use Rattle.sym_filter.specs.Streams.{BeginsWith, Puts, PutsFront, reader_faults, write_failures}
pub use Rattle.sym_filter.specs.Words.{Takes, following, held_of, named_of, rest_after, rest_of, tally_after}
pub use Rattle.sym_filter.specs.declared.escapes.Escape.{Escape}
pub use Rattle.sym_filter.specs.declared.escapes.Escape.TheVariants.{Backslash, Esc, Hex, Hex0, Hex00, Hex001, Octal, Octal3, One, Outside, Sequence, Three, Two}
pub use Rattle.sym_filter.specs.declared.filtering.TheConstants.{READ_SIZE}
pub use Rattle.sym_filter.specs.declared.kinds.Kind.{Kind}
pub use Rattle.sym_filter.specs.declared.kinds.Letters.{Letters}
pub use Rattle.sym_filter.specs.declared.kinds.Letters.TheVariants.{Any, Ascii, Within}
pub use Rattle.sym_filter.specs.declared.kinds.TheConstants.{LONGEST_WORD}
pub use Rattle.sym_filter.specs.declared.places.Place.{Place}
pub use Rattle.sym_filter.specs.declared.words.Taken.{Taken}
pub use Rattle.sym_filter.specs.declared.words.Tally.{Tally}
pub use Rattle.sym_filter.specs.declared.words.TheConstants.{RUN_BYTES}
pub use Rattle.sym_filter.specs.declared.words.Words.{Words}
