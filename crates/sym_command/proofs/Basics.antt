-- The library lemmas and definitions that this crate's proofs use, exported from one place.
pub use Rattle.std.proofs.Common.{Bool, Bor, Err, List, None, Ok, Option, Result, Some, [], ap, append_assoc, ap₂, arith, codes, cond, drop, eqb, false, get_or, inl, inr, length, map, refl, subst, sym, take, true, ℕ, ◌&&◌, ◌++◌, ◌+◌, ◌<◌, ◌∙◌, ◌∷◌, ◌≡◌, ◌≢◌, ◌⊎◌}
pub use Rattle.std.proofs.lemmas.Bool.{cond-false, cond-true, false≢true, ne_eqb}
pub use Rattle.std.proofs.lemmas.List.{append-nil, map-append, take-append-drop, take_all, take_more}
pub use Rattle.std.proofs.lemmas.Result.{IfOk-weaker, err_from_is_err_and}
pub use Rattle.std.specs.List.{flat_map, list_all}
pub use Rattle.std.specs.Prelude.{IfOk, IsSomeAnd, OnErr, is_some, option_map, unwrap_or}
pub use Rattle.std.specs.Str.Parse.{ExplainsUnsignedError, HasUnsignedDigitsIfOk, ParsesUnsigned}
unfoldable pub use Rattle.sym_command.specs.CommandLine.{command_line}
pub use Rattle.sym_command.specs.CommandLine.{IsLimitOf, flag, limit, symbols, with_short}
unfoldable pub use Rattle.sym_command.specs.Lines.{answer_for}
pub use Rattle.sym_command.specs.Lines.{AreCountsFor, AreLines, Counting, IsBehindLine, IsCountsLine, complaint_about, complaint_of, counts_text, is_read_word, line_of, status_of}
pub use Rattle.sym_command.specs.declared.options.Asked.{Asked}
pub use Rattle.clap.proofs.WalkLemmas.{one_text-rows, raw_values-rows}
pub use Rattle.clap.specs.Words.{AddsArg, App, FailsBy, HasMatchesOf, IsAmong, Kinds, ReadsOne, Rule, Text, all_of, app_of, fault_of, found_of, is_simple, is_simple_and_free, matches_of, new_app, one_of, rows_of, rule_of, with_rule}
pub use Rattle.clap.specs.declared.builder.arg.Arg.{Arg}
pub use Rattle.clap.specs.declared.builder.command.Command.{Command}
pub use Rattle.sym_filter.proofs.RunLemmas.{text_for-unnamed, text_of-symbol}
pub use Rattle.sym_filter.specs.Kinds.{kind_of, symbol_of}
pub use Rattle.sym_filter.specs.Runs.{Answering, is_read, text_for}
pub use Rattle.sym_filter.specs.Streams.{BeginsWith, Puts, PutsFront}
