-- The library lemmas and definitions that this crate's proofs use, exported from one place.
pub use Rattle.std.proofs.Common.{Bool, Bor, Err, Global, List, Ok, Option, Result, Some, String, Vec, [], ap, ap₂, codes, eqb, false, get_or, inl, inr, length, map, not, refl, rules, string_bytes, subst, sym, take, tests, true, ℕ, ◌&&◌, ◌++◌, ◌+◌, ◌<◌, ◌∙◌, ◌∷◌, ◌≡◌, ◌≢◌, ◌⊎◌}
pub use Rattle.std.proofs.lemmas.Bool.{cond-false, cond-true, false≢true}
pub use Rattle.std.proofs.lemmas.Iterator.{YieldsList-from_map_by, YieldsList-from_slice}
pub use Rattle.std.proofs.lemmas.Iterator.Consumers.{map_from_collect}
pub use Rattle.std.proofs.lemmas.List.{map-append, take_more}
pub use Rattle.std.proofs.lemmas.Result.{IfOk-weaker, on_err_weaker}
pub use Rattle.std.specs.Io.KnownBytes.{Appends}
pub use Rattle.std.specs.Prelude.{IfOk, None, OnErr, if◌then◌else◌, option_map}
pub use Rattle.demangle_command.specs.ArgumentFiles.{Reading, after_byte, after_text, reading_of, start}
pub use Rattle.demangle_command.specs.Command.{ByObjects, ByObjectsFront, Ends, EndsOf, FiltersInput, FiltersInputFront, IsEndedOf, IsStoppedOf, IsTold, Stops, StopsOf, answers_of, are_whole, details_as, details_of, escaped_by, is_request, shown_of, shows_colors, summary_if, unescaped_of, unspelled_details, unspelled_of}
unfoldable pub use Rattle.demangle_command.specs.CommandLine.{command_line}
pub use Rattle.demangle_command.specs.CommandLine.{AreGiven, AreOptions, IsAsked, IsColored, IsSpelled, color_option, faults_in, name_arguments, names_of, no_params, spelling_option, style_option, taken_option, taken_options, types, version_flag, version_option, with_reports, with_texts}
pub use Rattle.demangle_command.specs.Styled.{details_found, styled_answer, styled_details}
pub use Rattle.demangle_command.specs.Texts.{bytes_of, text_of, texts_of}
pub use Rattle.clap.proofs.WalkLemmas.{first_value-rows, raw_values-rows}
pub use Rattle.clap.specs.Words.{AddsAliases, AddsShortAliases, App, IsAmong, Row, Rule, Text, all_of, app_of, first_of, found_of, is_simple, is_simple_and_free, kind_of, new_app, rows_of, rule_of, with_rule}
pub use Rattle.clap.specs.declared.builder.arg.Arg.{Arg}
pub use Rattle.clap.specs.declared.builder.range.ValueRange.{ValueRange}
pub use Rattle.clap.specs.declared.error.kind.ErrorKind.TheVariants.{DisplayHelp, DisplayVersion, OutOfMemory}
pub use Rattle.demangle_names.specs.Names.{AnswersNames, NamesFront, status_of}
pub use Rattle.demangle_names.specs.Spelling.{IsSpelling, is_gnu}
pub use Rattle.demangle_names.specs.Style.{IsStyle, leaves_out, reads_paths}
pub use Rattle.demangle_names.specs.declared.spelling.Spelling.{Spelling}
pub use Rattle.demangle_names.specs.declared.style.Style.{Style}
pub use Rattle.sym_command.proofs.CommandLemmas.{faulty, no-words}
pub use Rattle.sym_command.proofs.OptionLemmas.{found_faults, found_rows, given, symbols_given, with_argument}
pub use Rattle.sym_command.proofs.PageLemmas.{OnErr-anyway, Took-as, Took-said}
pub use Rattle.sym_command.specs.CommandLine.{flag, limit, with_short}
pub use Rattle.sym_filter.proofs.StreamLemmas.{Appends-none, PutsFront-none}
pub use Rattle.sym_filter.specs.Demangled.{IsAppended, IsDemangled}
pub use Rattle.sym_filter.specs.Streams.{BeginsWith, PutsFront}
pub use Rattle.sym_languages.specs.Languages.{AreWideCountsOf, answers_by, cpp_by}
pub use Rattle.sym_print.specs.declared.detail.Detail.{Detail}
