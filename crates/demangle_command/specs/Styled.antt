-- What is answered for the names that a style reads, and which details are known of their texts.
use Rattle.std.specs.Prelude.{ℕ, true, Option, Some, None, Result, Ok, Err, if◌then◌else◌}
use Rattle.sym_core.specs.declared.refusal.Refusal.{Refusal}
use Rattle.sym_core.specs.declared.refusal.Refusal.TheVariants.{Malformed}
use Rattle.sym_print.specs.declared.detail.Detail.{Detail}
use Rattle.sym_filter.specs.Runs.{Answering}
use Rattle.sym_languages.specs.Languages.{answers_by, cpp_by}
use Rattle.symbol_parts.specs.Parsed.{Parsed, cpp_marking, parsed_by}
use Rattle.text_details.specs.Details.{Details, Detailing}
use Rattle.demangle_names.specs.Style.{leaves_out, reads_paths}
use Rattle.demangle_names.specs.declared.style.Style.{Style}

-- The answer in a style, with C++ by the wide grammar. A symbol that the style leaves out is refused at its first byte.
abbrev pub styled_answer : Style → ℕ → Detail → Answering
styled_answer by limit detail kind symbol =
    if leaves_out by kind.lang symbol then Err (Malformed 0)
    else answers_by (cpp_by true) (reads_paths by) limit detail kind symbol

-- the details of an answer that has the parts of its text
abbrev pub details_found : Result Parsed Refusal → Option Details
details_found (Ok parsed) = Some (record { kind = parsed.kind; parts = parsed.parts })
details_found (Err refusal) = None

-- the details of what a style answers; no details are known of a symbol that is left out
abbrev pub styled_details : Style → ℕ → Detail → Detailing
styled_details by limit detail kind symbol =
    if leaves_out by kind.lang symbol then None
    else details_found (parsed_by (cpp_by true) cpp_marking (reads_paths by) limit detail kind symbol)
