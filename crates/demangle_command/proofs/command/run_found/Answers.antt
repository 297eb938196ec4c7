use Rattle.demangle_command.proofs.Basics.{◌∙◌, sym, found_of, rows_of, is_gnu, are_whole, styled_answer, styled_details}
use Rattle.demangle_command.proofs.CommandLemmas.{colored-are, no-objects, refused-ends, refused-stops, short-are, short-details, styled-are, styled-details, whole-are, whole-details}
use Rattle.demangle_command.proofs.command.run_found.Goals as goal

pub returns-in_default-clause-ok : goal.returns-in_default-clause-ok
returns-in_default-clause-ok g c =
    refused-ends (rows_of (found_of c.args.matches.now)) c.args.terminal (g.S.Source.coming c.args.input.now) (g.W.Sink.taken c.args.out.now) (g.E.Sink.taken c.args.err.now) (g.E.Sink.taken c.refuse_options.new.err) c.refuse_options.result
    c.in_default.ensures c.refuse_options.ensures.wrong_use c.refuse_options.ensures.says

pub returns-in_default-clause-err : goal.returns-in_default-clause-err
returns-in_default-clause-err g c =
    refused-stops (rows_of (found_of c.args.matches.now)) c.args.terminal (g.S.Source.coming c.args.input.now) (g.W.Sink.taken c.args.out.now) (g.E.Sink.taken c.args.err.now) (g.E.Sink.taken c.refuse_options.new.err) c.refuse_options.result c.refuse_options.ensures.says

pub run_spelled-requires-clause-texts : goal.run_spelled-requires-clause-texts
run_spelled-requires-clause-texts g c =
    let styled = c.styled_of-styled.result in
    let is = c.styled_of-styled.ensures in
    whole-are styled.style styled.languages.limit styled.languages.detail c.in-Some.options is.style is.limit is.detail c.in-Whole.is

pub run_spelled-requires-in-Short-clause-texts : goal.run_spelled-requires-in-Short-clause-texts
run_spelled-requires-in-Short-clause-texts g c =
    let styled = c.styled_of-styled.result in
    let is = c.styled_of-styled.ensures in
    short-are styled.style styled.languages.limit styled.languages.detail c.in-Some.options is.style is.limit is.detail c.in-Short.keeps_inline c.reads_paths.result c.reads_paths.ensures c.in-Short.is

pub run_spelled-requires-clause-details : goal.run_spelled-requires-clause-details
run_spelled-requires-clause-details g c =
    let styled = c.styled_of-styled.result in
    let is = c.styled_of-styled.ensures in
    whole-details styled.style styled.languages.limit styled.languages.detail c.in-Some.options is.style is.limit is.detail c.in-Whole.is

pub run_spelled-requires-in-Short-clause-details : goal.run_spelled-requires-in-Short-clause-details
run_spelled-requires-in-Short-clause-details g c = short-details c.in-Short.keeps_inline c.in-Some.options c.in-Short.is

pub run_lines-requires-clause-texts : goal.run_lines-requires-clause-texts
run_lines-requires-clause-texts g c =
    let styled = c.styled_of-styled.result in
    let is = c.styled_of-styled.ensures in
    let options = c.in-Some.options in
    colored-are (styled_details styled.style styled.languages.limit styled.languages.detail) (styled_answer styled.style styled.languages.limit styled.languages.detail) options (sym c.shows_colors.ensures ∙ c.if-shows_colors.true)
    (styled-details styled.style styled.languages.limit styled.languages.detail options is.style is.limit is.detail) (styled-are styled.style styled.languages.limit styled.languages.detail options is.style is.limit is.detail)

pub run_lines-requires-clause-no_objects : goal.run_lines-requires-clause-no_objects
run_lines-requires-clause-no_objects g c =
    let options = c.in-Some.options in
    no-objects options.colors (are_whole options.texts) (is_gnu options.spelling) options.escape options.json (sym c.shows_colors.ensures ∙ c.if-shows_colors.true)
