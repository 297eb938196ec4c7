use Rattle.demangle_command.proofs.Basics.{◌∙◌, codes, all_of, found_of, rows_of, raw_values-rows, symbols_given}
use Rattle.demangle_command.proofs.options.names_of.Goals as goal

pub returns : goal.returns
returns c =
    let found = found_of c.args.matches.now in
    symbols_given c.get_strs.result (all_of (codes "NAME") (rows_of found)) c.unwrap_or_default.result (c.get_strs.ensures ∙ raw_values-rows found (codes "NAME")) c.unwrap_or_default.ensures
