use Rattle.sym_command.proofs.Basics.{◌∙◌, codes, all_of, found_of, rows_of, raw_values-rows}
use Rattle.sym_command.proofs.OptionLemmas.{symbols_given}
use Rattle.sym_command.proofs.options.symbols_of.Goals as goal

pub returns : goal.returns
returns c =
    let found = found_of c.args.matches.now in
    symbols_given c.get_strs.result (all_of (codes "SYMBOL") (rows_of found)) c.unwrap_or_default.result (c.get_strs.ensures ∙ raw_values-rows found (codes "SYMBOL")) c.unwrap_or_default.ensures
