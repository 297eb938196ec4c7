use Rattle.std.proofs.lemmas.Result.{err_from_is_err_and}
use Rattle.sym_demangle.proofs.Answering.{answer_appended, answer_refused, answer_too_long}
use Rattle.sym_demangle.proofs.workspace.Workspace.demangle_by_rows.Goals as goal

pub returns-in_err-symbol-clause-refused : goal.returns-in_err-symbol-clause-refused
returns-in_err-symbol-clause-refused g c =
    let p = err_from_is_err_and c.from_residual.result c.from_residual.ensures.1 in
    rw (p.1, p.2) (answer_refused g.M.Mangling.mangled c.args.detail c.args.s.now c.args.limit c.in_err-symbol.field-0.0 c.in_err-symbol.ensures.refused)

pub returns-clause-text : goal.returns-clause-text
returns-clause-text g c =
    answer_appended g.M.Mangling.mangled c.args.detail c.args.s.now c.args.limit (g.M.Mangling.whole_of c.in_ok-symbol.symbol) c.args.out.now.items c.print-printed.new.out.items c.print-printed.result c.in_ok-symbol.ensures.symbol c.print-printed.ensures.text c.print-printed.ensures.within

pub returns-clause-refused : goal.returns-clause-refused
returns-clause-refused g c =
    answer_too_long g.M.Mangling.mangled c.args.detail c.args.s.now c.args.limit (g.M.Mangling.whole_of c.in_ok-symbol.symbol) c.print-printed.result c.in_ok-symbol.ensures.symbol c.print-printed.ensures.refusals c.print-printed.ensures.too_long
