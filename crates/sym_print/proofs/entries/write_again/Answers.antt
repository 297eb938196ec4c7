use Rattle.std.proofs.Common.{◌≤◌, ◌+◌, ◌++◌, ap, ◌∙◌, arith, rules}
use Rattle.sym_print.proofs.Noting.{noted-within, noted-bytes}
use Rattle.sym_print.proofs.entries.write_again.Goals as goal

pub append_again-requires-clause-to : goal.append_again-requires-clause-to
append_again-requires-clause-to g c = (noted-within (g.Y.Layout.unshared c.args._y.now) (g.Y.Layout.bytes_of c.args._y.now) c.args.text.now.items c.args.note.now c.requires.is).1

pub append_again-requires-clause-fits : goal.append_again-requires-clause-fits
append_again-requires-clause-fits g c =
    let n = noted-within (g.Y.Layout.unshared c.args._y.now) (g.Y.Layout.bytes_of c.args._y.now) c.args.text.now.items c.args.note.now c.requires.is in
    let can : c.args.meter.now.spent + c.args.note.now.cost ≤ c.args.meter.now.limit = search rules in
    omega (arith, n.2, can, c.args.meter.now.limit_fits, c.requires.paid, c.args.text.now.ok.0)

pub returns-in_err-append_again-clause-memory : goal.returns-in_err-append_again-clause-memory
returns-in_err-append_again-clause-memory g c _ =
    let n = noted-within (g.Y.Layout.unshared c.args._y.now) (g.Y.Layout.bytes_of c.args._y.now) c.args.text.now.items c.args.note.now c.requires.is in
    let can : c.args.meter.now.spent + c.args.note.now.cost ≤ c.args.meter.now.limit = search rules in
    omega (arith, n.2, can, c.requires.paid, c.in_err-append_again.ensures.full)

pub returns-clause-text : goal.returns-clause-text
returns-clause-text g c =
    c.in_ok-append_again.ensures.items ∙ ap (λ t. c.args.text.now.items ++ t) (noted-bytes (g.Y.Layout.unshared c.args._y.now) (g.Y.Layout.bytes_of c.args._y.now) c.args.text.now.items c.args.note.now c.requires.is)
