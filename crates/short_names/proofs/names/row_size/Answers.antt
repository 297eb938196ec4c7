use Rattle.short_names.proofs.Basics.{length, ap, arith, size_of}
use Rattle.short_names.proofs.RowLemmas.{row-length}
use Rattle.short_names.proofs.names.row_size.Goals as goal

pub returns-in-Some-clause-within : goal.returns-in-Some-clause-within
returns-in-Some-clause-within c = omega (arith, row-length c.args.rows.now c.args.text.now, ap length c.text_at.ensures, ap size_of c.in-Some.ensures)
