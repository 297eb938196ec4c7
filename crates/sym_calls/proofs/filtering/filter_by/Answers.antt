use Rattle.sym_calls.proofs.Basics.{ap, filtered_at, ending_of}
use Rattle.sym_calls.proofs.Ending.{no-filter-ends}
use Rattle.sym_calls.proofs.filtering.filter_by.Goals as goal

-- there is no memory for the text
pub returns-in-Err-clause-ending : goal.returns-in-Err-clause-ending
returns-in-Err-clause-ending g c =
    no-filter-ends (filtered_at c.args.letters (g.D.Demangler.answer c.args.demangler.now) c.args.text.now) c.args.buffer.now _ (ap (λ o. ending_of o c.args.buffer.now) c.no_memory.ensures)
