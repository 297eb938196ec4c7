use Rattle.sym_shape.proofs.Basics.{true, Ok, ap, ◌∙◌, entries_of}
use Rattle.sym_shape.proofs.Steps.{same_start}
use Rattle.sym_shape.proofs.Runs.{run_rows, run_steps}
use Rattle.sym_shape.proofs.shape.read_into.Goals as goal

pub run-requires-clause-parsing : goal.run-requires-clause-parsing
run-requires-clause-parsing g c =
    let start = c.restart.ensures in
    same_start g.G.Grammar.table g.met.G.Grammar.lawful true c.args.s.now _ _ _ _ start.steps start.at (start.todo g.G.Grammar.listed ∙ ap entries_of g.G.Grammar.start) start.rows

pub returns-in-Ok-clause-rows : goal.returns-in-Ok-clause-rows
returns-in-Ok-clause-rows g c = run_rows g.G.Grammar.listed g.G.Grammar.table c.args.s.now c.restart.new.self c.run.new.self (Ok tt) c.in-Ok.ensures.runs

pub returns-in-Ok-clause-steps : goal.returns-in-Ok-clause-steps
returns-in-Ok-clause-steps g c = run_steps g.G.Grammar.listed g.G.Grammar.table g.met.G.Grammar.lawful c.args.s.now c.restart.new.self c.run.new.self (Ok tt) c.in-Ok.ensures.runs
