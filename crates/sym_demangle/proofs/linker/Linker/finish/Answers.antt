use Rattle.sym_demangle.proofs.Basics.{ap, ◌∙◌, subst, ◌+◌, Ok, StandsFor, Progress, AreLinkSteps, AreNodesOf}
use Rattle.sym_demangle.proofs.linker.Linker.finish.Goals as goal

pub returns-clause-bytes : goal.returns-clause-bytes
returns-clause-bytes g c = c.finished.ensures.bytes ∙ ap (λ (v : Progress). v.bytes) c.self.view_is

pub returns-clause-stands : goal.returns-clause-stands
returns-clause-stands g c = subst (λ (v : Progress). StandsFor g.M.Mangling.mangled v.bytes (Ok (g.M.Mangling.whole_of c.finished.result))) c.self.view_is c.finished.ensures.stands

pub returns-clause-rows : goal.returns-clause-rows
returns-clause-rows g c = c.finished.ensures.rows ∙ ap (λ (v : Progress). v.rows) c.self.view_is

pub returns-clause-steps : goal.returns-clause-steps
returns-clause-steps g c = c.finished.ensures.steps ∙ ap (λ (v : Progress). v.read_steps + v.steps) c.self.view_is

pub returns-clause-all_steps : goal.returns-clause-all_steps
returns-clause-all_steps g c = subst (λ (v : Progress). AreLinkSteps g.M.Mangling.mangled.table v.bytes v.steps) c.self.view_is c.finished.ensures.all_steps

pub returns-clause-nodes : goal.returns-clause-nodes
returns-clause-nodes g c = subst (λ (v : Progress). AreNodesOf g.M.Mangling.mangled.table g.M.Mangling.are_nodes v.bytes (g.M.Mangling.nodes_of c.finished.result)) c.self.view_is c.finished.ensures.nodes
