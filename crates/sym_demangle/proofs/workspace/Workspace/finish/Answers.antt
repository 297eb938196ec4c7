use Rattle.sym_demangle.proofs.Basics.{◌≡◌, ◌∙◌, refl, subst, Ok, StandsFor, AreLinkSteps, AreNodesOf}
use Rattle.sym_demangle.proofs.workspace.Workspace.finish.Goals as goal

pub finished-requires : goal.finished-requires
finished-requires g c = rw c.replace-bytes.ensures.value c.requires

pub returns-clause-bytes : goal.returns-clause-bytes
returns-clause-bytes g c =
    let there : c.replace-bytes.result.items ≡ c.args.self.now.bytes.items = rw c.replace-bytes.ensures.value refl in
    ◌∙◌ {c = c.args.self.now.bytes.items} c.finished.ensures.bytes there

pub returns-clause-stands : goal.returns-clause-stands
returns-clause-stands g c =
    let there : c.replace-bytes.result.items ≡ c.args.self.now.bytes.items = rw c.replace-bytes.ensures.value refl in
    subst (λ b. StandsFor g.M.Mangling.mangled b (Ok (g.M.Mangling.whole_of c.finished.result))) there c.finished.ensures.stands

pub returns-clause-rows : goal.returns-clause-rows
returns-clause-rows g c = c.finished.ensures.rows

pub returns-clause-steps : goal.returns-clause-steps
returns-clause-steps g c = c.finished.ensures.steps

pub returns-clause-all_steps : goal.returns-clause-all_steps
returns-clause-all_steps g c =
    let there : c.replace-bytes.result.items ≡ c.args.self.now.bytes.items = rw c.replace-bytes.ensures.value refl in
    subst (λ b. AreLinkSteps g.M.Mangling.mangled.table b c.args.self.now.driver.steps) there c.finished.ensures.all_steps

pub returns-clause-nodes : goal.returns-clause-nodes
returns-clause-nodes g c =
    let there : c.replace-bytes.result.items ≡ c.args.self.now.bytes.items = rw c.replace-bytes.ensures.value refl in
    subst (λ b. AreNodesOf g.M.Mangling.mangled.table g.M.Mangling.are_nodes b (g.M.Mangling.nodes_of c.finished.result)) there c.finished.ensures.nodes
