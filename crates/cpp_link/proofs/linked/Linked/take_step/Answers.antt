use Rattle.cpp_link.proofs.Basics.{refl, subst, ap, arith, length, drop, err_from_is_err_and, IsStepThere, Step, Part, IsStepOf, nodes_of_step}
use Rattle.cpp_link.proofs.Stepping.{takes_go, takes_named, takes_made, taken_as, go_counts, named_counts, made_counts, made_refused}
use Rattle.cpp_link.proofs.linked.Linked.take_step.Goals as goal

pub behind_if-requires-clause-node : goal.behind_if-requires-clause-node
behind_if-requires-clause-node c =
    subst (λ step. IsStepThere c.args.symbol.now (length c.args.self.now.nodes.thunks) (length c.args.self.now.nodes.nodes) step) c.in-Named.is c.requires.step

pub returns-in_ok-note-in-Go-clause-takes : goal.returns-in_ok-note-in-Go-clause-takes
returns-in_ok-note-in-Go-clause-takes c =
    let there = subst (λ step. IsStepThere c.args.symbol.now (length c.args.self.now.nodes.thunks) (length c.args.self.now.nodes.nodes) step) c.in-Go.is c.requires.step in
    taken_as c.args.symbol.now c.args.self.now c.note.new.self c.args.kept c.args.base c.args.parts.now.items c.args.parts.now.items
    (Step.Go c.in-Go.candidate c.in-Go.then c.in-Go.packs) c.args.step c.in-Go.then c.in-Go.then c.in-Go.is refl
    (takes_go c.args.symbol.now c.args.self.now c.note.new.self c.args.kept c.args.base c.args.parts.now.items c.in-Go.candidate c.in-Go.then c.in-Go.packs
    c.requires.place.table c.note.ensures.nodes c.in_ok-note-in-Go.ensures.there there.1 c.requires.parts c.in_ok-note-in-Go.ensures.is)

pub returns-in-Named-clause-takes : goal.returns-in-Named-clause-takes
returns-in-Named-clause-takes c =
    let there = subst (λ step. IsStepThere c.args.symbol.now (length c.args.self.now.nodes.thunks) (length c.args.self.now.nodes.nodes) step) c.in-Named.is c.requires.step in
    taken_as c.args.symbol.now c.args.self.now c.args.self.now c.args.kept c.args.base c.args.parts.now.items c.put_first.new.parts.items
    (Step.Named c.in-Named.node c.in-Named.listed c.in-Named.is_name) c.args.step c.behind_if.result c.behind_if.result c.in-Named.is refl
    (takes_named c.args.symbol.now c.args.self.now c.args.kept c.behind_if.result c.args.base c.args.parts.now.items c.put_first.new.parts.items c.in-Named.node c.in-Named.listed c.in-Named.is_name
    c.requires.place.table c.requires.there c.requires.parts there (c.behind_if.ensures.around _) c.behind_if.ensures.there c.put_first.ensures.own c.put_first.ensures.lower c.put_first.ensures.count)

pub returns-in_ok-node-in-Made-clause-takes : goal.returns-in_ok-node-in-Made-clause-takes
returns-in_ok-node-in-Made-clause-takes c =
    taken_as c.args.symbol.now c.args.self.now c.add_noted.new.self c.args.kept c.args.base c.args.parts.now.items c.put_first-in-Made.new.parts.items
    (Step.Made c.in-Made.node c.in-Made.listed c.in-Made.is_name c.in-Made.is_candidate c.in-Made.packs) c.args.step
    c.behind_if-in-Made.result c.behind_if-in-Made.result c.in-Made.is refl
    (takes_made c.args.symbol.now c.args.self.now c.add_noted.new.self c.args.kept c.behind_if-in-Made.result c.args.base c.args.parts.now.items c.put_first-in-Made.new.parts.items
    c.in-Made.node c.in_ok-node-in-Made.node c.in-Made.listed c.in-Made.is_name c.in-Made.is_candidate c.in-Made.packs
    c.add_noted.ensures.grows c.add_noted.ensures.thunks c.in_ok-node-in-Made.ensures.there c.requires.kept c.requires.parts c.in_ok-node-in-Made.ensures.tree c.in_ok-node-in-Made.ensures.below
    (c.behind_if-in-Made.ensures.around _) c.behind_if-in-Made.ensures.there
    c.put_first-in-Made.ensures.own c.put_first-in-Made.ensures.lower c.put_first-in-Made.ensures.count c.in_ok-node-in-Made.ensures.is)

pub returns-in_ok-note-in-Go-clause-few : goal.returns-in_ok-note-in-Go-clause-few
returns-in_ok-note-in-Go-clause-few c production of pack = go_counts production c.args.self.now c.note.new.self (drop c.args.base c.args.parts.now.items) c.note.ensures.nodes

pub returns-in-Named-clause-few : goal.returns-in-Named-clause-few
returns-in-Named-clause-few c production of pack =
    named_counts production c.args.self.now c.args.base c.args.parts.now.items c.put_first.new.parts.items (Part.Tree c.in-Named.node c.in-Named.listed)
    (subst (λ step. IsStepOf production (length (drop c.args.base c.args.parts.now.items)) step) c.in-Named.is of) c.put_first.ensures.own

pub returns-in_ok-node-in-Made-clause-few : goal.returns-in_ok-node-in-Made-clause-few
returns-in_ok-node-in-Made-clause-few c production of pack =
    let made = subst (λ step. IsStepOf production (length (drop c.args.base c.args.parts.now.items)) step) c.in-Made.is of in
    made_counts production c.args.self.now c.add_noted.new.self c.args.base c.args.parts.now.items c.put_first-in-Made.new.parts.items (Part.Tree c.in_ok-node-in-Made.node c.in-Made.listed)
    made.0 made.1 (λ is none. omega (arith, pack is none, ap nodes_of_step c.in-Made.is)) c.add_noted.ensures.grows.few c.put_first-in-Made.ensures.own

pub returns-in_err-node-in-Made-clause-few : goal.returns-in_err-node-in-Made-clause-few
returns-in_err-node-in-Made-clause-few c production of pack =
    let made = subst (λ step. IsStepOf production (length (drop c.args.base c.args.parts.now.items)) step) c.in-Made.is of in
    let p = err_from_is_err_and c.from_residual-in_err-node-in-Made.result c.from_residual-in_err-node-in-Made.ensures.1 in
    rw p.1
    (made_refused production c.args.self.now c.add_noted.new.self c.args.base c.args.parts.now.items
    made.0 made.1 (λ is none. omega (arith, pack is none, ap nodes_of_step c.in-Made.is)) c.add_noted.ensures.grows.few)
