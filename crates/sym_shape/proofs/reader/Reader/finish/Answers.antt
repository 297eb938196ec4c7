use Rattle.sym_shape.proofs.Basics.{ap, sym, ◌∙◌, Fed}
use Rattle.sym_shape.proofs.Feeding.{fed_rows, same_rows, fed_steps, same_steps}
use Rattle.sym_shape.proofs.reader.Reader.finish.Goals as goal

pub returns-in-None-clause-rows : goal.returns-in-None-clause-rows
returns-in-None-clause-rows g c =
    let inside = c.self.inside in
    let view = c.self.view_is in
    let rows = fed_rows g.G.Grammar.listed g.G.Grammar.table inside.bytes.items inside.ended inside.ready inside.refused inside.parse c.in-None.is (ap (λ (v : Fed). v.ready) view ∙ c.requires) c.self.invariant in
    same_rows g.G.Grammar.table inside.bytes.items c.args.self.bytes inside.parse.rows.items c.of.result.rows (ap (λ (v : Fed). v.bytes) view) c.of.ensures.rows rows

pub returns-in-None-clause-steps : goal.returns-in-None-clause-steps
returns-in-None-clause-steps g c =
    let inside = c.self.inside in
    let view = c.self.view_is in
    let steps = fed_steps g.G.Grammar.listed g.G.Grammar.table g.met.G.Grammar.lawful inside.bytes.items inside.ended inside.ready inside.refused inside.parse c.in-None.is (ap (λ (v : Fed). v.ready) view ∙ c.requires) c.self.invariant in
    same_steps g.G.Grammar.table inside.bytes.items c.args.self.bytes inside.parse.steps c.of.result.steps (ap (λ (v : Fed). v.bytes) view) c.of.ensures.steps steps

pub returns-in-Some-clause-refused : goal.returns-in-Some-clause-refused
returns-in-Some-clause-refused g c = sym (ap (λ (v : Fed). v.refused) c.self.view_is) ∙ c.in-Some.is

pub returns-in-None-clause-room : goal.returns-in-None-clause-room
returns-in-None-clause-room g c = c.of.ensures.room ∙ ap (λ (v : Fed). v.room) c.self.view_is
