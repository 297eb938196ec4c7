use Rattle.sym_shape.proofs.Basics.{refl, ap, length, ◌∙◌, entries_of}
use Rattle.sym_shape.proofs.Feeding.{fed_start, same_fed}
use Rattle.sym_shape.proofs.reader.Reader.with_lists.Goals as goal

pub invariant_of-result : goal.invariant_of-result
invariant_of-result g c =
    let start = c.restart.ensures in
    fed_start g.G.Grammar.listed g.G.Grammar.table g.met.G.Grammar.lawful _ _ c.clear.ensures.items start.steps start.at (start.todo g.G.Grammar.listed ∙ ap entries_of g.G.Grammar.start) start.rows

pub returns : goal.returns
returns g c =
    let start = c.restart.ensures in
    same_fed _ _ _ _ _ _ _ _ _ _ _ _ _ _ _ _ _ _ c.clear.ensures.items refl refl refl start.steps (ap length start.rows) (ap length start.rules) c.clear.ensures.capacity refl
