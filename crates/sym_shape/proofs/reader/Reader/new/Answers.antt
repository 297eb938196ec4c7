use Rattle.sym_shape.proofs.Basics.{refl, ap, length, ◌∙◌, entries_of}
use Rattle.sym_shape.proofs.Feeding.{fed_start, same_fed, same_room, made_fed}
use Rattle.sym_shape.proofs.reader.Reader.new.Goals as goal

pub invariant_of-result : goal.invariant_of-result
invariant_of-result g c =
    let start = c.new-2.ensures in
    fed_start g.G.Grammar.listed g.G.Grammar.table g.met.G.Grammar.lawful _ _ c.new.ensures.items start.steps start.at (start.todo g.G.Grammar.listed ∙ ap entries_of g.G.Grammar.start) start.rows

pub returns : goal.returns
returns g c =
    let start = c.new-2.ensures in
    made_fed _ _ (same_fed _ _ _ _ _ _ _ _ _ _ _ _ _ _ _ _ _ _ c.new.ensures.items refl refl refl start.steps (ap length start.rows) (ap length start.rules) c.new.ensures.capacity (same_room _ _ _ _ start.row_room start.rule_room))
