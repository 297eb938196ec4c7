use Rattle.sym_shape.proofs.Basics.{ap, ◌∙◌, arith, length, Fed}
use Rattle.sym_shape.proofs.Feeding.{unrefused, fed_more}
use Rattle.sym_shape.proofs.reader.Reader.feed.Goals as goal

pub invariant_of-self-in-Ok : goal.invariant_of-self-in-Ok
invariant_of-self-in-Ok g c =
    let inside = c.self.inside in
    let view = c.self.view_is in
    fed_more g.G.Grammar.listed g.G.Grammar.table inside.bytes.items c.args.piece.now _ inside.ended inside.ready inside.refused inside.parse (unrefused inside.refused c.in_default.not-Some) (ap (λ (v : Fed). v.ended) view ∙ c.requires.open) c.in-Ok.ensures.items (omega (arith, c.requires.room, ap (λ (v : Fed). length v.bytes) view)) c.self.invariant
