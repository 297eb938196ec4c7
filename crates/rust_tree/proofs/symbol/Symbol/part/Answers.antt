use Rattle.rust_tree.proofs.Basics.{trees_of, fields_at}
use Rattle.rust_tree.proofs.Viewing.{part-got, part-early}
use Rattle.rust_tree.proofs.symbol.Symbol.part.Goals as goal

pub returns : goal.returns
returns c =
    let given = fields_at c.args.self.now c.args.node in
    let got = part-got c.args.self.now.bytes _ c.view_at.result given c.args.k 0 c.view_at.ensures.seen c.requires.part in
    let early = part-early (trees_of c.args.self.now) c.args.node _ given.parts c.args.k c.requires.part got in
    record { earlier = early.0; part = early.1 }
