use Rattle.std.proofs.Common.{ap}
use Rattle.rust_tree.proofs.Reading.{read_entry}
use Rattle.rust_tree.proofs.nodes.Nodes.node_at.Goals as goal

pub returns : goal.returns
returns c = read_entry c.self.inside.entries.items c.args.self.now.nodes c.args.number c.index.result.now (ap (λ t. t.nodes) c.self.view_is) c.requires c.index.ensures
