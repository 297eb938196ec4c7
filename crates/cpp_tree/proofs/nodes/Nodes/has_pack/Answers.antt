use Rattle.std.proofs.Common.{ap, ◌∙◌}
use Rattle.cpp_tree.proofs.nodes.Nodes.has_pack.Goals as goal

pub returns : goal.returns
returns c = ap (λ e. e.has_pack) c.entry.ensures ∙ (c.requires.table.each c.args.list c.requires.list).pack_told
