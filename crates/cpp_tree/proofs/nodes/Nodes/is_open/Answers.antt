use Rattle.cpp_tree.proofs.Basics.{◌∙◌, ap, over, free_is, has_free}
use Rattle.cpp_tree.proofs.FreeParameters.{node-open}
use Rattle.cpp_tree.proofs.nodes.Nodes.is_open.Goals as goal

pub returns : goal.returns
returns c = c.is_open.ensures ∙ ap (λ e. has_free (free_is e.free)) c.entry.ensures ∙ node-open (over c.args.symbol.now c.args.self.now) c.args.node c.requires.table c.requires.below
