use Rattle.cpp_tree.proofs.Basics.{◌∙◌, entry_at}
use Rattle.cpp_tree.proofs.Compacting.{other-within}
use Rattle.cpp_tree.proofs.nodes.Nodes.noted_within.Goals as goal

pub returns-in_default : goal.returns-in_default
returns-in_default c = c.noted_type.ensures ∙ other-within c.args.self.now.nodes c.args.node (entry_at c.args.self.now.nodes c.args.prefix) c.args.piece c.in_default.not-Lambda c.in_default.not-Inheriting c.in_default.not-Conversion c.in_default.not-Enumeration c.in_default.not-Bindings
