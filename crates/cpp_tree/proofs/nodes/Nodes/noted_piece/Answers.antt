use Rattle.std.proofs.Common.{◌∙◌}
use Rattle.cpp_tree.proofs.Compacting.{other-alone}
use Rattle.cpp_tree.proofs.nodes.Nodes.noted_piece.Goals as goal

pub returns-in_default : goal.returns-in_default
returns-in_default c = c.bare.ensures ∙ other-alone c.args.self.now.nodes c.args.node c.args.piece c.in_default.not-Lambda c.in_default.not-Inheriting c.in_default.not-Conversion c.in_default.not-Enumeration c.in_default.not-Bindings
