use Rattle.std.proofs.Common.{rules}
use Rattle.rust_tree.proofs.Trees.{push-stands, grows-same}
use Rattle.rust_tree.proofs.nodes.Nodes.push.Goals as goal

pub returns-then-is_err-clause-grows : goal.returns-then-is_err-clause-grows
returns-then-is_err-clause-grows c = grows-same c.args.self.now _ (search rules)

pub returns-clause-stands : goal.returns-clause-stands
returns-clause-stands c s t is makes =
    push-stands s c.args.self.now _ c.args.node t c.len-number.result is makes (search rules) (search rules) (search rules)
