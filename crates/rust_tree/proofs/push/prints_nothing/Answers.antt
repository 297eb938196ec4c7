use Rattle.rust_tree.proofs.Showing.{empty-bytes}
use Rattle.rust_tree.proofs.push.prints_nothing.Goals as goal

pub returns : goal.returns
returns c bytes within = empty-bytes bytes c.args.span within
