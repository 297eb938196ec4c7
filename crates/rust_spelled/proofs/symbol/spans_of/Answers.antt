use Rattle.std.proofs.Common.{length}
use Rattle.rust_spelled.proofs.symbol.spans_of.Goals as goal

pub push_root-requires : goal.push_root-requires
push_root-requires c = c.root_of.ensures.within (length c.args.rows.now) c.requires
