use Rattle.rust_tree.proofs.Reading.{is_within}
use Rattle.rust_tree.proofs.symbol.Symbol.path.Goals as goal

pub stored_at-requires : goal.stored_at-requires
stored_at-requires c = is_within c.args.self.now c.args.node _ c.requires.1
