use Rattle.rust_tree.proofs.Reading.{type_within}
use Rattle.rust_tree.proofs.symbol.Symbol.is_unit.Goals as goal

pub stored-requires : goal.stored-requires
stored-requires c =
    type_within c.args.self.now c.args.node c.requires.0 c.requires.1
