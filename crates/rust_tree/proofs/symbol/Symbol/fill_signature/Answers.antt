use Rattle.rust_tree.proofs.Reading.{type_within}
use Rattle.rust_tree.proofs.symbol.Symbol.fill_signature.Goals as goal

pub stored-requires : goal.stored-requires
stored-requires g c =
    type_within c.args.self.now c.args.node c.requires.ty.0 c.requires.ty.1
