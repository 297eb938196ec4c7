use Rattle.rust_tree.proofs.Basics.{subst, refl, type_parts, Shows}
use Rattle.rust_tree.proofs.Reading.{type_within}
use Rattle.rust_tree.proofs.symbol.Symbol.fill_type.Goals as goal

pub stored-requires : goal.stored-requires
unfolding type_parts
stored-requires g c =
    type_within c.args.self.now c.args.node c.requires.ty.0 c.requires.ty.1

pub returns-in-Path-clause-shows : goal.returns-in-Path-clause-shows
unfolding type_parts
returns-in-Path-clause-shows g c =
    subst (λ w. Shows c.args.self.now (g.S.PartList.held c.args.parts.now) (g.S.PartList.held c.fill_path.new.parts) w) (rw c.in-Path.ensures.tree refl) c.fill_path.ensures.shows
