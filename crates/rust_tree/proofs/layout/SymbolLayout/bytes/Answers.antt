use Rattle.rust_tree.proofs.Basics.{subst, MayCome}
use Rattle.rust_tree.proofs.layout.SymbolLayout.bytes.Goals as goal

pub shared_ref_as_front-result : goal.shared_ref_as_front-result
shared_ref_as_front-result c = (subst (MayCome c.args.self.now) c.in-Own.is c.requires.may_come).1
