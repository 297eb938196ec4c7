use Rattle.rust_v0.proofs.Basics.{arith, refl, [], Ok, closing_makes, root_tallied, v0_view, made_by}
use Rattle.rust_v0.proofs.Meanings.{goes_on_same}
use Rattle.rust_v0.proofs.language.RustNodesLinking.root.Goals as goal

pub returns-clause-adds : goal.returns-clause-adds
returns-clause-adds c = (goes_on_same c.args.self.now c.args.self.now refl refl, omega arith)

pub returns-clause-opens : goal.returns-clause-opens
returns-clause-opens c = root_tallied (v0_view c.args.symbol.now) (closing_makes made_by) c.args.symbol.now c.args._rows.now c.args.self.now c.args.self.now c.args.row (Ok (record { bound = 0 })) refl
    (λ rule taken parts is_row holds. (_, refl, record { is = refl; few = omega arith; there = omega (arith, holds.places) }, holds, [], refl, tt))
