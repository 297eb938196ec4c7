use Rattle.cpp_layout.proofs.Basics.{ap, None, ◌∷◌, sub}
use Rattle.cpp_layout.proofs.Growing.{closed-item, fills, told-item}
use Rattle.cpp_layout.proofs.symbol.Symbol.push_closed.Goals as goal

pub returns-clause-shows : goal.returns-clause-shows
returns-clause-shows g c below others shows =
    fills c.args.self.now c.args.detail _ _ _
    (told-item c.args.self.now c.closed.result (record { index = None; detail = c.args.detail; argument = None }) c.closed.ensures _ _ c.args.form c.args.node c.push_item.ensures.shows below others shows)
    (ap (λ i. sub i ∷ others) (closed-item c.args.self.now c.args.detail c.args.form c.args.node))
