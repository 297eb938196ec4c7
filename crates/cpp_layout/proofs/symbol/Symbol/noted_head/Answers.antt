use Rattle.cpp_layout.proofs.Basics.{ap, sym, ◌∙◌, table_of}
use Rattle.cpp_layout.proofs.Heads.{noted-head}
use Rattle.cpp_layout.proofs.symbol.Symbol.noted_head.Goals as goal

pub returns-in-Known : goal.returns-in-Known
returns-in-Known c =
    noted-head (table_of c.args.self.now) c.requires.table c.args.node c.requires.node c.args.ctx.index c.args.ctx.argument c.in-None.is c.in-Known.head (ap (λ e. e.class) (sym c.entry.ensures) ∙ c.in-Known.is)
