use Rattle.cpp_layout.proofs.Basics.{None, under_kept}
use Rattle.cpp_layout.proofs.Growing.{told-list}
use Rattle.cpp_layout.proofs.symbol.Symbol.push_typed_list.Goals as goal

pub returns-clause-shows : goal.returns-clause-shows
returns-clause-shows g c below others shows =
    told-list c.args.self.now c.of_types.result (record { index = None; detail = c.args.detail; argument = under_kept c.args.under }) c.of_types.ensures _ _ c.args.form c.args.list c.push_list.ensures.shows below others shows
