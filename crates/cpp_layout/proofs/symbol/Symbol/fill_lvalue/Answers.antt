use Rattle.cpp_layout.proofs.Basics.{refl, context_of, printed_tree}
use Rattle.cpp_layout.proofs.Growing.{fills}
use Rattle.cpp_layout.proofs.Typing.{reference-whole}
use Rattle.cpp_grammar.specs.Items as heads
use Rattle.cpp_layout.proofs.symbol.Symbol.fill_lvalue.Goals as goal

pub returns-clause-shows : goal.returns-clause-shows
returns-clause-shows g c = fills c.args.self.now c.args.ctx.detail _ _ _ c.fill_reference.ensures.shows (reference-whole (context_of c.args.ctx) heads.low (printed_tree c.args.self.now c.args.ctx c.args.ty) "&" _ refl)
