use Rattle.cpp_layout.proofs.Basics.{ap, ◌∙◌, operand_parts, precedence_of, context_of, printed_tree}
use Rattle.cpp_layout.proofs.Growing.{fills}
use Rattle.cpp_layout.proofs.Operating.{enclosed-by}
use Rattle.cpp_layout.proofs.symbol.Symbol.fill_operand.Goals as goal

pub returns-in-AsItIs-clause-shows : goal.returns-in-AsItIs-clause-shows
unfolding operand_parts
returns-in-AsItIs-clause-shows g c below others shows = rw c.in-AsItIs.is (c.push_item.ensures.shows below others shows)

pub returns-in-AsType-clause-shows : goal.returns-in-AsType-clause-shows
unfolding operand_parts
returns-in-AsType-clause-shows g c below others shows = rw c.in-AsType.is (c.push_item-in-AsType-2.ensures.shows below _ (c.push_item-in-AsType.ensures.shows below others shows))

pub returns-in-AsList-clause-shows : goal.returns-in-AsList-clause-shows
unfolding operand_parts
returns-in-AsList-clause-shows g c below others shows = rw c.in-AsList.is (c.push_list.ensures.shows below others shows)

pub returns-in-From-clause-shows : goal.returns-in-From-clause-shows
returns-in-From-clause-shows g c below others shows =
    rw c.in-From.is (fills c.args.self.now c.args.ctx.detail _ _ _ (c.push_text_if-in-From.ensures.shows _ below _ (c.push_item-in-From.ensures.shows below _ (c.push_text_if.ensures.shows _ below others shows)))
    (enclosed-by (context_of c.args.ctx) c.in-From.least c.precedence.result (printed_tree c.args.self.now c.args.ctx c.args.node) others (c.precedence.ensures ∙ ap precedence_of c.place-place.ensures.tree)))
