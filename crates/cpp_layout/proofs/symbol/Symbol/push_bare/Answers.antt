use Rattle.cpp_layout.proofs.Functions.{bare-whole}
use Rattle.cpp_layout.proofs.Growing.{fills}
use Rattle.cpp_layout.proofs.Basics.{table_of, type_shown, mark_of, qualifiers_of, tree_at, trees}
use Rattle.cpp_layout.proofs.symbol.Symbol.push_bare.Goals as goal

pub returns-clause-shows : goal.returns-clause-shows
returns-clause-shows g c below others shows = fills c.args.self.now c.args.detail _ _ _ (c.push_closed.ensures.shows _ _ (c.push_text-2.ensures.shows _ _ _ (c.push_typed_list.ensures.shows _ _ (c.push_text.ensures.shows _ _ _ (c.push_suffix.ensures.shows c.args.detail _ _ shows))))) (bare-whole (tree_at (trees (table_of c.args.self.now)) c.args.name) (qualifiers_of c.args.qualifiers) (mark_of c.args.mark) (type_shown c.args.self.now c.args.under c.args.parameters) _ c.opening_number.ensures.text others)
