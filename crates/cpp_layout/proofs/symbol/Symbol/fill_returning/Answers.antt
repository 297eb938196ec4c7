use Rattle.cpp_layout.proofs.Functions.{full-whole}
use Rattle.cpp_layout.proofs.Growing.{fills, starts}
use Rattle.cpp_layout.proofs.Basics.{table_of, type_shown, mark_of, qualifiers_of, tree_at, trees}
use Rattle.cpp_layout.proofs.symbol.Symbol.fill_returning.Goals as goal

pub returns-clause-shows : goal.returns-clause-shows
returns-clause-shows g c = fills c.args.self.now c.args.detail _ _ _ (c.push_typed-2.ensures.shows _ _ (c.push_text.ensures.shows _ _ _ (c.push_bare.ensures.shows _ _ (c.push_typed.ensures.shows _ _ (starts c.args.self.now c.args.detail _))))) (full-whole (tree_at (trees (table_of c.args.self.now)) c.args.name) (qualifiers_of c.args.qualifiers) (mark_of c.args.mark) (type_shown c.args.self.now c.args.under c.args.parameters) (type_shown c.args.self.now c.args.under c.args.returned) c.requires.there)
