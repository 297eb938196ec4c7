use Rattle.cpp_layout.proofs.Basics.{[], ap, ◌∙◌, ◌∷◌, thunk_text, table_of, as_item, thunk_of, tree_at, trees, text}
use Rattle.cpp_layout.proofs.Growing.{fills, starts}
use Rattle.cpp_grammar.specs.Items as heads
use Rattle.cpp_term.specs.Items as items
use Rattle.cpp_layout.proofs.symbol.Symbol.fill_thunk.Goals as goal

pub returns-clause-shows : goal.returns-clause-shows
returns-clause-shows g c = fills c.args.self.now c.args.detail _ _ _ (c.push_text.ensures.shows _ _ _ (c.push_closed.ensures.shows _ _ (starts c.args.self.now c.args.detail _))) (ap (λ t. text t ∷ as_item heads.full items.closed (tree_at (trees (table_of c.args.self.now)) c.args.encoding) ∷ []) (c.thunk_number.ensures.text c.args.self.now.bytes ∙ ap (λ o. thunk_text (thunk_of c.args.self.now.bytes o)) c.thunk.ensures))
