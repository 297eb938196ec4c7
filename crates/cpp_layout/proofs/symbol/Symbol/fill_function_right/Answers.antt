use Rattle.cpp_layout.specs.Layout.{table_of, context_of}
use Rattle.cpp_tree.specs.Nodes.{trees, tree_at, qualifiers_of, mark_of}
use Rattle.cpp_layout.proofs.Growing.{starts, fills}
use Rattle.cpp_layout.proofs.Functions.{right-whole}
use Rattle.cpp_layout.proofs.symbol.Symbol.fill_function_right.Goals as goal

pub returns : goal.returns
returns c = fills (table_of c.args.self.now) c.args.ctx.detail _ _ _ (c.push_item.ensures.shows _ (c.push_suffix.ensures.shows _ _ (c.push_text-2.ensures.shows _ _ (c.push_list.ensures.shows _ (c.push_text.ensures.shows _ _ (starts (table_of c.args.self.now) _ c.args.parts.now.items c.requires.empty))))) c.requires.returned)
    (right-whole (context_of c.args.ctx) (qualifiers_of c.args.qualifiers) (mark_of c.args.mark) c.args.noexcept (tree_at (trees (table_of c.args.self.now)) c.args.returned) (tree_at (trees (table_of c.args.self.now)) c.args.parameters))
