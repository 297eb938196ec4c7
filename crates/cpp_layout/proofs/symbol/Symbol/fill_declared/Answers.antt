use Rattle.cpp_layout.proofs.Basics.{ap, arith, sym, ◌∙◌, le-ltb, lt-ltb, context_of, printed_tree, declared_parts, reargued, tree_of}
use Rattle.cpp_layout.proofs.Declaring.{declared-none, declared-whole}
use Rattle.cpp_layout.proofs.Growing.{fills, starts}
use Rattle.cpp_layout.proofs.symbol.Symbol.fill_declared.Goals as goal

pub returns-in-Cell-clause-shows : goal.returns-in-Cell-clause-shows
unfolding tree_of reargued
returns-in-Cell-clause-shows g c =
    fills c.args.self.now c.args.ctx.detail _ _ _
    (c.push_text_if.ensures.shows _ _ _ (c.push_item.ensures.shows _ _ (c.push_text-in-Cell.ensures.shows _ _ _ (c.push_text.ensures.shows _ _ _ (c.push_decimal.ensures.shows _ _ _ (c.push_declared.ensures.shows _ _ (starts c.args.self.now c.args.ctx.detail _)))))))
    (declared-whole (context_of c.args.ctx) (printed_tree c.args.self.now c.args.ctx c.in-Cell.first) (printed_tree c.args.self.now c.args.ctx c.in-Cell.rest) c.args.at _ _ c.front_of_name.ensures.text (λ h. lt-ltb 0 c.args.at h) (λ h. le-ltb 0 c.args.at h)
    ∙ ap (λ t. declared_parts (context_of c.args.ctx) t c.args.at) (sym c.in-Cell.ensures.tree))

pub returns-in_default : goal.returns-in_default
returns-in_default g c = record {
  shows =
      fills c.args.self.now c.args.ctx.detail _ _ _ (starts c.args.self.now c.args.ctx.detail _)
      (declared-none _ _ _ _ c.stored.result c.stored.ensures.own _ c.stored.ensures.tree (context_of c.args.ctx) c.args.at c.in_default.not-Cell);
  few = omega arith;
}
