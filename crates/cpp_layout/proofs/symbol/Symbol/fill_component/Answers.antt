use Rattle.cpp_layout.proofs.Basics.{ap, sym, ◌∙◌, arith, context_of, table_of, reargued, tree_of, trees, tree_if_there}
use Rattle.cpp_layout.proofs.Growing.{fills}
use Rattle.cpp_layout.proofs.Naming.{component-nested, component-plain, component-attached, component-alone}
use Rattle.cpp_layout.proofs.symbol.Symbol.fill_component.Goals as goal

pub returns-then-first-ne87-clause-shows : goal.returns-then-first-ne87-clause-shows
unfolding tree_of reargued
returns-then-first-ne87-clause-shows g c = fills c.args.self.now c.args.ctx.detail _ _ _ c.fill_nested.ensures.shows
    (component-plain (context_of c.args.ctx) c.in-Operation.first c.in-Operation.second _ _ _ _ (sym c.place-place.ensures.tree ∙ c.in-Operation.ensures.tree) c.if-first-ne87.true)

pub returns-then-second-eq64-clause-shows : goal.returns-then-second-eq64-clause-shows
unfolding tree_of reargued
returns-then-second-eq64-clause-shows g c = fills c.args.self.now c.args.ctx.detail _ _ _ c.fill_attached.ensures.shows
    (component-attached (context_of c.args.ctx) c.in-Operation.first c.in-Operation.second _ _ _ _ (sym c.place-place.ensures.tree ∙ c.in-Operation.ensures.tree) (omega (arith, c.if-first-ne87.false)) c.if-second-eq64.true)

pub returns-else-second-eq64-clause-shows : goal.returns-else-second-eq64-clause-shows
unfolding tree_of reargued tree_if_there
returns-else-second-eq64-clause-shows g c = fills c.args.self.now c.args.ctx.detail _ _ _ c.fill_attached-else-second-eq64.ensures.shows
    (component-alone (context_of c.args.ctx) c.in-Operation.first c.in-Operation.second _ _ _ _ (sym c.place-place.ensures.tree ∙ c.in-Operation.ensures.tree) (omega (arith, c.if-first-ne87.false)) c.if-second-eq64.false _
    (ap (reargued (tree_if_there (trees (table_of c.args.self.now)) c.args.ctx.argument)) c.requires.table.no_tree))

pub returns-in_default-clause-shows : goal.returns-in_default-clause-shows
returns-in_default-clause-shows g c = fills c.args.self.now c.args.ctx.detail _ _ _ c.fill_nested-in_default.ensures.shows
    (component-nested _ _ _ _ (context_of c.args.ctx) c.stored.result c.stored.ensures.own _ _ (sym c.place-place.ensures.tree ∙ c.stored.ensures.tree) c.in_default.not-Operation)
