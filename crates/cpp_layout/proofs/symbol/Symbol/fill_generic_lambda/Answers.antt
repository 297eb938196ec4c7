use Rattle.cpp_layout.proofs.Basics.{None, Some, context_of, printed_tree, table_of, Context, piece_parts, reargued, tree_at, tree_if_there, tree_of, trees}
use Rattle.cpp_layout.proofs.Declaring.{declaring_parts, generic-declaring, generic-plain, own-tree}
use Rattle.cpp_layout.proofs.Growing.{fills, told-parts}
use Rattle.cpp_term.specs.Term as term
use Rattle.cpp_layout.proofs.symbol.Symbol.fill_generic_lambda.Goals as goal

pub returns-in-Declaring-clause-shows : goal.returns-in-Declaring-clause-shows
unfolding tree_if_there tree_of reargued
returns-in-Declaring-clause-shows g c =
    fills c.args.self.now c.args.ctx.detail _ _ _
    (told-parts c.args.self.now c.under.result (record { index = c.args.ctx.index; detail = c.args.ctx.detail; argument = Some c.args.parameters })
    (λ (x : Context). declaring_parts (context_of x) (printed_tree c.args.self.now x c.in-Declaring.heads) (printed_tree c.args.self.now x c.in-Declaring.types) c.args.number) c.under.ensures c.fill_declaring.ensures.shows)
    (generic-declaring (context_of c.args.ctx) (tree_if_there (trees (table_of c.args.self.now)) c.place-place.result.ctx.argument) (tree_at (trees (table_of c.args.self.now)) c.args.parameters) _ _
    (tree_at (trees (table_of c.args.self.now)) c.in-Declaring.heads) (tree_at (trees (table_of c.args.self.now)) c.in-Declaring.types) c.args.number
    (own-tree c.args.self.now c.args.ctx.index c.args.ctx.detail c.of_its_own.result c.args.parameters c.of_its_own.ensures) c.place-place.ensures.tree c.in-Declaring.ensures.tree)

pub returns-in_default-clause-shows : goal.returns-in_default-clause-shows
unfolding tree_if_there
returns-in_default-clause-shows g c =
    fills c.args.self.now c.args.ctx.detail _ _ _
    (told-parts c.args.self.now c.of_its_own-in_default.result (record { index = c.args.ctx.index; detail = c.args.ctx.detail; argument = None })
    (λ (x : Context). piece_parts (context_of x) (term.lambda (printed_tree c.args.self.now x c.args.parameters) c.args.number)) c.of_its_own-in_default.ensures c.fill_lambda.ensures.shows)
    (generic-plain _ _ _ _ c.stored.result c.stored.ensures.own (context_of c.args.ctx) c.args.number (tree_at (trees (table_of c.args.self.now)) c.args.parameters) _ _
    (own-tree c.args.self.now c.args.ctx.index c.args.ctx.detail c.of_its_own.result c.args.parameters c.of_its_own.ensures) c.place-place.ensures.tree c.stored.ensures.tree c.in_default.not-Declaring)
