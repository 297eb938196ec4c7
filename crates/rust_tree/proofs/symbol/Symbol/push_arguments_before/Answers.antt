use Rattle.std.proofs.Common.{rules}
use Rattle.rust_tree.proofs.Showing.{changed, some-arguments, no-arguments}
use Rattle.rust_tree.proofs.symbol.Symbol.push_arguments_before.Goals as goal

pub returns-then-any_arguments-clause-shows : goal.returns-then-any_arguments-clause-shows
returns-then-any_arguments-clause-shows g c below so_far shows deep =
    changed c.args.self.now _ _ _ (some-arguments c.args.ctx.detail c.args.ctx.bound _ so_far (search rules)) (c.push_arguments.ensures.shows _ _ (c.push_text.ensures.shows _ _ shows) deep)

pub returns-else-any_arguments-clause-shows : goal.returns-else-any_arguments-clause-shows
returns-else-any_arguments-clause-shows g c below so_far shows deep =
    changed c.args.self.now _ _ _ (no-arguments c.args.ctx.detail c.args.ctx.bound _ so_far (search rules)) shows
