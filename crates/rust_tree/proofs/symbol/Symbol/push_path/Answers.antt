use Rattle.rust_tree.proofs.Basics.{sym, ap, slice_get, Bool, Unshared, ◌also◌, path_parts, path_in, trees_of}
use Rattle.rust_tree.proofs.Showing.{changed}
use Rattle.rust_tree.proofs.symbol.Symbol.push_path.Goals as goal

pub returns-then-value-clause-shows : goal.returns-then-value-clause-shows
returns-then-value-clause-shows g c below so_far shows has deep =
    let parts : Bool → Unshared = λ v. path_parts c.args.ctx.detail c.args.ctx.bound v (path_in (slice_get (trees_of c.args.self.now) c.args.node)) in
    changed c.args.self.now _ _ _ (ap (λ v. parts v also so_far) (sym c.if-value.true)) (c.push_item.ensures.shows _ _ shows has deep)

pub returns-else-value-clause-shows : goal.returns-else-value-clause-shows
returns-else-value-clause-shows g c below so_far shows has deep =
    let parts : Bool → Unshared = λ v. path_parts c.args.ctx.detail c.args.ctx.bound v (path_in (slice_get (trees_of c.args.self.now) c.args.node)) in
    changed c.args.self.now _ _ _ (ap (λ v. parts v also so_far) (sym c.if-value.false)) (c.push_item-else-value.ensures.shows _ _ shows has deep)
