use Rattle.rust_tree.proofs.Basics.{sym, ap, slice_get, item_if, shown, trees_of}
use Rattle.rust_tree.proofs.Showing.{changed}
use Rattle.rust_tree.proofs.symbol.Symbol.push_item_if.Goals as goal

pub returns-then-any-clause-shows : goal.returns-then-any-clause-shows
returns-then-any-clause-shows g c below so_far shows has deep =
    let parts = shown c.args.form (slice_get (trees_of c.args.self.now) c.args.node) 0 c.args.ctx in
    changed c.args.self.now _ _ _ (ap (λ b. item_if b parts so_far) (sym c.if-any.true)) (c.push_item.ensures.shows _ _ shows has deep)
