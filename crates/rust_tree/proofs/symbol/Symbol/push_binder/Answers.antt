use Rattle.rust_tree.proofs.Basics.{arith, ap, ◌∙◌, ◌then◌, ◌also◌, codes, names_in}
use Rattle.rust_tree.proofs.Showing.{changed, some-binder}
use Rattle.rust_tree.proofs.symbol.Symbol.push_binder.Goals as goal

pub returns-in_default-clause-shows : goal.returns-in_default-clause-shows
returns-in_default-clause-shows g c below so_far shows is deep binds =
    changed c.args.self.now _ _ _ (ap (λ n. codes "for<" then names_in c.args.ctx.bound 0 n also codes "> " then so_far) binds ∙ some-binder c.args.ctx.bound c.args.binder so_far (omega (arith, c.in_default)))
    (c.push_text-in_default.ensures.shows _ _ (c.push_item.ensures.shows _ _ (c.push_text.ensures.shows _ _ shows) is deep))
