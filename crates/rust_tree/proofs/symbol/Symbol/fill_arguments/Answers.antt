use Rattle.rust_tree.proofs.Basics.{ap, refl, if◌then◌else◌, [], codes, arguments_in, arguments_of, arguments_from, trees_of, parts_in}
use Rattle.rust_tree.proofs.Pushing.{starts, fills}
use Rattle.rust_tree.proofs.Showing.{deeper, early-type, early-arguments, early-constant}
use Rattle.rust_tree.proofs.symbol.Symbol.fill_arguments.Goals as goal

pub returns-in-None-clause-shows : goal.returns-in-None-clause-shows
unfolding arguments_from arguments_of
returns-in-None-clause-shows g c =
    fills c.args.self.now _ _ _ (starts c.args.self.now _) (ap (λ t. parts_in (arguments_from c.args.ctx.detail c.args.ctx.bound (if c.args.first then [] else codes ", ") (arguments_in t))) c.in-None.ensures.tree)

pub returns-in-Lifetime-clause-shows : goal.returns-in-Lifetime-clause-shows
unfolding arguments_from arguments_of
returns-in-Lifetime-clause-shows g c =
    let r = early-arguments (trees_of c.args.self.now) c.args.node c.in-Lifetime.rest c.in-Lifetime.ensures.parts in
    fills c.args.self.now _ _ _ (c.push_separator.ensures.shows _ _ (c.push_item.ensures.shows _ _ (c.push_arguments.ensures.shows _ _ (starts c.args.self.now _) (deeper c.args.ctx.bound c.in-Lifetime.rest c.args.node r.0 c.requires.depth)) c.requires.arguments c.requires.depth)) (rw c.in-Lifetime.ensures.tree refl)

pub returns-in-Constant-clause-shows : goal.returns-in-Constant-clause-shows
unfolding arguments_from arguments_of
returns-in-Constant-clause-shows g c =
    let t = early-constant (trees_of c.args.self.now) c.args.node c.in-Constant.constant c.in-Constant.ensures.parts.0 in
    let r = early-arguments (trees_of c.args.self.now) c.args.node c.in-Constant.rest c.in-Constant.ensures.parts.1 in
    fills c.args.self.now _ _ _ (c.push_separator-in-Constant.ensures.shows _ _ (c.push_item-in-Constant.ensures.shows _ _ (c.push_arguments-in-Constant.ensures.shows _ _ (starts c.args.self.now _) (deeper c.args.ctx.bound c.in-Constant.rest c.args.node r.0 c.requires.depth)) t.1 (deeper c.args.ctx.bound c.in-Constant.constant c.args.node t.0 c.requires.depth))) (ap (λ t. parts_in (arguments_from c.args.ctx.detail c.args.ctx.bound (if c.args.first then [] else codes ", ") (arguments_in t))) c.in-Constant.ensures.tree)

pub returns-in-Ty-clause-shows : goal.returns-in-Ty-clause-shows
unfolding arguments_from arguments_of
returns-in-Ty-clause-shows g c =
    let t = early-type (trees_of c.args.self.now) c.args.node c.in-Ty.argument c.in-Ty.ensures.parts.0 in
    let r = early-arguments (trees_of c.args.self.now) c.args.node c.in-Ty.rest c.in-Ty.ensures.parts.1 in
    fills c.args.self.now _ _ _ (c.push_separator-in-Ty.ensures.shows _ _ (c.push_item-in-Ty.ensures.shows _ _ (c.push_arguments-in-Ty.ensures.shows _ _ (starts c.args.self.now _) (deeper c.args.ctx.bound c.in-Ty.rest c.args.node r.0 c.requires.depth)) t.1 (deeper c.args.ctx.bound c.in-Ty.argument c.args.node t.0 c.requires.depth))) (ap (λ t. parts_in (arguments_from c.args.ctx.detail c.args.ctx.bound (if c.args.first then [] else codes ", ") (arguments_in t))) c.in-Ty.ensures.tree)
