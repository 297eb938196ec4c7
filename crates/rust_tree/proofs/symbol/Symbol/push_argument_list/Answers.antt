use Rattle.rust_tree.proofs.Basics.{ap, sym, ◌∙◌, slice_get, [], Bool, Unshared, argument_list, arguments_from, arguments_in, trees_of}
use Rattle.rust_tree.proofs.Showing.{changed}
use Rattle.rust_tree.proofs.symbol.Symbol.push_argument_list.Goals as goal

pub returns-then-has_arguments-clause-shows : goal.returns-then-has_arguments-clause-shows
returns-then-has_arguments-clause-shows g c below so_far shows deep =
    let list : Bool → Unshared → Unshared = λ d rest. argument_list d c.args.value (arguments_from c.args.ctx.detail c.args.ctx.bound [] (arguments_in (slice_get (trees_of c.args.self.now) c.args.arguments))) rest in
    changed c.args.self.now _ _ _ (ap (λ d. list d so_far) (sym (sym c.has_arguments.ensures ∙ c.if-has_arguments.true))) (c.push_open_angle.ensures.shows _ _ (c.push_arguments.ensures.shows _ _ (c.push_text.ensures.shows _ _ shows) deep))

pub returns-else-has_arguments-clause-shows : goal.returns-else-has_arguments-clause-shows
returns-else-has_arguments-clause-shows g c below so_far shows deep =
    let list : Bool → Unshared → Unshared = λ d rest. argument_list d c.args.value (arguments_from c.args.ctx.detail c.args.ctx.bound [] (arguments_in (slice_get (trees_of c.args.self.now) c.args.arguments))) rest in
    changed c.args.self.now _ _ _ (ap (λ d. list d so_far) (sym (sym c.has_arguments.ensures ∙ c.if-has_arguments.false))) (shows)
