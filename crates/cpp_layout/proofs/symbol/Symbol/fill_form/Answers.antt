use Rattle.cpp_layout.proofs.Basics.{ap, ◌∙◌, parts_in, context_of, form_of, tree_in, printed_tree}
use Rattle.cpp_layout.proofs.Growing.{fills, told-so}
use Rattle.cpp_layout.proofs.symbol.Symbol.fill_form.Goals as goal

pub returns-clause-shows : goal.returns-clause-shows
returns-clause-shows g c =
    let place = c.place-place.result in
    let said = c.place-place.ensures in
    let form = form_of c.args.form c.args.at in
    let shown = tree_in c.args.form (printed_tree c.args.self.now place.ctx place.node) in
    fills c.args.self.now c.args.ctx.detail _ _ _ (told-so c.args.self.now place.ctx.detail c.args.ctx.detail _ _ said.detail c.fill_own.ensures.shows)
    (ap (λ d. parts_in d (context_of place.ctx) form shown) said.detail ∙ ap (λ x. parts_in c.args.ctx.detail x form shown) said.index
    ∙ ap (λ t. parts_in c.args.ctx.detail (context_of c.args.ctx) form (tree_in c.args.form t)) said.tree)
