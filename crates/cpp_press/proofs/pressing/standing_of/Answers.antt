use Rattle.cpp_press.proofs.Basics.{ap, sym, ◌∙◌, plain_at, compared, known_in, likeness_of, compared-way, uncompared-way}
use Rattle.cpp_spelling.specs.Spelled.{is_compared}
use Rattle.cpp_press.proofs.pressing.standing_of.Goals as goal

pub returns-then-is_compared : goal.returns-then-is_compared
returns-then-is_compared c =
    let y = c.args.symbol.now in
    let t = plain_at y c.args.node in
    c.compared.ensures ∙ ap compared (c.first.ensures ∙ ap (known_in c.args.components.now) c.likeness_of.ensures)
    ∙ compared-way c.args.way t (known_in c.args.components.now (likeness_of y c.args.firsts.now c.args.node c.args.encoding))
    (ap (λ u. is_compared c.args.way u) c.stored.ensures.tree ∙ sym (c.is_compared.ensures y) ∙ c.if-is_compared.true)

pub returns-else-is_compared : goal.returns-else-is_compared
returns-else-is_compared c =
    let y = c.args.symbol.now in
    let t = plain_at y c.args.node in
    uncompared-way c.args.way t (known_in c.args.components.now (likeness_of y c.args.firsts.now c.args.node c.args.encoding))
    (ap (λ u. is_compared c.args.way u) c.stored.ensures.tree ∙ sym (c.is_compared.ensures y) ∙ c.if-is_compared.false)
