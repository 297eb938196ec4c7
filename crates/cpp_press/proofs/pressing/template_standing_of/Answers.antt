use Rattle.cpp_press.proofs.Basics.{ap, sym, ◌∙◌, plain_at, is_name, compared, known_in, likeness_of, compared-name, uncompared-name}
use Rattle.cpp_press.proofs.pressing.template_standing_of.Goals as goal

pub returns-then-is_name : goal.returns-then-is_name
returns-then-is_name c =
    let y = c.args.symbol.now in
    let t = plain_at y c.args.name in
    c.compared.ensures ∙ ap compared (c.first.ensures ∙ ap (known_in c.args.components.now) c.likeness_of.ensures)
    ∙ compared-name t (known_in c.args.components.now (likeness_of y c.args.firsts.now c.args.name c.args.encoding))
    (ap (λ u. is_name u) c.stored.ensures.tree ∙ sym (c.is_name.ensures y) ∙ c.if-is_name.true)

pub returns-else-is_name : goal.returns-else-is_name
returns-else-is_name c =
    let y = c.args.symbol.now in
    let t = plain_at y c.args.name in
    uncompared-name t (known_in c.args.components.now (likeness_of y c.args.firsts.now c.args.name c.args.encoding))
    (ap (λ u. is_name u) c.stored.ensures.tree ∙ sym (c.is_name.ensures y) ∙ c.if-is_name.false)
