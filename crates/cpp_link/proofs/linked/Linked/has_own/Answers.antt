use Rattle.cpp_link.proofs.Basics.{sym, ◌∙◌, ap, ◌||◌, is_open, is_declaring, tree_at, trees_in}
use Rattle.cpp_link.proofs.Declared.{signature_declares, signature_declares_none}
use Rattle.cpp_link.proofs.linked.Linked.has_own.Goals as goal

pub returns-in-Declaring : goal.returns-in-Declaring
returns-in-Declaring c =
    let t = tree_at (trees_in c.args.symbol.now c.args.self.now.nodes) c.args.parameters in
    sym (ap (λ b. b || is_open t) (ap is_declaring c.opened.ensures.tree ∙ signature_declares _ _ _ _ c.opened.result.node _ _ c.in-Declaring.is))

pub returns-in_default : goal.returns-in_default
returns-in_default c =
    let t = tree_at (trees_in c.args.symbol.now c.args.self.now.nodes) c.args.parameters in
    c.is_open.ensures ∙ sym (ap (λ b. b || is_open t) (ap is_declaring c.opened.ensures.tree ∙ signature_declares_none _ _ _ _ c.opened.result.node c.opened.ensures.own c.in_default.not-Declaring))
