use Rattle.cpp_tree.proofs.Basics.{sym, ◌∙◌, ap, over, tree_under, trees, element_head}
use Rattle.cpp_tree.proofs.Trees.{some_element, none_element}
use Rattle.cpp_tree.proofs.nodes.Nodes.element_head.Goals as goal

pub returns-in-Some : goal.returns-in-Some
returns-in-Some c = c.plain_head.ensures ∙ some_element c.in-Some.i _ _ c.element.ensures.tree ∙ ap (λ x. element_head x (tree_under (trees (over c.args.symbol.now c.args.self.now)) c.args.elements)) (sym c.in-Some.is)

pub returns-in-None : goal.returns-in-None
returns-in-None c = none_element (tree_under (trees (over c.args.symbol.now c.args.self.now)) c.args.elements) ∙ ap (λ x. element_head x (tree_under (trees (over c.args.symbol.now c.args.self.now)) c.args.elements)) (sym c.in-None.is)
