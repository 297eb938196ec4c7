use Rattle.cpp_tree.proofs.Basics.{◌∙◌, ap, over, trees, head_of_class}
use Rattle.cpp_grammar.specs.Items as heads
use Rattle.cpp_term.specs.Items as items
use Rattle.cpp_tree.proofs.Trees.{known_head, of_element_head, collapsed_head, of-class}
use Rattle.cpp_tree.proofs.nodes.Nodes.head.Goals as goal

pub returns-in-Known : goal.returns-in-Known
unfolding items.head
returns-in-Known c = known_head (trees (over c.args.symbol.now c.args.self.now)) c.args.index c.in-Known.head ∙ ap (head_of_class c.args.index) (of-class (trees (over c.args.symbol.now c.args.self.now)) _ _ _ c.in-Known.is c.class.ensures.class)

pub returns-in-OfElement : goal.returns-in-OfElement
unfolding items.head
returns-in-OfElement c = c.element_head.ensures ∙ of_element_head (trees (over c.args.symbol.now c.args.self.now)) c.args.index c.in-OfElement.elements ∙ ap (head_of_class c.args.index) (of-class (trees (over c.args.symbol.now c.args.self.now)) _ _ _ c.in-OfElement.is c.class.ensures.class)

pub returns-in-CollapsedOfElement : goal.returns-in-CollapsedOfElement
unfolding items.head
returns-in-CollapsedOfElement c =
    c.collapsed.ensures ∙ ap heads.collapsed c.element_head-in-CollapsedOfElement.ensures ∙ collapsed_head (trees (over c.args.symbol.now c.args.self.now)) c.args.index c.in-CollapsedOfElement.elements ∙ ap (head_of_class c.args.index) (of-class (trees (over c.args.symbol.now c.args.self.now)) _ _ _ c.in-CollapsedOfElement.is c.class.ensures.class)
