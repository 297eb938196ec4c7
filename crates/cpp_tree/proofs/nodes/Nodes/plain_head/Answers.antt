use Rattle.cpp_tree.proofs.Basics.{◌∙◌, ap, over, trees, plain_class}
use Rattle.cpp_tree.proofs.Trees.{known_plain, element_plain, collapsed_plain, of-class}
use Rattle.cpp_tree.proofs.nodes.Nodes.plain_head.Goals as goal

pub returns-in-Known : goal.returns-in-Known
returns-in-Known c = known_plain (trees (over c.args.symbol.now c.args.self.now)) c.in-Known.head ∙ ap plain_class (of-class (trees (over c.args.symbol.now c.args.self.now)) _ _ _ c.in-Known.is c.class.ensures.class)

pub returns-in-OfElement : goal.returns-in-OfElement
returns-in-OfElement c = element_plain (trees (over c.args.symbol.now c.args.self.now)) c.in-OfElement.field-0 ∙ ap plain_class (of-class (trees (over c.args.symbol.now c.args.self.now)) _ _ _ c.in-OfElement.is c.class.ensures.class)

pub returns-in-CollapsedOfElement : goal.returns-in-CollapsedOfElement
returns-in-CollapsedOfElement c = collapsed_plain (trees (over c.args.symbol.now c.args.self.now)) c.in-CollapsedOfElement.field-0 ∙ ap plain_class (of-class (trees (over c.args.symbol.now c.args.self.now)) _ _ _ c.in-CollapsedOfElement.is c.class.ensures.class)
