use Rattle.cpp_link.proofs.Basics.{sym, ◌∙◌, ap, subst, length, IfSome, tree_at, trees_in, split_of, parameters_by, encoding_by, IsSplitThere}
use Rattle.cpp_link.proofs.Reading.{parameters_are, encoding_is, split_there}
use Rattle.cpp_link.proofs.linked.Linked.split.Goals as goal

pub returns-clause-parameters : goal.returns-clause-parameters
unfolding split_of
returns-clause-parameters c =
    let ts = trees_in c.args.symbol.now c.args.self.now.nodes in
    let o = c.opened.result in
    parameters_are _ _ ts o.node o.under (tree_at ts c.args.list) c.opened.ensures.own c.opened.ensures.tree ∙ ap (λ l. parameters_by ts l (tree_at ts c.args.list)) (sym c.split_of.ensures)

pub returns-clause-encoding : goal.returns-clause-encoding
unfolding split_of
returns-clause-encoding c name =
    let ts = trees_in c.args.symbol.now c.args.self.now.nodes in
    let o = c.opened.result in
    encoding_is _ _ ts o.node o.under name (tree_at ts c.args.list) c.opened.ensures.own c.opened.ensures.tree ∙ ap (λ l. encoding_by ts name l (tree_at ts c.args.list)) (sym c.split_of.ensures)

pub returns-clause-there : goal.returns-clause-there
unfolding split_of
returns-clause-there c =
    subst (λ l. IfSome l (IsSplitThere (length c.args.self.now.nodes.nodes))) (sym c.split_of.ensures)
    (split_there _ _ _ c.opened.result.node c.opened.result.under c.opened.ensures.below c.opened.ensures.there)
