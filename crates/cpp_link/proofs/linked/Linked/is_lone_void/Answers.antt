use Rattle.cpp_link.proofs.Basics.{ap, ◌∙◌, ◌≡◌, is_void, is_nil, tree_at, trees_in, void_node, nil_node}
use Rattle.cpp_link.proofs.Reading.{void_is, nil_is}
use Rattle.cpp_link.proofs.linked.Linked.is_lone_void.Goals as goal

pub returns : goal.returns
returns c =
    let ts = trees_in c.args.symbol.now c.args.self.now.nodes in
    let v : is_void (tree_at ts c.args.first) ≡ void_node c.opened-item.result.node = ap is_void c.opened-item.ensures.tree ∙ void_is _ _ _ _ c.opened-item.result.node c.opened-item.ensures.own in
    let n : is_nil (tree_at ts c.args.rest) ≡ nil_node c.opened-others.result.node = ap is_nil c.opened-others.ensures.tree ∙ nil_is _ _ _ _ c.opened-others.result.node c.opened-others.ensures.own in
    rw (v, n) c.is_lone.ensures
