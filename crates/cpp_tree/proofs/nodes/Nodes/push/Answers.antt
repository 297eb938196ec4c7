use Rattle.cpp_tree.proofs.Basics.{rules, arith, ap, ◌∙◌, ◌++◌, ◌∷◌, [], length, length-append, over, trees, Compact, noting}
use Rattle.cpp_tree.proofs.Noting.{noted}
use Rattle.cpp_tree.proofs.Compacting.{held-one-more, with-node}
use Rattle.cpp_tree.proofs.Pushed.{with-one-more, grown-is, pushed, pushed-there, pushed-stays}
use Rattle.cpp_tree.proofs.nodes.Nodes.push.Goals as goal

pub returns : goal.returns
returns c =
    let y = over c.args.symbol.now c.args.self.now in
    let kept : Compact = record c.noted-noted.result { node = c.flat-node.result } in
    let made = noting c.args.self.now.nodes c.flat-node.result in
    let more = held-one-more c.self.inside.entries.items c.push_reserved.new.self.items kept c.args.self.now.nodes made (search rules) (ap (λ v. v.nodes) c.self.view_is) (with-node c.noted-noted.result c.args.self.now.nodes c.flat-node.result c.noted-noted.ensures) in
    let grown = with-one-more c.args.symbol.now c.args.self.now _ c.self.inside.thunks.items made more (ap (λ v. v.thunks) c.self.view_is) in
    let is-noted = noted y c.requires.table c.flat-node.result c.flat-node.ensures.flat c.flat-node.ensures.settled c.flat-node.ensures.below in
    let longer = ap length more ∙ length-append c.args.self.now.nodes (made ∷ []) in
    record {
      table = pushed y _ made grown c.requires.table is-noted;
      number = search rules;
      trees = grown-is y _ made grown ∙ ap (λ t. trees y ++ t ∷ []) c.flat-node.ensures.tree;
      tree = pushed-there y _ made c.len-number.result grown (search rules) c.requires.table is-noted ∙ c.flat-node.ensures.tree;
      stays = pushed-stays y _ made grown c.requires.table is-noted;
      more = longer;
      few = omega (arith, longer);
      least = omega (arith, longer);
      thunks = search rules;
      same = search rules;
      memory = search rules;
      full = search rules;
      node_room = search rules;
      thunk_room = search rules;
      most = search rules;
      most_thunks = search rules;
    }
