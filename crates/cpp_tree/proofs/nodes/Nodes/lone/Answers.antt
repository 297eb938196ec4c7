use Rattle.cpp_tree.proofs.Basics.{◌≡◌, refl, ap, ◌∙◌, given_alone, free_in, over, trees, tree_at, free_is}
use Rattle.cpp_tree.proofs.Noting.{own-at, other-at, lone-given, same-given}
use Rattle.cpp_tree.proofs.nodes.Nodes.lone.Goals as goal

pub returns-in-Own : goal.returns-in-Own
returns-in-Own c = record {
  tree = refl;
  lone = λ other. absurd (other (own-at (over c.args.symbol.now c.args.self.now) c.requires.table c.args.tree c.entry-held.result c.requires.tree c.entry-held.ensures c.in-Own.is));
  below = c.requires.argument;
}

pub returns-in_default : goal.returns-in_default
returns-in_default c =
    let y = over c.args.symbol.now c.args.self.now in
    let ts = trees y in
    let a = tree_at ts c.args.argument in
    let t = tree_at ts c.args.tree in
    let is : tree_at ts c.given_alone.result ≡ given_alone a (free_in t) =
    c.given_alone.ensures.tree ∙ ap (given_alone a) (ap (λ e. free_is e.free) c.entry-held.ensures ∙ (c.requires.table.each c.args.tree c.requires.tree).free) in
    record {
      tree = same-given (tree_at ts c.given_alone.result) a t is (other-at y c.requires.table c.args.tree c.entry-held.result c.requires.tree c.entry-held.ensures c.in_default.not-Own);
      lone = lone-given (tree_at ts c.given_alone.result) a t is;
      below = c.given_alone.ensures.below;
    }
