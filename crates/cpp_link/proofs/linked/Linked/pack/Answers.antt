use Rattle.cpp_link.proofs.Basics.{refl, sym, ap, arith, pack_makes, made_before, goes_on, behind_first, named_if, appended_if, trees_in}
use Rattle.cpp_tree.specs.Nodes as nodes
use Rattle.cpp_link.proofs.NodeCount.{pack_made}
use Rattle.cpp_link.proofs.Stepping.{pack_there}
use Rattle.cpp_link.proofs.linked.Linked.pack.Goals as goal

pub returns-in-Nothing-clause-made : goal.returns-in-Nothing-clause-made
unfolding pack_makes
returns-in-Nothing-clause-made c = sym (ap pack_makes c.in-Nothing.is)

pub returns-in_default : goal.returns-in_default
unfolding goes_on behind_first named_if appended_if made_before nodes.tree_of
returns-in_default c = record {
  is = λ kept v state. rw c.list_in.ensures.is refl;
  there = c.list_in.ensures.there;
  made = sym (pack_there c.args.elements c.in_default.not-Nothing);
  of = (omega arith, refl);
  makes = sym (pack_made c.args.symbol.now (trees_in c.args.symbol.now c.args.self.now.nodes) c.args.elements c.in_default.not-Nothing);
}
