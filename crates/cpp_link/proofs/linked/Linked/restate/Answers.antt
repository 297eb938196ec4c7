use Rattle.cpp_link.proofs.Basics.{sym, ◌∙◌, ap, subst, length, true, Ok, rules, found, State, Around, tree, restated, state_of, trees_in, value_of, around_of, AreCandidatesThere, candidates_more, fails_is}
use Rattle.cpp_tree.specs.Nodes.{tree_at, tree_of}
use Rattle.cpp_references.specs.References.{argument_read}
use Rattle.cpp_link.proofs.Rescoped.{kept_state}
use Rattle.cpp_link.proofs.linked.Linked.restate.Goals as goal

pub returns-in_ok-node-in-Ok-clause-is : goal.returns-in_ok-node-in-Ok-clause-is
unfolding argument_read value_of tree_of
returns-in_ok-node-in-Ok-clause-is c =
    let s = c.args.symbol.now in
    let old = c.args.self.now in
    let new = c.add.new.self in
    let ts = trees_in s old.nodes in
    let t = tree_at ts c.args.node in
    let kept = kept_state s old new c.in-Ok.packs c.in_ok-node-in-Ok.ensures.adds.grows.stays c.requires.whole.there c.add.ensures.adds.candidates c.add.ensures.adds.counting in
    c.in-Ok.ensures.is (state_of s old)
    ∙ ap (λ x. Ok (found (tree x true) (record (state_of s old) { packs = c.in-Ok.packs }))) (sym c.in_ok-node-in-Ok.ensures.tree)
    ∙ ap (λ (x : State). Ok (found (tree (tree_at (trees_in s new.nodes) c.in_ok-node-in-Ok.node) true) x)) kept

pub returns-in_ok-node-in-Ok-clause-made : goal.returns-in_ok-node-in-Ok-clause-made
returns-in_ok-node-in-Ok-clause-made c = record {
  there = search rules;
  grows = search rules;
  few = search rules;
  makes = search rules;
  paid = search rules;
  whole = record {
    table = c.in_ok-node-in-Ok.ensures.adds.grows.table;
    there = subst (λ v. AreCandidatesThere (length c.add.new.self.nodes.nodes) v) (sym c.add.ensures.adds.candidates)
        (candidates_more _ _ c.args.self.now.candidates c.in_ok-node-in-Ok.ensures.adds.grows.least c.requires.whole.there);
  };
  keeps = search rules;
  full = search rules;
}

pub returns-in-Err-clause-refused : goal.returns-in-Err-clause-refused
unfolding argument_read
returns-in-Err-clause-refused c =
    let s = c.args.symbol.now in
    let old = c.args.self.now in
    let ts = trees_in s old.nodes in
    let around : Around = around_of ts c.args.kept in
    fails_is c.in-Err.e (restated around c.args.place (tree_at ts c.args.node) (state_of s old)) (c.in-Err.ensures.is (state_of s old))
