use Rattle.cpp_link.proofs.Basics.{◌∙◌, subst, rules, slice_index, IsCommon, state_of, trees_in, value_in, values_in, packs_of, around_of}
use Rattle.cpp_link.proofs.NodeCount.{none_substituted}
use Rattle.cpp_link.proofs.Rooms.{same_room}
use Rattle.cpp_link.proofs.Making.{common_meaning, substitution_closes, substitution_refused, other_closes}
use Rattle.cpp_link.proofs.linked.Linked.close_production.Goals as goal

pub returns-in-Substitution-clause-is : goal.returns-in-Substitution-clause-is
returns-in-Substitution-clause-is c =
    let s = c.args.symbol.now in
    substitution_closes s c.args.production (slice_index s c.args.place) (around_of (trees_in s c.args.self.now.nodes) c.args.kept) c.args.place (values_in s c.args.self.now.nodes c.args.parts.now)
    (state_of s c.args.self.now) (state_of s c.substitute.new.self) (packs_of c.args.kept) (value_in s c.substitute.new.self.nodes) c.substitute.result c.in-Substitution.is c.substitute.ensures.is

pub returns-in-Substitution-clause-refused : goal.returns-in-Substitution-clause-refused
returns-in-Substitution-clause-refused c =
    let s = c.args.symbol.now in
    substitution_refused s c.args.production (slice_index s c.args.place) (around_of (trees_in s c.args.self.now.nodes) c.args.kept) c.args.place (values_in s c.args.self.now.nodes c.args.parts.now)
    (state_of s c.args.self.now) (state_of s c.substitute.new.self) (packs_of c.args.kept) (value_in s c.substitute.new.self.nodes) c.substitute.result c.in-Substitution.is c.substitute.ensures.refused

pub add_node_and_candidate-requires-clause-value : goal.add_node_and_candidate-requires-clause-value
add_node_and_candidate-requires-clause-value c =
    let s = c.args.symbol.now in
    c.outcome-outcome.ensures.is
    ∙ common_meaning s c.args.production (slice_index s c.args.place) c.args.place (around_of (trees_in s c.args.self.now.nodes) c.args.kept)
    (values_in s c.args.self.now.nodes c.args.parts.now) c.requires.common

pub returns-in_default-clause-is : goal.returns-in_default-clause-is
returns-in_default-clause-is c =
    let s = c.args.symbol.now in
    other_closes s c.args.production (slice_index s c.args.place) (around_of (trees_in s c.args.self.now.nodes) c.args.kept) c.args.place (values_in s c.args.self.now.nodes c.args.parts.now)
    (state_of s c.args.self.now) (state_of s c.add_node_and_candidate.new.self) (packs_of c.args.kept) (value_in s c.add_node_and_candidate.new.self.nodes) c.add_node_and_candidate.result c.in_default.not-Substitution (λ is. subst (λ p. IsCommon p) is c.requires.common tt) c.add_node_and_candidate.ensures.value c.add_node_and_candidate.ensures.state

pub returns-in-Substitution-clause-made : goal.returns-in-Substitution-clause-made
returns-in-Substitution-clause-made c = record {
  there = search rules;
  grows = search rules;
  few = search rules;
  makes = none_substituted c.args.self.now c.substitute.new.self c.substitute.result c.args.production (values_in c.args.symbol.now c.args.self.now.nodes c.args.parts.now) c.in-Substitution.is c.substitute.ensures.nodes;
  paid = search rules;
  whole = search rules;
  keeps = same_room c.args.self.now c.substitute.new.self c.substitute.ensures.nodes c.substitute.ensures.candidates;
  full = search rules;
}
