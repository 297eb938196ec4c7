use Rattle.cpp_link.proofs.Basics.{sym, ◌∙◌, ap, arith, false, extended, inherited, both, piece_of, nodes_of_outcome, inheriting_at_end, trees_in, value_of, prefix_of, outcome_value}
use Rattle.cpp_term.specs.Term as term
use Rattle.cpp_term.specs.Values as values
use Rattle.cpp_link.proofs.Inherited.{base_alone, one_made}
use Rattle.cpp_link.proofs.linked.Linked.inherited.Goals as goal

pub returns-in-Pair-clause-makes : goal.returns-in-Pair-clause-makes
unfolding nodes_of_outcome inheriting_at_end value_of
returns-in-Pair-clause-makes c =
    sym (ap inheriting_at_end (sym c.given-base.ensures.is) ∙ ap (λ p. inheriting_at_end (value_of c.args.symbol.now (trees_in c.args.symbol.now c.args.self.now.nodes) p)) c.in-Pair.is)

pub returns-in_default : goal.returns-in_default
unfolding outcome_value nodes_of_outcome piece_of
returns-in_default c =
    let s = c.args.symbol.now in
    let ts = trees_in s c.args.self.now.nodes in
    record {
      is = rw c.made.ensures (ap (λ t. values.tree t false) c.extended-in_default.ensures.is
          ∙ ap (λ t. values.tree (extended (prefix_of ts c.args.prefix) (term.inheriting c.letter-digit.result t)) false) c.node.ensures.is
          ∙ sym (base_alone (prefix_of ts c.args.prefix) c.letter-digit.result s ts c.given-base.result c.in_default.not-Pair)
          ∙ both (λ k v. inherited (prefix_of ts c.args.prefix) k v) c.letter-digit.ensures c.given-base.ensures.is);
      there = rw c.made.ensures c.extended-in_default.ensures.there;
      nodes = rw c.made.ensures (omega arith);
      makes = rw c.made.ensures (sym (ap inheriting_at_end (sym c.given-base.ensures.is) ∙ one_made s ts c.given-base.result c.in_default.not-Pair));
    }
