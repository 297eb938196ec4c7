use Rattle.cpp_tree.proofs.Basics.{ap, sym, ◌∙◌, entry_at, resolved_at, shape_at}
use Rattle.cpp_tree.proofs.Compacting.{pack-packs, pack-head, other-packs-none, other-head}
use Rattle.cpp_tree.proofs.nodes.Nodes.given.Goals as goal

pub returns-in-Pack : goal.returns-in-Pack
returns-in-Pack c =
    let shape = c.node.ensures.is ∙ ap (λ p. (entry_at c.args.self.now.nodes p.node).node) c.resolved-place.ensures.is in
    let is = sym shape ∙ c.in-Pack.is in
    record {
      packs = pack-packs c.args.self.now.nodes (shape_at c.args.self.now.nodes c.args.argument) c.in-Pack.elements c.entry.result.count is (ap (λ x. x.count) (c.entry.ensures ∙ c.at.ensures));
      class = pack-head (shape_at c.args.self.now.nodes c.args.argument) (entry_at c.args.self.now.nodes c.args.argument).class (resolved_at c.args.self.now.nodes c.args.argument).under c.in-Pack.elements c.under_word.result is
          (c.under_word.ensures ∙ ap (λ p. p.under) c.resolved-place.ensures.is);
    }

pub returns-in_default : goal.returns-in_default
returns-in_default c =
    let shape = c.node.ensures.is ∙ ap (λ p. (entry_at c.args.self.now.nodes p.node).node) c.resolved-place.ensures.is in
    record {
      packs = other-packs-none c.args.self.now.nodes (shape_at c.args.self.now.nodes c.args.argument) (λ elements is. c.in_default.not-Pack elements (shape ∙ is));
      class = ap (λ e. e.class) c.at-held.ensures ∙ other-head (shape_at c.args.self.now.nodes c.args.argument) (resolved_at c.args.self.now.nodes c.args.argument).under (entry_at c.args.self.now.nodes c.args.argument).class (λ elements is. c.in_default.not-Pack elements (shape ∙ is));
    }
