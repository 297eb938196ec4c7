use Rattle.cpp_tree.proofs.Basics.{ap, ◌∙◌, ◌&&◌, not, both, entry_at, free_is, has_free, is_argument_node}
use Rattle.cpp_tree.proofs.nodes.Nodes.is_alone.Goals as goal

pub returns : goal.returns
returns c =
    let es = c.args.self.now.nodes in
    both (λ a b. a && not b)
    (c.is_argument-is_argument.ensures ∙ ap is_argument_node (c.node.ensures.is ∙ ap (λ p. (entry_at es p.node).node) c.resolved-place.ensures.is))
    (c.is_open.ensures ∙ ap (λ e. has_free (free_is e.free)) c.entry.ensures)
