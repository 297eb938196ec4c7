use Rattle.rust_parts.proofs.Basics.{ap, ◌∙◌, slice_get, trees_of, symbol_in}
use Rattle.rust_parts.proofs.Sorting.{root-parts, root-path}
use Rattle.rust_parts.proofs.sorts.root_path.Goals as goal

pub part-requires-clause-part : goal.part-requires-clause-part
part-requires-clause-part c =
    root-parts (slice_get (trees_of c.args.y.now) c.root_node.result) c.root_node.ensures.root_is.0 c.root_node.ensures.root_is.1

pub returns-clause-path : goal.returns-clause-path
returns-clause-path c =
    root-path (slice_get (trees_of c.args.y.now) c.root_node.result) _ c.root_node.ensures.root_is.0 c.root_node.ensures.root_is.1 c.part.ensures.part ∙ ap (λ r. (symbol_in (slice_get (trees_of c.args.y.now) r)).path) c.root_node.ensures.root
