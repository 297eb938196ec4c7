use Rattle.std.proofs.Common.{◌∙◌, ap, length}
use Rattle.rust_v0.proofs.Standing.{has_whole, reads, counted_nodes, whole_read}
use Rattle.rust_v0.proofs.mangling.V0Mangling.finish.Goals as goal

pub whole_node-root-requires : goal.whole_node-root-requires
whole_node-root-requires c =
    let is = c.requires.1 in
    let w = has_whole c.args.bytes.items is.rows c.requires.0 c.args.linked.now c.args.parts.now is.is_shape is.done in
    (w.node, w.parts_are)

pub new-requires-2 : goal.new-requires-2
new-requires-2 c =
    let is = c.requires.1 in
    let w = has_whole c.args.bytes.items is.rows c.requires.0 c.args.linked.now c.args.parts.now is.is_shape is.done in
    rw c.replace-nodes.ensures.value
    (reads c.args.bytes.items c.requires.0 c.args.linked.now c.args.parts.now w c.whole_node-root.result c.args.rows c.args.steps c.whole_node-root.ensures is.fits is.rows_few is.each is.steps_few)

pub returns-clause-nodes : goal.returns-clause-nodes
returns-clause-nodes c shape is =
    ap (λ y. length y.table.nodes) c.new-2.ensures ∙ ap (λ t. length t.nodes) c.replace-nodes.ensures.value ∙ counted_nodes c.args.bytes.items is.rows shape c.args.linked.now c.args.parts.now is.done

pub returns-clause-whole : goal.returns-clause-whole
returns-clause-whole c shape is =
    let s = c.args.bytes.items in
    whole_read c.new-2.result s shape c.args.linked.now c.args.parts.now (has_whole s is.rows shape c.args.linked.now c.args.parts.now is.is_shape is.done) c.whole_node-root.result c.args.rows c.args.steps
    (rw c.replace-nodes.ensures.value at c.new-2.ensures) c.whole_node-root.ensures
