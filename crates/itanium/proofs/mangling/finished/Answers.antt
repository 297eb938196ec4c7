use Rattle.std.proofs.Common.{refl}
use Rattle.itanium.proofs.Standing.{whole_stands, reads}
use Rattle.itanium.proofs.mangling.finished.Goals as goal

pub whole_node-root-requires : goal.whole_node-root-requires
whole_node-root-requires c = let w = c.requires.whole.1 in (w.node, w.listed, w.parts_are)

pub new-requires : goal.new-requires
new-requires c =
    rw c.replace-nodes.ensures.value
    (reads c.args.bytes.items c.requires.whole.0 c.args.linked.now c.args.parts.now c.requires.whole.1 c.whole_node-root.result c.args.rows c.args.steps c.whole_node-root.ensures.0 c.whole_node-root.ensures.1
    c.requires.fits c.requires.few c.requires.each c.requires.most)

pub returns-clause-whole : goal.returns-clause-whole
returns-clause-whole c read w =
    rw (c.new.ensures, c.replace-nodes.ensures.value)
    (whole_stands c.args.bytes.items read c.args.linked.now c.args.parts.now w c.whole_node-root.result c.whole_node-root.ensures.0 c.whole_node-root.ensures.1)

pub returns-clause-nodes : goal.returns-clause-nodes
returns-clause-nodes c = rw (c.new.ensures, c.replace-nodes.ensures.value) refl
