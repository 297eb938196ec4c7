use Rattle.std.proofs.Common.{◌∙◌, ap, length}
use Rattle.cpp_grammar.specs.Table.{wide}
use Rattle.cpp_grammar.specs.Rescoping.{unfold_wide}
use Rattle.itanium.proofs.Standing.{wide_whole, wide_nodes}
use Rattle.itanium.proofs.wide.WideMangling.finish.Goals as goal

pub finished-requires-clause-whole : goal.finished-requires-clause-whole
finished-requires-clause-whole c = (unfold_wide c.requires.0, wide_whole wide c.args.bytes.items c.args.linked.now c.args.parts.now c.args.rows c.args.steps c.requires.0 c.requires.1)

pub finished-requires-clause-fits : goal.finished-requires-clause-fits
finished-requires-clause-fits c = c.requires.1.fits

pub finished-requires-clause-few : goal.finished-requires-clause-few
finished-requires-clause-few c = c.requires.1.rows_few

pub finished-requires-clause-each : goal.finished-requires-clause-each
finished-requires-clause-each c = c.requires.1.each

pub finished-requires-clause-most : goal.finished-requires-clause-most
finished-requires-clause-most c = c.requires.1.steps_few

pub returns-clause-whole : goal.returns-clause-whole
returns-clause-whole c shape is =
    rw c.new.ensures (c.finished.ensures.whole (unfold_wide shape) (wide_whole wide c.args.bytes.items c.args.linked.now c.args.parts.now c.args.rows c.args.steps shape is))

pub returns-clause-nodes : goal.returns-clause-nodes
returns-clause-nodes c shape is =
    rw c.new.ensures (ap length c.finished.ensures.nodes ∙ wide_nodes wide c.args.bytes.items c.args.linked.now c.args.parts.now c.args.rows c.args.steps shape is)
