use Rattle.rust_press.proofs.Basics.{◌<◌, length, arith, length-trees, trees_of, fields_at}
use Rattle.rust_press.proofs.WriterSteps.{pushed-more}
use Rattle.rust_press.proofs.pressing.push_parts.Goals as goal

pub loop-left-preserved : goal.loop-left-preserved
loop-left-preserved c =
    let y = c.args.symbol.now in
    let inv = c.loop-left.invariant in
    let room : c.part.result < length (trees_of y) = omega (arith, c.part.ensures.earlier, c.requires.node, length-trees y.bytes y.table.nodes) in (
      pushed-more y (fields_at y c.args.node).parts c.loop-left.left c.args.tasks.now.items c.loop-left.tasks.items c.push.new.self.items c.part.result
          (omega (arith, c.loop-left-test.true)) inv.1 inv.0 c.part.ensures.part room c.in_ok-push.ensures.items,
      omega (arith, inv.1),
    )
