use Rattle.std.proofs.Common.{refl, arith}
use Rattle.sym_print.proofs.Noting.{noted-begun}
use Rattle.sym_print.proofs.entries.begin_item.Goals as goal

pub returns-then-is_noted-clause-noted : goal.returns-then-is_noted-clause-noted
returns-then-is_noted-clause-noted g c =
    (noted-begun (g.Y.Layout.unshared c.args._y.now) (g.Y.Layout.bytes_of c.args._y.now) c.args.notes.now c.begin.new.self c.args.stack.now.items c.args.item c.args.text.now.items
    c.args.meter.now.spent c.args.meter.now.steps _ c.requires.next refl (omega (arith, c.len.ensures, c.args.stack.now.ok.0)) (omega (arith, c.len-then-is_noted.ensures, c.args.text.now.ok.0)) refl refl
    c.begin.ensures.known c.begin.ensures.begun c.requires.below c.requires.noted).0

pub returns-then-is_noted-clause-below : goal.returns-then-is_noted-clause-below
returns-then-is_noted-clause-below g c =
    (noted-begun (g.Y.Layout.unshared c.args._y.now) (g.Y.Layout.bytes_of c.args._y.now) c.args.notes.now c.begin.new.self c.args.stack.now.items c.args.item c.args.text.now.items
    c.args.meter.now.spent c.args.meter.now.steps _ c.requires.next refl (omega (arith, c.len.ensures, c.args.stack.now.ok.0)) (omega (arith, c.len-then-is_noted.ensures, c.args.text.now.ok.0)) refl refl
    c.begin.ensures.known c.begin.ensures.begun c.requires.below c.requires.noted).1
