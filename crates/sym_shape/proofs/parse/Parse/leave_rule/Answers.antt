use Rattle.sym_shape.proofs.Basics.{arith, length, subst, HasLast}
use Rattle.sym_shape.proofs.Frames.{frame_ends}
use Rattle.sym_shape.proofs.Moves.{same_length}
use Rattle.sym_shape.proofs.parse.Parse.leave_rule.Goals as goal

pub returns-in-Some-clause-moves : goal.returns-in-Some-clause-moves
returns-in-Some-clause-moves g c =
    let old = c.args.self.now in
    let progress = c.args.progress in
    let last = subst (λ fs. HasLast fs c.in-Some.frame) c.deref.ensures.value c.in-Some.ensures in
    rw c.further.ensures (frame_ends g.G.Grammar.listed g.G.Grammar.table c.args.ended c.args.bytes.now progress.steps progress.at old.top c.in-Some.frame old.below.items _ old.rows.items _ c.requires.parsing c.requires.bare last c.drop_uppermost.ensures.items c.close_row.ensures.items, omega arith, omega (arith, same_length c.close_row.new.rows.items old.rows.items old.top.row progress.at (length old.rows.items) c.close_row.ensures.items))
