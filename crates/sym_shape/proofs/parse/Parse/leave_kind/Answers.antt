use Rattle.std.proofs.Common.{refl, sym, ◌∙◌, arith}
use Rattle.sym_shape.proofs.Steps.{none_known}
use Rattle.sym_shape.proofs.Frames.{frame_empty, frame_kind_refused, next_kind}
use Rattle.sym_shape.proofs.parse.Parse.leave_kind.Goals as goal

pub returns-then-may_be_empty-clause-moves : goal.returns-then-may_be_empty-clause-moves
returns-then-may_be_empty-clause-moves g c =
    let old = c.args.self.now in
    (frame_empty g.G.Grammar.listed g.G.Grammar.table g.met.G.Grammar.lawful c.args.ended c.args.bytes.now old.steps old.at c.args.kind old.top old.below.items old.rows.items c.requires.parsing c.requires.next (sym c.may_be_empty.ensures ∙ c.if-may_be_empty.true) c.requires.none, refl, omega arith)

pub returns-clause-moves : goal.returns-clause-moves
returns-clause-moves g c =
    let old = c.args.self.now in
    (frame_kind_refused g.G.Grammar.listed g.G.Grammar.table g.met.G.Grammar.lawful c.args.ended c.args.bytes.now old.steps old.at c.args.kind old.top old.below.items old.rows.items c.requires.parsing c.requires.next c.requires.none (sym c.may_be_empty.ensures ∙ c.if-may_be_empty.false), none_known g.G.Grammar.table c.args.kind c.args.ended c.args.bytes.now old.at c.requires.none, refl, omega arith)

pub may_be_empty-requires : goal.may_be_empty-requires
may_be_empty-requires g c =
    let old = c.args.self.now in
    next_kind g.G.Grammar.listed g.G.Grammar.table c.args.ended c.args.bytes.now old.steps old.at c.args.kind old.top old.below.items old.rows.items c.requires.parsing c.requires.next
