use Rattle.sym_shape.proofs.Basics.{refl, inl, inr, arith, ◌∙◌, sym, to_do}
use Rattle.sym_shape.proofs.Steps.{all_begins, both_not}
use Rattle.sym_shape.proofs.Frames.{frame_byte, frame_byte_refused}
use Rattle.sym_shape.proofs.parse.Parse.read_byte.Goals as goal

pub returns-in-None-2-clause-moves : goal.returns-in-None-2-clause-moves
returns-in-None-2-clause-moves g c =
    let old = c.args.self.now in
    (frame_byte_refused g.G.Grammar.listed g.G.Grammar.table g.met.G.Grammar.lawful c.args.ended c.args.bytes.now old.steps old.at c.args.byte old.top old.below.items old.rows.items c.requires.parsing c.requires.next (inr c.if-not-ended.false) (λ lt is. omega (arith, c.in-None-2.ensures)), inr c.if-not-ended.false, refl, omega arith)

pub returns-in-Some-clause-moves : goal.returns-in-Some-clause-moves
returns-in-Some-clause-moves g c =
    let old = c.args.self.now in
    let found = c.in-Some.ensures in
    (frame_byte g.G.Grammar.listed g.G.Grammar.table c.args.ended c.args.bytes.now old.steps old.at c.args.byte old.top old.below.items old.rows.items c.requires.parsing c.requires.next found.within (found.is ∙ c.if-next-byte.true), refl, omega arith)

pub returns-in-Some-2-clause-moves : goal.returns-in-Some-2-clause-moves
returns-in-Some-2-clause-moves g c =
    let old = c.args.self.now in
    let found = c.in-Some-2.ensures in
    (frame_byte_refused g.G.Grammar.listed g.G.Grammar.table g.met.G.Grammar.lawful c.args.ended c.args.bytes.now old.steps old.at c.args.byte old.top old.below.items old.rows.items c.requires.parsing c.requires.next (inl found.within) (λ lt is. c.if-next-byte.false (sym c.in-Some.ensures.is ∙ is)), inl found.within, refl, omega arith)

pub returns-in-None-clause-moves : goal.returns-in-None-clause-moves
returns-in-None-clause-moves g c =
    let old = c.args.self.now in
    record {
      same = refl;
      begins = all_begins g.G.Grammar.table g.met.G.Grammar.lawful c.args.ended c.args.bytes.now old.steps old.at (to_do g.G.Grammar.listed old) old.rows.items c.requires.parsing c.in-None.ensures;
      read = λ told. absurd (both_not c.args.ended told c.if-not-ended.true);
    }
