use Rattle.sym_shape.proofs.Basics.{◌≡◌, ◌<◌, refl, arith, inl, length, subst, sym, ◌∙◌, [], HasLast, to_do}
use Rattle.sym_shape.proofs.Frames.{end_open, frame_ends, frame_behind, all_done}
use Rattle.sym_shape.proofs.Moves.{same_length}
use Rattle.sym_shape.proofs.Steps.{all_begins}
use Rattle.sym_shape.proofs.parse.Parse.end_frame.Goals as goal

pub close_row-requires-clause-open : goal.close_row-requires-clause-open
close_row-requires-clause-open g c =
    let old = c.args.self.now in
    let last = subst (λ fs. HasLast fs c.in-Some.frame) c.deref.ensures.value c.in-Some.ensures in
    end_open g.G.Grammar.listed g.G.Grammar.table c.args.ended c.args.bytes.now old.steps old.at old.top c.in-Some.frame old.below.items old.rows.items c.requires.parsing c.requires.bare last

pub returns-in-Some-clause-moves : goal.returns-in-Some-clause-moves
returns-in-Some-clause-moves g c =
    let old = c.args.self.now in
    let last = subst (λ fs. HasLast fs c.in-Some.frame) c.deref.ensures.value c.in-Some.ensures in
    (frame_ends g.G.Grammar.listed g.G.Grammar.table c.args.ended c.args.bytes.now old.steps old.at old.top c.in-Some.frame old.below.items _ old.rows.items _ c.requires.parsing c.requires.bare last c.drop_uppermost.ensures.items c.close_row.ensures.items, refl, omega (arith, same_length c.close_row.new.rows.items old.rows.items old.top.row old.at (length old.rows.items) c.close_row.ensures.items))

pub returns-then-self-bytes-clause-moves : goal.returns-then-self-bytes-clause-moves
returns-then-self-bytes-clause-moves g c =
    let old = c.args.self.now in
    let none : old.below.items ≡ [] = sym c.deref.ensures.value ∙ c.in-None.ensures in
    record {
      same = refl;
      begins = all_begins g.G.Grammar.table g.met.G.Grammar.lawful c.args.ended c.args.bytes.now old.steps old.at (to_do g.G.Grammar.listed old) old.rows.items c.requires.parsing (omega arith);
      read = λ told. (all_done g.G.Grammar.listed old.top old.below.items c.requires.bare none, omega arith);
    }

pub returns-else-self-bytes-clause-moves : goal.returns-else-self-bytes-clause-moves
returns-else-self-bytes-clause-moves g c =
    let old = c.args.self.now in
    let none : old.below.items ≡ [] = sym c.deref.ensures.value ∙ c.in-None.ensures in
    let behind : old.at < length c.args.bytes.now = omega (arith, c.requires.parsing.within) in
    (frame_behind g.G.Grammar.listed g.G.Grammar.table g.met.G.Grammar.lawful c.args.ended c.args.bytes.now old.steps old.at old.top old.below.items old.rows.items c.requires.parsing c.requires.bare none behind, inl behind, refl, omega arith)
