use Rattle.sym_shape.proofs.Basics.{arith, length, subst, ◌∙◌, HasNext, to_do}
use Rattle.sym_shape.proofs.Frames.{frame_byte, frame_token}
use Rattle.sym_shape.proofs.Steps.{token_within, at_most_rows}
use Rattle.sym_shape.proofs.parse.Parse.pass_symbol.Goals as goal

pub push_token-requires : goal.push_token-requires
push_token-requires g c =
    let within = token_within g.G.Grammar.table.names c.args.symbol c.args.bytes.now c.args.progress.at c.in-Some-complete_token.place c.requires.parsing.within c.in-Some-complete_token.ensures.0 in
    let old = c.args.self.now in
    record {
      few = omega (arith, c.requires.fits, c.requires.parsing.within, at_most_rows g.G.Grammar.table c.args.progress.steps c.args.progress.at (to_do g.G.Grammar.listed old) (length old.rows.items) c.requires.parsing.counted);
      own = omega (arith, within.0, within.1, within.2, c.requires.fits);
      place = omega (arith, within.1, within.2, c.requires.fits);
    }

pub returns-in-Some-clause-moves : goal.returns-in-Some-clause-moves
returns-in-Some-clause-moves g c =
    let old = c.args.self.now in
    let progress = c.args.progress in
    let stands = c.in-Some.ensures in
    let moved = frame_byte g.G.Grammar.listed g.G.Grammar.table c.args.ended c.args.bytes.now progress.steps progress.at c.in-Byte.byte old.top old.below.items old.rows.items c.requires.parsing (subst (λ x. HasNext g.G.Grammar.listed old.top x) c.in-Byte.is c.requires.next) stands.within (stands.is ∙ c.if-next-byte.true) in
    rw c.further.ensures (moved, omega arith, omega arith)

pub returns-in_ok-push_token-in-Some-complete_token-clause-moves : goal.returns-in_ok-push_token-in-Some-complete_token-clause-moves
returns-in_ok-push_token-in-Some-complete_token-clause-moves g c =
    let old = c.args.self.now in
    let progress = c.args.progress in
    let found = c.in-Some-complete_token.ensures in
    let made = c.in_ok-push_token-in-Some-complete_token.ensures in
    let moved = frame_token g.G.Grammar.listed g.G.Grammar.table g.met.G.Grammar.lawful c.args.ended c.args.bytes.now progress.steps progress.at c.after.result c.args.symbol c.in-Some-complete_token.place old.top old.below.items old.rows.items _ c.requires.parsing c.requires.next found.0 found.1 c.after.ensures made.row in
    rw c.further-in-Some-complete_token.ensures (moved, omega arith, omega (arith, made.one))
