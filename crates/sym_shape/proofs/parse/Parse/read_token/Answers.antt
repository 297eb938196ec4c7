use Rattle.sym_shape.proofs.Basics.{err_from_is_err_and, refl, subst, arith, IsKnown, FindsToken}
use Rattle.sym_shape.proofs.Frames.{frame_token, frame_token_refused, frame_found, frame_broken}
use Rattle.sym_shape.proofs.Steps.{token_within, bad_within, same_ok, same_err, both_not, out_of_memory, memory_passed}
use Rattle.sym_shape.proofs.parse.Parse.read_token.Goals as goal

pub push_token-requires-clause-place : goal.push_token-requires-clause-place
push_token-requires-clause-place g c =
    let read = subst (λ r. FindsToken g.G.Grammar.table.names c.args.symbol c.args.bytes.now c.args.self.now.at r) c.in-Ok-2.is c.requires.found in
    let within = token_within g.G.Grammar.table.names c.args.symbol c.args.bytes.now c.args.self.now.at _ c.requires.parsing.within read in
    omega (arith, within.1, within.2, c.requires.fits)

pub overflow_cast-result : goal.overflow_cast-result
overflow_cast-result g c =
    let breaks = subst (λ r. FindsToken g.G.Grammar.table.names c.args.symbol c.args.bytes.now c.args.self.now.at r) c.in-Err-2.is c.requires.found in
    let within = bad_within g.G.Grammar.table.names c.args.symbol c.args.bytes.now c.args.self.now.at _ c.requires.parsing.within breaks.0 breaks.1 in
    omega (arith, within, c.requires.fits)

pub returns-in_ok-push_token-in-Ok-2-clause-moves : goal.returns-in_ok-push_token-in-Ok-2-clause-moves
returns-in_ok-push_token-in-Ok-2-clause-moves g c =
    let old = c.args.self.now in
    let made = c.in_ok-push_token-in-Ok-2.ensures in
    let read = subst (λ r. FindsToken g.G.Grammar.table.names c.args.symbol c.args.bytes.now old.at r) c.in-Ok-2.is c.requires.found in
    let known = subst (λ place. IsKnown c.args.ended c.args.bytes.now place.end) (same_ok c.args.found _ _ c.in-Ok.is c.in-Ok-2.is) c.if-may_go_on.ensures.known in
    (frame_token g.G.Grammar.listed g.G.Grammar.table g.met.G.Grammar.lawful c.args.ended c.args.bytes.now old.steps old.at c.after.result c.args.symbol c.in-Ok-2.place old.top old.below.items old.rows.items _ c.requires.parsing c.requires.next read known c.after.ensures made.row, refl, made.one)

pub returns-in-Err-2-clause-moves : goal.returns-in-Err-2-clause-moves
returns-in-Err-2-clause-moves g c =
    let old = c.args.self.now in
    let breaks = subst (λ r. FindsToken g.G.Grammar.table.names c.args.symbol c.args.bytes.now old.at r) c.in-Err-2.is c.requires.found in
    let known = subst (λ bad. IsKnown c.args.ended c.args.bytes.now bad) (same_err c.args.found _ _ c.in-Err.is c.in-Err-2.is) c.if-may_go_on-2.ensures.known in
    (frame_token_refused g.G.Grammar.listed g.G.Grammar.table g.met.G.Grammar.lawful c.args.ended c.args.bytes.now old.steps old.at c.in-Err-2.bad c.args.symbol old.top old.below.items old.rows.items c.requires.parsing c.requires.next breaks.0 breaks.1 known, known, refl, omega arith)

pub returns-in-Ok-clause-moves : goal.returns-in-Ok-clause-moves
returns-in-Ok-clause-moves g c =
    let old = c.args.self.now in
    let read = subst (λ r. FindsToken g.G.Grammar.table.names c.args.symbol c.args.bytes.now old.at r) c.in-Ok.is c.requires.found in
    record {
      same = refl;
      begins = frame_found g.G.Grammar.listed g.G.Grammar.table g.met.G.Grammar.lawful c.args.ended c.args.bytes.now old.steps old.at c.args.symbol c.in-Ok.place old.top old.below.items old.rows.items c.requires.parsing c.requires.next read c.if-may_go_on.ensures.all;
      read = λ told. absurd (both_not c.args.ended told c.if-may_go_on.ensures.waits);
    }

pub returns-in-Err-clause-moves : goal.returns-in-Err-clause-moves
returns-in-Err-clause-moves g c =
    let old = c.args.self.now in
    let breaks = subst (λ r. FindsToken g.G.Grammar.table.names c.args.symbol c.args.bytes.now old.at r) c.in-Err.is c.requires.found in
    record {
      same = refl;
      begins = frame_broken g.G.Grammar.listed g.G.Grammar.table g.met.G.Grammar.lawful c.args.ended c.args.bytes.now old.steps old.at c.in-Err.bad c.args.symbol old.top old.below.items old.rows.items c.requires.parsing c.requires.next breaks.0 breaks.1 c.if-may_go_on-2.ensures.all;
      read = λ told. absurd (both_not c.args.ended told c.if-may_go_on-2.ensures.waits);
    }

pub returns-in_err-push_token-in-Ok-2-clause-moves : goal.returns-in_err-push_token-in-Ok-2-clause-moves
returns-in_err-push_token-in-Ok-2-clause-moves g c =
    let stop = c.in_err-push_token-in-Ok-2 in
    let passed = err_from_is_err_and c.from_residual.result c.from_residual.ensures.1 in
    out_of_memory g.G.Grammar.listed g.G.Grammar.table c.args.ended c.args.bytes.now c.args.self.now (record c.args.self.now { rows = c.push_token.new.rows }) c.from_residual.result passed.0 passed.1 (memory_passed _ stop.field-0.0 passed.0 refl stop.ensures.memory passed.2) refl stop.ensures.one
